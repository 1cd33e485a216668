-- A loop is drawn step by step: whatever way leads back from where it has come, the vertices so far and that way are
-- the loop.
use Rattle.std.proofs.Common.{◌≡◌, List, [], ◌∷◌, ◌++◌, refl, sym, subst, append_assoc, append-nil}
use Rattle.scad_geom.specs.declared.point.Pt.{Pt}
use Rattle.scad_geom.specs.declared.point.Edge.{Edge}
use Rattle.slice_loops.specs.Drawing.{TakesLeast, TakesLeastFrom, LeadsBack, IsLoop}

abbrev pub Leads : List Edge → Pt → List Pt → Pt → List Edge → Type 0
Leads edges start vertices at left = (way : List Pt) (rest : List Edge) → LeadsBack start way at left rest
    → IsLoop edges (vertices ++ way) rest

pub leads_first : (edges : List Edge) (e : Edge) (others : List Edge) → TakesLeast edges e others
    → Leads edges e.a (e.a ∷ []) e.b others
leads_first edges e others t = λ way rest b. record
    { first = e; others = others; way = way; least = t; back = b; vertices = refl }

pub leads_on : (edges : List Edge) (start : Pt) (vertices : List Pt) (at : Pt) (left : List Edge) (e : Edge)
    (others : List Edge)
    → Leads edges start vertices at left → (at ≡ start → ⊥) → TakesLeastFrom at left e others
    → Leads edges start (vertices ++ (at ∷ [])) e.b others
leads_on edges start vertices at left e others lead away t =
    λ way rest b. subst (λ (l : List Pt). IsLoop edges l rest) (sym (append_assoc vertices (at ∷ []) way))
    (lead (at ∷ way) rest (refl, away, (e, others, t, b)))

pub leads_back : (edges : List Edge) (start : Pt) (vertices : List Pt) (at : Pt) (left : List Edge)
    → Leads edges start vertices at left → at ≡ start → IsLoop edges vertices left
leads_back edges start vertices at left lead h
    = subst (λ (l : List Pt). IsLoop edges l left) (append-nil vertices) (lead [] left (h, refl))
