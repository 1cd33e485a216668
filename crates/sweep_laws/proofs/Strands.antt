-- The ways of strands: what holds of each, and that they have different names.
use Rattle.std.proofs.Common.{◌≡◌, ℕ, Bool, true, false, List, [], ◌∷◌, ◌++◌, refl, sym, ap, ◌∙◌, subst, append_assoc}
use lib.IntN.{pos}
use lib.Signed.{◌<ℤ◌}
use Rattle.std.specs.Prelude.{Option, None, Some}
use Rattle.std.specs.List.{AllByRecursion, position}
use Rattle.scad_geom.specs.declared.level.Level.{Level}
use Rattle.scad_geom.specs.declared.level.LeafEdge.{LeafEdge}
use Rattle.scad_geom.specs.Line.{rise}
use Rattle.scad_geom.specs.EdgeOrder.{IsBefore}
use Rattle.scad_geom.proofs.Order.{front}
use Rattle.slice_border.proofs.Apart.{not_before_itself}
use Rattle.slice_bundles.specs.Bundles.{edge_at, Precedes, AreRanked}
use Rattle.slice_pieces.specs.declared.piece.Spot.{Spot}
use Rattle.slice_border.specs.Pieces.{spot_on, covers}
use Rattle.sweep_laws.specs.Ways.{Way, way_between, AreOfDifferentNames}
use Rattle.sweep_laws.specs.Fronts.{Strand, bundles_of, value_before, way_up, ways_up, way_from, ways_from}
use Rattle.sweep_laws.specs.Crossing.{Place, all_below, all_above, way_along, flat_way}

-- ---- what holds of each way
pub of_between : (P : Way → Type 0) (v w : Bool) (s t : Spot) (name : ℕ)
    → ((b : Bool) → P (record { near = s; far = t; edge = name; forward = b }))
    → AllByRecursion P (way_between v w s t name)
of_between P true true s t name h = tt
of_between P true false s t name h = (h true, tt)
of_between P false true s t name h = (h false, tt)
of_between P false false s t name h = tt

-- of a strand's way up to a height, whichever way it runs
abbrev pub UpHas : (Way → Type 0) → List LeafEdge → Level → Spot → List ℕ → Type 0
UpHas P es u start [] = Unit {0}
UpHas P es u start (k ∷ ks) = (b : Bool) → P (record {
  near = start;
  far = spot_on (edge_at es k) u;
  edge = k;
  forward =
      b;
})

of_way_up : (P : Way → Type 0) (es : List LeafEdge) (u : Level) (v w : Bool) (start : Spot) (b : List ℕ)
    → UpHas P es u start b → AllByRecursion P (way_up es u v w start b)
of_way_up P es u v w start [] h = tt
of_way_up P es u v w start (k ∷ ks) h = of_between P v w start (spot_on (edge_at es k) u) k h

all_of : (P : Way → Type 0) (xs ys : List Way) → AllByRecursion P xs → AllByRecursion P ys → AllByRecursion P (xs ++ ys)
all_of P [] ys h k = k
all_of P (x ∷ xs) ys h k = (h.0, all_of P xs ys h.1 k)

pub of_ways_up : (P : Way → Type 0) (es : List LeafEdge) (u : Level) (right : Bool) (ss : List Strand)
    → AllByRecursion (λ s. UpHas P es u s.start s.bundle) ss → AllByRecursion P (ways_up es u right ss)
of_ways_up P es u right [] h = tt
of_ways_up P es u right (s ∷ ss) h =
    all_of P (way_up es u s.left (value_before ss right) s.start s.bundle) (ways_up es u right ss)
    (of_way_up P es u s.left (value_before ss right) s.start s.bundle h.0) (of_ways_up P es u right ss h.1)

-- of a bundle's way from one height to the next
abbrev pub FromHas : (Way → Type 0) → List LeafEdge → Level → Level → List ℕ → Type 0
FromHas P es l u [] = Unit {0}
FromHas P es l u (k ∷ ks) = (b : Bool)
    → P (record { near = spot_on (edge_at es k) l; far = spot_on (edge_at es k) u; edge = k; forward = b })

of_way_from : (P : Way → Type 0) (es : List LeafEdge) (l u : Level) (v w : Bool) (b : List ℕ)
    → FromHas P es l u b → AllByRecursion P (way_from es l u v w b)
of_way_from P es l u v w [] h = tt
of_way_from P es l u v w (k ∷ ks) h = of_between P v w (spot_on (edge_at es k) l) (spot_on (edge_at es k) u) k h

pub of_ways_from : (P : Way → Type 0) (es : List LeafEdge) (l u : Level) (right : Bool) (ss : List Strand)
    → AllByRecursion (λ s. FromHas P es l u s.bundle) ss → AllByRecursion P (ways_from es l u right ss)
of_ways_from P es l u right [] h = tt
of_ways_from P es l u right (s ∷ ss) h =
    all_of P (way_from es l u s.left (value_before ss right) s.bundle) (ways_from es l u right ss)
    (of_way_from P es l u s.left (value_before ss right) s.bundle h.0) (of_ways_from P es l u right ss h.1)

-- of the way along a height
of_way_along : (P : Way → Type 0) (v w : Bool) (s t : Spot) (name : Option ℕ)
    → ((k : ℕ) → name ≡ Some k → (b : Bool) → P (record { near = s; far = t; edge = k; forward = b }))
    → AllByRecursion P (way_along v w s t name)
of_way_along P v w s t None h = tt
of_way_along P v w s t (Some k) h = of_between P v w s t k (h k refl)

abbrev pub AlongHas : (Way → Type 0) → List LeafEdge → Spot → Place → List Place → Type 0
AlongHas P es start p [] = Unit {0}
AlongHas P es start p (q ∷ ps) = (k : ℕ) → position (covers p.at q.at) es ≡ Some k → (b : Bool)
    → P (record { near = start; far = q.at; edge = k; forward = b })

pub of_flat_way : (P : Way → Type 0) (es : List LeafEdge) (start : Spot) (p : Place) (ps : List Place)
    → AlongHas P es start p ps → AllByRecursion P (flat_way es start p ps)
of_flat_way P es start p [] h = tt
of_flat_way P es start p (q ∷ ps) h =
    of_way_along P (value_before (all_above (q ∷ ps)) false) (value_before (all_below (q ∷ ps)) false) start q.at
    (position (covers p.at q.at) es) h

-- ---- the ways of two lists of strands
first_of_both : (xs ys : List Strand) (right : Bool) → value_before (xs ++ ys) right
    ≡ value_before xs (value_before ys right)
first_of_both [] ys right = refl
first_of_both (x ∷ xs) ys right = refl

pub ups_append : (es : List LeafEdge) (u : Level) (right : Bool) (xs ys : List Strand)
    → ways_up es u right (xs ++ ys) ≡ ways_up es u (value_before ys right) xs ++ ways_up es u right ys
ups_append es u right [] ys = refl
ups_append es u right (x ∷ xs) ys =
    ap (λ (v : Bool). way_up es u x.left v x.start x.bundle ++ ways_up es u right (xs ++ ys))
    (first_of_both xs ys right)
    ∙ ap (λ (ws : List Way). way_up es u x.left (value_before xs (value_before ys right)) x.start x.bundle ++ ws)
    (ups_append es u right xs ys)
    ∙ sym (append_assoc (way_up es u x.left (value_before xs (value_before ys right)) x.start x.bundle)
    (ways_up es u (value_before ys right) xs) (ways_up es u right ys))

pub froms_append : (es : List LeafEdge) (l u : Level) (right : Bool) (xs ys : List Strand)
    → ways_from es l u right (xs ++ ys) ≡ ways_from es l u (value_before ys right) xs ++ ways_from es l u right ys
froms_append es l u right [] ys = refl
froms_append es l u right (x ∷ xs) ys =
    ap (λ (v : Bool). way_from es l u x.left v x.bundle ++ ways_from es l u right (xs ++ ys))
    (first_of_both xs ys right)
    ∙ ap (λ (ws : List Way). way_from es l u x.left (value_before xs (value_before ys right)) x.bundle ++ ws)
    (froms_append es l u right xs ys)
    ∙ sym (append_assoc (way_from es l u x.left (value_before xs (value_before ys right)) x.bundle)
    (ways_from es l u (value_before ys right) xs) (ways_from es l u right ys))

-- ---- names
-- of two bundles, the first edges differ
abbrev pub HaveOtherHeads : List ℕ → List ℕ → Type 0
HaveOtherHeads [] c = Unit {0}
HaveOtherHeads (k ∷ ks) [] = Unit {0}
HaveOtherHeads (k ∷ ks) (j ∷ js) = k ≡ j → ⊥

abbrev pub HeadsDiffer : List Strand → Type 0
HeadsDiffer [] = Unit {0}
HeadsDiffer (s ∷ ss) = AllByRecursion (λ t. HaveOtherHeads s.bundle t.bundle) ss × HeadsDiffer ss

other_heads : (es : List LeafEdge) (l : Level) (b c : List ℕ) → Precedes es l b c → HaveOtherHeads b c
other_heads es l [] c h = tt
other_heads es l (k ∷ ks) [] h = tt
other_heads es l (k ∷ ks) (j ∷ js) h = λ e. not_before_itself l (edge_at es k)
    (subst (λ (n : ℕ). IsBefore l (edge_at es k) (edge_at es n)) (sym e) h)

pub heads_differ : (es : List LeafEdge) (l : Level) (ss : List Strand) → AreRanked es l (bundles_of ss) → HeadsDiffer ss
heads_differ es l [] h = tt
heads_differ es l (s ∷ ss) h = (all_other ss h.1, heads_differ es l ss h.2)
  where
    all_other : (ts : List Strand) → AllByRecursion (Precedes es l s.bundle) (bundles_of ts)
        → AllByRecursion (λ t. HaveOtherHeads s.bundle t.bundle) ts
    all_other [] h = tt
    all_other (t ∷ ts) h = (other_heads es l s.bundle t.bundle h.0, all_other ts h.1)

pub differ_front : (xs ys : List Strand) → HeadsDiffer (xs ++ ys) → HeadsDiffer xs
differ_front [] ys h = tt
differ_front (x ∷ xs) ys h = (front (λ t. HaveOtherHeads x.bundle t.bundle) xs ys h.0, differ_front xs ys h.1)

pub differ_back : (xs ys : List Strand) → HeadsDiffer (xs ++ ys) → HeadsDiffer ys
differ_back [] ys h = h
differ_back (x ∷ xs) ys h = differ_back xs ys h.1

different_names : (xs ys : List Way) → AreOfDifferentNames xs → AreOfDifferentNames ys
    → AllByRecursion (λ x. AllByRecursion (λ y. x.edge ≡ y.edge → ⊥) ys) xs → AreOfDifferentNames (xs ++ ys)
different_names [] ys dx dy h = dy
different_names (x ∷ xs) ys dx dy h = (
  all_of (λ y. x.edge ≡ y.edge
      → ⊥) xs ys dx.0 h.0,
  different_names xs ys dx.1 dy h.1,
)

one_name : (v w : Bool) (s t : Spot) (name : ℕ) → AreOfDifferentNames (way_between v w s t name)
one_name true true s t name = tt
one_name true false s t name = (tt, tt)
one_name false true s t name = (tt, tt)
one_name false false s t name = tt

module _ (es : List LeafEdge) (u : Level) (right : Bool) where
  pub names_up : (ss : List Strand) → HeadsDiffer ss → AreOfDifferentNames (ways_up es u right ss)
  names_up [] h = tt
  names_up (s ∷ ss) h =
      different_names (way_up es u s.left (value_before ss right) s.start s.bundle) (ways_up es u right ss)
      (one s.bundle) (names_up ss h.1) (others s.bundle h.0)
    where
      one : (b : List ℕ) → AreOfDifferentNames (way_up es u s.left (value_before ss right) s.start b)
      one [] = tt
      one (k ∷ ks) = one_name s.left (value_before ss right) s.start (spot_on (edge_at es k) u) k

      each : (k : ℕ) (ks : List ℕ) (ts : List Strand) → AllByRecursion (λ t. HaveOtherHeads (k ∷ ks) t.bundle) ts
          → AllByRecursion (λ t. UpHas (λ w. k ≡ w.edge → ⊥) es u t.start t.bundle) ts
      each k ks [] h = tt
      each k ks (t ∷ ts) h = (by_bundle t.bundle h.0, each k ks ts h.1)
        where
          by_bundle : (c : List ℕ) → HaveOtherHeads (k ∷ ks) c → UpHas (λ w. k ≡ w.edge → ⊥) es u t.start c
          by_bundle [] h = tt
          by_bundle (j ∷ js) h = λ b. h

      others : (b : List ℕ) → AllByRecursion (λ t. HaveOtherHeads b t.bundle) ss
          → AllByRecursion (λ x. AllByRecursion (λ y. x.edge ≡ y.edge → ⊥) (ways_up es u right ss))
          (way_up es u s.left (value_before ss right) s.start b)
      others [] h = tt
      others (k ∷ ks) h = of_between (λ x. AllByRecursion (λ y. x.edge ≡ y.edge → ⊥) (ways_up es u right ss)) s.left
          (value_before ss right) s.start (spot_on (edge_at es k) u) k
          (λ b. of_ways_up (λ w. k ≡ w.edge → ⊥) es u right ss (each k ks ss h))

module _ (es : List LeafEdge) (l u : Level) (right : Bool) where
  pub names_from : (ss : List Strand) → HeadsDiffer ss → AreOfDifferentNames (ways_from es l u right ss)
  names_from [] h = tt
  names_from (s ∷ ss) h =
      different_names (way_from es l u s.left (value_before ss right) s.bundle) (ways_from es l u right ss)
      (one s.bundle) (names_from ss h.1) (others s.bundle h.0)
    where
      one : (b : List ℕ) → AreOfDifferentNames (way_from es l u s.left (value_before ss right) b)
      one [] = tt
      one (k ∷ ks) = one_name s.left (value_before ss right) (spot_on (edge_at es k) l) (spot_on (edge_at es k) u) k

      each : (k : ℕ) (ks : List ℕ) (ts : List Strand) → AllByRecursion (λ t. HaveOtherHeads (k ∷ ks) t.bundle) ts
          → AllByRecursion (λ t. FromHas (λ w. k ≡ w.edge → ⊥) es l u t.bundle) ts
      each k ks [] h = tt
      each k ks (t ∷ ts) h = (by_bundle t.bundle h.0, each k ks ts h.1)
        where
          by_bundle : (c : List ℕ) → HaveOtherHeads (k ∷ ks) c → FromHas (λ w. k ≡ w.edge → ⊥) es l u c
          by_bundle [] h = tt
          by_bundle (j ∷ js) h = λ b. h

      others : (b : List ℕ) → AllByRecursion (λ t. HaveOtherHeads b t.bundle) ss
          → AllByRecursion (λ x. AllByRecursion (λ y. x.edge ≡ y.edge → ⊥) (ways_from es l u right ss))
          (way_from es l u s.left (value_before ss right) b)
      others [] h = tt
      others (k ∷ ks) h = of_between (λ x. AllByRecursion (λ y. x.edge ≡ y.edge → ⊥) (ways_from es l u right ss)) s.left
          (value_before ss right) (spot_on (edge_at es k) l) (spot_on (edge_at es k) u) k
          (λ b. of_ways_from (λ w. k ≡ w.edge → ⊥) es l u right ss (each k ks ss h))

-- ---- strands and the way along the height
-- a way is named by an edge that rises; by one that doesn't
abbrev pub IsRisingWay : List LeafEdge → Way → Type 0
IsRisingWay es w = pos 0 <ℤ rise (edge_at es w.edge)

abbrev pub IsFlatWay : List LeafEdge → Way → Type 0
IsFlatWay es w = pos 0 <ℤ rise (edge_at es w.edge) → ⊥

pub with_flat : (es : List LeafEdge) (xs ys : List Way) → AreOfDifferentNames xs → AreOfDifferentNames ys
    → AllByRecursion (IsRisingWay es) xs → AllByRecursion (IsFlatWay es) ys → AreOfDifferentNames (xs ++ ys)
with_flat es xs ys dx dy hx hy = different_names xs ys dx dy (apart xs hx)
  where
    apart_from : (x : Way) → IsRisingWay es x → (ys : List Way) → AllByRecursion (IsFlatWay es) ys
        → AllByRecursion (λ y. x.edge ≡ y.edge → ⊥) ys
    apart_from x hx [] h = tt
    apart_from x hx (y ∷ ys) h = (
      λ e. h.0 (subst (λ (n : ℕ). pos 0 <ℤ rise (edge_at es n)) e hx),
      apart_from x hx ys h.1,
    )

    apart : (xs : List Way) → AllByRecursion (IsRisingWay es) xs
        → AllByRecursion (λ x. AllByRecursion (λ y. x.edge ≡ y.edge → ⊥) ys) xs
    apart [] h = tt
    apart (x ∷ xs) h = (apart_from x h.0 ys hy, apart xs h.1)

pub flat_names : (es : List LeafEdge) (start : Spot) (p : Place) (ps : List Place)
    → AreOfDifferentNames (flat_way es start p ps)
flat_names es start p [] = tt
flat_names es start p (q ∷ ps) = by_name (position (covers p.at q.at) es)
  where
    by_name : (name : Option ℕ) → AreOfDifferentNames (way_along (value_before (all_above (q ∷ ps)) false)
        (value_before (all_below (q ∷ ps)) false) start q.at name)
    by_name None = tt
    by_name (Some k) = one_name (value_before (all_above (q ∷ ps)) false)
        (value_before (all_below (q ∷ ps)) false) start q.at k
