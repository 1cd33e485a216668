-- What a shape's cells are added by.
use Rattle.std.proofs.Common.{◌≡◌, ℕ, ◌+◌, Bool, true, false, List, [], ◌∷◌, ◌++◌, length, map, sym, ap, ap₂, ◌∙◌, subst}
use Rattle.std.proofs.lemmas.List.{map-append, append_assoc}
use Rattle.scad_geom.specs.declared.shape.Shape.{Shape}
use Rattle.slice_held.specs.declared.cell.Cell.{Cell}
use Rattle.slice_held.specs.declared.kept_shape.Held.{Held}
use Rattle.slice_held.specs.Cells.{bare, HasPlaceUnder}
use Rattle.slice_held.specs.Layout.{blank, cells_of, cells_of_all}
use Rattle.slice_held.specs.Chain.{AreChained, Enters}
use Rattle.slice_held.specs.Held.{leaf_count, IsBlank, Adds}
use Rattle.slice_held.proofs.Chains.{chained_by, chained_more}
use Rattle.slice_held.proofs.Rows.{size_more, place_stays, place_of_last}

bare_self : (d : Cell) → d.count ≡ 0 → bare d ≡ d
bare_self d e = ap (λ (n : ℕ). record d { count = n }) (sym e)

pub chained_on : (xs ys : List Cell) (c : Cell) (lasts news earlier links : List ℕ) (number before : ℕ) → c.count ≡ 0
    → AreChained xs lasts earlier → number ≡ length xs + 1 → Enters c.leaf number before lasts news
    → map bare ys ≡ map bare xs ++ (c ∷ []) → links ≡ earlier ++ (before ∷ []) → AreChained ys news links
chained_on xs ys c lasts news earlier links number before z h n e b k =
    subst (AreChained ys news) (sym k)
    (chained_by (xs ++ (c ∷ [])) ys news (earlier ++ (before ∷ []))
    (b ∙ sym (map-append bare xs (c ∷ []) ∙ ap (λ (d : Cell). map bare xs ++ (d ∷ [])) (bare_self c z)))
    (chained_more xs c lasts news earlier before h e.size (λ leaf l o. (
      (e.this leaf l o).0 ∙ n,
      (e.this leaf l o).1,
    )) e.others))

pub adds_both : (a b : List Cell) (h g k : Held) → Adds a h g → Adds b g k → Adds (a ++ b) h k
adds_both a b h g k r s =
    record {
      blank = s.blank;
      leaves = s.leaves ∙ r.leaves;
      cells = s.cells ∙ ap (λ (cs : List Cell). cs ++ b) r.cells ∙ append_assoc (map bare h.cells.items) a b;
    }

size_of : (a : List Cell) (h g : Held) → Adds a h g → length g.cells.items ≡ length h.cells.items + length a
size_of a h g r = size_more h.cells.items g.cells.items a r.cells

-- an operation and its members
pub adds_members : (c : Cell) (n : ℕ) (q : Bool) (members : List Shape) (h g k : Held) → Adds (c ∷ []) h g
    → n ≡ length h.cells.items + 1 → Adds (cells_of_all n q (length g.cells.items) members) g k
    → Adds (c ∷ cells_of_all (length h.cells.items + 1) q (length h.cells.items + 1) members) h k
adds_members c n q members h g k r e s =
    adds_both (c ∷ []) (cells_of_all (length h.cells.items + 1) q (length h.cells.items + 1) members) h g k r
    (subst (λ (cs : List Cell). Adds cs g k)
    (ap₂ (λ (p at : ℕ). cells_of_all p q at members) e (size_of (c ∷ []) h g r)) s)

pub adds_rest : (c : Cell) (n : ℕ) (first : Shape) (rest : List Shape) (h g j k : Held) → Adds (c ∷ []) h g
    → n ≡ length h.cells.items + 1 → Adds (cells_of n false (length g.cells.items) first) g j
    → Adds (cells_of_all n true (length j.cells.items) rest) j k
    → Adds (c ∷ (cells_of (length h.cells.items + 1) false (length h.cells.items + 1) first
    ++ cells_of_all (length h.cells.items + 1) true
    (length h.cells.items + 1 + length (cells_of (length h.cells.items + 1) false
    (length h.cells.items + 1) first)) rest)) h k
adds_rest c n first rest h g j k r e s t =
    let at : ℕ = length h.cells.items + 1 in
    let firsts : List Cell = cells_of at false at first in
    let size : length g.cells.items ≡ at = size_of (c ∷ []) h g r in
    let s2 : Adds firsts g j = subst (λ (cs : List Cell). Adds cs g j) (ap₂ (λ
    (p q : ℕ). cells_of p false q first) e size) s in
    let more : length j.cells.items ≡ at + length firsts = size_of firsts g j s2 ∙ ap (λ
    (m : ℕ). m + length firsts) size in
    adds_both (c ∷ []) (firsts ++ cells_of_all at true (at + length firsts) rest) h g k r
    (adds_both firsts (cells_of_all at true (at + length firsts) rest) g j k s2
    (subst (λ (cs : List Cell). Adds cs j k) (ap₂ (λ (p q : ℕ). cells_of_all p true q rest) e more) t))

pub place_under : (c : Cell) (n : ℕ) (h g : Held) → Adds (c ∷ []) h g → c.leaf ≡ 0 → n ≡ length h.cells.items + 1
    → HasPlaceUnder g.cells.items n
place_under c n h g r leaf e = place_of_last h.cells.items g.cells.items c n r.cells leaf e

pub place_after : (a : List Cell) (n : ℕ) (h g : Held) → Adds a h g → HasPlaceUnder h.cells.items n
    → HasPlaceUnder g.cells.items n
place_after a n h g r p = place_stays h.cells.items g.cells.items a n r.cells p

-- ---- members one after another
pub record IsAdding (p : ℕ) (r : Bool) (members rest : List Shape) (h g : Held) : Type 0 where
  pub blank : IsBlank g
  pub leaves : leaf_count g ≡ leaf_count h
  pub place : HasPlaceUnder g.cells.items p
  pub cells : map bare g.cells.items ++ cells_of_all p r (length g.cells.items) rest
      ≡ map bare h.cells.items ++ cells_of_all p r (length h.cells.items) members

pub adds_member : (p : ℕ) (r : Bool) (members rest : List Shape) (member : Shape) (h g k : Held)
    → IsAdding p r members (member ∷ rest) h g → Adds (cells_of p r (length g.cells.items) member) g k
    → IsAdding p r members rest h k
adds_member p r members rest member h g k i s =
    let first : List Cell = cells_of p r (length g.cells.items) member in
    record {
      blank = s.blank;
      leaves = s.leaves ∙ i.leaves;
      place = place_after first p g k s i.place;
      cells = ap (λ (n : ℕ). map bare k.cells.items ++ cells_of_all p r n rest) (size_of first g k s)
          ∙ ap (λ (cs : List Cell). cs ++ cells_of_all p r (length g.cells.items + length first) rest) s.cells
          ∙ append_assoc (map bare g.cells.items) first (cells_of_all p r (length g.cells.items + length first) rest)
          ∙ i.cells;
    }
