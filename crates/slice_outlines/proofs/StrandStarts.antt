-- Strands that begin at a point, one after another.
use Rattle.std.proofs.Common.{◌≡◌, ℕ, ◌+◌, ◌-◌, ◌<◌, ◌≤◌, List, [], ◌∷◌, ◌++◌, length, get_or, set, take, drop, map, sym, ap, ◌∙◌, arith, append_assoc, length-append}
use Rattle.std.proofs.lemmas.List.{drop_more, get_or_at, set_at, map_push, length-map, length-take, length-drop, take-append-drop}
use Rattle.scad_geom.specs.declared.point.Pt.{Pt}
use Rattle.slice_outlines.specs.declared.mark.Mark.{Mark}
use Rattle.slice_outlines.specs.Marks.{begun_in}
use Rattle.slice_outlines.proofs.Parts.{part_more}

pub begun_none : (from : ℕ) (at : Pt) (ms : List Mark) → begun_in from from at ms ≡ ms
begun_none from at ms =
    let none : from - from ≡ 0 = omega arith in
    let b : Mark → Mark = λ m. record m { from = at } in
    ap (λ (n : ℕ). take from ms ++ (map b (take n (drop from ms)) ++ drop from ms)) none
    ∙ take-append-drop from ms

pub begun_more : (from i : ℕ) (at : Pt) (ms now : List Mark) (d : Mark) → from ≤ i → i < length ms
    → now ≡ begun_in from i at ms
    → set now i (record (get_or now i d) { from = at }) ≡ begun_in from (i + 1) at ms
begun_more from i at ms now d h l e =
    let b : Mark → Mark = λ m. record m { from = at } in
    let q : List Mark = take (i - from) (drop from ms) in
    let p : List Mark = take from ms ++ map b q in
    let y : Mark = get_or ms i d in
    let ys : List Mark = drop (i + 1) ms in
    let split : begun_in from i at ms ≡ p ++ (y ∷ ys) =
    ap (λ (r : List Mark). take from ms ++ (map b q ++ r)) (drop_more ms i d l)
    ∙ sym (append_assoc (take from ms) (map b q) (y ∷ ys)) in
    let place : length p ≡ i = omega (
      arith,
      length-append (take from ms) (map b q),
      length-take from ms,
      length-map q b,
      length-take (i - from) (drop from ms),
      length-drop from ms,
    ) in
    let longer : take (i + 1 - from) (drop from ms) ≡ q ++ (y ∷ []) = part_more ms from i d h l in
    ap (λ (xs : List Mark). set xs i (record (get_or xs i d) { from = at })) (e ∙ split)
    ∙ ap (λ (m : Mark). set (p ++ (y ∷ ys)) i (b m)) (get_or_at p y ys d i place)
    ∙ set_at p y ys (b y) i place
    ∙ append_assoc (take from ms) (map b q) (b y ∷ ys)
    ∙ ap (λ (r : List Mark). take from ms ++ r)
    (sym (ap (λ (r : List Mark). map b r ++ ys) longer ∙ ap (λ (r : List Mark). r ++ ys) (map_push b q y)
    ∙ append_assoc (map b q) (b y ∷ []) ys))
