-- From level to level.
use Rattle.std.proofs.Common.{◌≡◌, ℕ, ◌+◌, ◌-◌, ◌<◌, ◌≤◌, ◌==◌, Bool, true, false, List, [], ◌∷◌, length, drop, sym, ap, ◌∙◌, subst, arith}
use lib.IntN.{pos}
use Rattle.std.proofs.lemmas.List.{drop_more, drop_all, nil_from_length}
use Rattle.std.proofs.lemmas.List.Sorted.{IsPermutation-refl}
use Rattle.std.specs.List.Sorted.{IsPermutation}
use Rattle.scad_geom.specs.declared.point.Edge.{Edge}
use Rattle.scad_geom.specs.declared.level.Level.{Level}
use Rattle.scad_geom.specs.declared.level.LeafEdge.{LeafEdge}
use Rattle.scad_geom.specs.declared.shape.Shape.{Shape}
use Rattle.scad_geom.specs.Heights.{AreNeighbours}
use Rattle.slice_events.specs.Levels.{AreLevels}
use Rattle.slice_border.specs.Levels.{level_at}
use Rattle.slice_border.proofs.Neighbours.{neighbours_at}
use Rattle.sweep_laws.specs.Sweeps.{AreMergedEdges}
use Rattle.sweep_laws.proofs.HeightByHeight.{sweeps_end}
use Rattle.slice_outlines.specs.declared.sweep.Sweep.{Sweep}
use Rattle.slice_outlines.specs.Sweep.{HasSwept}

-- ---- whether there are levels
pub none_by : (n : ℕ) (r : Bool) → r ≡ (n == 0) → r ≡ true → n ≡ 0
none_by n r e t = grind arith

pub some_by : (n : ℕ) (r : Bool) → r ≡ (n == 0) → r ≡ false → 0 < n
some_by n r e t = grind arith

pub no_levels : (es : List LeafEdge) (shape : Shape) (ls : List Level) (r : Bool) (given : List Edge)
    → AreLevels es ls → r ≡ (length ls == 0) → r ≡ true → given ≡ [] → AreMergedEdges es shape given
no_levels es shape ls r given a e t g =
    let no : ls ≡ [] = nil_from_length ls (none_by (length ls) r e t) in
    sweeps_end.none es shape given (subst (AreLevels es) no a)
    (subst (IsPermutation []) (sym g) (IsPermutation-refl []))

-- ---- one level after another
module _ (es : List LeafEdge) (shape : Shape) (ls : List Level) (a : AreLevels es ls) (i : ℕ) (s : Sweep)
    (o : 1 ≤ i) where
  before : i - 1 + 1 ≡ i
  before = omega (arith, o)

  pub at_two : i < length ls → HasSwept es shape ls (drop (i - 1) ls) s
      → HasSwept es shape ls (level_at ls (i - 1) ∷ (level_at ls i ∷ drop (i + 1) ls)) s
  at_two l h =
      let two : drop (i - 1) ls ≡ level_at ls (i - 1) ∷ (level_at ls i ∷ drop (i + 1) ls) =
      drop_more ls (i - 1) (record { n = pos 0; d = pos 0 }) (omega (arith, l))
      ∙ ap (λ (r : List Level). level_at ls (i - 1) ∷ r) (ap (λ (k : ℕ). drop k ls) before
      ∙ drop_more ls i (record { n = pos 0; d = pos 0 }) l) in
      subst (λ (ks : List Level). HasSwept es shape ls ks s) two h

  pub neighbours : i < length ls → AreNeighbours es (level_at ls (i - 1)) (level_at ls i)
  neighbours l =
      subst (λ (k : ℕ). AreNeighbours es (level_at ls (i - 1)) (level_at ls k)) before
      (neighbours_at es ls (i - 1) (record { n = pos 0; d = pos 0 }) (record { n = pos 0; d = pos 0 })
      (omega (arith, o, l)) a)

  pub climbed : (new : Sweep) → i < length ls → HasSwept es shape ls (level_at ls i ∷ drop (i + 1) ls) new
      → HasSwept es shape ls (drop (i + 1 - 1) ls) new
  climbed new l h =
      let same : i ≡ i + 1 - 1 = omega arith in
      let one : level_at ls i ∷ drop (i + 1) ls ≡ drop (i + 1 - 1) ls =
      sym (drop_more ls i (record { n = pos 0; d = pos 0 }) l) ∙ ap (λ (k : ℕ). drop k ls) same in
      subst (λ (ks : List Level). HasSwept es shape ls ks new) one h

  pub at_last : length ls ≤ i → i ≤ length ls → HasSwept es shape ls (drop (i - 1) ls) s
      → HasSwept es shape ls (level_at ls (length ls - 1) ∷ []) s
  at_last l m h =
      let all : i ≡ length ls = omega (arith, l, m) in
      let one : drop (i - 1) ls ≡ level_at ls (length ls - 1) ∷ [] =
      drop_more ls (i - 1) (record { n = pos 0; d = pos 0 }) (omega (arith, o, m))
      ∙ ap (λ (r : List Level). level_at ls (i - 1) ∷ r) (drop_all (i - 1 + 1) ls (omega (arith, o, l)))
      ∙ ap (λ (k : ℕ). level_at ls (k - 1) ∷ []) all in
      subst (λ (ks : List Level). HasSwept es shape ls ks s) one h
