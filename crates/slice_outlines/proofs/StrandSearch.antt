-- Strands in order along a height, sought by their places.
use Rattle.std.proofs.Common.{◌≡◌, ℕ, zero, suc, ◌+◌, ◌<◌, ◌≤◌, true, false, List, [], ◌∷◌, length, get_or, take, drop, refl, sym, ◌∙◌, arith, subst, inl, inr}
use lib.IntN.{ℤ, pos, ◌*ℤ◌, ◌-ℤ◌}
use lib.Signed.{◌<ℤ◌, ◌≤ℤ◌}
use Rattle.std.specs.List.{AllByRecursion}
use Rattle.std.specs.List.Sorted.{IsPartitionPoint}
use Rattle.std.proofs.lemmas.Int.{ints}
use Rattle.std.proofs.lemmas.Bool.{cases_lt}
use Rattle.std.proofs.lemmas.List.{get_or-take, get_or-drop, length-take, length-drop}
use Rattle.std.proofs.lemmas.List.Elements.{All-get_or, recursion_from_All}
use Rattle.scad_geom.specs.declared.level.Level.{Level}
use Rattle.scad_geom.specs.declared.level.LeafEdge.{LeafEdge}
use Rattle.scad_geom.specs.Line.{rise}
use Rattle.scad_geom.specs.Level.{IsLower}
use Rattle.scad_base.proofs.Integers.{gap_of_at_most, at_most_of_less}
use Rattle.scad_geom.proofs.Heights.{at_most_chain, at_most_then_lower, lower_then_at_most, lower_chain}
use Rattle.scad_geom.proofs.Ring.{ring, ◌⊖◌, ◌⊗◌, v0, v1, v2}
use Rattle.scad_geom.proofs.Signs.{at_least_mul}
use Rattle.slice_bundles.specs.Bundles.{edge_at}
use Rattle.slice_pieces.specs.declared.piece.Spot.{Spot}
use Rattle.slice_border.specs.Pieces.{across, passes_at, whole_spot, IsLeft}
use Rattle.slice_border.specs.Stops.{is_left}
use Rattle.slice_border.proofs.Within.{size_above}
use Rattle.slice_outlines.specs.declared.mark.Mark.{Mark}
use Rattle.slice_outlines.specs.declared.height.Height.{Height}
use Rattle.slice_border.specs.declared.stop.Stop.{Stop}
use Rattle.slice_outlines.specs.Marks.{spot_at, no_mark}
use Rattle.slice_outlines.specs.Stops.{AllPass}
use Rattle.slice_outlines.specs.Heights.{AreInOrder, IsNotRightOf}
use Rattle.slice_outlines.specs.Along.{LieBetween, LiesLeftOf, LiesRightOf}
use Rattle.slice_outlines.proofs.EndPoints.{passes_then_rises}

abbrev Runs : Spot → Type 0
Runs s = pos 0 <ℤ pos s.run

-- ---- tests of places
pub left_true : (s t : Spot) → is_left s t ≡ true → IsLeft s t
left_true s t h = omega (arith, ints)

pub left_false : (s t : Spot) → is_left s t ≡ false → IsLeft s t → ⊥
left_false s t h k = omega (arith, ints)

-- ---- in order
pub runs_at : (es : List LeafEdge) (l : Level) (ms : List Mark) (i : ℕ) (d : Mark) → i < length ms → AllPass es l ms
    → Runs (spot_at es l (get_or ms i d))
runs_at es l ms i d h a =
    let p : passes_at (edge_at es (get_or ms i d).name) l ≡ true =
    All-get_or (λ m. passes_at (edge_at es m.name) l ≡ true) ms i d h a in
    let r : 0 < (spot_at es l (get_or ms i d)).run = size_above (rise (edge_at es (get_or ms i d).name))
    (passes_then_rises (edge_at es (get_or ms i d).name) l p) in
    omega (arith, ints, r)

module _ (h : Height) where
  tail_in_order : (m : Mark) (ms : List Mark) → AreInOrder h (m ∷ ms) → AreInOrder h ms
  tail_in_order m [] o = tt
  tail_in_order m (n ∷ ms) o = o.1

  run_there : (ms : List Mark) (i : ℕ) (d : Mark) → i < length ms
      → AllByRecursion (λ m. Runs (spot_at h.edges.now h.at.now m)) ms
      → Runs (spot_at h.edges.now h.at.now (get_or ms i d))
  run_there [] i d l a = absurd (omega arith)
  run_there (m ∷ ms) zero d l a = a.0
  run_there (m ∷ ms) (suc i) d l a = run_there ms i d (omega arith) a.1

  far : (ms : List Mark) → AreInOrder h ms → AllByRecursion (λ m. Runs (spot_at h.edges.now h.at.now m)) ms
      → (i j : ℕ) (d e : Mark) → i ≤ j → j < length ms
      → IsNotRightOf (spot_at h.edges.now h.at.now (get_or ms i d)) (spot_at h.edges.now h.at.now (get_or ms j e))
  far [] o a i j d e k l = absurd (omega arith)
  far (m ∷ ms) o a (suc i) zero d e k l = absurd (omega arith)
  far (m ∷ ms) o a (suc i) (suc j) d e k l = far ms (tail_in_order m ms o) a.1 i j d e (omega arith) (omega arith)
  far (m ∷ ms) o a zero zero d e k l = omega (arith, ints)
  far (m ∷ []) o a zero (suc j) d e k l = absurd (omega arith)
  far (m ∷ (n ∷ ms)) o a zero (suc j) d e k l =
      at_most_chain (across (spot_at h.edges.now h.at.now m)) (across (spot_at h.edges.now h.at.now n))
      (across (spot_at h.edges.now h.at.now (get_or (n ∷ ms) j e))) a.0 a.1.0
      (run_there (n ∷ ms) j e (omega arith) a.1) o.0
      (far (n ∷ ms) o.1 a.1 zero j n e (omega arith) (omega arith))

  passing_runs : (ms : List Mark) → AllByRecursion (λ m. passes_at (edge_at h.edges.now m.name) h.at.now ≡ true) ms
      → AllByRecursion (λ m. Runs (spot_at h.edges.now h.at.now m)) ms
  passing_runs [] a = tt
  passing_runs (m ∷ ms) a =
      let r : 0 < (spot_at h.edges.now h.at.now m).run = size_above (rise (edge_at h.edges.now m.name))
      (passes_then_rises (edge_at h.edges.now m.name) h.at.now a.0) in
      (omega (arith, ints, r), passing_runs ms a.1)

  runs_of : (ms : List Mark) → AllPass h.edges.now h.at.now ms
      → AllByRecursion (λ m. Runs (spot_at h.edges.now h.at.now m)) ms
  runs_of ms a = passing_runs ms
      (recursion_from_All (λ m. passes_at (edge_at h.edges.now m.name) h.at.now ≡ true) ms a)

  -- those to the left of one that lies left of a place, and those to the right of one that lies right of it
  pub left_before : (s : Spot) (ms : List Mark) → 0 < s.run → AreInOrder h ms → AllPass h.edges.now h.at.now ms
      → (i j : ℕ) (d e : Mark) → i ≤ j → j < length ms → IsLeft (spot_at h.edges.now h.at.now (get_or ms j e)) s
      → IsLeft (spot_at h.edges.now h.at.now (get_or ms i d)) s
  left_before s ms p o a i j d e k l left =
      let runs = runs_of ms a in
      at_most_then_lower (across (spot_at h.edges.now h.at.now (get_or ms i d)))
      (across (spot_at h.edges.now h.at.now (get_or ms j e))) (across s)
      (run_there ms i d (omega (arith, k, l)) runs) (run_there ms j e l runs) (omega (arith, ints, p))
      (far ms o runs i j d e k l) left

  pub right_behind : (s : Spot) (ms : List Mark) → 0 < s.run → AreInOrder h ms → AllPass h.edges.now h.at.now ms
      → (i j : ℕ) (d e : Mark) → i ≤ j → j < length ms → IsLeft s (spot_at h.edges.now h.at.now (get_or ms i d))
      → IsLeft s (spot_at h.edges.now h.at.now (get_or ms j e))
  right_behind s ms p o a i j d e k l right =
      let runs = runs_of ms a in
      lower_then_at_most (across s) (across (spot_at h.edges.now h.at.now (get_or ms i d)))
      (across (spot_at h.edges.now h.at.now (get_or ms j e))) (omega (arith, ints, p))
      (run_there ms i d (omega (arith, k, l)) runs) (run_there ms j e l runs) right (far ms o runs i j d e k l)

-- ---- parts of a list
pub by_places : {X : Type 0} (P : X → Type 0) (xs : List X) → ((k : ℕ) (d : X) → k < length xs → P (get_or xs k d))
    → AllByRecursion P xs
by_places P [] h = tt
by_places P (x ∷ xs) h = (h zero x (omega arith), by_places P xs (λ k d l. h (suc k) d (omega arith)))

pub front_by : {X : Type 0} (P : X → Type 0) (xs : List X) (n : ℕ) → n ≤ length xs
    → ((k : ℕ) (d : X) → k < n → P (get_or xs k d)) → AllByRecursion P (take n xs)
front_by P xs n l h = by_places P (take n xs) (λ k d q.
    let there : k < n = omega (arith, length-take n xs, q, l) in
    subst P (sym (get_or-take n xs k d there)) (h k d there))

pub rest_by : {X : Type 0} (P : X → Type 0) (xs : List X) (n : ℕ) → n ≤ length xs
    → ((k : ℕ) (d : X) → n ≤ k → k < length xs → P (get_or xs k d)) → AllByRecursion P (drop n xs)
rest_by P xs n l h = by_places P (drop n xs) (λ k d q.
    subst P (sym (get_or-drop n xs k d)) (h (n + k) d (omega arith) (omega (arith, length-drop n xs, q))))

-- ---- the strands between two places
pub scaled_order : (left right d : ℤ) → left ≤ℤ right → pos 0 <ℤ d → (left *ℤ d) ≤ℤ (right *ℤ d)
scaled_order left right d h p =
    let gap : pos 0 ≤ℤ ((right -ℤ left) *ℤ d) = at_least_mul (right -ℤ left) d (gap_of_at_most left right h)
    (at_most_of_less (pos 0) d p) in
    let spread : (right -ℤ left) *ℤ d ≡ right *ℤ d -ℤ left *ℤ d =
    ring (left ∷ right ∷ d ∷ []) ((v1 ⊖ v0) ⊗ v2) (v1 ⊗ v2 ⊖ v0 ⊗ v2) refl in
    omega (arith, ints, gap, spread)

module _ (h : Height) (left right : ℤ) (s t : Stop) (ms : List Mark) (n m : ℕ)
    (from : s.spot ≡ whole_spot left h.at.now) (to : t.spot ≡ whole_spot right h.at.now)
    (there : n ≤ length ms) (behind : m ≤ length ms)
    (lefts : IsPartitionPoint (λ m. LiesLeftOf h s m) (λ m. LiesLeftOf h s m → ⊥) ms n)
    (rights : IsPartitionPoint (λ m. LiesRightOf h t m → ⊥) (λ m. LiesRightOf h t m) ms m) where
  inside_at : (k : ℕ) (d : Mark) → k < length (drop n (take m ms))
      → (IsLeft (spot_at h.edges.now h.at.now (get_or (drop n (take m ms)) k d)) (whole_spot left h.at.now) → ⊥)
      × (IsLeft (whole_spot right h.at.now) (spot_at h.edges.now h.at.now (get_or (drop n (take m ms)) k d)) → ⊥)
  inside_at k d l =
      let low : n + k < m = omega (arith, l, length-drop n (take m ms), length-take m ms) in
      let is : get_or (drop n (take m ms)) k d ≡ get_or ms (n + k) d =
      get_or-drop n (take m ms) k d ∙ get_or-take m ms (n + k) d low in (
        λ a. lefts.1 (n + k) d (omega arith) (omega (arith, low, behind))
            (subst (λ (u : Spot). IsLeft (spot_at h.edges.now h.at.now (get_or ms (n + k) d)) u) (sym from)
            (subst (λ (x : Mark). IsLeft (spot_at h.edges.now h.at.now x) (whole_spot left h.at.now)) is a)),
        λ a. rights.0 (n + k) d (omega arith) low
            (subst (λ (u : Spot). IsLeft u (spot_at h.edges.now h.at.now (get_or ms (n + k) d))) (sym to)
            (subst (λ (x : Mark). IsLeft (whole_spot right h.at.now) (spot_at h.edges.now h.at.now x)) is a)),
      )

  pub lie_between : LieBetween h left right ms n m
  lie_between = record {
    before = front_by (λ x. IsLeft (spot_at h.edges.now h.at.now x) (whole_spot left h.at.now)) ms n there
        (λ k d l. subst (λ (u : Spot). IsLeft (spot_at h.edges.now h.at.now (get_or ms k d)) u) from
        (lefts.0 k d (omega arith) l));
    inside = by_places (λ x. (IsLeft (spot_at h.edges.now h.at.now x) (whole_spot left h.at.now) → ⊥)
        × (IsLeft (whole_spot right h.at.now) (spot_at h.edges.now h.at.now x) → ⊥)) (drop n (take m ms)) inside_at;
    behind = rest_by (λ x. IsLeft (whole_spot right h.at.now) (spot_at h.edges.now h.at.now x)) ms m behind
        (λ k d l q. subst (λ (u : Spot). IsLeft u (spot_at h.edges.now h.at.now (get_or ms k d))) to
        (rights.1 k d l q));
  }

  -- of a place that doesn't lie to the right of another
  pub from_then_to : left ≤ℤ right → pos 0 <ℤ h.at.now.d → AllPass h.edges.now h.at.now ms → n ≤ m
  from_then_to o p a = elim (cases_lt m n) [
    | inl l ↦ absurd (apart l)
    | inr l ↦ l
  ]
    where
      apart : m < n → ⊥
      apart l =
          let d : Mark = no_mark in
          let at : Spot = spot_at h.edges.now h.at.now (get_or ms m d) in
          let here : m < length ms = omega (arith, l, there) in
          let runs : Runs at = runs_at h.edges.now h.at.now ms m d here a in
          let one : IsLeft at (whole_spot left h.at.now) = subst (λ (u : Spot). IsLeft at u) from
          (lefts.0 m d (omega arith) l) in
          let two : IsLeft (whole_spot right h.at.now) at = subst (λ (u : Spot). IsLeft u at) to
          (rights.1 m d (omega arith) here) in
          let unit : pos 0 <ℤ pos 1 = omega (arith, ints) in
          let both : IsLower (across (whole_spot right h.at.now)) (across (whole_spot left h.at.now)) =
          lower_chain (across (whole_spot right h.at.now)) (across at) (across
          (whole_spot left h.at.now)) unit runs unit
          two one in
          let less : (left *ℤ h.at.now.d) ≤ℤ (right *ℤ h.at.now.d) = scaled_order left right h.at.now.d o p in
          omega (arith, ints, both, less)
