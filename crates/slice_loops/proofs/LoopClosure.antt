-- The remaining edges and the straight way from a loop's start to where it has come are closed, so the loop can go on.
use Rattle.std.proofs.Common.{◌≡◌, ℕ, ◌+◌, List, [], ◌∷◌, refl, sym, ap, ap₂, ◌∙◌, arith}
use Rattle.std.specs.Prelude.{count_by, IsPermutation}
use Rattle.std.proofs.lemmas.List.Elements.{All-head, All-tail}
use Rattle.std.proofs.lemmas.List.Sums.{sum_by-cons}
use Rattle.std.proofs.lemmas.List.Sorted.{sum_by-IsPermutation, IsPermutation-map, IsPermutation-cons}
use Rattle.scad_geom.specs.declared.point.Pt.{Pt}
use Rattle.scad_geom.specs.declared.point.Edge.{Edge}
use Rattle.scad_geom.specs.Point.{whole, is_same_point}
use Rattle.scad_geom.specs.Segment.{Segment, segment_of, segments}
use Rattle.scad_geom.specs.Balance.{starts_at, ends_at, IsBalanced}
use Rattle.scad_geom.proofs.Balance.{once, starts-cons, ends-cons, same_place, whole_balance, same_place-itself}
use Rattle.slice_loops.specs.Drawing.{TakesLeastFrom}
use Rattle.slice_loops.specs.Ascending.{NoneStarts}
use Rattle.slice_loops.proofs.Points.{differ}

-- the edge between two points
abbrev pub edge : Pt → Pt → Edge
edge p q = record { a = p; b = q }

pub balanced_permuted : (es fs : List Edge) → IsPermutation es fs → IsBalanced (segments es)
    → IsBalanced (segments fs)
balanced_permuted es fs m b = record {
  each = λ p d.
      let moved = IsPermutation-map segment_of es fs m in
      sum_by-IsPermutation (λ (s : Segment). once (is_same_point p s.from)) (segments es) (segments fs) moved
      ∙ b.each p d
      ∙ sym (sum_by-IsPermutation (λ (s : Segment). once (is_same_point p s.to)) (segments es) (segments fs) moved);
}

passed : (s t u v m n x y : ℕ) → x ≡ s + (u + m) → y ≡ t + (v + n) → x ≡ y → u ≡ t → s + m ≡ v + n
passed s t u v m n x y h k e f = omega arith

ended : (s t m n x y : ℕ) → x ≡ s + m → y ≡ t + n → x ≡ y → s ≡ t → m ≡ n
ended s t m n x y h k e f = omega arith

-- an edge is taken where the loop has come
pub goes_on : (start at : Pt) (left : List Edge) (e : Edge) (others : List Edge)
    → IsBalanced (segments (edge start at ∷ left)) → TakesLeastFrom at left e others
    → IsBalanced (segments (edge start e.b ∷ others))
goes_on start at left e others b t = record {
  each = λ p d.
      let all = balanced_permuted (edge start at ∷ left) (edge start at ∷ (e ∷ others)) (IsPermutation-cons (edge start at) left (e ∷ others) t.taken) b in
      let from = starts-cons p (segment_of (edge start at)) (segments (e ∷ others)) ∙ ap (λ (n : ℕ). once (is_same_point p (whole start)) + n) (starts-cons p (segment_of e) (segments others)) in
      let to = ends-cons p (segment_of (edge start at)) (segments (e ∷ others)) ∙ ap (λ (n : ℕ). once (is_same_point p (whole at)) + n) (ends-cons p (segment_of e) (segments others)) in
      starts-cons p (segment_of (edge start e.b)) (segments others)
      ∙ passed (once (is_same_point p (whole start))) (once (is_same_point p (whole at)))
      (once (is_same_point p (whole e.a))) (once (is_same_point p (whole e.b)))
      (starts_at p (segments others)) (ends_at p (segments others))
      (starts_at p (segments (edge start at ∷ (e ∷ others))))
      (ends_at p (segments (edge start at ∷ (e ∷ others))))
      from to (all.each p d) (ap (λ (q : Pt). once (is_same_point p (whole q))) t.starts)
      ∙ sym (ends-cons p (segment_of (edge start e.b)) (segments others));
}

-- it is back at its start
pub comes_back : (start at : Pt) (left : List Edge) → at ≡ start → IsBalanced (segments (edge start at ∷ left))
    → IsBalanced (segments left)
comes_back start at left h b = record {
  each = λ p d.
      ended (once (is_same_point p (whole start))) (once (is_same_point p (whole at))) (starts_at p (segments left))
      (ends_at p (segments left))
      (starts_at p (segments (edge start at ∷ left))) (ends_at p (segments (edge start at ∷ left)))
      (starts-cons p (segment_of (edge start at)) (segments left))
      (ends-cons p (segment_of (edge start at)) (segments left)) (b.each p d)
      (ap (λ (q : Pt). once (is_same_point p (whole q))) (sym h));
}

-- ---- where it isn't back, an edge starts
count_none : (p : Pt) (es : List Edge) → NoneStarts p es → count_by (λ e. same_place p e.a) es ≡ 0
count_none p [] h = refl
count_none p (e ∷ es) h =
    sum_by-cons (λ (x : Edge). once (same_place p x.a)) e es
    ∙ ap₂ (λ (m n : ℕ). m + n) (ap once
    (differ p e.a (λ q. All-head (λ (x : Edge). x.a ≡ p → ⊥) e es h (sym q))))
    (count_none p es (All-tail (λ (x : Edge). x.a ≡ p → ⊥) e es h))

too_few : (s t m n x y : ℕ) → x ≡ s + m → y ≡ t + n → x ≡ y → s ≡ 0 → m ≡ 0 → t ≡ 1 → ⊥
too_few s t m n x y h k e a b c = omega arith

pub one_starts : (start at : Pt) (left : List Edge) → IsBalanced (segments (edge start at ∷ left))
    → (at ≡ start → ⊥) → NoneStarts at left → ⊥
one_starts start at left b away none =
    too_few (once (same_place at start)) (once (same_place at at)) (count_by (λ e. same_place at e.a) left)
    (count_by (λ e. same_place at e.b) left)
    (count_by (λ e. same_place at e.a) (edge start at ∷ left))
    (count_by (λ e. same_place at e.b) (edge start at ∷ left))
    (sum_by-cons (λ (x : Edge). once (same_place at x.a)) (edge start at) left)
    (sum_by-cons (λ (x : Edge). once (same_place at x.b)) (edge start at) left)
    (whole_balance (edge start at ∷ left) b at)
    (ap once (differ at start away)) (count_none at left none) (ap once (same_place-itself at))
