-- Pieces that go on nowhere still go on nowhere after two others were joined; where none goes on, no two meet alone.
use Rattle.std.proofs.Common.{◌≡◌, ℕ, ◌+◌, Bool, true, false, true≢false, List, [], ◌∷◌, All, refl, sym, ap, ap₂, ◌∙◌, arith}
use lib.IntN.{pos}
use lib.Signed.{◌<ℤ◌}
use Rattle.std.specs.Prelude.{IsPermutation}
use Rattle.std.proofs.lemmas.List.Elements.{All-cons, All-head, All-tail}
use Rattle.std.proofs.lemmas.List.Sorted.{All-permutation, IsPermutation-sym, IsPermutation-map, sum_by-IsPermutation}
use Rattle.scad_geom.specs.Point.{Point, is_same_point}
use Rattle.scad_geom.specs.Segment.{Segment}
use Rattle.scad_geom.specs.Balance.{starts_at, ends_at}
use Rattle.scad_geom.proofs.Balance.{once, starts-cons, ends-cons}
use Rattle.slice_pieces.specs.declared.piece.Piece.{Piece}
use Rattle.slice_pieces.specs.Spots.{point_of, is_same_spot}
use Rattle.slice_pieces.specs.Pieces.{way_of, ways_of}
use Rattle.slice_pieces.specs.Merging.{joined, MeetAlone, NoneMeetAlone}
use Rattle.slice_pieces.specs.Joining.{GoesOn, IsPassedOnce, IsStuck}
use Rattle.winding_laws.proofs.Sameness.{are_same, same_by, are_same_on, are_same_turned, same_itself, same_through}
use Rattle.std.specs.Cmp.{both_ways}

-- ---- counts of pieces in another order
pub starts_permuted : (p : Point) (qs rs : List Piece) → IsPermutation qs rs
    → starts_at p (ways_of qs) ≡ starts_at p (ways_of rs)
starts_permuted p qs rs m = sym (sum_by-IsPermutation (λ (s : Segment). once (is_same_point p s.from)) (ways_of qs)
    (ways_of rs) (IsPermutation-map way_of qs rs m))

pub ends_permuted : (p : Point) (qs rs : List Piece) → IsPermutation qs rs
    → ends_at p (ways_of qs) ≡ ends_at p (ways_of rs)
ends_permuted p qs rs m = sym (sum_by-IsPermutation (λ (s : Segment). once (is_same_point p s.to)) (ways_of qs)
    (ways_of rs) (IsPermutation-map way_of qs rs m))

starts_two : (p : Point) (q r : Piece) (qs : List Piece)
    → starts_at p (ways_of (q ∷ (r ∷ qs))) ≡ once (is_same_point p (point_of q.from))
    + (once (is_same_point p (point_of r.from)) + starts_at p (ways_of qs))
starts_two p q r qs =
    starts-cons p (way_of q) (ways_of (r ∷ qs))
    ∙ ap (λ (n : ℕ). once (is_same_point p (point_of q.from)) + n) (starts-cons p (way_of r) (ways_of qs))

ends_two : (p : Point) (q r : Piece) (qs : List Piece)
    → ends_at p (ways_of (q ∷ (r ∷ qs))) ≡ once (is_same_point p (point_of q.to))
    + (once (is_same_point p (point_of r.to)) + ends_at p (ways_of qs))
ends_two p q r qs =
    ends-cons p (way_of q) (ways_of (r ∷ qs))
    ∙ ap (λ (n : ℕ). once (is_same_point p (point_of q.to)) + n) (ends-cons p (way_of r) (ways_of qs))

same_start : (s t : ℕ) (b : Bool) → s + (once b + t) ≡ once b + (s + t)
same_start s t b = omega arith

-- ---- joining takes a start and an end away at one point
module _ (old new : List Piece) (f s : Piece) (others : List Piece) (m : MeetAlone old f s others) (r : IsPermutation new (joined f s ∷ others)) where
  pub fewer_starts : (p : Point) → starts_at p (ways_of old) ≡ once (is_same_point p (point_of s.from))
      + starts_at p (ways_of new)
  fewer_starts p =
      starts_permuted p old (f ∷ (s ∷ others)) m.two ∙ starts_two p f s others
      ∙ same_start (once (is_same_point p (point_of f.from))) (starts_at p (ways_of others))
      (is_same_point p (point_of s.from))
      ∙ ap (λ (n : ℕ). once (is_same_point p (point_of s.from)) + n)
      (sym (starts_permuted p new (joined f s ∷ others) r ∙ starts-cons p (way_of (joined f s)) (ways_of others)))

  pub fewer_ends : (p : Point) → ends_at p (ways_of old) ≡ once (is_same_point p (point_of f.to))
      + ends_at p (ways_of new)
  fewer_ends p =
      ends_permuted p old (f ∷ (s ∷ others)) m.two ∙ ends_two p f s others
      ∙ ap (λ (n : ℕ). once (is_same_point p (point_of f.to)) + n)
      (sym (ends_permuted p new (joined f s ∷ others) r ∙ ends-cons p (way_of (joined f s)) (ways_of others)))

-- ---- ends at the same point
pub point_alike : (p q r : Point) → pos 0 <ℤ p.d → pos 0 <ℤ q.d → is_same_point p q ≡ true
    → is_same_point p r ≡ is_same_point q r
point_alike p q r dp dq h =
    let same = are_same p q h in
    both_ways (is_same_point p r) (is_same_point q r)
    (λ k. same_by q r (are_same_on q p r dp (are_same_turned p q same) (are_same p r k)))
    (λ k. same_by p r (are_same_on p q r dq same (are_same q r k)))

ends_alike : (p q : Point) → pos 0 <ℤ p.d → pos 0 <ℤ q.d → is_same_point p q ≡ true → (ss : List Segment)
    → ends_at p ss ≡ ends_at q ss
ends_alike p q dp dq h [] = refl
ends_alike p q dp dq h (x ∷ ss) =
    ends-cons p x ss
    ∙ ap₂ (λ (b : Bool) (n : ℕ). once b + n) (point_alike p q x.to dp dq h) (ends_alike p q dp dq h ss)
    ∙ sym (ends-cons q x ss)

twice : (m n : ℕ) → m ≡ 1 → n ≡ 1 → m ≡ 1 + n → ⊥
twice m n h k e = omega arith

none_more : (m n : ℕ) (b : Bool) → b ≡ false → m ≡ once b + n → n ≡ 1 → m ≡ 1
none_more m n true h e k = absurd (true≢false h)
none_more m n false h e k = omega arith

-- ---- a piece that is stuck stays so
module _ (old new : List Piece) (f s : Piece) (others : List Piece) (m : MeetAlone old f s others) (r : IsPermutation new (joined f s ∷ others))
    (q : Piece) (dq : pos 0 <ℤ (point_of q.to).d) (df : pos 0 <ℤ (point_of f.to).d) (ds : pos 0 <ℤ (point_of s.from).d) where
  not_there : IsPassedOnce new q.to → is_same_spot q.to f.to ≡ false
  not_there once_more = by_test (is_same_spot q.to f.to) refl
    where
      by_test : (b : Bool) → is_same_spot q.to f.to ≡ b → b ≡ false
      by_test false h = refl
      by_test true h =
          absurd (twice (ends_at (point_of q.to) (ways_of old)) (ends_at (point_of q.to) (ways_of new))
          (ends_alike (point_of q.to) (point_of f.to) dq df h (ways_of old) ∙ m.one_ends) once_more.one_ends
          (fewer_ends old new f s others m r (point_of q.to)
          ∙ ap (λ (b : Bool). once b + ends_at (point_of q.to) (ways_of new)) h))

  not_started : is_same_spot q.to f.to ≡ false → is_same_spot q.to s.from ≡ false
  not_started away = sym (same_through (point_of q.to) (point_of f.to) (point_of s.from) df ds m.meet) ∙ away

  passed_before : is_same_spot q.to f.to ≡ false → IsPassedOnce new q.to → IsPassedOnce old q.to
  passed_before away h = record {
    one_ends = none_more (ends_at (point_of q.to) (ways_of old)) (ends_at (point_of q.to) (ways_of new))
        (is_same_spot q.to f.to) away
        (fewer_ends old new f s others m r (point_of q.to)) h.one_ends;
    one_starts = none_more (starts_at (point_of q.to) (ways_of old)) (starts_at (point_of q.to) (ways_of new))
        (is_same_spot q.to s.from) (not_started away)
        (fewer_starts old new f s others m r (point_of q.to)) h.one_starts;
  }

  from_first : is_same_spot q.to f.to ≡ false → GoesOn q (joined f s) → GoesOn q f
  from_first away g = record { name = g.name; meet = g.meet; away = away }

  pub stays_stuck : IsStuck old q → IsStuck new q
  stays_stuck stuck h =
      let away = not_there h in
      let none : All (λ p. GoesOn q p → ⊥) (f ∷ (s ∷ others)) = All-permutation (λ p. GoesOn q p → ⊥) old (f ∷ (s ∷ others)) m.two (stuck (passed_before away h)) in
      let rest : All (λ p. GoesOn q p → ⊥) others = All-tail (λ p. GoesOn q p → ⊥) s others (All-tail (λ p. GoesOn q p → ⊥) f (s ∷ others) none) in
      All-permutation (λ p. GoesOn q p → ⊥) (joined f s ∷ others) new
      (IsPermutation-sym new (joined f s ∷ others) r)
      (All-cons (λ p. GoesOn q p → ⊥) (joined f s) others
      (λ g. All-head (λ p. GoesOn q p → ⊥) f (s ∷ others) none (from_first away g)) rest)

-- ---- where all are stuck, no two meet alone
away_by_count : (n : ℕ) (b c : Bool) (k : ℕ) → n ≡ once b + (once c + k) → b ≡ true → n ≡ 1
    → c ≡ false
away_by_count n true false k e h o = refl
away_by_count n true true k e h o = absurd (omega arith)
away_by_count n false c k e h o = absurd (true≢false (sym h))

goes_on : (pieces : List Piece) (q r : Piece) (others : List Piece) → MeetAlone pieces q r others → GoesOn q r
goes_on pieces q r others m = record {
  name = m.name;
  meet = m.meet;
  away = away_by_count (ends_at (point_of q.to) (ways_of pieces)) (is_same_spot q.to q.to) (is_same_spot q.to r.to)
      (ends_at (point_of q.to) (ways_of others))
      (ends_permuted (point_of q.to) pieces (q ∷ (r ∷ others)) m.two ∙ ends_two (point_of q.to) q r others)
      (same_itself (point_of q.to)) m.one_ends;
}

pub none_meet_alone : (pieces : List Piece) → All (IsStuck pieces) pieces → NoneMeetAlone pieces
none_meet_alone pieces all q r others m =
    let stuck : IsStuck pieces q = All-head (IsStuck pieces) q (r ∷ others) (All-permutation (IsStuck pieces) pieces (q ∷ (r ∷ others)) m.two all) in
    let none : All (λ p. GoesOn q p → ⊥) (q ∷ (r ∷ others)) = All-permutation (λ p. GoesOn q p → ⊥) pieces (q ∷ (r ∷ others)) m.two (stuck (record { one_ends = m.one_ends; one_starts = m.one_starts })) in
    All-head (λ p. GoesOn q p → ⊥) r others (All-tail (λ p. GoesOn q p → ⊥) q (r ∷ others) none)
    (goes_on pieces q r others m)
