-- Two pairs of pieces that meet alone: they are one pair, or each stays where the other was joined.
use Rattle.std.proofs.Common.{◌≡◌, ℕ, ◌+◌, ◌⊎◌, inl, inr, Bool, true, false, true≢false, List, [], ◌∷◌, refl, sym, ap, ap₂, ◌∙◌, subst, arith}
use Rattle.std.specs.Prelude.{IsPermutation, Contains, remove}
use Rattle.std.proofs.lemmas.List.Sorted.{IsPermutation-refl, IsPermutation-sym, IsPermutation-trans, IsPermutation-cons, IsPermutation-middle, IsPermutation-remove, Contains-permutation}
use Rattle.scad_geom.specs.Point.{Point, is_same_point}
use Rattle.scad_geom.specs.Balance.{starts_at, ends_at}
use Rattle.scad_geom.proofs.Balance.{once, starts-cons, ends-cons}
use Rattle.winding_laws.specs.Nearness.{IsProper}
use Rattle.winding_laws.proofs.Sameness.{same_itself, same_through}
use Rattle.slice_pieces.specs.declared.piece.Piece.{Piece}
use Rattle.slice_pieces.specs.Spots.{point_of, is_same_spot}
use Rattle.slice_pieces.specs.Pieces.{way_of, ways_of}
use Rattle.slice_pieces.specs.Merging.{joined, MeetAlone}
use Rattle.slice_pieces.proofs.SamePieces.{same_piece, piece_is, piece_itself}
use Rattle.slice_pieces.proofs.Counts.{without_first}
use Rattle.slice_pieces.proofs.ChainEnds.{starts_permuted, ends_permuted, fewer_starts, fewer_ends}
use Rattle.slice_pieces.proofs.Courses.{KeepCourse, turn_same, first_or_later, is_first, is_later}

-- ---- lists of pieces in another order
abbrev pub Perm : List Piece → List Piece → Type 0
Perm = IsPermutation

pub rest_of : (x : Piece) (xs ys : List Piece) → Perm (x ∷ xs) (x ∷ ys) → Perm xs ys
rest_of x xs ys m = without_first same_piece piece_itself piece_is x xs ys m

pub swap : (x y : Piece) (xs : List Piece) → Perm (x ∷ (y ∷ xs)) (y ∷ (x ∷ xs))
swap x y xs = IsPermutation-middle (x ∷ []) y xs

-- the third comes first
pub third : (x y z : Piece) (xs : List Piece) → Perm (x ∷ (y ∷ (z ∷ xs))) (z ∷ (x ∷ (y ∷ xs)))
third x y z xs = IsPermutation-middle (x ∷ (y ∷ [])) z xs

pub out : (x : Piece) (xs : List Piece) → Contains xs x → (rest : List Piece) × Perm xs (x ∷ rest)
out x xs c = (remove xs c.0, IsPermutation-remove xs c.0 x c.1 (sym c.2))

-- ---- one ends at a point
too_many : (m n : ℕ) → m ≡ 1 + (1 + n) → m ≡ 1 → ⊥
too_many m n h k = omega arith

two_ends : (p : Point) (x y : Piece) (xs : List Piece) → ends_at p (ways_of (x ∷ xs)) ≡ 1
    → is_same_point p (point_of x.to) ≡ true → Contains xs y → is_same_point p (point_of y.to) ≡ true → ⊥
two_ends p x y xs one hx c hy =
    let o = out y xs c in
    let split = ends-cons p (way_of x) (ways_of xs) ∙ ap₂ (λ (b : Bool) (n : ℕ). once b + n) hx (ends_permuted p xs (y ∷ o.0) o.1 ∙ ends-cons p (way_of y) (ways_of o.0) ∙ ap (λ (b : Bool). once b + ends_at p (ways_of o.0)) hy) in
    too_many (ends_at p (ways_of (x ∷ xs))) (ends_at p (ways_of o.0)) split one

pub two_starts : (p : Point) (x y : Piece) (xs : List Piece) → starts_at p (ways_of (x ∷ xs)) ≡ 1
    → is_same_point p (point_of x.from) ≡ true → Contains xs y → is_same_point p (point_of y.from) ≡ true
    → ⊥
two_starts p x y xs one hx c hy =
    let o = out y xs c in
    let split = starts-cons p (way_of x) (ways_of xs) ∙ ap₂ (λ (b : Bool) (n : ℕ). once b + n) hx (starts_permuted p xs (y ∷ o.0) o.1 ∙ starts-cons p (way_of y) (ways_of o.0) ∙ ap (λ (b : Bool). once b + starts_at p (ways_of o.0)) hy) in
    too_many (starts_at p (ways_of (x ∷ xs))) (starts_at p (ways_of o.0)) split one

-- ---- two pairs that meet alone, at two points
module _ (old : List Piece) (course : KeepCourse old) (f s : Piece) (others : List Piece) (m : MeetAlone old f s others) (g t : Piece) (more : List Piece) (n : MeetAlone old g t more) where
  pub two : Perm (g ∷ (t ∷ more)) (f ∷ (s ∷ others))
  two = IsPermutation-trans (g ∷ (t ∷ more)) old (f ∷ (s ∷ others))
      (IsPermutation-sym old (g ∷ (t ∷ more)) n.two) m.two

  pf : IsProper (way_of f)
  pf = course.proper f (Contains-permutation (f ∷ (s ∷ others)) old f
      (IsPermutation-sym old (f ∷ (s ∷ others)) m.two) (is_first f (s ∷ others)))

  ps : IsProper (way_of s)
  ps = course.proper s (Contains-permutation (f ∷ (s ∷ others)) old s
      (IsPermutation-sym old (f ∷ (s ∷ others)) m.two) (is_later f s (s ∷ others) (is_first s others)))

  pg : IsProper (way_of g)
  pg = course.proper g (Contains-permutation (g ∷ (t ∷ more)) old g
      (IsPermutation-sym old (g ∷ (t ∷ more)) n.two) (is_first g (t ∷ more)))

  pt : IsProper (way_of t)
  pt = course.proper t (Contains-permutation (g ∷ (t ∷ more)) old t
      (IsPermutation-sym old (g ∷ (t ∷ more)) n.two) (is_later g t (t ∷ more) (is_first t more)))

  -- the first of one pair is the first of the other, or the second, or another
  pub where_g : (g ≡ f) ⊎ ((g ≡ s) ⊎ Contains others g)
  where_g = by_case (first_or_later f g (s ∷ others)
      (Contains-permutation (g ∷ (t ∷ more)) (f ∷ (s ∷ others)) g two (is_first g (t ∷ more))))
    where
      later : (s ≡ g) ⊎ Contains others g → (g ≡ f) ⊎ ((g ≡ s) ⊎ Contains others g)
      later (inl e) = inr (inl (sym e))
      later (inr c) = inr (inr c)

      by_case : (f ≡ g) ⊎ Contains (s ∷ others) g → (g ≡ f) ⊎ ((g ≡ s) ⊎ Contains others g)
      by_case (inl e) = inl (sym e)
      by_case (inr c) = later (first_or_later s g others c)

  -- ---- at one point they are one pair
  same_first : is_same_spot f.to g.to ≡ true → g ≡ f
  same_first e = by_case (first_or_later f g (s ∷ others)
      (Contains-permutation (g ∷ (t ∷ more)) (f ∷ (s ∷ others)) g two (is_first g (t ∷ more))))
    where
      by_case : (f ≡ g) ⊎ Contains (s ∷ others) g → g ≡ f
      by_case (inl x) = sym x
      by_case (inr c) =
          absurd (two_ends (point_of f.to) f g (s ∷ others)
          (sym (ends_permuted (point_of f.to) old (f ∷ (s ∷ others)) m.two) ∙ m.one_ends)
          (same_itself (point_of f.to)) c e)

  same_second : is_same_spot f.to g.to ≡ true → t ≡ s
  same_second e = by_case (first_or_later s t (f ∷ others)
      (Contains-permutation (g ∷ (t ∷ more)) (s ∷ (f ∷ others)) t turned_two
      (is_later g t (t ∷ more) (is_first t more))))
    where
      turned_two : Perm (g ∷ (t ∷ more)) (s ∷ (f ∷ others))
      turned_two = IsPermutation-trans (g ∷ (t ∷ more)) (f ∷ (s ∷ others)) (s ∷ (f ∷ others)) two
          (swap f s others)

      from_old : Perm old (s ∷ (f ∷ others))
      from_old = IsPermutation-trans old (f ∷ (s ∷ others)) (s ∷ (f ∷ others)) m.two (swap f s others)

      starts_there : is_same_spot f.to t.from ≡ true
      starts_there = sym (same_through (point_of f.to) (point_of g.to) (point_of t.from) pg.to pt.from n.meet) ∙ e

      by_case : (s ≡ t) ⊎ Contains (f ∷ others) t → t ≡ s
      by_case (inl x) = sym x
      by_case (inr c) =
          absurd (two_starts (point_of f.to) s t (f ∷ others)
          (sym (starts_permuted (point_of f.to) old (s ∷ (f ∷ others)) from_old) ∙ m.one_starts) m.meet c
          starts_there)

  pub one_pair : is_same_spot f.to g.to ≡ true → Perm (joined g t ∷ more) (joined f s ∷ others)
  one_pair e =
      let x : g ≡ f = same_first e in
      let y : t ≡ s = same_second e in
      let front : Perm (f ∷ (s ∷ more)) (f ∷ (s ∷ others)) = subst (λ (p : Piece). Perm (f ∷ (p ∷ more)) (f ∷ (s ∷ others))) y (subst (λ (p : Piece). Perm (p ∷ (t ∷ more)) (f ∷ (s ∷ others))) x two) in
      let rest : Perm more others = rest_of s more others (rest_of f (s ∷ more) (s ∷ others) front) in
      subst (λ (p : Piece). Perm (p ∷ more) (joined f s ∷ others)) (sym (ap₂ joined x y))
      (IsPermutation-cons (joined f s) more others rest)

  -- ---- at two points each stays where the other was joined
  module _ (apart : is_same_spot f.to g.to ≡ false) where
    apart_back : is_same_spot g.to f.to ≡ false
    apart_back = by_test (is_same_spot g.to f.to) refl
      where
        by_test : (b : Bool) → is_same_spot g.to f.to ≡ b → b ≡ false
        by_test false h = refl
        by_test true h = absurd (true≢false (sym (turn_same (point_of g.to) (point_of f.to) h) ∙ apart))

    pub not_second : is_same_spot f.to t.from ≡ false
    not_second = sym (same_through (point_of f.to) (point_of g.to) (point_of t.from) pg.to pt.from n.meet) ∙ apart

    not_second_back : is_same_spot g.to s.from ≡ false
    not_second_back = sym (same_through (point_of g.to) (point_of f.to) (point_of s.from) pf.to ps.from m.meet)
        ∙ apart_back

    same_but : (a b : ℕ) (c : Bool) → a ≡ once c + b → c ≡ false → a ≡ 1 → b ≡ 1
    same_but a b true h k o = absurd (true≢false k)
    same_but a b false h k o = omega arith

    -- where g and t were joined, f ends once and s starts once
    pub ends_f : ends_at (point_of f.to) (ways_of (joined g t ∷ more)) ≡ 1
    ends_f = same_but (ends_at (point_of f.to) (ways_of old)) (ends_at (point_of f.to) (ways_of (joined g t ∷ more)))
        (is_same_spot f.to g.to)
        (fewer_ends old (joined g t ∷ more) g t more n (IsPermutation-refl (joined g t ∷ more)) (point_of f.to))
        apart m.one_ends

    pub starts_f : starts_at (point_of f.to) (ways_of (joined g t ∷ more)) ≡ 1
    starts_f = same_but (starts_at (point_of f.to) (ways_of old))
        (starts_at (point_of f.to) (ways_of (joined g t ∷ more))) (is_same_spot f.to t.from)
        (fewer_starts old (joined g t ∷ more) g t more n (IsPermutation-refl (joined g t ∷ more)) (point_of f.to))
        not_second m.one_starts

    pub ends_g : ends_at (point_of g.to) (ways_of (joined f s ∷ others)) ≡ 1
    ends_g = same_but (ends_at (point_of g.to) (ways_of old))
        (ends_at (point_of g.to) (ways_of (joined f s ∷ others))) (is_same_spot g.to f.to)
        (fewer_ends old (joined f s ∷ others) f s others m (IsPermutation-refl (joined f s ∷ others))
        (point_of g.to)) apart_back n.one_ends

    pub starts_g : starts_at (point_of g.to) (ways_of (joined f s ∷ others)) ≡ 1
    starts_g = same_but (starts_at (point_of g.to) (ways_of old))
        (starts_at (point_of g.to) (ways_of (joined f s ∷ others))) (is_same_spot g.to s.from)
        (fewer_starts old (joined f s ∷ others) f s others m (IsPermutation-refl (joined f s ∷ others))
        (point_of g.to)) not_second_back n.one_starts
