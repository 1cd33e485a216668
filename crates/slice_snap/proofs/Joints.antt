-- Where one end and one start alone tie with the end of a piece, its next piece is that which starts there, or none.
use Rattle.std.proofs.Common.{◌≡◌, ℕ, ◌+◌, ◌<◌, ◌≤◌, zero, suc, Bool, true, false, true≢false, List, [], ◌∷◌, All, length, get_or, refl, sym, ap, ◌∙◌, subst, arith}
use Rattle.std.proofs.Common.{Option, Some, None}
use Rattle.std.specs.Option.{IfNone}
use Rattle.std.proofs.lemmas.List.{get_or_default}
use Rattle.scad_geom.specs.Point.{Point, is_same_point}
use Rattle.scad_geom.specs.Balance.{starts_at, ends_at}
use Rattle.scad_geom.proofs.Balance.{once, starts-cons}
use Rattle.slice_pieces.specs.declared.piece.Spot.{Spot}
use Rattle.slice_pieces.specs.declared.piece.Piece.{Piece}
use Rattle.slice_snap.specs.declared.end.End.{End}
use Rattle.slice_pieces.specs.Spots.{point_of, is_same_spot}
use Rattle.slice_pieces.specs.Pieces.{way_of, ways_of}
use Rattle.slice_pieces.specs.Joining.{GoesOn, IsPassedOnce, IsStuck}
use Rattle.slice_snap.specs.Joints.{IsComparable, IsNext}
use Rattle.slice_snap.specs.Chains.{no_piece, piece_at}
use Rattle.std.specs.Ordering.{is_eq}
use Rattle.slice_snap.specs.EndOrder.{spot_cmp, AreInOrder, IsEndOf, times_at, IsAlone}
use Rattle.slice_snap.proofs.EndOrder.{tied_is, starts_counted, ends_counted}

-- what holds at all events holds where there is nothing
pub if_none : {A P : Type 0} (found : Option A) → P → IfNone found P
if_none None p = p
if_none (Some a) p = tt

-- ---- where one piece starts at a point, it stands at one place
module _ (p : Point) where
  more_then : (n m : ℕ) (b : Bool) → n ≡ once b + m → 1 ≤ m → 1 ≤ n
  more_then n m b e h = omega arith

  first_then : (n m : ℕ) (b : Bool) → n ≡ once b + m → b ≡ true → 1 ≤ n
  first_then n m true e h = omega arith
  first_then n m false e h = absurd (true≢false (sym h))

  some_start : (qs : List Piece) (i : ℕ) → i < length qs
      → is_same_point p (point_of (piece_at qs i).from) ≡ true → 1 ≤ starts_at p (ways_of qs)
  some_start [] i l h = absurd (omega arith)
  some_start (q ∷ qs) zero l h = first_then _ (starts_at p (ways_of qs)) (is_same_point p (point_of q.from))
      (starts-cons p (way_of q) (ways_of qs)) h
  some_start (q ∷ qs) (suc i) l h = more_then _ (starts_at p (ways_of qs)) (is_same_point p (point_of q.from))
      (starts-cons p (way_of q) (ways_of qs)) (some_start qs i (omega arith) h)

  two : (n m : ℕ) (b : Bool) → n ≡ once b + m → b ≡ true → 1 ≤ m → n ≡ 1 → ⊥
  two n m true e h k o = omega arith
  two n m false e h k o = true≢false (sym h)

  rest : (n m : ℕ) (b : Bool) → n ≡ once b + m → 1 ≤ m → n ≡ 1 → m ≡ 1
  rest n m true e k o = absurd (omega arith)
  rest n m false e k o = omega arith

  pub one_place : (qs : List Piece) (i j : ℕ) → starts_at p (ways_of qs) ≡ 1 → i < length qs → j < length qs
      → is_same_point p (point_of (piece_at qs i).from) ≡ true
      → is_same_point p (point_of (piece_at qs j).from) ≡ true → i ≡ j
  one_place [] i j o l m h k = absurd (omega arith)
  one_place (q ∷ qs) zero zero o l m h k = refl
  one_place (q ∷ qs) zero (suc j) o l m h k =
      absurd (two _ (starts_at p (ways_of qs)) (is_same_point p (point_of q.from))
      (starts-cons p (way_of q) (ways_of qs)) h (some_start qs j (omega arith) k) o)
  one_place (q ∷ qs) (suc i) zero o l m h k =
      absurd (two _ (starts_at p (ways_of qs)) (is_same_point p (point_of q.from))
      (starts-cons p (way_of q) (ways_of qs)) k (some_start qs i (omega arith) h) o)
  one_place (q ∷ qs) (suc i) (suc j) o l m h k =
      ap suc (one_place qs i j
      (rest _ (starts_at p (ways_of qs)) (is_same_point p (point_of q.from)) (starts-cons p (way_of q) (ways_of qs))
      (some_start qs i (omega arith) h) o)
      (omega arith) (omega arith) h k)

-- ---- the joint at the end of a piece
module _ (pieces : List Piece) (place : ℕ) (at : End) (to : at.spot ≡ (piece_at pieces place).to)
    (comparable : All (IsComparable (piece_at pieces place).to) pieces) (starts ends : List End) (s : AreInOrder true pieces starts) (e : AreInOrder false pieces ends) where
  abbrev q : Piece
  q = piece_at pieces place

  fits : All (IsComparable at.spot) pieces
  fits = subst (λ (t : Spot). All (IsComparable t) pieces) (sym to) comparable

  ends_there : times_at at ends ≡ ends_at (point_of q.to) (ways_of pieces)
  ends_there = ends_counted at pieces fits ends e.of ∙ ap (λ (t : Spot). ends_at (point_of t) (ways_of pieces)) to

  starts_there : times_at at starts ≡ starts_at (point_of q.to) (ways_of pieces)
  starts_there = starts_counted at pieces fits starts s.of
      ∙ ap (λ (t : Spot). starts_at (point_of t) (ways_of pieces)) to

  pub no_end : (times_at at ends ≡ 1 → ⊥) → IsStuck pieces q
  no_end none passed = absurd (none (ends_there ∙ passed.one_ends))

  pub no_start : (times_at at starts ≡ 1 → ⊥) → IsStuck pieces q
  no_start none passed = absurd (none (starts_there ∙ passed.one_starts))

  module _ (next : ℕ) (alone : IsAlone at starts next) where
    pub once_passed : times_at at ends ≡ 1 → IsPassedOnce pieces q.to
    once_passed one = record { one_ends = sym ends_there ∙ one; one_starts = sym starts_there ∙ alone.one }

    of : IsEndOf true pieces (get_or starts alone.k at)
    of = s.of.each alone.k at alone.there

    pub inside : next < length pieces
    inside = let a = of.there in let b = alone.is at in omega arith

    from : (get_or starts alone.k at).spot ≡ (piece_at pieces next).from
    from = of.is ∙ ap (λ (n : ℕ). (piece_at pieces n).from) (alone.is at)

    starts_here : is_same_spot q.to (piece_at pieces next).from ≡ true
    starts_here =
        let r : IsComparable at.spot (piece_at pieces next) = fits next no_piece inside in
        subst (λ (t : Spot). is_same_spot t (piece_at pieces next).from ≡ true) to
        (sym (tied_is at (piece_at pieces next).from r.within.from r.from)
        ∙ subst (λ (t : Spot). is_eq (spot_cmp at.spot t) ≡ true) from (alone.tied at))

    -- another piece that starts there would be a second one
    pub goes_nowhere : (GoesOn q (piece_at pieces next) → ⊥) → IsStuck pieces q
    goes_nowhere off passed k d l g =
        let on : GoesOn q (piece_at pieces k) = subst (GoesOn q) (get_or_default pieces k d no_piece l) g in
        let same : k ≡ next = one_place (point_of q.to) pieces k next passed.one_starts l inside on.meet starts_here in
        off (subst (λ (n : ℕ). GoesOn q (piece_at pieces n)) same on)

    pub goes_next : GoesOn q (piece_at pieces next) → IsNext q pieces next
    goes_next on = record {
      there = inside;
      on
          = λ d. subst (GoesOn q) (get_or_default pieces next no_piece d inside) on;
    }
