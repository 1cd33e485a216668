-- A level has stops, and where no flat edge lies on it, no pieces.
use Rattle.std.proofs.Common.{◌≡◌, ℕ, Bool, true, false, List, [], ◌∷◌, ◌++◌, length, refl, sym, ap, ◌∙◌, arith, inl, inr}
use lib.IntN.{ℤ, pos, ◌*ℤ◌}
use lib.Signed.{◌<ℤ◌}
use Rattle.std.specs.Prelude.{int_lt, if◌then◌else◌, Option, None, ◌<◌, ◌==◌}
use Rattle.std.specs.List.{AllByRecursion, position}
use Rattle.std.proofs.lemmas.Int.{ints}
use Rattle.std.proofs.lemmas.List.{append-nil}
use Rattle.scad_geom.specs.declared.level.Level.{Level}
use Rattle.scad_geom.specs.declared.level.LeafEdge.{LeafEdge}
use Rattle.scad_geom.specs.declared.shape.Shape.{Shape}
use Rattle.slice_pieces.specs.declared.piece.Spot.{Spot}
use Rattle.slice_pieces.specs.declared.piece.Piece.{Piece}
use Rattle.slice_border.specs.Flats.{flats_from, first_cover}
use Rattle.slice_bool.specs.Parts.{AreOnLevel, Extends}
use Rattle.slice_border.specs.Pieces.{IsLeft, IsSameAcross, GoRight, HasSpot, IsOneOf, AreStops, spots_at, covers, stretch_piece, flat_pieces}
use Rattle.slice_border.proofs.Flats.{flats_cover}
use Rattle.slice_border.proofs.Winding.{IsSpotAt, stops_at}

-- ---- spots in order, each place once
abbrev comes : Spot → Spot → Bool
comes s t = int_lt (s.x *ℤ pos t.run) (t.x *ℤ pos s.run)

abbrev put_in : Spot → List Spot → List Spot
put_in s [] = s ∷ []
put_in s (t ∷ ts) = if comes s t then s ∷ (t ∷ ts) else if comes t s then t ∷ put_in s ts else t ∷ ts

abbrev in_order : List Spot → List Spot
in_order [] = []
in_order (s ∷ ss) = put_in s (in_order ss)

less : (x y : ℤ) → int_lt x y ≡ true → x <ℤ y
less x y h = omega (arith, ints)

neither : (x y : ℤ) → int_lt x y ≡ false → int_lt y x ≡ false → y ≡ x
neither x y h k = omega (arith, ints)

is_left : (s t : Spot) → comes s t ≡ true → IsLeft s t
is_left s t h = less (s.x *ℤ pos t.run) (t.x *ℤ pos s.run) h

is_same : (s t : Spot) → comes s t ≡ false → comes t s ≡ false → IsSameAcross t s
is_same s t h k = neither (s.x *ℤ pos t.run) (t.x *ℤ pos s.run) h k

right_behind : (t s : Spot) (ts : List Spot) → IsLeft t s → GoRight (t ∷ ts) → GoRight (t ∷ put_in s ts)
right_behind t s [] o g = (o, tt)
right_behind t s (u ∷ us) o g = by_tests (comes s u) (comes u s) refl refl (λ p. right_behind u s us p g.1)
  where
    by_tests : (a b : Bool) → comes s u ≡ a → comes u s ≡ b → (IsLeft u s → GoRight (u ∷ put_in s us))
        → GoRight (t ∷ (if a then s ∷ (u ∷ us) else if b then u ∷ put_in s us else u ∷ us))
    by_tests true b p q k = (o, (is_left s u p, g.1))
    by_tests false true p q k = (g.0, k (is_left u s q))
    by_tests false false p q k = g

right_in : (s : Spot) (ts : List Spot) → GoRight ts → GoRight (put_in s ts)
right_in s [] g = tt
right_in s (t ∷ ts) g = by_tests (comes s t) (comes t s) refl refl
  where
    by_tests : (a b : Bool) → comes s t ≡ a → comes t s ≡ b
        → GoRight (if a then s ∷ (t ∷ ts) else if b then t ∷ put_in s ts else t ∷ ts)
    by_tests true b p q = (is_left s t p, g)
    by_tests false true p q = right_behind t s ts (is_left t s q) g
    by_tests false false p q = g

all_right : (ss : List Spot) → GoRight (in_order ss)
all_right [] = tt
all_right (s ∷ ss) = right_in s (in_order ss) (all_right ss)

-- ---- none is lost
has_own : (s : Spot) (ts : List Spot) → HasSpot (put_in s ts) s
has_own s [] = inl refl
has_own s (t ∷ ts) = by_tests (comes s t) (comes t s) refl refl (has_own s ts)
  where
    by_tests : (a b : Bool) → comes s t ≡ a → comes t s ≡ b → HasSpot (put_in s ts) s
        → HasSpot (if a then s ∷ (t ∷ ts) else if b then t ∷ put_in s ts else t ∷ ts) s
    by_tests true b p q k = inl refl
    by_tests false true p q k = inr k
    by_tests false false p q k = inl (is_same s t p q)

has_kept : (s : Spot) (ts : List Spot) (x : Spot) → HasSpot ts x → HasSpot (put_in s ts) x
has_kept s [] x h = absurd h
has_kept s (t ∷ ts) x h = by_tests (comes s t) (comes t s) (has_kept s ts x)
  where
    by_tests : (a b : Bool) → (HasSpot ts x → HasSpot (put_in s ts) x)
        → HasSpot (if a then s ∷ (t ∷ ts) else if b then t ∷ put_in s ts else t ∷ ts) x
    by_tests true b k = inr h
    by_tests false true k = elim h [
      | inl a ↦ inl a
      | inr a ↦ inr (k a)
    ]
    by_tests false false k = h

weaker : (P Q : Spot → Type 0) (xs : List Spot) → ((x : Spot) → P x → Q x) → AllByRecursion P xs
    → AllByRecursion Q xs
weaker P Q [] f a = tt
weaker P Q (x ∷ xs) f a = (f x a.0, weaker P Q xs f a.1)

all_there : (ss : List Spot) → AllByRecursion (HasSpot (in_order ss)) ss
all_there [] = tt
all_there (s ∷ ss) = (
  has_own s (in_order ss),
  weaker (HasSpot (in_order ss)) (HasSpot (put_in s (in_order ss))) ss (has_kept s (in_order ss)) (all_there ss),
)

-- ---- none is new
one_in : (all : List Spot) (s : Spot) (ts : List Spot) → IsOneOf all s → AllByRecursion (IsOneOf all) ts
    → AllByRecursion (IsOneOf all) (put_in s ts)
one_in all s [] o a = (o, tt)
one_in all s (t ∷ ts) o a = by_tests (comes s t) (comes t s) (one_in all s ts o a.1)
  where
    by_tests : (b c : Bool) → AllByRecursion (IsOneOf all) (put_in s ts)
        → AllByRecursion (IsOneOf all) (if b then s ∷ (t ∷ ts) else if c then t ∷ put_in s ts else t ∷ ts)
    by_tests true c k = (o, a)
    by_tests false true k = (a.0, k)
    by_tests false false k = a

all_ones : (ss : List Spot) → AllByRecursion (IsOneOf ss) (in_order ss)
all_ones [] = tt
all_ones (s ∷ ss) = one_in (s ∷ ss) s (in_order ss) (inl refl)
    (weaker (IsOneOf ss) (IsOneOf (s ∷ ss)) (in_order ss) (λ x o. inr o) (all_ones ss))

some_stops : (es : List LeafEdge) (at : Level) → AreStops es at (in_order (spots_at es at))
some_stops es at = record {
  rightwards = all_right (spots_at es at);
  sound = all_ones (spots_at es at);
  complete = all_there (spots_at es at);
}

-- ---- where no flat edge lies on the level, no stretch is covered
none_covered : (es : List LeafEdge) (shape : Shape) (at : Level) → flats_from 0 es at ≡ [] → (ss : List Spot)
    → AllByRecursion (IsSpotAt at) ss → flat_pieces es shape ss ≡ []
none_covered es shape at h [] a = refl
none_covered es shape at h (s ∷ []) a = refl
none_covered es shape at h (s ∷ (t ∷ ss)) a =
    let none : position (covers s t) es ≡ None = sym (flats_cover es s t)
    ∙ ap (λ (at : Level). first_cover es s t (flats_from 0 es at)) a.0.at ∙ ap (first_cover es s t) h in
    ap (λ (name : Option ℕ). stretch_piece es shape s t name ++ flat_pieces es shape (t ∷ ss)) none
    ∙ none_covered es shape at h (t ∷ ss) a.1

pub without_flats : (es : List LeafEdge) (shape : Shape) (at : Level) (pieces : List Piece)
    → flats_from 0 es at ≡ [] → Extends (AreOnLevel es shape at) pieces pieces
without_flats es shape at pieces h =
    let ss : List Spot = in_order (spots_at es at) in
    let stops : AreStops es at ss = some_stops es at in
    ([], (ss, stops, sym (none_covered es shape at h ss (stops_at es at ss stops))), sym (append-nil pieces))

pub empty_list : (ks : List ℕ) → length ks ≡ 0 → ks ≡ []
empty_list [] h = refl
empty_list (k ∷ ks) h = absurd (omega arith)

pub some_number : (n : ℕ) → (n == 0) ≡ false → 0 < n
some_number n h = grind arith
