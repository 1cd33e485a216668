-- An edge whose ends coincide may be left out.
use Rattle.std.proofs.Common.{◌≡◌, ℕ, ◌+◌, Bool, true, false, not, cond, List, [], ◌∷◌, refl, sym, ap, ◌∙◌, arith}
use lib.IntN.{ℤ, pos, ◌+ℤ◌, +ℤ_idl}
use lib.Signed.{◌<ℤ◌}
use Rattle.std.specs.Prelude.{filter}
use Rattle.std.proofs.lemmas.Int.{ints}
use Rattle.scad_geom.specs.declared.point.Edge.{Edge}
use Rattle.scad_geom.specs.Point.{Point, whole, is_same_point}
use Rattle.scad_geom.specs.Segment.{segment_of, segments}
use Rattle.scad_geom.specs.Winding.{turn, wind_by}
use Rattle.scad_geom.specs.Balance.{starts_at, ends_at}
use Rattle.scad_geom.proofs.Balance.{once, starts-cons, ends-cons}
use Rattle.scad_geom.proofs.Turns.{flat_turn}
use Rattle.winding_laws.specs.RoundedEnds.{LengthsKeepBalance, LengthsKeepWinding}
use Rattle.winding_laws.specs.Edges.{has_length}
use Rattle.winding_laws.proofs.Sameness.{same_itself, same_through, turn_same}

-- ---- balance
module _ (p : Point) (d : pos 0 <ℤ p.d) where
  abbrev started : List Edge → ℕ
  started es = starts_at p (segments es)

  abbrev ended : List Edge → ℕ
  ended es = ends_at p (segments es)

  dropped : (m n s t x y a b : ℕ) → a ≡ s + x → b ≡ t + y → s ≡ t → m + a ≡ n + b → m + x ≡ n + y
  dropped m n s t x y a b ha hb e h = omega arith

  kept : (m n s t x y a b : ℕ) → a ≡ s + x → b ≡ t + y → m + a ≡ n + b → (m + s) + x ≡ (n + t) + y
  kept m n s t x y a b ha hb h = omega arith

  back : (m n s t x y a b : ℕ) → a ≡ s + x → b ≡ t + y → (m + s) + x ≡ (n + t) + y → m + a ≡ n + b
  back m n s t x y a b ha hb h = omega arith

  lengths : (es : List Edge) (m n : ℕ) → m + started es ≡ n + ended es → m + started (filter has_length es)
      ≡ n + ended (filter has_length es)
  lengths [] m n h = h
  lengths (e ∷ es) m n h = by_test (is_same_point (whole e.a) (whole e.b)) refl (λ k l g. lengths es k l g)
    where
      by_test : (t : Bool) → is_same_point (whole e.a) (whole e.b) ≡ t
          → ((k l : ℕ) → k + started es ≡ l + ended es
          → k + started (filter has_length es) ≡ l + ended (filter has_length es))
          → m + started (cond (not t) (e ∷ filter has_length es) (filter has_length es))
          ≡ n + ended (cond (not t) (e ∷ filter has_length es) (filter has_length es))
      by_test true t more =
          more m n
          (dropped m n (once (is_same_point p (whole e.a))) (once (is_same_point p (whole e.b))) (started es) (ended es)
          (started (e ∷ es)) (ended (e ∷ es))
          (starts-cons p (segment_of e) (segments es)) (ends-cons p (segment_of e) (segments es))
          (ap once (same_through p (whole e.a) (whole e.b) (omega (arith, ints)) (omega (arith, ints)) t)) h)
      by_test false t more =
          back m n (once (is_same_point p (whole e.a))) (once (is_same_point p (whole e.b)))
          (started (filter has_length es)) (ended (filter has_length es)) (started (e ∷ filter has_length es))
          (ended (e ∷ filter has_length es))
          (starts-cons p (segment_of e) (segments (filter has_length es)))
          (ends-cons p (segment_of e) (segments (filter has_length es)))
          (more (m + once (is_same_point p (whole e.a))) (n + once (is_same_point p (whole e.b)))
          (kept m n (once (is_same_point p (whole e.a))) (once (is_same_point p (whole e.b))) (started es) (ended es)
          (started (e ∷ es)) (ended (e ∷ es))
          (starts-cons p (segment_of e) (segments es)) (ends-cons p (segment_of e) (segments es)) h))

from_nothing : (m n : ℕ) → m ≡ n → 0 + m ≡ 0 + n
from_nothing m n h = omega arith

to_nothing : (m n : ℕ) → 0 + m ≡ 0 + n → m ≡ n
to_nothing m n h = omega arith

pub lengths_keep_balance : LengthsKeepBalance
lengths_keep_balance es b = record {
  each = λ p d. to_nothing _ _ (lengths p d es 0 0 (from_nothing (starts_at p (segments es)) (ends_at p (segments es))
      (b.each p d)));
}

-- ---- winding
-- a segment from a point to itself doesn't turn
pub empty_turn : (above right : Bool) (q a b : Point) → pos 0 <ℤ q.d → pos 0 <ℤ a.d → pos 0 <ℤ b.d
    → is_same_point a b ≡ true → turn above right q a b ≡ pos 0
empty_turn above right q a b dq da db h = sym (turn_same above right q a a a b dq da da da db (same_itself a) h) ∙
    flat_turn above right q a a refl

pub lengths_keep_winding : LengthsKeepWinding
lengths_keep_winding [] above right q d = refl
lengths_keep_winding (e ∷ es) above right q d = by_test (is_same_point (whole e.a) (whole e.b)) refl
    (lengths_keep_winding es above right q d)
  where
    by_test : (t : Bool) → is_same_point (whole e.a) (whole e.b) ≡ t
        → wind_by above right q (segments (filter has_length es)) ≡ wind_by above right q (segments es)
        → wind_by above right q (segments (cond (not t) (e ∷ filter has_length es) (filter has_length es)))
        ≡ wind_by above right q (segments (e ∷ es))
    by_test true t h =
        h ∙ sym (+ℤ_idl (wind_by above right q (segments es)))
        ∙ ap (λ (z : ℤ). z +ℤ wind_by above right q (segments es))
        (sym (empty_turn above right q (whole e.a) (whole e.b) d (omega (arith, ints)) (omega (arith, ints)) t))
    by_test false t h = ap (λ (z : ℤ). turn above right q (whole e.a) (whole e.b) +ℤ z) h
