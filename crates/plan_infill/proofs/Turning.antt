-- The turn of an edge round a whole point, by the heights between its ends and the side of its line.
use Rattle.std.proofs.Common.{◌≡◌, Bool, true, false, refl, ap, ap₂, ◌∙◌, arith, ℤ, pos, negsuc, ◌-ℤ◌, ◌<ℤ◌, cond}
use lib.Signed.{◌≤ℤ◌}
use Rattle.std.specs.Prelude.{int_lt, if◌then◌else◌}
use Rattle.std.proofs.lemmas.Int.{ints}
use Rattle.scad_geom.specs.declared.point.Pt.{Pt}
use Rattle.scad_geom.specs.declared.point.Edge.{Edge}
use Rattle.scad_geom.specs.Line.{low, high, rise, left_of, heading}
use Rattle.scad_geom.specs.Point.{whole}
use Rattle.scad_geom.specs.Level.{level_of}
use Rattle.scad_geom.specs.Winding.{counted, is_over, passage_by, turn}
use Rattle.scad_geom.proofs.Heights.{Reaches}
use Rattle.scad_geom.proofs.Turns.{over_true, over_false, reaching_turn, under_turn, over_turn}
use Rattle.scad_geom.proofs.CommonDivisor.{beyond_is}

abbrev pub at : ℤ → ℤ → Pt
at x y = record { x = x; y = y }

abbrev pub turn_at : ℤ → ℤ → Edge → ℤ
turn_at x y e = turn true true (whole (at x y)) (whole e.a) (whole e.b)

-- at the heights from the lower end on and before the upper one it turns by its heading, where the point lies to its
-- left
pub turn_between : (x y : ℤ) (e : Edge) → (low e).y ≤ℤ y → y <ℤ (high e).y
    → turn_at x y e ≡ (if int_lt (pos 0) (left_of e x y (pos 1)) then heading e else pos 0)
unfolding rise
turn_between x y e h k =
    let one : pos 0 <ℤ pos 1 = omega (arith, ints) in
    let r : Reaches e (level_of (low e).y) (level_of (high e).y) = record { rises = omega (arith, ints); from = omega (arith, ints); to = omega (arith, ints) } in
    let t = reaching_turn true true (whole (at x y)) e (level_of (low e).y) (level_of (high e).y) one one one r (omega (arith, ints), omega (arith, ints)) in
    t ∙ ap (λ (b : Bool). if b then heading e else pos 0) (beyond_is (left_of e x y (pos 1)))

-- at others it doesn't
pub turn_below : (x y : ℤ) (e : Edge) → y <ℤ (low e).y → turn_at x y e ≡ pos 0
unfolding low
turn_below x y e h = by_test (int_lt e.b.y e.a.y) refl h
  where
    by_test : (t : Bool) → int_lt e.b.y e.a.y ≡ t → y <ℤ (cond t e.b e.a).y → turn_at x y e ≡ pos 0
    by_test true q h = over_turn true true (whole (at x y)) e (omega (arith, ints)) (omega (arith, ints))
    by_test false q h = over_turn true true (whole (at x y)) e (omega (arith, ints)) (omega (arith, ints))

pub turn_above : (x y : ℤ) (e : Edge) → (high e).y ≤ℤ y → turn_at x y e ≡ pos 0
unfolding high
turn_above x y e h = by_test (int_lt e.b.y e.a.y) refl h
  where
    by_test : (t : Bool) → int_lt e.b.y e.a.y ≡ t → (cond t e.a e.b).y ≤ℤ y → turn_at x y e ≡ pos 0
    by_test true q h = under_turn true true (whole (at x y)) e (omega (arith, ints)) (omega (arith, ints))
    by_test false q h = under_turn true true (whole (at x y)) e (omega (arith, ints)) (omega (arith, ints))

-- how it passes these heights
abbrev pub passage_at : ℤ → ℤ → Edge → ℤ
passage_at x y e = passage_by true (whole (at x y)) (whole e.a) (whole e.b)

passage_of : (x y : ℤ) (e : Edge) (a b : Bool) → is_over true (whole (at x y)) (whole e.a) ≡ a
    → is_over true (whole (at x y)) (whole e.b) ≡ b → passage_at x y e ≡ counted b -ℤ counted a
unfolding passage_by
passage_of x y e a b p q = ap₂ (λ (m n : Bool). counted n -ℤ counted m) p q

pub passage_between : (x y : ℤ) (e : Edge) → (low e).y ≤ℤ y → y <ℤ (high e).y
    → passage_at x y e ≡ heading e
unfolding low high
passage_between x y e h k = by_test (int_lt e.b.y e.a.y) refl h k
  where
    by_test : (t : Bool) → int_lt e.b.y e.a.y ≡ t → (cond t e.b e.a).y ≤ℤ y → y <ℤ (cond t e.a e.b).y
        → passage_at x y e ≡ (if t then negsuc 0 else pos 1)
    by_test true q h k = passage_of x y e true false (over_true true (whole (at x y)) (whole e.a) (omega (arith, ints)))
        (over_false true (whole (at x y)) (whole e.b) (omega (arith, ints)))
    by_test false q h k = passage_of x y e false true
        (over_false true (whole (at x y)) (whole e.a) (omega (arith, ints)))
        (over_true true (whole (at x y)) (whole e.b) (omega (arith, ints)))

pub passage_below : (x y : ℤ) (e : Edge) → y <ℤ (low e).y → passage_at x y e ≡ pos 0
unfolding low
passage_below x y e h = by_test (int_lt e.b.y e.a.y) refl h
  where
    by_test : (t : Bool) → int_lt e.b.y e.a.y ≡ t → y <ℤ (cond t e.b e.a).y → passage_at x y e ≡ pos 0
    by_test true q h = passage_of x y e true true (over_true true (whole (at x y)) (whole e.a) (omega (arith, ints)))
        (over_true true (whole (at x y)) (whole e.b) (omega (arith, ints)))
    by_test false q h = passage_of x y e true true (over_true true (whole (at x y)) (whole e.a) (omega (arith, ints)))
        (over_true true (whole (at x y)) (whole e.b) (omega (arith, ints)))

pub passage_above : (x y : ℤ) (e : Edge) → (high e).y ≤ℤ y → passage_at x y e ≡ pos 0
unfolding high
passage_above x y e h = by_test (int_lt e.b.y e.a.y) refl h
  where
    by_test : (t : Bool) → int_lt e.b.y e.a.y ≡ t → (cond t e.a e.b).y ≤ℤ y → passage_at x y e ≡ pos 0
    by_test true q h = passage_of x y e false false (over_false true (whole (at x y)) (whole e.a) (omega (arith, ints)))
        (over_false true (whole (at x y)) (whole e.b) (omega (arith, ints)))
    by_test false q h = passage_of x y e false false
        (over_false true (whole (at x y)) (whole e.a) (omega (arith, ints)))
        (over_false true (whole (at x y)) (whole e.b) (omega (arith, ints)))
