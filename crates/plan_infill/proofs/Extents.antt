-- The least and the greatest coordinate of sides, found one side after another, and that outlines don't wind round what
-- lies beyond them.
use Rattle.std.proofs.Common.{◌≡◌, ◌⊎◌, inl, inr, ◌≤◌, ◌<◌, ◌+◌, ℕ, Bool, true, false, cond, List, length, take, get_or, refl}
use Rattle.std.proofs.Common.{sym, subst, flat_map, arith, ℤ, pos, ◌-ℤ◌, ◌<ℤ◌}
use lib.Signed.{◌≤ℤ◌}
use Rattle.std.specs.Prelude.{All, int_lt, if◌then◌else◌}
use Rattle.std.specs.Int.{int_min, int_max}
use Rattle.std.proofs.lemmas.Int.{ints}
use Rattle.std.proofs.lemmas.List.Elements.{All-more, All-weaker}
use Rattle.scad_geom.specs.declared.point.Pt.{Pt}
use Rattle.scad_geom.specs.declared.point.Edge.{Edge}
use Rattle.scad_geom.specs.Point.{whole}
use Rattle.scad_geom.specs.Segment.{segments}
use Rattle.scad_geom.specs.Loop.{sides}
use Rattle.scad_geom.specs.Winding.{wind}
use Rattle.scad_geom.specs.Within.{IsWithin, IsEdgeWithin}
use Rattle.plan_sides.proofs.Within.{outlines_within}
use Rattle.plan_infill.specs.declared.line.Line.{Line}
use Rattle.plan_infill.specs.declared.line.Line.TheVariants.{Row, Column}
use Rattle.plan_infill.specs.Extent.{across, IsAmong, IsEdgeAmong}
use Rattle.plan_infill.specs.Runs.{point_on}
use Rattle.plan_infill.proofs.Beyond.{below_all, above_all, left_of_all, right_of_all}

-- the lesser and the greater of two numbers
pub record IsLesser (x y m : ℤ) : Type 0 where
  pub first : m ≤ℤ x
  pub second : m ≤ℤ y
  pub greatest : (z : ℤ) → z ≤ℤ x → z ≤ℤ y → z ≤ℤ m

pub record IsGreater (x y m : ℤ) : Type 0 where
  pub first : x ≤ℤ m
  pub second : y ≤ℤ m
  pub least : (z : ℤ) → x ≤ℤ z → y ≤ℤ z → m ≤ℤ z

pub lesser : (x y m : ℤ) → m ≡ int_min x y → IsLesser x y m
lesser x y m e = subst (IsLesser x y) (sym e) (by_test (int_lt y x) refl)
  where
    by_test : (t : Bool) → int_lt y x ≡ t → IsLesser x y (cond t y x)
    by_test true q = record { first = omega (arith, ints); second = omega (arith, ints); greatest = λ z h k. k }
    by_test false q = record { first = omega (arith, ints); second = omega (arith, ints); greatest = λ z h k. h }

pub greater : (x y m : ℤ) → m ≡ int_max x y → IsGreater x y m
greater x y m e = subst (IsGreater x y) (sym e) (by_test (int_lt y x) refl)
  where
    by_test : (t : Bool) → int_lt y x ≡ t → IsGreater x y (cond t x y)
    by_test true q = record { first = omega (arith, ints); second = omega (arith, ints); least = λ z h k. h }
    by_test false q = record { first = omega (arith, ints); second = omega (arith, ints); least = λ z h k. k }

-- the extent with one more side
pub extent_more : (rows : Bool) (es : List Edge) (i : ℕ) (d : Edge) (low high low1 high1 low2 high2 a b : ℤ)
    → i < length es
    → a ≡ across rows (get_or es i d).a → b ≡ across rows (get_or es i d).b
    → IsLesser low a low1 → IsGreater high a high1 → IsLesser low1 b low2 → IsGreater high1 b high2
    → All (IsEdgeAmong rows low high) (take i es) → All (IsEdgeAmong rows low2 high2) (take (i + 1) es)
extent_more rows es i d low high low1 high1 low2 high2 a b h ea eb l1 h1 l2 h2 all =
    let p = l1.first in
    let q = l1.second in
    let r = l2.first in
    let s = l2.second in
    let t = h1.first in
    let u = h1.second in
    let v = h2.first in
    let w = h2.second in
    All-more (IsEdgeAmong rows low2 high2) es i d h
    (All-weaker (IsEdgeAmong rows low high) (IsEdgeAmong rows low2 high2)
    (λ e k. let f = k.a.from in let g = k.a.to in let m = k.b.from in let n = k.b.to in record {
      a = record { from = omega (arith, ints); to = omega (arith, ints) };
      b = record { from = omega (arith, ints); to = omega (arith, ints) };
    })
    (take i es) all)
    (record {
      a = subst (IsAmong low2 high2) ea (record { from = omega (arith, ints); to = omega (arith, ints) });
      b = subst (IsAmong low2 high2) eb (record { from = omega (arith, ints); to = omega (arith, ints) });
    })

-- what lies within a limit lies between it and its negative across the lines
pub point_among : (rows : Bool) (limit : ℕ) (p : Pt) → IsWithin limit p
    → IsAmong (pos 0 -ℤ pos limit) (pos limit) (across rows p)
point_among true limit p w = let h = w.y in record { from = omega (arith, ints, h); to = omega (arith, ints, h) }
point_among false limit p w = let h = w.x in record { from = omega (arith, ints, h); to = omega (arith, ints, h) }

pub edges_among : (rows : Bool) (limit : ℕ) (es : List Edge) → All (IsEdgeWithin limit) es
    → All (IsEdgeAmong rows (pos 0 -ℤ pos limit) (pos limit)) es
edges_among rows limit es all =
    All-weaker (IsEdgeWithin limit) (IsEdgeAmong rows (pos 0 -ℤ pos limit) (pos limit))
    (λ e w. record { a = point_among rows limit e.a w.a; b = point_among rows limit e.b w.b }) es all

-- a greater limit
pub wider : (m n : ℕ) → m ≤ n → (p : Pt) → IsWithin m p → IsWithin n p
wider m n o p w = let x = w.x in let y = w.y in record { x = omega (arith, o, x); y = omega (arith, o, y) }

pub edges_wider : (m n : ℕ) → m ≤ n → (es : List Edge) → All (IsEdgeWithin m) es → All (IsEdgeWithin n) es
edges_wider m n o es all =
    All-weaker (IsEdgeWithin m) (IsEdgeWithin n)
    (λ e w. record { a = wider m n o e.a w.a; b = wider m n o e.b w.b }) es all

-- edges that are the sides of outlines lie within the limit of these
pub sides_within : (limit : ℕ) (outlines : List (List Pt)) (es : List Edge) → es ≡ flat_map sides outlines
    → All (λ l. All (IsWithin limit) l) outlines → All (IsEdgeWithin limit) es
sides_within limit outlines es e w =
    subst (λ (ds : List Edge). All (IsEdgeWithin limit) ds) (sym e) (outlines_within limit outlines w)

-- ---- beyond all sides
abbrev pub line_by : Bool → ℤ → Line
line_by rows z = if rows then Row z else Column z

module _ (outlines : List (List Pt)) where
  pub none_beyond : (rows : Bool) (low high z t : ℤ) → (z <ℤ low) ⊎ (high <ℤ z)
      → All (IsEdgeAmong rows low high) (flat_map sides outlines)
      → wind (whole (point_on (line_by rows z) t)) (segments (flat_map sides outlines)) ≡ pos 0
  none_beyond true low high z t (inl o) k =
      below_all t z (flat_map sides outlines)
      (All-weaker (IsEdgeAmong true low high) (λ e. (z <ℤ e.a.y) × (z <ℤ e.b.y))
      (λ e h. let f : low ≤ℤ e.a.y = h.a.from in let g : low ≤ℤ e.b.y = h.b.from in
      (omega (arith, ints, f, o), omega (arith, ints, g, o)))
      (flat_map sides outlines) k)
  none_beyond true low high z t (inr o) k =
      above_all t z (flat_map sides outlines)
      (All-weaker (IsEdgeAmong true low high) (λ e. (e.a.y ≤ℤ z) × (e.b.y ≤ℤ z))
      (λ e h. let f : e.a.y ≤ℤ high = h.a.to in let g : e.b.y ≤ℤ high = h.b.to in
      (omega (arith, ints, f, o), omega (arith, ints, g, o)))
      (flat_map sides outlines) k)
  none_beyond false low high z t (inl o) k =
      left_of_all z t outlines
      (All-weaker (IsEdgeAmong false low high) (λ e. (z <ℤ e.a.x) × (z <ℤ e.b.x))
      (λ e h. let f : low ≤ℤ e.a.x = h.a.from in let g : low ≤ℤ e.b.x = h.b.from in
      (omega (arith, ints, f, o), omega (arith, ints, g, o)))
      (flat_map sides outlines) k)
  none_beyond false low high z t (inr o) k =
      right_of_all z t (flat_map sides outlines)
      (All-weaker (IsEdgeAmong false low high) (λ e. (e.a.x ≤ℤ z) × (e.b.x ≤ℤ z))
      (λ e h. let f : e.a.x ≤ℤ high = h.a.to in let g : e.b.x ≤ℤ high = h.b.to in
      (omega (arith, ints, f, o), omega (arith, ints, g, o)))
      (flat_map sides outlines) k)
