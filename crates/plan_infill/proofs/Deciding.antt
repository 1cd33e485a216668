-- Whether a whole point of a line is deep inside outlines is decided.
use Rattle.std.proofs.Common.{◌≡◌, ◌≢◌, ◌⊎◌, inl, inr, ℕ, Bool, true, false, List, [], ◌∷◌, refl, sym, ap, ◌∙◌}
use Rattle.std.proofs.Common.{flat_map, arith, ℤ, pos, ◌+ℤ◌, ◌-ℤ◌, ◌*ℤ◌, ◌<ℤ◌}
use lib.Signed.{◌≤ℤ◌}
use Rattle.std.specs.Int.{int_min, int_max}
use Rattle.std.specs.List.{AllByRecursion}
use Rattle.std.proofs.lemmas.Int.{ints}
use Rattle.std.proofs.lemmas.Bool.{false≢true, both_ways}
use Rattle.std.proofs.lemmas.List.Elements.{recursion_from_All, All-from_recursion}
use Rattle.scad_geom.specs.declared.point.Pt.{Pt}
use Rattle.scad_geom.specs.declared.point.Edge.{Edge}
use Rattle.scad_geom.specs.Line.{low, high, rise, x_at}
use Rattle.scad_geom.specs.Point.{whole}
use Rattle.scad_geom.specs.Segment.{segments}
use Rattle.scad_geom.specs.Loop.{sides}
use Rattle.scad_geom.specs.Sign.{is_zero}
use Rattle.scad_geom.specs.Winding.{wind}
use Rattle.scad_geom.proofs.Rising.{order}
use Rattle.scad_geom.proofs.Signs.{zero_true}
use Rattle.scad_ring.specs.Octagon.{reach}
use Rattle.plan_infill.specs.declared.line.Line.{Line}
use Rattle.plan_infill.specs.declared.line.Line.TheVariants.{Row, Column}
use Rattle.plan_infill.specs.Runs.{IsDeep, point_on}
use Rattle.plan_infill.specs.Reach.{line_reach, is_beside, exchanged, IsAround, IsBesideEnds, IsBesideLine, IsInReach}
use Rattle.plan_infill.specs.Steps.{ComesNear, IsApart}
use Rattle.plan_infill.proofs.RowReach.{comes, told, exchange, exchange_back, apart_if, not_near}

-- it holds, or it doesn't
abbrev pub IsDecided : Type 0 → Type 0
IsDecided P = P ⊎ (P → ⊥)

-- what was decided
abbrev pub holds : {P : Type 0} → IsDecided P → Bool
holds (inl p) = true
holds (inr n) = false

pub held : {P : Type 0} (d : IsDecided P) → holds d ≡ true → P
held (inl p) e = p
held (inr n) e = absurd (false≢true e)

pub holding : {P : Type 0} (d : IsDecided P) → P → holds d ≡ true
holding (inl p) q = refl
holding (inr n) q = absurd (n q)

pub failing : {P : Type 0} (d : IsDecided P) → (P → ⊥) → holds d ≡ false
failing (inl p) n = absurd (n p)
failing (inr n) m = refl

-- ---- one edge
is_around : (w a b z : ℤ) → IsDecided (IsAround w a b z)
is_around w a b z = by_cases (order z (int_min a b -ℤ w)) (order (int_max a b +ℤ w) z)
  where
    by_cases : (z ≤ℤ (int_min a b -ℤ w)) ⊎ ((int_min a b -ℤ w) <ℤ z)
        → ((int_max a b +ℤ w) ≤ℤ z) ⊎ (z <ℤ (int_max a b +ℤ w)) → IsDecided (IsAround w a b z)
    by_cases (inl a) b = inr (λ i. let f = i.from in omega (arith, ints, f, a))
    by_cases (inr a) (inl b) = inr (λ i. let f = i.to in omega (arith, ints, f, b))
    by_cases (inr a) (inr b) = inl (record { from = a; to = b })

beside_ends : (c : ℕ) (y : ℤ) (e : Edge) (x : ℤ) → IsDecided (IsBesideEnds c y e x)
beside_ends c y e x = by_cases (is_around (pos c) (low e).x (high e).x x)
    (is_around (pos (reach c)) ((low e).x +ℤ (low e).y) ((high e).x +ℤ (high e).y) (x +ℤ y))
    (is_around (pos (reach c)) ((low e).x -ℤ (low e).y) ((high e).x -ℤ (high e).y) (x -ℤ y))
  where
    by_cases : IsDecided (IsAround (pos c) (low e).x (high e).x x)
        → IsDecided (IsAround (pos (reach c)) ((low e).x +ℤ (low e).y) ((high e).x +ℤ (high e).y) (x +ℤ y))
        → IsDecided (IsAround (pos (reach c)) ((low e).x -ℤ (low e).y) ((high e).x -ℤ (high e).y) (x -ℤ y))
        → IsDecided (IsBesideEnds c y e x)
    by_cases (inl a) (inl s) (inl d) = inl (record { across = a; sum = s; difference = d })
    by_cases (inr n) s d = inr (λ i. n i.across)
    by_cases (inl a) (inr n) d = inr (λ i. n i.sum)
    by_cases (inl a) (inl s) (inr n) = inr (λ i. n i.difference)

abbrev IsOnLine : ℕ → ℤ → Edge → ℤ → Type 0
IsOnLine c y e x = pos 0 <ℤ rise e → IsBesideLine c y e x

on_line : (c : ℕ) (y : ℤ) (e : Edge) (x : ℤ) → IsDecided (IsOnLine c y e x)
on_line c y e x =
    by_cases (order (rise e) (pos 0)) (order (x *ℤ rise e) (x_at e y (pos 1) -ℤ line_reach c e))
    (order (x_at e y (pos 1) +ℤ line_reach c e) (x *ℤ rise e))
  where
    by_cases : (rise e ≤ℤ pos 0) ⊎ (pos 0 <ℤ rise e)
        → ((x *ℤ rise e) ≤ℤ (x_at e y (pos 1) -ℤ line_reach c e))
        ⊎ ((x_at e y (pos 1) -ℤ line_reach c e) <ℤ (x *ℤ rise e))
        → ((x_at e y (pos 1) +ℤ line_reach c e) ≤ℤ (x *ℤ rise e))
        ⊎ ((x *ℤ rise e) <ℤ (x_at e y (pos 1) +ℤ line_reach c e))
        → IsDecided (IsOnLine c y e x)
    by_cases (inl flat) a b = inl (λ rises. absurd (omega (arith, ints, flat, rises)))
    by_cases (inr rises) (inl a) b = inr (λ h. let f = (h rises).from in omega (arith, ints, f, a))
    by_cases (inr rises) (inr a) (inl b) = inr (λ h. let f = (h rises).to in omega (arith, ints, f, b))
    by_cases (inr rises) (inr a) (inr b) = inl (λ h. record { from = a; to = b })

in_reach : (c : ℕ) (y : ℤ) (e : Edge) (x : ℤ) → IsDecided (IsInReach c y e x)
in_reach c y e x = by_cases (beside_ends c y e x) (on_line c y e x)
  where
    by_cases : IsDecided (IsBesideEnds c y e x) → IsDecided (IsOnLine c y e x) → IsDecided (IsInReach c y e x)
    by_cases (inl b) (inl l) = inl (record { ends = b; line = l })
    by_cases (inr n) l = inr (λ i. n i.ends)
    by_cases (inl b) (inr n) = inr (λ i. n i.line)

near_on_row : (c : ℕ) (y : ℤ) (e : Edge) (x : ℤ)
    → IsDecided (ComesNear c (Row y) x e)
near_on_row c y e x = by_test (is_beside c y e) refl (in_reach c y e x)
  where
    by_test : (t : Bool) → is_beside c y e ≡ t → IsDecided (IsInReach c y e x)
        → IsDecided (ComesNear c (Row y) x e)
    by_test true b (inl i) = inl (comes c x y e b i)
    by_test true b (inr n) = inr (λ f. n ((told c x y e f).reach))
    by_test false b i = inr (λ f. both_ways _ b ((told c x y e f).beside))

-- a column is a row of the plane with x and y exchanged
near_on : (c : ℕ) (line : Line) (z : ℤ) (e : Edge)
    → IsDecided (ComesNear c line z e)
near_on c (Row y) z e = near_on_row c y e z
near_on c (Column x) z e = elim (near_on_row c x (exchanged e) z) [
  | inl f ↦ inl (exchange c x z e f)
  | inr n ↦ inr (λ f. n (exchange_back c x z e f))
]

-- ---- all edges
all_apart : (c : ℕ) (line : Line) (z : ℤ) (es : List Edge) → IsDecided (AllByRecursion (IsApart c line z) es)
all_apart c line z [] = inl tt
all_apart c line z (e ∷ es) = by_cases (near_on c line z e) (all_apart c line z es)
  where
    by_cases : IsDecided (ComesNear c line z e)
        → IsDecided (AllByRecursion (IsApart c line z) es)
        → IsDecided (AllByRecursion (IsApart c line z) (e ∷ es))
    by_cases (inl near) r = inr (λ h. not_near c line z e h.0 near)
    by_cases (inr apart) (inl r) = inl (apart_if c line z e apart, r)
    by_cases (inr apart) (inr n) = inr (λ h. n h.1)

zero_or_not : (z : ℤ) → IsDecided (z ≢ pos 0)
zero_or_not z = by_test (is_zero z) refl
  where
    by_test : (t : Bool) → is_zero z ≡ t → IsDecided (z ≢ pos 0)
    by_test true q = inr (λ n. n (zero_true z q))
    by_test false q = inl (λ e. false≢true (sym q ∙ ap is_zero e))

pub deep_or_not : (outlines : List (List Pt)) (c : ℕ) (line : Line) (z : ℤ)
    → IsDecided (IsDeep outlines c (point_on line z))
deep_or_not outlines c line z =
    by_cases (zero_or_not (wind (whole (point_on line z)) (segments (flat_map sides outlines))))
    (all_apart c line z (flat_map sides outlines))
  where
    by_cases : IsDecided (wind (whole (point_on line z)) (segments (flat_map sides outlines)) ≢ pos 0)
        → IsDecided (AllByRecursion (IsApart c line z) (flat_map sides outlines))
        → IsDecided (IsDeep outlines c (point_on line z))
    by_cases (inl w) (inl a) =
        inl (record { inside = w; apart = All-from_recursion (IsApart c line z) (flat_map sides outlines) a })
    by_cases (inl w) (inr n) =
        inr (λ d. n (recursion_from_All (IsApart c line z) (flat_map sides outlines) d.apart))
    by_cases (inr n) a = inr (λ d. n d.inside)
