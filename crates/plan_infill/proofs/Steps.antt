-- Sums over steps.
use Rattle.std.proofs.Common.{◌≡◌, inr, Bool, true, false, [], ◌∷◌, refl, sym, ap, ◌∙◌, arith, ℕ, ℤ, pos, negsuc, ◌+ℤ◌, ◌-ℤ◌, ◌*ℤ◌, ◌<ℤ◌}
use lib.Signed.{◌≤ℤ◌}
use Rattle.std.specs.Prelude.{if◌then◌else◌, int_le, int_lt, unsigned_abs, ◌≤◌, ◌&&◌}
use Rattle.std.proofs.lemmas.Int.{ints}
use Rattle.std.proofs.lemmas.List.Elements.{All-from_recursion}
use Rattle.scad_geom.specs.Limits.{coordinate_limit}
use Rattle.scad_geom.specs.declared.point.Edge.{Edge}
use Rattle.scad_geom.specs.Line.{low, high, rise, run, offset, x_at, left_of, heading}
use Rattle.scad_geom.specs.Within.{IsEdgeWithin}
use Rattle.plan_infill.specs.declared.line.Line.{Line}
use Rattle.plan_infill.specs.declared.line.Line.TheVariants.{Row, Column}
use Rattle.plan_infill.specs.declared.step.Step.{Step}
use Rattle.plan_infill.specs.declared.stretch.Stretch.{Stretch}
use Rattle.plan_infill.specs.Quotient.{IsCeiling}
use Rattle.plan_infill.specs.Columns.{heights_of, has_place, IsPositivePart}
use Rattle.plan_infill.specs.Steps.{up_to, GiveTurns, IsStep, AreTurnSteps}
use Rattle.plan_infill.proofs.Turning.{turn_at, turn_between, turn_below, turn_above, passage_between, passage_below, passage_above}
use Rattle.plan_infill.proofs.Quotients.{before_ceiling, before_quotient}
use Rattle.plan_infill.proofs.Quotients.{at_most_times}
use Rattle.scad_geom.proofs.Rising.{by_order, order}
use Rattle.scad_geom.proofs.Signs.{at_least_mul}
use Rattle.scad_geom.proofs.Bounds.{low_within, high_within}
use Rattle.scad_geom.proofs.Ring.{ring, num, ◌⊕◌, ◌⊖◌, ◌⊗◌, v0, v1, v2, v3, v4, v5}
use lib.IntN.{+ℤ_idl}
use Rattle.std.proofs.Math.IntN.{*ℤ_comm}
use Rattle.std.proofs.Math.Bool.{and-false}

abbrev pub step_of : ℤ → ℤ → Step
step_of at turns = record { at = at; turns = turns; near = pos 0 }

less_limit : (m r : ℤ) → (pos 0 -ℤ m -ℤ pos 1) *ℤ r ≡ (pos 0 -ℤ m *ℤ r) -ℤ r
less_limit m r = ring (m ∷ r ∷ []) ((num (pos 0) ⊖ v0 ⊖ num (pos 1)) ⊗ v1)
    ((num (pos 0) ⊖ v0 ⊗ v1) ⊖ v1) refl

pub rise_is : (e : Edge) → rise e ≡ (high e).y -ℤ (low e).y
unfolding rise
rise_is e = refl

pub rise_above : (e : Edge) (y : ℤ) → (low e).y ≤ℤ y → y <ℤ (high e).y → pos 0 <ℤ rise e
rise_above e y a b = let r = rise_is e in omega (arith, ints)

edge_turn_size : (e : Edge) → unsigned_abs (heading e) ≤ 1
edge_turn_size e = by_test (int_lt e.b.y e.a.y)
  where
    by_test : (t : Bool) → unsigned_abs (if t then negsuc 0 else pos 1) ≤ 1
    by_test true = omega arith
    by_test false = omega arith

-- ---- on a row
pub left_at : (e : Edge) (x y : ℤ) → left_of e x y (pos 1) ≡ x_at e y (pos 1) -ℤ x *ℤ rise e
unfolding left_of
left_at e x y = let c = *ℤ_comm (rise e) x in omega (arith, ints, c)

row_turn : (e : Edge) (y z at : ℤ) → (low e).y ≤ℤ y → y <ℤ (high e).y
    → IsCeiling (x_at e y (pos 1)) (rise e) at → (t : Bool) → int_le at z ≡ t
    → (if int_lt (pos 0) (left_of e z y (pos 1)) then heading e else pos 0)
    ≡ heading e +ℤ ((if t then pos 0 -ℤ heading e else pos 0) +ℤ pos 0)
row_turn e y z at a b k true q =
    let d = rise_above e y a b in
    let l = left_at e z y in
    let f : int_lt (pos 0) (left_of e z y (pos 1)) ≡ false = by_order (order (x_at e y (pos 1)) (z *ℤ rise e)) (λ o. sym (omega (arith, ints, l, o)))
    (λ o. let m = before_quotient (x_at e y (pos 1)) (rise e) at z d k o in absurd (omega (arith, ints, m, q))) in
    rw f (omega (arith, ints))
row_turn e y z at a b k false q =
    let d = rise_above e y a b in
    let l = left_at e z y in
    let m = before_ceiling (x_at e y (pos 1)) (rise e) at z d k (omega (arith, ints, q)) in
    let f : int_lt (pos 0) (left_of e z y (pos 1)) ≡ true = sym (omega (arith, ints, l, m)) in
    rw f (omega (arith, ints))

pub row_turns : (e : Edge) (y at : ℤ) → (low e).y ≤ℤ y → y <ℤ (high e).y
    → IsCeiling (x_at e y (pos 1)) (rise e) at → unsigned_abs at ≤ coordinate_limit
    → AreTurnSteps (Row y) e (step_of at (pos 0 -ℤ heading e) ∷ [])
row_turns e y at a b k w =
    let p = passage_between (pos 0) y e a b in
    let s = edge_turn_size e in
    record {
      give = record {
        each = λ z. turn_between z y e a b ∙ row_turn e y z at a b k (int_le at z) refl
            ∙ ap (λ (h : ℤ). h +ℤ ((if int_le at z then pos 0 -ℤ heading e else pos 0) +ℤ pos 0)) (sym p);
        behind = rw p (omega (arith, ints));
      };
      each = All-from_recursion IsStep (step_of at (pos 0 -ℤ heading e) ∷ [])
          (record { turns = omega (arith, ints, s); near = omega arith; place = inr w }, tt);
      other = All-from_recursion (λ t. t.near ≡ pos 0) (step_of at (pos 0 -ℤ heading e) ∷ []) (refl, tt);
    }

none : (line : Line) (e : Edge) → GiveTurns line e [] → AreTurnSteps line e []
none line e g = record {
  give = g;
  each = All-from_recursion IsStep [] tt;
  other
      = All-from_recursion (λ t. t.near ≡ pos 0) [] tt;
}

pub row_below : (e : Edge) (y : ℤ) → y <ℤ (low e).y → AreTurnSteps (Row y) e []
row_below e y h = let p = passage_below (pos 0) y e h in none (Row y) e (record { each = λ z. turn_below z y e h ∙ sym (rw p refl); behind = rw p refl })

pub row_above : (e : Edge) (y : ℤ) → (high e).y ≤ℤ y → AreTurnSteps (Row y) e []
row_above e y h = let p = passage_above (pos 0) y e h in none (Row y) e (record { each = λ z. turn_above z y e h ∙ sym (rw p refl); behind = rw p refl })

-- ---- on a column
column_sum : (h z : ℤ) (part : Stretch) → part.from ≤ℤ part.until
    → up_to (λ s. s.turns) z (step_of part.from h ∷ (step_of part.until (pos 0 -ℤ h) ∷ []))
    ≡ (if has_place part z then h else pos 0)
column_sum h z part o = by_test (int_le part.from z) (int_le part.until z) (int_lt z part.until) refl refl refl
  where
    by_test : (p q r : Bool) → int_le part.from z ≡ p → int_le part.until z ≡ q → int_lt z part.until ≡ r
        → (if p then h else pos 0) +ℤ ((if q then pos 0 -ℤ h else pos 0) +ℤ pos 0)
        ≡ (if p && r then h else pos 0)
    by_test true true true a b c = absurd (omega (arith, ints))
    by_test true true false a b c = omega (arith, ints)
    by_test true false true a b c = omega (arith, ints)
    by_test true false false a b c = absurd (omega (arith, ints))
    by_test false true r a b c = absurd (omega (arith, ints))
    by_test false false r a b c = omega (arith, ints)

no_place_below : (part : Stretch) (z : ℤ) → z <ℤ part.from → has_place part z ≡ false
no_place_below part z h = let f : int_le part.from z ≡ false = sym (omega (arith, ints)) in rw f refl

no_place_above : (part : Stretch) (z : ℤ) → part.until ≤ℤ z → has_place part z ≡ false
no_place_above part z h = let f : int_lt z part.until ≡ false = sym (omega (arith, ints)) in rw f (and-false (int_le part.from z))

line_at : (e : Edge) (x y : ℤ) → left_of e x y (pos 1) ≡ run e *ℤ y +ℤ left_of e x (pos 0) (pos 1)
unfolding left_of x_at
line_at e x y = omega (arith, ints)

column_turn : (e : Edge) (x z : ℤ) (part : Stretch)
    → IsPositivePart (heights_of e) (run e) (left_of e x (pos 0) (pos 1)) part
    → turn_at x z e ≡ (if has_place part z then heading e else pos 0)
column_turn e x z part k =
    let f = k.part_of.from in
    let u = k.part_of.until in
    by_order (order (low e).y z)
    (λ a. by_order (order (high e).y z)
    (λ b. turn_above x z e b ∙ sym (rw (no_place_above part z (omega (arith, ints))) refl))
    (λ b. turn_between x z e a b ∙ ap (λ (t : Bool). if t then heading e else pos 0)
    (ap (int_lt (pos 0)) (line_at e x z) ∙ sym (k.each z a b))))
    (λ a. turn_below x z e a ∙ sym (rw (no_place_below part z (omega (arith, ints))) refl))

pub column_turns : (e : Edge) (x : ℤ) (part : Stretch) → IsEdgeWithin coordinate_limit e
    → IsPositivePart (heights_of e) (run e) (left_of e x (pos 0) (pos 1)) part
    → AreTurnSteps (Column x) e (step_of part.from (heading e) ∷ (step_of part.until (pos 0 -ℤ heading e) ∷ []))
column_turns e x part w k =
    let s = edge_turn_size e in
    let f = k.part_of.from in
    let o = k.part_of.order in
    let u = k.part_of.until in
    let l = (low_within coordinate_limit e w).y in
    let m = (high_within coordinate_limit e w).y in
    record {
      give = record {
        each = λ z. column_turn e x z part k ∙ sym (column_sum (heading e) z part k.part_of.order)
            ∙ sym (+ℤ_idl _);
        behind = omega (arith, ints);
      };
      each = All-from_recursion IsStep (step_of part.from (heading e)
          ∷ (step_of part.until (pos 0 -ℤ heading e) ∷ [])) (
            record { turns = s; near = omega arith; place = inr (omega (arith, ints)) },
            (record { turns = omega (arith, ints, s); near = omega arith; place = inr (omega (arith, ints)) }, tt),
          );
      other = All-from_recursion (λ t. t.near ≡ pos 0)
          (step_of part.from (heading e) ∷ (step_of part.until (pos 0 -ℤ heading e) ∷ [])) (refl, (refl, tt));
    }

-- ---- where an edge passes a height
weights : (a b y c d : ℤ) → (c -ℤ a) *ℤ y +ℤ ((d -ℤ b) *ℤ a -ℤ (c -ℤ a) *ℤ b) *ℤ pos 1
    ≡ a *ℤ (d -ℤ y) +ℤ c *ℤ (y -ℤ b)
weights a b y c d = ring (a ∷ b ∷ y ∷ c ∷ d ∷ [])
    ((v3 ⊖ v0) ⊗ v2 ⊕ ((v4 ⊖ v1) ⊗ v0 ⊖ (v3 ⊖ v0) ⊗ v1) ⊗ num (pos 1))
    (v0 ⊗ (v4 ⊖ v2) ⊕ v3 ⊗ (v2 ⊖ v1)) refl

pub x_at_weights : (e : Edge) (y : ℤ) → x_at e y (pos 1)
    ≡ (low e).x *ℤ ((high e).y -ℤ y) +ℤ (high e).x *ℤ (y -ℤ (low e).y)
unfolding x_at run offset rise
x_at_weights e y = weights (low e).x (low e).y y (high e).x (high e).y

pub above_limit : (m a b y c d : ℤ) → (m -ℤ a) *ℤ (d -ℤ y) +ℤ (m -ℤ c) *ℤ (y -ℤ b)
    ≡ m *ℤ (d -ℤ b) -ℤ (a *ℤ (d -ℤ y) +ℤ c *ℤ (y -ℤ b))
above_limit m a b y c d = ring (m ∷ a ∷ b ∷ y ∷ c ∷ d ∷ [])
    ((v0 ⊖ v1) ⊗ (v5 ⊖ v3) ⊕ (v0 ⊖ v4) ⊗ (v3 ⊖ v2))
    (v0 ⊗ (v5 ⊖ v2) ⊖ (v1 ⊗ (v5 ⊖ v3) ⊕ v4 ⊗ (v3 ⊖ v2))) refl

below_limit : (m a b y c d : ℤ) → (a +ℤ m) *ℤ (d -ℤ y) +ℤ (c +ℤ m) *ℤ (y -ℤ b)
    ≡ m *ℤ (d -ℤ b) +ℤ (a *ℤ (d -ℤ y) +ℤ c *ℤ (y -ℤ b))
below_limit m a b y c d = ring (m ∷ a ∷ b ∷ y ∷ c ∷ d ∷ [])
    ((v1 ⊕ v0) ⊗ (v5 ⊖ v3) ⊕ (v4 ⊕ v0) ⊗ (v3 ⊖ v2))
    (v0 ⊗ (v5 ⊖ v2) ⊕ (v1 ⊗ (v5 ⊖ v3) ⊕ v4 ⊗ (v3 ⊖ v2))) refl

pub crossing_within : (limit : ℕ) (e : Edge) (y at : ℤ) → IsEdgeWithin limit e → (low e).y ≤ℤ y
    → y <ℤ (high e).y → IsCeiling (x_at e y (pos 1)) (rise e) at → unsigned_abs at ≤ limit
crossing_within limit e y at w a b k =
    let d = rise_above e y a b in
    let r = rise_is e in
    let l = (low_within limit e w).x in
    let h = (high_within limit e w).x in
    let m : ℤ = pos limit in
    let x = x_at_weights e y in
    let p = at_least_mul (m -ℤ (low e).x) ((high e).y -ℤ y) (omega (arith, ints)) (omega (arith, ints)) in
    let q = at_least_mul (m -ℤ (high e).x) (y -ℤ (low e).y) (omega (arith, ints)) (omega (arith, ints)) in
    let s = at_least_mul ((low e).x +ℤ m) ((high e).y -ℤ y) (omega (arith, ints)) (omega (arith, ints)) in
    let t = at_least_mul ((high e).x +ℤ m) (y -ℤ (low e).y) (omega (arith, ints)) (omega (arith, ints)) in
    let u = above_limit m (low e).x (low e).y y (high e).x (high e).y in
    let v = below_limit m (low e).x (low e).y y (high e).x (high e).y in
    let most : x_at e y (pos 1) ≤ℤ (m *ℤ rise e) = rw (x, r) (omega (arith, ints, p, q, u)) in
    let least : (pos 0 -ℤ m *ℤ rise e) ≤ℤ x_at e y (pos 1) = rw (x, r) (omega (arith, ints, s, t, v)) in
    let upper : at ≤ℤ m = by_order (order at m) (λ o. o) (λ o. let z = before_ceiling (x_at e y (pos 1)) (rise e) at m d k o in absurd (omega (arith, ints, z, most))) in
    let lower : (pos 0 -ℤ m) ≤ℤ at = by_order (order (pos 0 -ℤ m) at) (λ o. o) (λ o.
    let z = at_most_times at (pos 0 -ℤ m -ℤ pos 1) (rise e) d (omega (arith, ints, o)) in
    let i = less_limit m (rise e) in
    let j = k.most in
    absurd (omega (arith, ints, z, least, i, j, d))) in
    omega (arith, ints, upper, lower)

pub row_level : (limit : ℕ) (e : Edge) (y : ℤ) → IsEdgeWithin limit e → (low e).y ≤ℤ y → y <ℤ (high e).y
    → unsigned_abs y ≤ limit
row_level limit e y w a b =
    let l = (low_within limit e w).y in
    let h = (high_within limit e w).y in
    omega (arith, ints)
