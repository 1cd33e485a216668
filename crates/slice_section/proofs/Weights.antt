-- What is said of numbers, said of equal ones.
use Rattle.std.proofs.Common.{◌≡◌, ℤ, pos, ◌+ℤ◌, ◌-ℤ◌, ◌*ℤ◌, sym, subst, ap, ap₂, ◌∙◌}
use Rattle.scad_geom.specs.Point.{Point}
use Rattle.scad_solid.specs.Cut.{weighted}
use Rattle.slice_section.specs.Through.{IsBetween}

pub up_by : {h p g q : ℤ} → h ≡ g → p ≡ q → pos 2 *ℤ h -ℤ p ≡ pos 2 *ℤ g -ℤ q
up_by high plane = ap₂ (λ (h p : ℤ). pos 2 *ℤ h -ℤ p) high plane

pub down_by : {p l q k : ℤ} → p ≡ q → l ≡ k → p -ℤ pos 2 *ℤ l ≡ q -ℤ pos 2 *ℤ k
down_by plane low = ap₂ (λ (p l : ℤ). p -ℤ pos 2 *ℤ l) plane low

pub apart_by : {h l g k : ℤ} → h ≡ g → l ≡ k → pos 2 *ℤ h -ℤ pos 2 *ℤ l ≡ pos 2 *ℤ g -ℤ pos 2 *ℤ k
apart_by high low = ap₂ (λ (h l : ℤ). pos 2 *ℤ h -ℤ pos 2 *ℤ l) high low

pub weighted_by : {a b l h p c d k g q : ℤ} → a ≡ c → b ≡ d → l ≡ k → h ≡ g → p ≡ q
    → weighted a b l h p ≡ weighted c d k g q
weighted_by lower upper low high plane =
    ap₂ (λ (s t : ℤ). s +ℤ t) (ap₂ (λ (s t : ℤ). s *ℤ t) lower (up_by high plane))
    (ap₂ (λ (s t : ℤ). s *ℤ t) upper (down_by plane low))

pub between_by : (p l h q k g : ℤ) → p ≡ q → l ≡ k → h ≡ g → IsBetween q k g → IsBetween p l h
between_by p l h q k g plane low high is =
    subst (λ (z : ℤ). IsBetween z l h) (sym plane)
    (subst (λ (z : ℤ). IsBetween q z h) (sym low) (subst (λ (z : ℤ). IsBetween q k z) (sym high) is))

abbrev pub point : ℤ → ℤ → ℤ → Point
point x y d = record { x = x; y = y; d = d }

pub point_by : (x y d u v e : ℤ) → x ≡ u → y ≡ v → d ≡ e → point x y d ≡ point u v e
point_by x y d u v e px py pd = ap₂ (λ (x y : ℤ). point x y d) px py ∙ ap (point u v) pd
