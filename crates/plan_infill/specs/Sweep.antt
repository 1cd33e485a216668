-- The stretches along a line where steps say that its points are deep.
use Rattle.std.specs.Prelude.{◌≡◌, Bool, true, false, not, ◌&&◌, if◌then◌else◌, ℕ, Option, None, Some, List, [], ◌∷◌, int_le, ℤ, pos, ◌+ℤ◌, ◌-ℤ◌, ◌<ℤ◌, ◌≤ℤ◌, ◌≤◌, unsigned_abs, All, Contains}
use Rattle.scad_geom.specs.Sign.{is_zero}
use Rattle.scad_geom.specs.Limits.{coordinate_limit}
use Rattle.plan_infill.specs.declared.run.Run.{Run}
use Rattle.plan_infill.specs.declared.step.Step.{Step}
use Rattle.plan_infill.specs.Runs.{GoUp}
use Rattle.plan_infill.specs.Steps.{up_to}

-- whether the steps say that the point at a place is deep
abbrev pub is_deep_at : List Step → ℤ → Bool
is_deep_at steps z = not (is_zero (up_to (λ s. s.turns) z steps)) && is_zero (up_to (λ s. s.near) z steps)

-- a maximal stretch of at least a length where a test holds
pub record IsStretch (test : ℤ → Bool) (least : ℕ) (r : Run) : Type 0 where
  pub long : pos least ≤ℤ (r.to -ℤ r.from)
  pub holds : (z : ℤ) → r.from ≤ℤ z → z ≤ℤ r.to → test z ≡ true
  pub before : test (r.from -ℤ pos 1) ≡ false
  pub after : test (r.to +ℤ pos 1) ≡ false

-- all of them, upwards
pub record AreStretches (test : ℤ → Bool) (least : ℕ) (runs : List Run) : Type 0 where
  pub upwards : GoUp runs
  pub each : All (IsStretch test least) runs
  pub all : (r : Run) → IsStretch test least r → Contains runs r

-- those that are seen to have ended before a place
pub record AreStretchesBefore (test : ℤ → Bool) (least : ℕ) (place : ℤ) (runs : List Run) : Type 0 where
  pub upwards : GoUp runs
  pub each : All (IsStretch test least) runs
  pub ended : All (λ r. (r.to +ℤ pos 1) <ℤ place) runs
  pub all : (r : Run) → IsStretch test least r → (r.to +ℤ pos 1) <ℤ place → Contains runs r

-- the start of the stretch that goes on just before a place, if there is one
abbrev pub IsOpen : (ℤ → Bool) → ℤ → Option ℤ → Type 0
IsOpen test place None = test (place -ℤ pos 1) ≡ false
IsOpen test place (Some from) =
    (from <ℤ place) × ((z : ℤ) → from ≤ℤ z → z <ℤ place → test z ≡ true)
    × (test (from -ℤ pos 1) ≡ false)

-- the same from the next place on, by whether its points are deep
abbrev pub opened : Bool → Option ℤ → ℤ → Option ℤ
opened true None at = Some at
opened true (Some from) at = Some from
opened false since at = None

-- the run that ends there, if it is long enough
abbrev pub closed : Bool → Option ℤ → ℤ → ℕ → List Run
closed true since at least = []
closed false None at least = []
closed false (Some from) at least = if int_le (pos least) ((at -ℤ pos 1) -ℤ from) then record
    { from = from; to = at -ℤ pos 1 } ∷ [] else []

-- where a stretch goes on, its start and the place before are within a limit
abbrev pub IsOpenWithin : ℕ → Option ℤ → ℤ → Type 0
IsOpenWithin limit None at = Unit {0}
IsOpenWithin limit (Some from) at = (unsigned_abs from ≤ limit) × (unsigned_abs (at -ℤ pos 1) ≤ limit)

-- a test holds within the limit of the coordinates alone
abbrev pub HoldsWithin : (ℤ → Bool) → Type 0
HoldsWithin test = (z : ℤ) → test z ≡ true → unsigned_abs z ≤ coordinate_limit

-- it has one value from a place on and before another
abbrev pub IsOneValue : (ℤ → Bool) → Bool → ℤ → ℤ → Type 0
IsOneValue test value from until = (z : ℤ) → from ≤ℤ z → z <ℤ until → test z ≡ value
