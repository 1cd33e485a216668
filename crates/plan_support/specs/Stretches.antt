-- The maximal stretches of neighbouring whole places of a line where something holds.
use Rattle.std.specs.Prelude.{ℕ, List, ℤ, pos, ◌+ℤ◌, ◌-ℤ◌, ◌≤ℤ◌, All, Contains}
use Rattle.plan_infill.specs.declared.run.Run.{Run}
use Rattle.plan_infill.specs.Runs.{GoUp}

-- a stretch of at least a length: it holds at all its whole places, and not at the next before and after it
pub record IsStretch (Holds : ℤ → Type 0) (least : ℕ) (r : Run) : Type 0 where
  pub long : pos least ≤ℤ (r.to -ℤ r.from)
  pub holds : (x : ℤ) → r.from ≤ℤ x → x ≤ℤ r.to → Holds x
  pub before : Holds (r.from -ℤ pos 1) → ⊥
  pub after : Holds (r.to +ℤ pos 1) → ⊥

-- all of them, upwards
pub record AreStretches (Holds : ℤ → Type 0) (least : ℕ) (runs : List Run) : Type 0 where
  pub upwards : GoUp runs
  pub each : All (IsStretch Holds least) runs
  pub all : (r : Run) → IsStretch Holds least r → Contains runs r
