-- Runs in the order of their starts, united one after another.
use Rattle.std.specs.Prelude.{◌≡◌, ◌||◌, List, [], ◌∷◌, ℤ, ◌≤ℤ◌, All}
use Rattle.plan_infill.specs.declared.run.Run.{Run}
use Rattle.plan_support.specs.Rows.{AreApart}
use Rattle.plan_support.specs.On.{has_place, is_on}

-- none starts before those before it
abbrev pub StartInOrder : List Run → Type 0
StartInOrder [] = Unit {0}
StartInOrder (r ∷ rs) = All (λ s. r.from ≤ℤ s.from) rs × StartInOrder rs

-- runs that stand apart take in one more, before which none of them starts
pub record TakeIn (old : List Run) (run : Run) (new : List Run) : Type 0 where
  pub apart : AreApart new
  pub behind : All (λ r. r.from ≤ℤ run.from) new
  pub on : (x : ℤ) → is_on new x ≡ (is_on old x || has_place run x)
