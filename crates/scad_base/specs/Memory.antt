-- Where want of memory may be an answer, over faults of any type: `is_memory` tells which of them stands for it.
use Rattle.std.specs.Prelude.{◌≡◌, Bool, false, not, ◌||◌, IsTrue, IfErr, Result, Ok, Err}
use Rattle.std.specs.Bool.{OnFalse}

-- a fact that holds of the answer, or there was no memory
abbrev pub UnlessMemory : {A F : Type 0} → (F → Bool) → Result A F → Type 0 → Type 0
UnlessMemory is_memory (Ok a) P = P
UnlessMemory is_memory (Err fault) P = OnFalse (is_memory fault) P

-- the fault is the one of the definition's answer, or there was no memory
abbrev pub Refuses : {A F : Type 0} → (F → Bool) → Result A F → F → Type 0
Refuses is_memory answer fault = OnFalse (is_memory fault) (answer ≡ Err fault)

-- memory may be wanting only where something is made that takes some
abbrev pub TakesMemoryFor : {A F : Type 0} → (F → Bool) → Bool → Result A F → Type 0
TakesMemoryFor is_memory made answer = IfErr answer (λ e. IsTrue (made || not (is_memory e)))

-- no memory is taken
abbrev pub TakesNone : {A F : Type 0} → (F → Bool) → Result A F → Type 0
TakesNone is_memory answer = TakesMemoryFor is_memory false answer
