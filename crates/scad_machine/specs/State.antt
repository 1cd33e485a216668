-- What evaluation counts and writes as it goes: its state, and actions that take a state to another one.
use Rattle.std.specs.Prelude.{ℕ, ℤ, ◌+◌, ◌++◌, nat_lt, if◌then◌else◌, List, [], ◌∷◌, length, encode_utf8_all}
use Rattle.scad_fault.specs.declared.place.Place.{Place}
use Rattle.scad_fault.specs.declared.fault.FaultKind.{FaultKind}
use Rattle.scad_fault.specs.declared.budget.BudgetKind.{BudgetKind}
use Rattle.scad_fault.specs.declared.budget.BudgetKind.TheVariants.{Steps, Depth}
use Rattle.scad_value.specs.Datum.{Datum}
use Rattle.scad_value.specs.Measures.{made, nesting}
use Rattle.scad_machine.specs.declared.fault.EvalFault.{EvalFault}
use Rattle.scad_machine.specs.declared.fault.EvalFault.TheVariants.{Fault, Over}

-- the steps that were taken, the leaves and the triangles that were made, the points of the profiles of those leaves
-- inside `rotate_extrude` that stand in trees, and the lines of `echo`, each as its bytes
pub record State : Type 0 where
  pub steps : ℕ
  pub leaves : ℕ
  pub triangles : ℕ
  pub profiles : List (ℤ × ℤ)
  pub echoes : List (List ℕ)

-- nothing was done yet
abbrev pub start : State
start = record { steps = 0; leaves = 0; triangles = 0; profiles = []; echoes = [] }

-- a program takes at most so many steps
abbrev pub step_limit : ℕ
step_limit = 5000000

-- a node stands at most at this depth
abbrev pub depth_limit : ℕ
depth_limit = 100000

-- vectors lie at most so deep in one another
abbrev pub nesting_limit : ℕ
nesting_limit = 200

-- a result and the state after it; or the first fault or budget, and the state in which it came, whose lines stand
pub data Outcome (A : Type 0) : Type 0 where
  gives : A → State → Outcome A
  refuses : EvalFault → State → Outcome A

-- what can be done in a state
abbrev pub Action : Type 0 → Type 0
Action A = State → Outcome A

abbrev pub pure : {A : Type 0} → A → Action A
pure a = λ s. gives a s

abbrev pub and_then : {A B : Type 0} → Outcome A → (A → Action B) → Outcome B
and_then (gives a s) f = f a s
and_then (refuses e s) f = refuses e s

infixl 10 ◌>>=◌
infixl 10 ◌>>◌
-- one action and then another, which goes by what the first gave; after a refusal nothing is done
abbrev pub ◌>>=◌ : {A B : Type 0} → Action A → (A → Action B) → Action B
m >>= f = λ s. and_then (m s) f

abbrev pub ◌>>◌ : {A B : Type 0} → Action A → Action B → Action B
m >> n = m >>= λ _. n

abbrev pub refuse : {A : Type 0} → EvalFault → Action A
refuse e = λ s. refuses e s

-- a fault of this kind at a place
unfoldable pub fault : {A : Type 0} → FaultKind → Place → Action A
fault kind at = refuse (Fault (record { kind = kind; at = at; name = [] }))

-- a fault with a name
unfoldable pub fault_of : {A : Type 0} → FaultKind → Place → List ℕ → Action A
fault_of kind at name = refuse (Fault (record { kind = kind; at = at; name = name }))

-- a budget is passed at a place
unfoldable pub over : {A : Type 0} → BudgetKind → Place → Action A
over kind at = refuse (Over (record { kind = kind; at = at; layer = 0; count = 0 }))

-- so many steps are taken at a place; Steps comes exactly where there are then more than the limit
unfoldable pub take : ℕ → Place → Action (Unit {0})
take count at = λ s.
    if nat_lt step_limit (s.steps + count) then over Steps at s
    else gives tt (record s { steps = s.steps + count })

-- a node takes one step as it begins
unfoldable pub step : Place → Action (Unit {0})
step at = take 1 at

-- a value that was made: Depth where its vectors lie too deep, then a step for each element and character in it
unfoldable pub make : Place → Datum → Action Datum
make at d = if nat_lt nesting_limit (nesting d) then over Depth at else (take (made d) at >> pure d)

-- a line of `echo`, which stands among the lines before its steps are taken: one for each of its characters
unfoldable pub say : Place → List ℕ → Action (Unit {0})
say at line = λ s. take (length line) at (record s { echoes = s.echoes ++ encode_utf8_all line ∷ [] })
