-- Steps are never taken back, and never pass their limit.
use Rattle.std.proofs.Common.{◌≡◌, ℕ, ◌+◌, ◌≤◌, Bool, true, false, pos, List, [], ◌∷◌, ◌++◌, length, Option, Some, None, Result, Ok, Err, if◌then◌else◌, codes, refl, arith}
use Rattle.std.specs.Prelude.{nat_lt, encode_utf8_all}
use Rattle.std.specs.Ordering.{int_eq}
use Rattle.std.proofs.lemmas.Bool.{ltb-false}
use Rattle.scad_fault.specs.declared.place.Place.{Place}
use Rattle.scad_fault.specs.declared.budget.BudgetKind.TheVariants.{Steps, Depth}
use Rattle.scad_ast.specs.Tree.{Arguments}
use Rattle.scad_value.specs.Datum.{Datum, undef, boolean, number, string, vector, range}
use Rattle.scad_value.specs.Comparison.{truth}
use Rattle.scad_value.specs.Measures.{made, nesting}
use Rattle.scad_value.specs.declared.fault.ValueFault.{ValueFault}
use Rattle.scad_value.specs.declared.fault.ValueFault.TheVariants.{ZeroDivisor as DividesByZero, NumberRange as PassesRange, Memory as NoMemory}
use Rattle.scad_builtin.specs.declared.fault.BuiltinFault.{BuiltinFault}
use Rattle.scad_builtin.specs.declared.fault.BuiltinFault.TheVariants.{UnknownFunction, LeftOut, BadArgument, ZeroDivisor, NumberRange, Memory}
use Rattle.scad_machine.specs.State.{State, Outcome, gives, refuses, Action, pure, and_then, ◌>>=◌, ◌>>◌, fault, fault_of, over, take, step, make, say, step_limit, nesting_limit}
use Rattle.scad_scope.specs.Names.{value_of_name}
use Rattle.scad_machine.specs.Arguments.{given, are_named, is_none}
use Rattle.scad_operations.specs.Values.{operated, called_builtin, ranged, tested, asserted, judge_named, judge_variables}
use Rattle.scad_expr.specs.Laws.{Within}

abbrev pub Rising : {A : Type 0} → Action A → Type 0
Rising m = (s : State) → s.steps ≤ step_limit → Within s.steps (m s)

pub within-lower : {A : Type 0} (n k : ℕ) (o : Outcome A) → n ≤ k → Within k o → Within n o
within-lower n k (gives a s) less w = let low = w.0 in (omega (arith, low, less), w.1)
within-lower n k (refuses e s) less w = tt

pub within-then : {A B : Type 0} (n : ℕ) (o : Outcome A) (f : A → Action B) → Within n o
    → ((a : A) → Rising (f a)) → Within n (and_then o f)
within-then n (gives a s) f w r = within-lower n s.steps (f a s) w.0 (r a s w.1)
within-then n (refuses e s) f w r = tt

pub rising-then : {A B : Type 0} (m : Action A) (f : A → Action B) → Rising m → ((a : A) → Rising (f a))
    → Rising (m >>= f)
rising-then m f r q s low = within-then s.steps (m s) f (r s low) q

pub rising-if : {A : Type 0} (b : Bool) (m n : Action A) → Rising m → Rising n → Rising (if b then m else n)
rising-if true m n r q = r
rising-if false m n r q = q

pub rising-pure : {A : Type 0} (a : A) → Rising (pure a)
rising-pure a s low = (omega arith, low)

-- ---- steps
pub rising-take : (count : ℕ) (at : Place) → Rising (take count at)
unfolding take over
rising-take count at s low = by (nat_lt step_limit (s.steps + count)) refl
  where
    by : (b : Bool) → nat_lt step_limit (s.steps + count) ≡ b
        → Within s.steps (if b then over Steps at s else gives (tt {0}) (record s { steps = s.steps + count }))
    by true e = tt
    by false e = (omega arith, ltb-false step_limit (s.steps + count) e)

pub rising-step : (at : Place) → Rising (step at)
unfolding step
rising-step at = rising-take 1 at

-- a step that was taken counts
pub step-counts : (at : Place) (s : State) → s.steps ≤ step_limit → Within (s.steps + 1) (step at s)
unfolding step take over
step-counts at s low = by (nat_lt step_limit (s.steps + 1)) refl
  where
    by : (b : Bool) → nat_lt step_limit (s.steps + 1) ≡ b
        → Within (s.steps + 1) (if b then over Steps at s else gives (tt {0}) (record s { steps = s.steps + 1 }))
    by true e = tt
    by false e = (omega arith, ltb-false step_limit (s.steps + 1) e)

pub rising-over : (A : Type 0) (at : Place) → Rising (over {A = A} Depth at)
unfolding over
rising-over A at s low = tt

pub rising-steps : (A : Type 0) (at : Place) → Rising (over {A = A} Steps at)
unfolding over
rising-steps A at s low = tt

pub rising-make : (at : Place) (d : Datum) → Rising (make at d)
unfolding make
rising-make at d =
    rising-if (nat_lt nesting_limit (nesting d)) (over Depth at) (take (made d) at >> pure d) (rising-over Datum at)
    (rising-then (take (made d) at) (λ _. pure d) (rising-take (made d) at) (λ _. rising-pure d))

pub rising-say : (at : Place) (line : List ℕ) → Rising (say at line)
unfolding say
rising-say at line s low = rising-take (length line) at (record s { echoes = s.echoes ++ encode_utf8_all line ∷ [] })
    low

-- ---- faults
pub rising-operated : (at : Place) (r : Result Datum ValueFault) → Rising (operated at r)
unfolding operated fault
rising-operated at (Ok d) = rising-make at d
rising-operated at (Err DividesByZero) = λ s low. tt
rising-operated at (Err PassesRange) = λ s low. tt
rising-operated at (Err NoMemory) = λ s low. tt

pub rising-builtin : (at : Place) (name : List ℕ) (r : Result Datum BuiltinFault)
    → Rising (called_builtin at name r)
unfolding called_builtin fault fault_of
rising-builtin at name (Ok d) = rising-make at d
rising-builtin at name (Err UnknownFunction) = λ s low. tt
rising-builtin at name (Err LeftOut) = λ s low. tt
rising-builtin at name (Err BadArgument) = λ s low. tt
rising-builtin at name (Err ZeroDivisor) = λ s low. tt
rising-builtin at name (Err NumberRange) = λ s low. tt
rising-builtin at name (Err Memory) = λ s low. tt

pub rising-ranged : (at : Place) (a s b : Datum) → Rising (ranged at a s b)
unfolding ranged fault
rising-ranged at (number a) (number s) (number b) = rising-if (int_eq s (pos 0)) _ _ (λ s low. tt)
    (rising-pure (range a s b))
rising-ranged at (number a) (number s) undef = rising-pure undef
rising-ranged at (number a) (number s) (boolean b) = rising-pure undef
rising-ranged at (number a) (number s) (string b) = rising-pure undef
rising-ranged at (number a) (number s) (vector b) = rising-pure undef
rising-ranged at (number a) (number s) (range b c d) = rising-pure undef
rising-ranged at (number a) undef b = rising-pure undef
rising-ranged at (number a) (boolean s) b = rising-pure undef
rising-ranged at (number a) (string s) b = rising-pure undef
rising-ranged at (number a) (vector s) b = rising-pure undef
rising-ranged at (number a) (range s t u) b = rising-pure undef
rising-ranged at undef s b = rising-pure undef
rising-ranged at (boolean a) s b = rising-pure undef
rising-ranged at (string a) s b = rising-pure undef
rising-ranged at (vector a) s b = rising-pure undef
rising-ranged at (range a c d) s b = rising-pure undef

rising-tested : (at : Place) (d : Option Datum) → Rising (tested at d)
unfolding fault fault_of
rising-tested at None = λ s low. tt
rising-tested at (Some undef) = λ s low. tt
rising-tested at (Some (boolean b)) = rising-if (truth (boolean b)) _ _ (rising-pure (tt {0})) (λ s low. tt)
rising-tested at (Some (number z)) = rising-if (truth (number z)) _ _ (rising-pure (tt {0})) (λ s low. tt)
rising-tested at (Some (string chars)) = rising-if (truth (string chars)) _ _ (rising-pure (tt {0})) (λ s low. tt)
rising-tested at (Some (vector all)) = rising-if (truth (vector all)) _ _ (rising-pure (tt {0})) (λ s low. tt)
rising-tested at (Some (range a s b)) = rising-pure (tt {0})

pub rising-asserted : (at : Place) (args : Arguments) (found : List Datum) → Rising (asserted at args found)
unfolding asserted
rising-asserted at args found = rising-tested at
    (value_of_name (codes "test") (given (codes "test" ∷ codes "text" ∷ [])
    args found))

pub rising-judged : (at : Place) (word : List ℕ) (args : Arguments) → Rising (judge_named at word args)
unfolding judge_named fault_of
rising-judged at word args = rising-if (are_named args) _ _ (rising-pure (tt {0})) (λ s low. tt)

pub rising-variables : (at : Place) (word : List ℕ) (args : Arguments) → Rising (judge_variables at word args)
unfolding judge_variables fault_of
rising-variables at word args = rising-if (is_none args) _ _ (λ s low. tt) (rising-judged at word args)
