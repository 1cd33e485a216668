-- Actions, whatever state they begin in: what they give is such, what they are refused for is of the source, and no
-- count falls or passes its limit.
use Rattle.std.proofs.Common.{◌≡◌, ℕ, ◌+◌, Bool, true, false, List, [], ◌∷◌, ◌++◌, length, if◌then◌else◌, refl, arith}
use Rattle.std.specs.Prelude.{nat_lt, encode_utf8_all}
use Rattle.std.proofs.lemmas.Bool.{ltb-false}
use Rattle.scad_fault.specs.declared.place.Place.{Place}
use Rattle.scad_fault.specs.declared.fault.FaultKind.{FaultKind}
use Rattle.scad_fault.specs.declared.budget.BudgetKind.{BudgetKind}
use Rattle.scad_fault.specs.declared.budget.BudgetKind.TheVariants.{Steps, Depth, Leaves, Triangles}
use Rattle.scad_value.specs.Datum.{Datum}
use Rattle.scad_value.specs.Measures.{made, nesting}
use Rattle.scad_machine.specs.declared.fault.EvalFault.{EvalFault}
use Rattle.scad_machine.specs.declared.fault.EvalFault.TheVariants.{Fault, Over, Memory}
use Rattle.scad_expr.specs.State.{State, Outcome, gives, refuses, Action, pure, and_then, ◌>>=◌, refuse, fault}
use Rattle.scad_expr.specs.State.{fault_of, over}
use Rattle.scad_expr.specs.State.{take, step, make, say, step_limit, nesting_limit}
use Rattle.scad_shapes.specs.Limits.{triangle_limit}
use Rattle.scad_leaves.specs.Products.{count_leaf, count_triangles, leaf_limit}
use Rattle.meaning_laws.specs.Counts.{Rises}

-- a fault or a budget of the source
abbrev pub OfSource : EvalFault → Type 0
OfSource (Fault f) = Unit {0}
OfSource (Over b) = Unit {0}
OfSource Memory = ⊥

-- nothing is said of it
abbrev pub Any : {A : Type 0} → A → Type 0
Any a = Unit {0}

abbrev pub Kept : {A : Type 0} → (A → Type 0) → State → Outcome A → Type 0
Kept P s (gives a t) = P a × Rises s t
Kept P s (refuses e t) = OfSource e × Rises s t

pub record Keeps {A : Type 0} (P : A → Type 0) (m : Action A) : Type 0 where
  pub each : (s : State) → Kept P s (m s)

-- ---- states
rises-same : (s : State) → Rises s s
rises-same s =
    record { steps = omega arith; leaves = omega arith; triangles = omega arith; within = λ within. within }

rises-then : (s t u : State) → Rises s t → Rises t u → Rises s u
rises-then s t u first next =
    record {
      steps = omega (arith, first.steps, next.steps);
      leaves = omega (arith, first.leaves, next.leaves);
      triangles = omega (arith, first.triangles, next.triangles);
      within = λ within. next.within (first.within within);
    }

-- ---- one action after another
kept-later : {A : Type 0} (P : A → Type 0) (s t : State) (o : Outcome A) → Rises s t → Kept P t o → Kept P s o
kept-later P s t (gives a u) first kept = (kept.0, rises-then s t u first kept.1)
kept-later P s t (refuses e u) first kept = (kept.0, rises-then s t u first kept.1)

kept-then : {A B : Type 0} (P : A → Type 0) (Q : B → Type 0) (s : State) (o : Outcome A) (f : A → Action B) → Kept P s o
    → ((a : A) → P a → Keeps Q (f a)) → Kept Q s (and_then o f)
kept-then P Q s (gives a t) f kept next = kept-later Q s t (f a t) kept.1 ((next a kept.0).each t)
kept-then P Q s (refuses e t) f kept next = kept

pub bind : {A B : Type 0} {P : A → Type 0} {Q : B → Type 0} {m : Action A} {f : A → Action B} → Keeps P m
    → ((a : A) → P a → Keeps Q (f a)) → Keeps Q (m >>= f)
bind {P = P} {Q = Q} {m = m} {f = f} first next =
    record { each = λ s. kept-then P Q s (m s) f (first.each s) next }

pub either : {A : Type 0} {P : A → Type 0} {m n : Action A} (b : Bool) → Keeps P m → Keeps P n
    → Keeps P (if b then m else n)
either true first other = first
either false first other = other

pub keeps-pure : {A : Type 0} {P : A → Type 0} (a : A) → P a → Keeps P (pure a)
keeps-pure a p = record { each = λ s. (p, rises-same s) }

-- ---- refusals
pub keeps-refuse : {A : Type 0} {P : A → Type 0} (e : EvalFault) → OfSource e → Keeps P (refuse e)
keeps-refuse e source = record { each = λ s. (source, rises-same s) }

pub keeps-fault : {A : Type 0} {P : A → Type 0} (kind : FaultKind) (at : Place) → Keeps P (fault kind at)
unfolding fault
keeps-fault kind at = keeps-refuse _ tt

pub keeps-fault_of : {A : Type 0} {P : A → Type 0} (kind : FaultKind) (at : Place) (name : List ℕ)
    → Keeps P (fault_of kind at name)
unfolding fault_of
keeps-fault_of kind at name = keeps-refuse _ tt

pub keeps-over : {A : Type 0} {P : A → Type 0} (kind : BudgetKind) (at : Place) → Keeps P (over kind at)
unfolding over
keeps-over kind at = keeps-refuse _ tt

-- ---- counts
kept-take : (count : ℕ) (at : Place) (s : State) → Kept Any s (take count at s)
unfolding take over
kept-take count at s = by (nat_lt step_limit (s.steps + count)) refl
  where
    by : (b : Bool) → nat_lt step_limit (s.steps + count) ≡ b
        → Kept Any s (if b then over Steps at s else gives (tt {0}) (record s { steps = s.steps + count }))
    by true is = (tt, rises-same s)
    by false is =
        let below = ltb-false step_limit (s.steps + count) is in (
          tt,
          record {
            steps = omega arith;
            leaves = omega arith;
            triangles = omega arith;
            within = λ w. record { steps = below; leaves = w.leaves; triangles = w.triangles };
          },
        )

pub keeps-take : (count : ℕ) (at : Place) → Keeps Any (take count at)
keeps-take count at = record { each = kept-take count at }

pub keeps-step : (at : Place) → Keeps Any (step at)
unfolding step
keeps-step at = keeps-take 1 at

kept-leaf : (at : Place) (s : State) → Kept Any s (count_leaf at s)
unfolding count_leaf over
kept-leaf at s = by (nat_lt leaf_limit (s.leaves + 1)) refl
  where
    by : (b : Bool) → nat_lt leaf_limit (s.leaves + 1) ≡ b
        → Kept Any s (if b then over Leaves at s else pure (tt {0}) (record s { leaves = s.leaves + 1 }))
    by true is = (tt, rises-same s)
    by false is =
        let below = ltb-false leaf_limit (s.leaves + 1) is in (
          tt,
          record {
            steps = omega arith;
            leaves = omega arith;
            triangles = omega arith;
            within = λ w. record { steps = w.steps; leaves = below; triangles = w.triangles };
          },
        )

pub keeps-count_leaf : (at : Place) → Keeps Any (count_leaf at)
keeps-count_leaf at = record { each = kept-leaf at }

kept-triangles : (count : ℕ) (at : Place) (s : State) → Kept Any s (count_triangles count at s)
unfolding count_triangles over
kept-triangles count at s = by (nat_lt triangle_limit (s.triangles + count)) refl
  where
    by : (b : Bool) → nat_lt triangle_limit (s.triangles + count) ≡ b
        → Kept Any s (if b then over Triangles at s else pure (tt {0}) (record s { triangles = s.triangles + count }))
    by true is = (tt, rises-same s)
    by false is =
        let below = ltb-false triangle_limit (s.triangles + count) is in (
          tt,
          record {
            steps = omega arith;
            leaves = omega arith;
            triangles = omega arith;
            within = λ w. record { steps = w.steps; leaves = w.leaves; triangles = below };
          },
        )

pub keeps-count_triangles : (count : ℕ) (at : Place) → Keeps Any (count_triangles count at)
keeps-count_triangles count at = record { each = kept-triangles count at }

-- ---- what takes steps
pub keeps-make : (at : Place) (d : Datum) → Keeps Any (make at d)
unfolding make
keeps-make at d =
    either (nat_lt nesting_limit (nesting d)) (keeps-over Depth at)
    (bind (keeps-take (made d) at) (λ _ _. keeps-pure d tt))

abbrev said : State → List ℕ → State
said s line = record s { echoes = s.echoes ++ encode_utf8_all line ∷ [] }

-- a line is no count
rises-said : (s : State) (line : List ℕ) → Rises s (said s line)
rises-said s line =
    record {
      steps = omega arith;
      leaves = omega arith;
      triangles = omega arith;
      within = λ w. record { steps = w.steps; leaves = w.leaves; triangles = w.triangles };
    }

pub keeps-say : (at : Place) (line : List ℕ) → Keeps Any (say at line)
unfolding say
keeps-say at line =
    record {
      each = λ s. kept-later Any s (said s line) (take (length line) at (said s line)) (rises-said s line)
          (kept-take (length line) at (said s line));
    }
