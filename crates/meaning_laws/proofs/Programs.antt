-- What statements and programs keep, at each depth, and the laws.
use Rattle.std.proofs.Common.{ℕ, zero, suc, subst, arith}
use Rattle.scad_fault.specs.declared.budget.BudgetKind.TheVariants.{Depth}
use Rattle.scad_ast.specs.Tree.{Items}
use Rattle.scad_expr.specs.State.{State, Outcome, gives, refuses, start, depth_limit}
use Rattle.scad_expr.specs.Variables.{first_env, first_along}
use Rattle.scad_tree.specs.Normal.{united}
use Rattle.scad_tree.specs.Solids.{AreSolids}
use Rattle.scad_leaves.specs.Where.{at_first}
use Rattle.scad_inst.specs.Scopes.{item_place}
use Rattle.scad_inst.specs.Meaning.{statements_meaning, program_of, means}
use Rattle.meaning_laws.specs.Counts.{IsWithin, Rises, state_of, CountsRise, CountsStayWithin}
use Rattle.meaning_laws.specs.Memory.{ProgramsWantNoMemory}
use Rattle.meaning_laws.specs.Solids.{ProgramsMeanSolids}
use Rattle.meaning_laws.proofs.Keeping.{Kept, Keeps, bind, keeps-pure, keeps-over, keeps-step}
use Rattle.meaning_laws.proofs.Expressions.{keeps-meaning}
use Rattle.meaning_laws.proofs.Statements.{AllGive, keeps-members, keeps-layer}
use Rattle.meaning_laws.proofs.Trees.{solids-united}

keeps-statements : (depth : ℕ) → AllGive (statements_meaning depth)
unfolding statements_meaning
keeps-statements zero =
    record {
      expressions = keeps-meaning 0;
      assignment = λ env along at e. keeps-over Depth at;
      statement = λ w env along i. keeps-over Depth (item_place i);
    }
keeps-statements (suc depth) =
    let deeper = keeps-meaning depth in
    record {
      expressions = keeps-meaning (suc depth);
      assignment = λ env along at e. bind (keeps-step at) (λ _ _. deeper.value env along e);
      statement = keeps-layer (statements_meaning depth) (keeps-statements depth);
    }

keeps-program : (program : Items) → Keeps AreSolids (program_of program)
unfolding program_of
keeps-program program =
    let keeps = keeps-members (statements_meaning depth_limit) (keeps-statements depth_limit) in
    bind (keeps at_first program first_env first_along) (λ ss solids. keeps-pure (united ss) (solids-united ss solids))

rises : {A : Type 0} (P : A → Type 0) (s : State) (o : Outcome A) → Kept P s o → Rises s (state_of o)
rises P s (gives a t) kept = kept.1
rises P s (refuses e t) kept = kept.1

-- nothing was counted yet
within-start : IsWithin start
within-start = record { steps = omega arith; leaves = omega arith; triangles = omega arith }

-- ---- the laws
pub programs_mean_solids : ProgramsMeanSolids
unfolding means
programs_mean_solids program tree s is =
    let kept = subst (Kept AreSolids start) is ((keeps-program program).each start) in kept.0

pub programs_want_no_memory : ProgramsWantNoMemory
unfolding means
programs_want_no_memory program s is =
    let kept = subst (Kept AreSolids start) is ((keeps-program program).each start) in kept.0

pub counts_rise : CountsRise
counts_rise depth w env along i s =
    rises AreSolids s ((statements_meaning depth).statement w env along i s)
    (((keeps-statements depth).statement w env along i).each s)

pub counts_stay_within : CountsStayWithin
unfolding means
counts_stay_within program =
    (rises AreSolids start (program_of program start) ((keeps-program program).each start)).within within-start
