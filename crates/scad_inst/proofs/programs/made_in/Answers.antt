-- What a program means is what its statements give at first.
use Rattle.std.proofs.Common.{subst, sym}
use Rattle.scad_ast.specs.Scope.{program_of}
use Rattle.scad_tree.specs.View.{solid_of}
use Rattle.scad_expr.specs.Answers.{Does}
use Rattle.scad_expr.specs.Machine.{state_of}
use Rattle.scad_expr.specs.State.{State}
use Rattle.scad_members.specs.Meaning.{means}
use Rattle.scad_members.specs.Meaning.{program_of as outcome_of}
use Rattle.scad_inst.proofs.programs.made_in.Goals as goal

pub returns : goal.returns
unfolding means
returns c =
    c.answer.ensures (state_of c.tree_of-tree.new.m) (means (program_of c.args.program.now)) (sym c.echoes_of.ensures)
    (subst (λ (s : State). Does solid_of (outcome_of (program_of c.args.program.now) s) c.tree_of-tree.result
    (state_of c.tree_of-tree.new.m)) c.requires.state c.tree_of-tree.ensures)
