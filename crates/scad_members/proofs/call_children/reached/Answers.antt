use Rattle.std.proofs.Common.{refl, arith}
use Rattle.scad_ast.specs.Scope.{items}
use Rattle.scad_scope.specs.View.{stored, children_stored}
use Rattle.scad_members.proofs.KeptRound.{reached-before, reached-past}
use Rattle.scad_members.proofs.call_children.reached.Goals as goal

pub returns-then-kept-at : goal.returns-then-kept-at
returns-then-kept-at c =
    reached-before (stored c.args.frames.now) c.args.at c.requires.there (children_stored c.args.kept) c.requires.kept
    c.if-kept-at.true

pub returns-else-kept-at : goal.returns-else-kept-at
returns-else-kept-at c =
    reached-past (stored c.args.frames.now) c.args.at c.requires.there (children_stored c.args.kept)
    (record { statements = items c.args.kept.scope.now.items; home = c.len.result })
    c.requires.kept c.if-kept-at.false refl (omega (arith, c.len.ensures))
