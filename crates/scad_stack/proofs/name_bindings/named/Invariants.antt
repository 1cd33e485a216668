use Rattle.std.proofs.Common.{◌≡◌, length}
use Rattle.scad_ast.specs.View.{arguments}
use Rattle.scad_stack.specs.Pieces.{named_of}
use Rattle.scad_stack.proofs.name_bindings.named.Given as goal

abbrev pub invariant-names : goal.invariant-names
invariant-names l = named_of (arguments l.rest) ≡ named_of (arguments l.args)

abbrev pub decreases-names : goal.decreases-names
decreases-names l = length l.rest
