use Rattle.std.proofs.Common.{arith, subst}
use Rattle.scad_scope.specs.Words.{IsWithin}
use Rattle.scad_scope.proofs.word.Word.as_slice.Goals as goal

pub shared_ref_as_front-result : goal.shared_ref_as_front-result
shared_ref_as_front-result c = omega (arith, subst IsWithin c.in-Short.is c.self.invariant)
