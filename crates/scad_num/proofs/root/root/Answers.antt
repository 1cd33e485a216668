-- The whole root of a square root by the library is the root.
use Rattle.std.proofs.Common.{arith}
use Rattle.scad_num.specs.Root.{root}
use Rattle.scad_num.proofs.SquareRoot.{IsRoot-root, IsRoot-unique, root_small}
use Rattle.scad_num.proofs.root.root.Goals as goal

pub returns-clause-value : goal.returns-clause-value
returns-clause-value c = IsRoot-unique c.args.n c.isqrt.result (root c.args.n)
    (record { square_le = c.isqrt.ensures.square_le; next_square_gt = c.isqrt.ensures.next_square_gt })
    (IsRoot-root c.args.n (omega arith))

pub returns-clause-small : goal.returns-clause-small
returns-clause-small c = root_small c.args.n c.isqrt.result c.isqrt.ensures.square_le c.requires
