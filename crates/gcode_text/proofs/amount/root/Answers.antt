use Rattle.std.proofs.Common.{arith}
use Rattle.scad_num.specs.Root.{root}
use Rattle.scad_num.proofs.SquareRoot.{IsRoot-root, IsRoot-unique}
use Rattle.gcode_text.proofs.amount.root.Goals as goal

pub returns-then-n-clause-value : goal.returns-then-n-clause-value
returns-then-n-clause-value c =
    IsRoot-unique c.args.n c.isqrt.result (root c.args.n)
    (record { square_le = c.isqrt.ensures.square_le; next_square_gt = c.isqrt.ensures.next_square_gt })
    (IsRoot-root c.args.n (omega arith))

pub returns-else-n-clause-value : goal.returns-else-n-clause-value
returns-else-n-clause-value c =
    IsRoot-unique c.args.n c.isqrt-else-n.result (root c.args.n)
    (record { square_le = c.isqrt-else-n.ensures.square_le; next_square_gt = c.isqrt-else-n.ensures.next_square_gt })
    (IsRoot-root c.args.n (omega arith))
