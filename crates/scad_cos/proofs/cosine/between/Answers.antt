use Rattle.std.proofs.Common.{arith}
use Rattle.scad_cos.proofs.Entries.{between-le}
use Rattle.scad_cos.proofs.cosine.between.Goals as goal

pub overflow_mul-weighed : goal.overflow_mul-weighed
overflow_mul-weighed c = let low = between-le c.args.a c.args.b c.args.part c.requires.a_small c.requires.b_small c.requires.part_small in omega arith

pub overflow_mul-weighed-2 : goal.overflow_mul-weighed-2
overflow_mul-weighed-2 c = let low = between-le c.args.a c.args.b c.args.part c.requires.a_small c.requires.b_small c.requires.part_small in omega arith

pub overflow_add-weighed : goal.overflow_add-weighed
overflow_add-weighed c = let low = between-le c.args.a c.args.b c.args.part c.requires.a_small c.requires.b_small c.requires.part_small in omega arith

pub overflow_add-result : goal.overflow_add-result
overflow_add-result c = let low = between-le c.args.a c.args.b c.args.part c.requires.a_small c.requires.b_small c.requires.part_small in omega arith

pub returns-clause-small : goal.returns-clause-small
returns-clause-small c = let low = between-le c.args.a c.args.b c.args.part c.requires.a_small c.requires.b_small c.requires.part_small in omega arith
