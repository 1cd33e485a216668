use Rattle.std.proofs.Common.{◌-◌, arith}
use Rattle.std.proofs.lemmas.Result.{on_ok_weaker}
use Rattle.scad_value.specs.View.{datum_of}
use Rattle.scad_scope.specs.View.{stored}
use Rattle.scad_scope.proofs.Outwards.{stored-last}
use Rattle.scad_scope.proofs.frames.Frames.set.Goals as goal

pub returns-clause-named : goal.returns-clause-named
unfolding stored
returns-clause-named c =
    on_ok_weaker c.set.result (stored-last c.args.self.now.frames.items (c.len-count.result - 1) c.args.name.now
    (datum_of c.args.value) c.index_mut.result.now c.set.new.self (omega arith) (omega arith)
    c.index_mut.ensures.value) c.set.ensures.named
