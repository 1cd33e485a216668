use Rattle.std.proofs.Common.{◌≡◌, map}
use Rattle.std.specs.Vec.Iter.{into_iter_items}
use Rattle.scad_machine.specs.View.{values_in}
use Rattle.scad_machine.specs.Parameters.{shown}
use Rattle.scad_machine.specs.Machine.{held, state_of}
use Rattle.scad_machine.specs.OpenFrames.{set_all_in_last}
use Rattle.scad_machine.proofs.machine.Machine.set_all.Given as goal

abbrev pub invariant-names : goal.invariant-names
invariant-names l =
    (set_all_in_last (map shown (into_iter_items l.name-iterator)) (held l.self) ≡ set_all_in_last (values_in l.fn.all)
    (held l.fn.self))
    × (state_of l.self ≡ state_of l.fn.self) × (l.self.steps_left ≡ l.fn.self.steps_left)
