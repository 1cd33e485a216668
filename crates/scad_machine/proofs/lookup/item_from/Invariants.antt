use Rattle.std.proofs.Common.{◌≡◌}
use Rattle.scad_scope.specs.FrameStore.{env_at, envs}
use Rattle.scad_scope.specs.Definitions.{word_of_kind}
use Rattle.scad_scope.specs.View.{stored}
use Rattle.scad_machine.specs.Lookup.{item_named}
use Rattle.scad_machine.proofs.lookup.item_from.Given as goal

abbrev pub invariant-outwards : goal.invariant-outwards
invariant-outwards l =
    (stored l.frames ≡ stored l.fn.frames)
    × (item_named (word_of_kind l.kind) l.name (env_at (envs (stored l.fn.frames)) l.at)
    ≡ item_named (word_of_kind l.kind) l.name
    (env_at (envs (stored l.fn.frames)) l.from))

abbrev pub decreases-outwards : goal.decreases-outwards
decreases-outwards l = l.at
