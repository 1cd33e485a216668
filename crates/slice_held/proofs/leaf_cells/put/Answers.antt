-- Operations come before their members as they did.
use Rattle.slice_held.proofs.Sound.{sound_by}
use Rattle.slice_held.proofs.leaf_cells.put.Goals as goal

-- src/leaf_cells.rt:10:1
pub returns-clause-sound : goal.returns-clause-sound
returns-clause-sound c = sound_by c.args.cells.now.items c.recount.new.cells.items c.recount.ensures.rest.same
    c.requires.sound.parents c.requires.sound.operations c.recount.ensures.counted
