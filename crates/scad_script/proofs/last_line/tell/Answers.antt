-- The report is as sound as it was given.
use Rattle.scad_script.proofs.last_line.tell.Goals as goal

pub write_all-requires-clause-sound : goal.write_all-requires-clause-sound
write_all-requires-clause-sound g c = c.requires.sound
