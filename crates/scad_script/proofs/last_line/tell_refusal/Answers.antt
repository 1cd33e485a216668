-- The report is as sound as it was given.
use Rattle.scad_script.proofs.last_line.tell_refusal.Goals as goal

pub tell-requires : goal.tell-requires
tell-requires g c = record { sound = c.requires.sound }

pub tell-requires-in-Err : goal.tell-requires-in-Err
tell-requires-in-Err g c = record { sound = c.requires.sound }
