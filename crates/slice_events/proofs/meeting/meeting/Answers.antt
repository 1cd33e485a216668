-- The bounds hold of the height itself.
use Rattle.std.proofs.Common.{subst, sym}
use Rattle.scad_geom.specs.Limits.{coordinate_limit}
use Rattle.scad_geom.specs.declared.level.Level.{Level}
use Rattle.scad_geom.specs.Level.{IsLevelWithin}
use Rattle.scad_geom.proofs.Bounds.{meeting_within}
use Rattle.slice_events.proofs.meeting.meeting.Goals as goal

pub returns-clause-within : goal.returns-clause-within
returns-clause-within c = subst (λ (h : Level). IsLevelWithin coordinate_limit h) (sym c.level_of_lines.ensures.value)
    (meeting_within coordinate_limit c.args.e.now.edge c.args.f.now.edge c.args.f.now.within
    c.level_of_lines.ensures.divisor c.requires.meets)
