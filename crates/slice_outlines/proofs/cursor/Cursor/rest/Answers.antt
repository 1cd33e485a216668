-- The cursor goes to the place behind all bundles.
use Rattle.std.proofs.Common.{arith}
use Rattle.slice_outlines.proofs.cursor.Cursor.rest.Goals as goal

pub returns-clause-place : goal.returns-clause-place
returns-clause-place c = omega (arith, c.count.ensures, c.requires.stands.on.there)
