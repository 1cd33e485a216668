-- The place behind those that begin is found, and they are kept.
use Rattle.slice_outlines.proofs.stretch.begin_flats.Goals as goal

pub begun_to-to-requires : goal.begun_to-to-requires
begun_to-to-requires c = c.requires

pub returns-clause-from : goal.returns-clause-from
returns-clause-from c = c.begun_to-to.ensures.from

pub returns-clause-to : goal.returns-clause-to
returns-clause-to c = c.begun_to-to.ensures.to

pub returns-clause-live : goal.returns-clause-live
returns-clause-live c = c.in_ok-extend_from_slice.ensures.items

pub returns-clause-begun : goal.returns-clause-begun
returns-clause-begun c = c.begun_to-to.ensures.begun

pub returns-clause-later : goal.returns-clause-later
returns-clause-later c = c.begun_to-to.ensures.later
