-- One stay more, or none that meets.
use Rattle.std.proofs.Common.{◌≡◌, ◌∙◌, false, ap, sym, get_or, pos, subst, to_z, of_z}
use Rattle.std.proofs.lemmas.List.{at_drop_all}
use mir.Syntax.{w32}
use Rattle.scad_geom.proofs.Casts.{by_cast}
use Rattle.slice_events.specs.declared.stay.Stay.{Stay}
use Rattle.slice_events.specs.Lines.{edges_in}
use Rattle.slice_events.specs.Boxes.{right_end}
use Rattle.slice_events.specs.Yields.{Yield, yield_with, IsLeft}
use Rattle.slice_events.proofs.InOrder.{past_by}
use Rattle.slice_events.proofs.Early.{ends_early, room_for_one, one_more}
use Rattle.slice_events.proofs.Yields.{left_first, left_none}
use Rattle.slice_events.proofs.buckets.compare_with.Goals as goal

abbrev none : Stay
none = record { bucket = 0; left = pos 0; line = 0; starts = false }

pub line_at-requires : goal.line_at-requires
line_at-requires c = c.requires.stay.0

pub later-init : goal.later-init
later-init c = left_first c.args.found.now (yield_with (edges_in c.args.lines.now) c.args.s.now c.args.later.now)

pub returns-then-lies_past : goal.returns-then-lies_past
returns-then-lies_past c =
    let es = edges_in c.args.lines.now in
    let t : Stay = get_or c.args.later.now c.later.t-index none in
    let right : to_z w32 (of_z w32 c.right_end-right.result) ≡ right_end c.line_at.result.now.edge =
    by_cast w32 c.right_end-right.type_inv c.right_end-right.ensures in
    ends_early es c.args.s.now c.args.later.now c.later.t-index
    none c.args.found.now c.later.found c.later-test.true
    c.later.invariant
    c.requires.stays c.requires.order
    (past_by es c.args.s.now t (to_z w32 (of_z w32 c.right_end-right.result))
    (sym c.lies_past.ensures ∙ c.if-lies_past.true)
    (right ∙ ap right_end c.line_at.ensures))

pub compare_stays-requires-clause-s : goal.compare_stays-requires-clause-s
compare_stays-requires-clause-s c = c.requires.stay

pub compare_stays-requires-clause-t : goal.compare_stays-requires-clause-t
compare_stays-requires-clause-t c = c.requires.stays c.later.t-index none c.later-test.true

pub compare_stays-requires-clause-room : goal.compare_stays-requires-clause-room
compare_stays-requires-clause-room c =
    room_for_one (edges_in c.args.lines.now) c.args.s.now c.args.later.now c.later.t-index
    none c.args.found.now c.later.found c.later-test.true
    c.later.invariant c.requires.room

pub later-preserved : goal.later-preserved
later-preserved c =
    one_more (edges_in c.args.lines.now) c.args.s.now c.args.later.now c.later.t-index
    none c.args.found.now c.later.found c.later-test.true
    c.later.invariant
    c.compare_stays.new.found c.in_ok-compare_stays.ensures

pub returns : goal.returns
returns c =
    let whole : Yield = yield_with (edges_in c.args.lines.now) c.args.s.now c.args.later.now in
    left_none c.args.found.now c.later.found whole
    (subst (λ (y : Yield). IsLeft c.args.found.now c.later.found y whole)
    (at_drop_all (yield_with (edges_in c.args.lines.now) c.args.s.now) c.args.later.now c.later.t-index
    c.later-test.false) c.later.invariant)
