-- A stay with those behind it, and then the pairs of those.
use Rattle.std.proofs.Common.{◌+◌, false, List, ◌∷◌, All, drop, get_or, pos, sym, subst}
use Rattle.std.proofs.lemmas.List.{drop_more, at_drop_all}
use Rattle.std.proofs.lemmas.List.Elements.{All-drop}
use Rattle.scad_geom.specs.declared.point.Edge.{Edge}
use Rattle.slice_events.specs.declared.stay.Stay.{Stay}
use Rattle.slice_events.specs.Lines.{edges_in}
use Rattle.slice_events.specs.Stays.{AreInOrder, IsStayOf}
use Rattle.slice_events.specs.Yields.{Yield, yield_with, yield_among, HasRoom, HasYielded, IsLeft}
use Rattle.slice_events.proofs.Steps.{rest_is}
use Rattle.slice_events.proofs.InOrder.{in_order-drop}
use Rattle.slice_events.proofs.Yields.{among_more, left_first, left_more, left_none, left_room}
use Rattle.slice_events.proofs.buckets.compare_all.Goals as goal

abbrev none : Stay
none = record { bucket = 0; left = pos 0; line = 0; starts = false }

pub stays-init : goal.stays-init
stays-init c = left_first c.args.found.now (yield_among (edges_in c.args.lines.now) c.args.stays.now)

pub compare_with-requires-clause-stay : goal.compare_with-requires-clause-stay
compare_with-requires-clause-stay c = c.requires.stays c.stays.i none c.stays-test.true

pub compare_with-requires-clause-stays : goal.compare_with-requires-clause-stays
compare_with-requires-clause-stays c =
    let P = IsStayOf (edges_in c.args.lines.now) in
    let ss : List Stay = c.args.stays.now in
    subst (All P) (sym (rest_is ss (c.stays.i + 1))) (All-drop P (c.stays.i + 1) ss c.requires.stays)

pub compare_with-requires-clause-order : goal.compare_with-requires-clause-order
compare_with-requires-clause-order c =
    let ss : List Stay = c.args.stays.now in
    let i = c.stays.i in
    subst (λ (rest : List Stay). AreInOrder (get_or ss i none ∷ rest)) (sym (rest_is ss (i + 1)))
    (subst AreInOrder (drop_more ss i none c.stays-test.true) (in_order-drop ss i c.requires.order))

pub compare_with-requires-clause-room : goal.compare_with-requires-clause-room
compare_with-requires-clause-room c =
    let es : List Edge = edges_in c.args.lines.now in
    let ss : List Stay = c.args.stays.now in
    let i = c.stays.i in
    let s : Stay = get_or ss i none in
    subst (λ (rest : List Stay). HasRoom c.stays.found (yield_with es s rest)) (sym (rest_is ss (i + 1)))
    (left_room c.args.found.now c.stays.found (yield_with es s (drop (i + 1) ss)) (yield_among es (drop (i + 1) ss))
    (yield_among es ss) c.requires.room
    (subst (λ (y : Yield). IsLeft c.args.found.now c.stays.found y (yield_among es ss))
    (among_more es ss i none c.stays-test.true) c.stays.invariant))

pub stays-preserved : goal.stays-preserved
stays-preserved c =
    let es : List Edge = edges_in c.args.lines.now in
    let ss : List Stay = c.args.stays.now in
    let i = c.stays.i in
    let s : Stay = get_or ss i none in
    left_more c.args.found.now c.stays.found c.compare_with.new.found (yield_with es s (drop (i + 1) ss))
    (yield_among es (drop (i + 1) ss)) (yield_among es ss)
    (subst (λ (y : Yield). IsLeft c.args.found.now c.stays.found y (yield_among es ss))
    (among_more es ss i none c.stays-test.true) c.stays.invariant)
    (subst (λ (rest : List Stay). HasYielded c.stays.found c.compare_with.new.found (yield_with es s rest))
    (rest_is ss (i + 1)) c.in_ok-compare_with.ensures)

pub returns : goal.returns
returns c =
    let es : List Edge = edges_in c.args.lines.now in
    let ss : List Stay = c.args.stays.now in
    left_none c.args.found.now c.stays.found (yield_among es ss)
    (subst (λ (y : Yield). IsLeft c.args.found.now c.stays.found y (yield_among es ss))
    (at_drop_all (yield_among es) ss c.stays.i c.stays-test.false) c.stays.invariant)
