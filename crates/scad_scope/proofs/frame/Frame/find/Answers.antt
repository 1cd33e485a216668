use Rattle.std.proofs.Common.{get_or, sym, arith}
use Rattle.scad_scope.specs.declared.slot.Slot.{Slot}
use Rattle.scad_scope.specs.View.{frame_listed, frame_stored}
use Rattle.scad_scope.proofs.Finding.{any-default, find-here, find-other, find-past}
use Rattle.scad_scope.proofs.HeldNames.{held-listing, unlisted-absent}
use Rattle.scad_scope.proofs.frame.Frame.find.Goals as goal

pub returns-then-slots-next : goal.returns-then-slots-next
unfolding frame_listed frame_stored
returns-then-slots-next c =
    λ name listing more told is.
    let r = find-past name c.args.up listing more c.args.slots.now c.args.next (omega arith) is in
    (unlisted-absent name listing _ (held-listing _ _ listing told).1 r.0, r.1)

pub returns-then-slots-next-2 : goal.returns-then-slots-next-2
unfolding frame_listed frame_stored
returns-then-slots-next-2 c =
    λ name listing more told is.
    let d : Slot = record { up = 0; place = 0 } in
    let s = get_or c.args.slots.now c.args.next d in
    let below = c.if-slots-next.false in
    let r = find-other name c.args.up listing more c.args.slots.now c.args.next s below
    (any-default c.args.slots.now c.args.next d s below) c.if-slots-next-2.true is in
    (unlisted-absent name listing _ (held-listing _ _ listing told).1 r.0, r.1)

pub returns-in-Some : goal.returns-in-Some
unfolding frame_listed frame_stored
returns-in-Some c =
    λ name listing more told is.
    let d : Slot = record { up = 0; place = 0 } in
    let s = get_or c.args.slots.now c.args.next d in
    let below = c.if-slots-next.false in
    let r = find-here name c.args.up listing more c.args.slots.now c.args.next s below
    (any-default c.args.slots.now c.args.next d s below) c.if-slots-next-2.false is in
    sym (c.in-Some.ensures name listing told r.0)

pub returns-in-None : goal.returns-in-None
unfolding frame_listed frame_stored
returns-in-None c =
    λ name listing more told is.
    let d : Slot = record { up = 0; place = 0 } in
    let s = get_or c.args.slots.now c.args.next d in
    let below = c.if-slots-next.false in
    let r = find-here name c.args.up listing more c.args.slots.now c.args.next s below
    (any-default c.args.slots.now c.args.next d s below) c.if-slots-next-2.false is in
    (sym (c.in-None.ensures name listing told r.0), r.1)
