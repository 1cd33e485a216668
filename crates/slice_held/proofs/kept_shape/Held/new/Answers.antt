-- All cells are those that were added.
use Rattle.std.proofs.Common.{length, ap}
use Rattle.slice_held.specs.declared.kept_shape.Held.{Held}
use Rattle.slice_held.proofs.Shown.{ready_first, shown_first}
use Rattle.slice_held.proofs.kept_shape.Held.new.Goals as goal

pub returns-clause-ready : goal.returns-clause-ready
returns-clause-ready c =
    let h : Held = record { cells = c.new.result; lasts = c.in_ok-vec.field-0; earlier = c.new-2.result } in
    ready_first c.args.shape.now h c.add.new.self (ap length c.new.ensures.items) c.in_ok-add.ensures

pub returns-clause-shows : goal.returns-clause-shows
returns-clause-shows c =
    let h : Held = record { cells = c.new.result; lasts = c.in_ok-vec.field-0; earlier = c.new-2.result } in
    shown_first c.args.shape.now h c.add.new.self (ap length c.new.ensures.items) c.in_ok-add.ensures
