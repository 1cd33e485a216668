use Rattle.std.proofs.Common.{◌+◌, ◌++◌, [], drop, sym, ap, ◌∙◌, arith}
use Rattle.std.proofs.lemmas.List.{append-nil}
use Rattle.scad_scope.specs.Slots.{slot_onto, slots_from}
use Rattle.scad_scope.proofs.FoundSlots.{slots-drop, slots-end}
use Rattle.scad_scope.proofs.resolution.resolve.Goals as goal

pub frames-preserved : goal.frames-preserved
frames-preserved c =
    let name = c.args.name.now in
    let up = c.frames.up in
    let i = c.frames.names-index in
    let list = c.frames.list.items in
    record {
      counted = omega arith;
      noted = ap (λ s. s ++ slots_from name (up + 1) (drop (i + 1) c.args.frames.now))
          (c.in_ok-note.ensures ∙ ap (λ p. list ++ slot_onto up p []) c.place.ensures)
          ∙ slots-drop name up c.args.frames.now i c.names-item.result list c.frames-test.true c.names-item.is
          ∙ c.frames.invariant.noted;
    }

pub returns : goal.returns
returns c =
    let list = c.frames.list.items in
    c.from_vec.ensures
    ∙ sym (ap (λ s. list ++ s) (slots-end c.args.name.now c.frames.up c.args.frames.now c.frames.names-index
    (omega arith)) ∙ append-nil list)
    ∙ c.frames.invariant.noted
