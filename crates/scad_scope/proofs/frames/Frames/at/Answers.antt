use Rattle.std.proofs.Common.{None, map, drop, take, sym, ap, ◌∙◌, arith}
use Rattle.std.proofs.lemmas.List.{get_or-map, length-map}
use Rattle.scad_value.specs.View.{datum_of}
use Rattle.scad_scope.specs.Env.{sought}
use Rattle.scad_scope.specs.FrameStore.{Stored, envs, env_round, pushed}
use Rattle.scad_scope.specs.View.{frame_listed, frame_stored, listed, stored}
use Rattle.scad_scope.proofs.Finding.{here, names-index, outer}
use Rattle.scad_scope.proofs.Outwards.{stored-index, sought-past, sought-there, sought-round, round-before, round-past}
use Rattle.scad_scope.proofs.frames.Frames.at.Goals as goal

pub returns-then-len-here : goal.returns-then-len-here
unfolding listed stored
returns-then-len-here c =
    λ name listings is hold.
    let fs = c.args.self.now.frames.items in
    let many = length-map fs frame_stored in
    sym (sought-past (map frame_stored fs) c.outwards.here name (omega (arith, many)))
    ∙ (c.outwards.invariant.left name listings is hold).same

pub returns-in-Ok : goal.returns-in-Ok
unfolding listed stored
returns-in-Ok c =
    λ name listings is hold.
    let fs = c.args.self.now.frames.items in
    let all = map frame_stored fs in
    let many = length-map fs frame_stored in
    let f = c.index-frame.result.now in
    let at = c.outwards.here in
    let left = c.outwards.invariant.left name listings is hold in
    let h = here name (map frame_listed fs) all c.args.slots.now c.args.from at c.outwards.up c.outwards.next left in
    let found = c.in-Ok.ensures name h.listing h.more
    (sym (names-index fs at f (omega arith) c.index-frame.ensures) ∙ h.told)
    (ap (drop c.outwards.next) c.as_slice-all.ensures ∙ h.left) in
    sym (sought-there all at (frame_stored f) (omega (arith, many))
    (stored-index fs at f (omega arith) c.index-frame.ensures) name (datum_of c.in-Ok.value.now) found)
    ∙ left.same

pub returns-then-here-parent : goal.returns-then-here-parent
unfolding listed stored frame_stored
returns-then-here-parent c =
    λ name listings is hold.
    let fs = c.args.self.now.frames.items in
    let all = map frame_stored fs in
    let many = length-map fs frame_stored in
    let f = c.index-frame.result.now in
    let at = c.outwards.here in
    let left = c.outwards.invariant.left name listings is hold in
    let h = here name (map frame_listed fs) all c.args.slots.now c.args.from at c.outwards.up c.outwards.next left in
    let absent = c.in-Err.ensures name h.listing h.more
    (sym (names-index fs at f (omega arith) c.index-frame.ensures) ∙ h.told)
    (ap (drop c.outwards.next) c.as_slice-all.ensures ∙ h.left) in
    sym (sought-round all at (frame_stored f) (omega (arith, many))
    (stored-index fs at f (omega arith) c.index-frame.ensures) name absent.0
    ∙ ap (sought name) (round-past (envs all) f.parent at c.in-Some.parent c.in-Some.is (omega arith)))
    ∙ left.same

pub outwards-preserved : goal.outwards-preserved
unfolding listed stored frame_stored
outwards-preserved c = record {
  near = omega (arith, c.outwards.invariant.near);
  left = λ name listings is hold.
      let fs = c.args.self.now.frames.items in
      let all = map frame_stored fs in
      let many = length-map fs frame_stored in
      let f = c.index-frame.result.now in
      let at = c.outwards.here in
      let left = c.outwards.invariant.left name listings is hold in
      let h = here name (map frame_listed fs) all c.args.slots.now c.args.from at c.outwards.up c.outwards.next left in
      let there = stored-index fs at f (omega arith) c.index-frame.ensures in
      let absent = c.in-Err.ensures name h.listing h.more
      (sym (names-index fs at f (omega arith) c.index-frame.ensures) ∙ h.told)
      (ap (drop c.outwards.next) c.as_slice-all.ensures ∙ h.left) in
      let round = sought-round all at (frame_stored f) (omega (arith, many)) there name absent.0
      ∙ ap (sought name) (round-before (envs all) f.parent at c.in-Some.parent c.in-Some.is (omega arith)) in
      let parent = ap (λ (x : Stored). x.parent)
      (get_or-map frame_stored fs at f (pushed None None None) (omega arith)
      ∙ sym (ap frame_stored c.index-frame.ensures)) ∙ c.in-Some.is in
      outer name (map frame_listed fs) all c.args.slots.now c.args.from at c.outwards.up c.outwards.next left
      c.in-Some.parent c.in-Err.left parent (omega arith)
      (ap (drop c.in-Err.left) (sym c.as_slice-all.ensures) ∙ absent.1) (sym round);
}

pub returns-in-None : goal.returns-in-None
unfolding listed stored frame_stored
returns-in-None c =
    λ name listings is hold.
    let fs = c.args.self.now.frames.items in
    let all = map frame_stored fs in
    let many = length-map fs frame_stored in
    let f = c.index-frame.result.now in
    let at = c.outwards.here in
    let left = c.outwards.invariant.left name listings is hold in
    let h = here name (map frame_listed fs) all c.args.slots.now c.args.from at c.outwards.up c.outwards.next left in
    let absent = c.in-Err.ensures name h.listing h.more
    (sym (names-index fs at f (omega arith) c.index-frame.ensures) ∙ h.told)
    (ap (drop c.outwards.next) c.as_slice-all.ensures ∙ h.left) in
    sym (sought-round all at (frame_stored f) (omega (arith, many))
    (stored-index fs at f (omega arith) c.index-frame.ensures) name absent.0
    ∙ ap (λ p. sought name (env_round (take at (envs all)) p)) c.in-None.is)
    ∙ left.same
