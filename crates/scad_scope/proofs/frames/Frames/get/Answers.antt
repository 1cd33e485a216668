use Rattle.std.proofs.Common.{map, take, sym, ap, ◌∙◌, arith}
use Rattle.std.proofs.lemmas.List.{length-map}
use Rattle.scad_value.specs.View.{datum_of}
use Rattle.scad_scope.specs.Env.{sought}
use Rattle.scad_scope.specs.FrameStore.{env_round, envs}
use Rattle.scad_scope.specs.View.{frame_stored, stored}
use Rattle.scad_scope.proofs.Outwards.{stored-index, sought-past, sought-there, sought-round, round-before, round-past}
use Rattle.scad_scope.proofs.frames.Frames.get.Goals as goal

pub returns-then-len-at : goal.returns-then-len-at
unfolding stored
returns-then-len-at c =
    let fs = c.args.self.now.frames.items in
    let many = length-map fs frame_stored in
    sym (sought-past (map frame_stored fs) c.outwards.at c.args.name.now (omega (arith, many))) ∙ c.outwards.invariant

pub returns-in-Some : goal.returns-in-Some
unfolding stored
returns-in-Some c =
    let fs = c.args.self.now.frames.items in
    let many = length-map fs frame_stored in
    let is = stored-index fs c.outwards.at c.index-frame.result.now (omega arith) c.index-frame.ensures in
    sym (sought-there (map frame_stored fs) c.outwards.at (frame_stored c.index-frame.result.now) (omega (arith, many))
    is c.args.name.now (datum_of c.in-Some.value.now) (sym c.in-Some.ensures))
    ∙ c.outwards.invariant

pub returns-then-at-parent : goal.returns-then-at-parent
unfolding stored frame_stored
returns-then-at-parent c =
    let fs = c.args.self.now.frames.items in
    let many = length-map fs frame_stored in
    let f = c.index-frame.result.now in
    let is = stored-index fs c.outwards.at f (omega arith) c.index-frame.ensures in
    sym (sought-round (map frame_stored fs) c.outwards.at (frame_stored f) (omega (arith, many)) is c.args.name.now
    (sym c.in-None.ensures)
    ∙ ap (sought c.args.name.now) (round-past (envs (map frame_stored fs)) f.parent c.outwards.at
    c.in-Some-parent.parent c.in-Some-parent.is (omega arith)))
    ∙ c.outwards.invariant

pub outwards-preserved : goal.outwards-preserved
unfolding stored frame_stored
outwards-preserved c =
    let fs = c.args.self.now.frames.items in
    let many = length-map fs frame_stored in
    let f = c.index-frame.result.now in
    let is = stored-index fs c.outwards.at f (omega arith) c.index-frame.ensures in
    sym (sought-round (map frame_stored fs) c.outwards.at (frame_stored f) (omega (arith, many)) is c.args.name.now
    (sym c.in-None.ensures)
    ∙ ap (sought c.args.name.now) (round-before (envs (map frame_stored fs)) f.parent c.outwards.at
    c.in-Some-parent.parent c.in-Some-parent.is (omega arith)))
    ∙ c.outwards.invariant

pub returns-in-None-parent : goal.returns-in-None-parent
unfolding stored frame_stored
returns-in-None-parent c =
    let fs = c.args.self.now.frames.items in
    let many = length-map fs frame_stored in
    let f = c.index-frame.result.now in
    let is = stored-index fs c.outwards.at f (omega arith) c.index-frame.ensures in
    sym (sought-round (map frame_stored fs) c.outwards.at (frame_stored f) (omega (arith, many)) is c.args.name.now
    (sym c.in-None.ensures)
    ∙ ap (λ p. sought c.args.name.now (env_round (take c.outwards.at (envs (map frame_stored fs))) p))
    c.in-None-parent.is)
    ∙ c.outwards.invariant
