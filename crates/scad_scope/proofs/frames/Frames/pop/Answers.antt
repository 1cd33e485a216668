-- All frames stay but the last.
use Rattle.std.proofs.Common.{◌≡◌, ℕ, ◌-◌, List, map, take, length, sym, ap, ◌∙◌}
use Rattle.std.proofs.lemmas.List.{length-map, take-map}
use Rattle.scad_scope.specs.declared.frame.Frame.{Frame}
use Rattle.scad_scope.specs.View.{frame_listed, frame_stored, listed, stored}
use Rattle.scad_scope.proofs.frames.Frames.pop.Goals as goal

popped : {B : Type 0} (view : Frame → B) (fs gs : List Frame) (many : ℕ) → gs ≡ take (many - 1) fs → many ≡ length fs
    → map view gs ≡ take (length (map frame_stored fs) - 1) (map view fs)
popped view fs gs many rest is =
    ap (map view) rest ∙ sym (take-map view (many - 1) fs)
    ∙ ap (λ n. take (n - 1) (map view fs)) (is ∙ sym (length-map fs frame_stored))

pub returns-clause-frames : goal.returns-clause-frames
unfolding stored
returns-clause-frames c =
    popped frame_stored c.args.self.now.frames.items _ _ c.pop-last.ensures.rest c.args.self.now.frames.ok.0

pub returns-clause-listed : goal.returns-clause-listed
unfolding listed stored
returns-clause-listed c =
    popped frame_listed c.args.self.now.frames.items _ _ c.pop-last.ensures.rest c.args.self.now.frames.ok.0
