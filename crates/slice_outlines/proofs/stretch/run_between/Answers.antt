-- From those that lie to the left of the first place to those that don't lie to the right of the last.
use Rattle.std.proofs.Common.{◌≡◌, ap, ◌∙◌}
use lib.IntN.{ℤ}
use Rattle.slice_border.specs.Pieces.{whole_spot}
use Rattle.slice_outlines.proofs.Joining.{whole_cast}
use Rattle.slice_outlines.proofs.StrandSearch.{lie_between, from_then_to}
use Rattle.slice_outlines.proofs.stretch.run_between.Goals as goal

pub returns-clause-run : goal.returns-clause-run
returns-clause-run c =
    let h = c.args.height.now in
    let from : c.whole_spot-from.result.spot ≡ whole_spot c.args.left h.at.now = c.whole_spot-from.ensures
    ∙ ap (λ (x : ℤ). whole_spot x h.at.now) (whole_cast c.args.left c.requires.left) in
    let to : c.whole_spot-to.result.spot ≡ whole_spot c.args.right h.at.now = c.whole_spot-to.ensures
    ∙ ap (λ (x : ℤ). whole_spot x h.at.now) (whole_cast c.args.right c.requires.right) in
    record {
      below = from_then_to h c.args.left c.args.right c.whole_spot-from.result c.whole_spot-to.result h.below.now
          c.first_from.result c.first_behind.result from to
          c.first_from.ensures.bound c.first_behind.ensures.bound c.first_from.ensures.point
          c.first_behind.ensures.point c.requires.ends h.at_within.positive c.requires.below_pass;
      below_to = c.first_behind.ensures.bound;
      above = from_then_to h c.args.left c.args.right c.whole_spot-from.result c.whole_spot-to.result c.args.above.now
          c.first_from-2.result c.first_behind-2.result from to
          c.first_from-2.ensures.bound c.first_behind-2.ensures.bound c.first_from-2.ensures.point
          c.first_behind-2.ensures.point c.requires.ends h.at_within.positive c.requires.above_pass;
      above_to = c.first_behind-2.ensures.bound;
    }

pub returns-clause-below : goal.returns-clause-below
returns-clause-below c =
    let h = c.args.height.now in
    let from : c.whole_spot-from.result.spot ≡ whole_spot c.args.left h.at.now = c.whole_spot-from.ensures
    ∙ ap (λ (x : ℤ). whole_spot x h.at.now) (whole_cast c.args.left c.requires.left) in
    let to : c.whole_spot-to.result.spot ≡ whole_spot c.args.right h.at.now = c.whole_spot-to.ensures
    ∙ ap (λ (x : ℤ). whole_spot x h.at.now) (whole_cast c.args.right c.requires.right) in
    lie_between h c.args.left c.args.right c.whole_spot-from.result c.whole_spot-to.result h.below.now
    c.first_from.result c.first_behind.result from to
    c.first_from.ensures.bound c.first_behind.ensures.bound c.first_from.ensures.point c.first_behind.ensures.point

pub returns-clause-above : goal.returns-clause-above
returns-clause-above c =
    let h = c.args.height.now in
    let from : c.whole_spot-from.result.spot ≡ whole_spot c.args.left h.at.now = c.whole_spot-from.ensures
    ∙ ap (λ (x : ℤ). whole_spot x h.at.now) (whole_cast c.args.left c.requires.left) in
    let to : c.whole_spot-to.result.spot ≡ whole_spot c.args.right h.at.now = c.whole_spot-to.ensures
    ∙ ap (λ (x : ℤ). whole_spot x h.at.now) (whole_cast c.args.right c.requires.right) in
    lie_between h c.args.left c.args.right c.whole_spot-from.result c.whole_spot-to.result c.args.above.now
    c.first_from-2.result c.first_behind-2.result from to
    c.first_from-2.ensures.bound c.first_behind-2.ensures.bound c.first_from-2.ensures.point
    c.first_behind-2.ensures.point
