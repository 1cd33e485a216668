-- One more bundle is written.
use Rattle.std.proofs.Common.{◌<◌, ◌∷◌, [], ◌∙◌, length, arith}
use Rattle.std.proofs.lemmas.List.{length-append, length-set}
use Rattle.std.proofs.lemmas.Iterator.Consumers.{YieldsList-turn}
use Rattle.std.proofs.lemmas.Iterator.Adapters.{YieldsList-from_vec}
use Rattle.slice_sweep.proofs.Overwriting.{overwritten}
use Rattle.slice_sweep.proofs.replace.overwrite.Goals as goal

pub bundles-preserved : goal.bundles-preserved
bundles-preserved c =
    let i = c.bundles.invariant in
    let place = i.place in
    let room = c.requires in
    let turn = YieldsList-turn (YieldsList-from_vec c.args.bundles.items (cc) (cc)) c.bundles.yielded
    c.bundles.bundle-iterator c.bundles.yielded_by c.next.result c.next.new.self c.in-Some.bundle c.in-Some.is
    c.next.ensures.steps in
    let more : length c.bundles.yielded < length c.args.bundles.items = turn.0 in
    let within : c.bundles.place < length c.args.strands.now.items = omega (arith, place, room, more) in
    record {
      items = overwritten c.args.strands.now.items c.bundles.strands.items c.args.from c.bundles.place
          c.bundles.yielded c.in-Some.bundle place within i.items;
      place = omega (arith, place, length-append c.bundles.yielded (c.in-Some.bundle ∷ []));
      len = length-set _ _ _ ∙ i.len;
    }
