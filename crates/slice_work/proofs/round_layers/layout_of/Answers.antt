use Rattle.std.proofs.Common.{◌≡◌, ◌<◌, length, get_or, rules}
use Rattle.slice_work.proofs.Sought.{made_behind}
use Rattle.slice_work.proofs.round_layers.layout_of.Goals as goal

pub layers-preserved-then-drawn-number : goal.layers-preserved-then-drawn-number
layers-preserved-then-drawn-number c =
    let round = c.args.round.now in
    let inside : c.layers.drawn-index < length round.done.items = search rules in
    let is : c.drawn-item.result ≡ get_or round.done.items c.layers.drawn-index c.drawn-item.result = search rules in
    made_behind round.first c.args.n round.done.items c.layers.drawn-index c.drawn-item.result
    c.requires.whole.from inside is
    c.if-drawn-number.true c.layers.invariant
