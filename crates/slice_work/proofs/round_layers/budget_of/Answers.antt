use Rattle.std.proofs.Common.{◌≡◌, ◌<◌, length, get_or, rules}
use Rattle.slice_work.proofs.Sought.{over_behind}
use Rattle.slice_work.proofs.round_layers.budget_of.Goals as goal

pub layers-preserved-then-drawn-least : goal.layers-preserved-then-drawn-least
layers-preserved-then-drawn-least c =
    let round = c.args.round.now in
    let inside : c.layers.drawn-index < length round.done.items = search rules in
    let is : c.drawn-item.result ≡ get_or round.done.items c.layers.drawn-index c.drawn-item.result = search rules in
    over_behind round.first c.args.round.now.least round.done.items c.layers.drawn-index c.drawn-item.result
    c.requires.whole.from inside is
    c.if-drawn-least.true c.layers.invariant
