use Rattle.std.proofs.Common.{◌++◌, [], flat_map, List, take, get_or, ap, ap₂, sym, ◌∙◌, ℤ}
use Rattle.std.specs.Ordering.{int_eq}
use Rattle.std.proofs.lemmas.List.{take_all, take_more, flat_map_more}
use Rattle.std.proofs.lemmas.List.Filters.{dedup_is}
use Rattle.plan_support.specs.Lines.{row_heights}
use Rattle.plan_support.proofs.Ascending.{are_heights}
use Rattle.plan_support.proofs.heights.heights_of.Goals as goal

pub layers-preserved : goal.layers-preserved
layers-preserved c =
    let layers = c.args.layers.now in
    let i = c.layers.rows-index in
    let rows = c.rows-item.result in
    c.in_ok-extend_from_slice.ensures.items
    ∙ ap₂ (λ (xs ys : List ℤ). xs ++ ys) c.layers.invariant (c.heights.ensures ∙ ap row_heights c.rows-item.is)
    ∙ flat_map_more row_heights [] (take i layers) (get_or layers i rows)
    ∙ ap (flat_map row_heights) (sym (take_more layers i rows c.layers-test.true))

pub returns : goal.returns
returns c =
    are_heights c.args.layers.now c.layers.heights.items c.sort.new.self.items c.dedup.new.self.items c.requires
    (c.layers.invariant
    ∙ ap (flat_map row_heights) (take_all c.layers.rows-index c.args.layers.now c.layers-test.false))
    c.in_ok-sort.ensures.permutation c.in_ok-sort.ensures.sorted
    (dedup_is int_eq c.sort.new.self.items c.dedup.new.self.items c.dedup.ensures.filtered)
