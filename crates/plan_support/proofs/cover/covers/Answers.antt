use Rattle.std.proofs.Common.{◌≡◌, ◌<◌, ◌≤◌, length, sym, subst, ap, ◌∙◌, rules}
use Rattle.plan_support.specs.declared.line.Want.TheVariants.{Stretches}
use Rattle.plan_support.specs.Lines.{AreHeights, AreLines}
use Rattle.plan_support.specs.Covers.{stretch_limit, AreTooMany}
use Rattle.plan_support.proofs.RowGathering.{lines_length}
use Rattle.plan_support.proofs.StretchCount.{too_many, are_covers, all_apart, few_enough}
use Rattle.plan_support.proofs.cover.covers.Goals as goal

pub returns-then-counted-gt-STRETCH_LIMIT-clause-runs : goal.returns-then-counted-gt-STRETCH_LIMIT-clause-runs
returns-then-counted-gt-STRETCH_LIMIT-clause-runs g c counted e =
    let layers = c.args.layers.now in
    let heights = c.as_slice-heights.result.now in
    let hs : AreHeights layers heights =
    subst (AreHeights layers) (sym c.as_slice-heights.ensures.value) c.in_ok-heights.ensures in
    let over : stretch_limit < c.in_ok-counted.counted = search rules in
    let same : c.in_ok-counted.counted ≡ counted = cc in
    subst (AreTooMany layers) same (too_many layers heights c.in_ok-counted.counted hs c.in_ok-counted.ensures over)

pub gathered-requires : goal.gathered-requires
gathered-requires g c =
    let h = c.in_ok-lines.ensures in
    lines_length c.args.layers.now Stretches c.as_slice-heights.result.now h.alls c.in_ok-lines.lines.items h.are
    ∙ ap length (sym c.as_slice.ensures.value)

pub returns-clause-covers : goal.returns-clause-covers
returns-clause-covers g c =
    let layers = c.args.layers.now in
    let heights = c.as_slice-heights.result.now in
    let hs : AreHeights layers heights =
    subst (AreHeights layers) (sym c.as_slice-heights.ensures.value) c.in_ok-heights.ensures in
    let h = c.in_ok-lines.ensures in
    let are : AreLines layers Stretches heights h.alls c.as_slice.result.now =
    subst (AreLines layers Stretches heights h.alls) (sym c.as_slice.ensures.value) h.are in
    are_covers layers c.in_ok-gathered.field-0 heights h.alls c.as_slice.result.now hs are c.in_ok-gathered.ensures

pub returns-clause-rows : goal.returns-clause-rows
returns-clause-rows g c =
    let layers = c.args.layers.now in
    let heights = c.as_slice-heights.result.now in
    let hs : AreHeights layers heights =
    subst (AreHeights layers) (sym c.as_slice-heights.ensures.value) c.in_ok-heights.ensures in
    let h = c.in_ok-lines.ensures in
    let are : AreLines layers Stretches heights h.alls c.as_slice.result.now =
    subst (AreLines layers Stretches heights h.alls) (sym c.as_slice.ensures.value) h.are in
    all_apart layers c.in_ok-gathered.field-0 heights h.alls c.as_slice.result.now hs are c.in_ok-gathered.ensures

pub returns-clause-within : goal.returns-clause-within
returns-clause-within g c =
    let layers = c.args.layers.now in
    let heights = c.as_slice-heights.result.now in
    let hs : AreHeights layers heights =
    subst (AreHeights layers) (sym c.as_slice-heights.ensures.value) c.in_ok-heights.ensures in
    let h = c.in_ok-lines.ensures in
    let are : AreLines layers Stretches heights h.alls c.as_slice.result.now =
    subst (AreLines layers Stretches heights h.alls) (sym c.as_slice.ensures.value) h.are in
    let few : c.in_ok-counted.counted ≤ stretch_limit = search rules in
    few_enough layers c.in_ok-gathered.field-0 heights h.alls c.as_slice.result.now hs are c.in_ok-gathered.ensures
    c.in_ok-counted.counted c.in_ok-counted.ensures few
