-- The number of one leaf changes.
use Rattle.std.proofs.Common.{◌≡◌, ◌<◌, ℤ, pos, ◌+ℤ◌, length, get_or, arith, ap, ◌∙◌, w64, to_z, of_z}
use Rattle.std.proofs.lemmas.List.{get_or_read}
use Rattle.scad_geom.proofs.Casts.{casts}
use Rattle.slice_border.proofs.Keeping.{set_tally}
use Rattle.slice_border.proofs.tally.add.Goals as goal

pub returns-clause-turns : goal.returns-clause-turns
returns-clause-turns c =
    let turns = c.args.turns.now.items in
    let leaf = c.args.leaf in
    let there : leaf < length turns = omega (arith, c.args.turns.now.ok.0) in
    let was : c.index.result.now ≡ get_or turns leaf (pos 0) = get_or_read turns leaf c.index.result.now there
    c.index.ensures (pos 0) in
    let is : to_z w64 (of_z w64 c.plus.result) ≡ c.index.result.now +ℤ c.args.by = grind (arith, casts, was) in
    set_tally turns leaf (to_z w64 (of_z w64 c.plus.result)) c.args.by there
    (is ∙ ap (λ (z : ℤ). z +ℤ c.args.by) was)
