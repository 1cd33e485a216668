use Rattle.std.proofs.Common.{◌≡◌, ◌++◌, ap, ◌∙◌, arith}
use Rattle.scad_sample.specs.Sample.{holes}
use Rattle.scad_sample.proofs.source.push_holes.Goals as goal

pub returns : goal.returns
returns c =
    let end = c.holes-test.false in
    let most = c.holes.auto.k-end in
    let last : c.holes.k ≡ 36 = omega (arith, end, most) in
    c.holes.invariant.text ∙ ap (λ k. c.args.out.now.items ++ holes c.args.n k) last
