use Rattle.std.proofs.Common.{◌≤◌, pos, subst, sym, arith, ap, ◌∙◌}
use Rattle.std.proofs.lemmas.Int.{ints}
use Rattle.scad_matrix.proofs.Reflection.{half_up-small}
use Rattle.scad_matrix.proofs.mirroring.rounded_size.Goals as goal

small : (c : goal.After-half_up) → c.half_up.result ≤ 1000000
small c = subst (λ q. q ≤ 1000000) (sym c.half_up.ensures.value) (half_up-small c.args.n c.args.d 1000000
    c.requires.divisor c.requires.small)

pub overflow_cast-result : goal.overflow_cast-result
overflow_cast-result c = let s = small c in omega (arith, ints)

pub returns-clause-value : goal.returns-clause-value
returns-clause-value c = let s = small c in (omega (arith, ints)) ∙ ap pos c.half_up.ensures.value

pub returns-clause-small : goal.returns-clause-small
returns-clause-small c = let s = small c in omega (arith, ints)
