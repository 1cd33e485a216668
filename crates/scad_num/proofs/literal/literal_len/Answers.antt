-- A literal is a mantissa with a power behind it.
use Rattle.std.proofs.Common.{◌≡◌, ◌+◌, ◌-◌, true, take, length, length-drop, ap, ◌∙◌, subst, sym, arith}
use Rattle.std.proofs.lemmas.Grind.{common_steps}
use Rattle.scad_num.specs.Literal.{is_literal, literal_len}
use Rattle.scad_num.proofs.LongestLiteral.{is_literal-take}
use Rattle.scad_num.proofs.literal.literal_len.Goals as goal

pub returns-else-mantissa-eq0-clause-literal : goal.returns-else-mantissa-eq0-clause-literal
unfolding literal_len
returns-else-mantissa-eq0-clause-literal c =
    λ h. let bytes = c.args.bytes.now in
    let len : c.mantissa_at-mantissa.result.len + c.power_at.result.len ≡ literal_len bytes =
    grind (arith, common_steps) in
    let rest : length c.behind.result.now ≡ length bytes - c.mantissa_at-mantissa.result.len =
    ap length c.behind.ensures ∙ length-drop c.mantissa_at-mantissa.result.len bytes in
    subst (λ n. is_literal (take n bytes) ≡ true) (sym len) (is_literal-take bytes (omega arith) (omega (arith, rest)))
