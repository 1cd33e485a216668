use Rattle.std.proofs.Common.{List, Result, sym, subst, ◌∙◌, arith}
use Rattle.std.specs.Str.Lines.{lines}
use Rattle.std.proofs.lemmas.Result.{err_from_is_err_and}
use Rattle.cli_text.specs.Cli.{Layer}
use Rattle.cli_read.specs.declared.fault.CliFault.{CliFault}
use Rattle.cli_read.specs.Reading.{Gives}
use Rattle.cli_read.specs.View.{seen, built}
use Rattle.cli_read.proofs.Fronts.{layers_begin, layers_go_on, layers_stop, layers_end, layers_wanting}
use Rattle.cli_read.proofs.geometry.geometry_of.Goals as goal

pub lines-init : goal.lines-init
lines-init c = record {
  same = layers_begin (built c.begun-building.result) c.begun-building.result.last (lines c.args.text.now)
      c.begun-building.ensures.last c.begun-building.ensures.built;
  number = omega arith;
}

pub returns-then-is_end : goal.returns-then-is_end
returns-then-is_end c =
    subst (λ (read : Result (List Layer) CliFault). Gives read (λ v. seen v.items) c.ended.result)
    (sym (layers_end c.lines.n c.lines.building.last (built c.lines.building) c.in-Some.line.now
    (lines c.lines.rest.now) (lines c.in-Some.behind.now) _
    c.in-Some.ensures.line (sym c.is_end.ensures ∙ c.if-is_end.true) c.lines.invariant.same)) c.ended.ensures

pub returns-in_err-said : goal.returns-in_err-said
returns-in_err-said c =
    let p = err_from_is_err_and c.from_residual.result c.from_residual.ensures.1 in
    rw (p.1, p.2) (λ some. layers_stop c.lines.n c.lines.building.last (built c.lines.building) c.in-Some.line.now
    (lines c.lines.rest.now) (lines c.in-Some.behind.now) _ c.in_err-said.field-0.0
    c.in-Some.ensures.line (sym c.is_end.ensures ∙ c.if-is_end.false) (c.in_err-said.ensures some)
    c.lines.invariant.same)

pub lines-preserved : goal.lines-preserved
lines-preserved c = record {
  same = layers_go_on c.lines.n c.lines.building.last _ _ (built c.lines.building) _ c.in-Some.line.now
      (lines c.lines.rest.now) (lines c.in-Some.behind.now) _
      c.in-Some.ensures.line (sym c.is_end.ensures ∙ c.if-is_end.false) c.in_ok-said.ensures
      c.in_ok-building.ensures.last c.in_ok-building.ensures.built c.lines.invariant.same;
  number = omega (arith, c.in-Some.ensures.shorter, c.lines.invariant.number);
}

pub returns : goal.returns
returns c = λ some. layers_wanting c.lines.n c.lines.building.last (built c.lines.building) (lines c.lines.rest.now) _
    c.in_default.ensures.line c.lines.invariant.same
