use Rattle.scad_lex.proofs.Quotes.{element_read, none_read, quote_read, end_read}
use Rattle.std.proofs.Common.{sym, ◌∙◌, arith}
use Rattle.scad_lex.proofs.string_body.read_quoted.Goals as goal

pub returns-then-byte_at-eq34-clause-value : goal.returns-then-byte_at-eq34-clause-value
returns-then-byte_at-eq34-clause-value c =
    rw c.from_vec.ensures
    (quote_read _ _ _ _ _ c.behind-rest.ensures c.elements.invariant.so_far c.elements-test.true
    (sym c.byte_at.ensures ∙ c.if-byte_at-eq34.true))

pub elements-preserved : goal.elements-preserved
elements-preserved c = record {
  within = omega (arith, c.in-Some.ensures.bound);
  so_far =
      rw c.in_ok-push-in-Some.ensures.items
      (element_read _ _ _ _ _ c.behind-rest.ensures c.elements.invariant.so_far _ _ c.elements-test.true
      (λ e. c.if-byte_at-eq34.false (c.byte_at.ensures ∙ e))
      (sym c.in-Some.ensures.value) c.in-Some.ensures.bound.0);
}

pub returns-in-None-clause-value : goal.returns-in-None-clause-value
returns-in-None-clause-value c =
    none_read _ _ _ _ _ c.behind-rest.ensures c.elements.invariant.so_far c.elements-test.true
    (λ e. c.if-byte_at-eq34.false (c.byte_at.ensures ∙ e)) (sym c.in-None.ensures.value)

pub returns-clause-value : goal.returns-clause-value
returns-clause-value c = end_read _ _ _ _ c.elements-test.false c.elements.invariant.so_far
