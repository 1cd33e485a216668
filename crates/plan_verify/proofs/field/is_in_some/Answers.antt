use Rattle.std.proofs.Common.{subst}
use Rattle.std.proofs.lemmas.List.Elements.{All-more}
use Rattle.plan_verify.specs.declared.field.Field.{Field}
use Rattle.plan_verify.specs.Fields.{IsInField}
use Rattle.plan_verify.proofs.Searches.{any_at, none_any, all_taken}
use Rattle.plan_verify.proofs.field.is_in_some.Goals as goal

pub fields-preserved : goal.fields-preserved
fields-preserved c = All-more (λ f. IsInField c.args.line_width c.args.m.now f → ⊥) c.args.fields.now
    c.fields.field-index
    c.field-item.result c.fields-test.true c.fields.invariant
    (subst (λ (f : Field). IsInField c.args.line_width c.args.m.now f → ⊥) c.field-item.is
    (c.is_in.ensures.fails c.if-is_in.false))

pub returns-then-is_in-clause-stays : goal.returns-then-is_in-clause-stays
returns-then-is_in-clause-stays c = λ _. any_at (IsInField c.args.line_width c.args.m.now) c.args.fields.now
    c.fields.field-index c.field-item.result c.fields-test.true c.field-item.is (c.is_in.ensures.stays c.if-is_in.true)

pub returns-clause-fails : goal.returns-clause-fails
returns-clause-fails c = λ _. none_any (IsInField c.args.line_width c.args.m.now) c.args.fields.now
    (all_taken (λ f. IsInField c.args.line_width c.args.m.now f → ⊥) c.args.fields.now c.fields.field-index
    c.fields-test.false c.fields.invariant)
