-- The move is in no field so far.
use Rattle.std.proofs.Common.{take}
use Rattle.std.specs.Prelude.{All}
use Rattle.plan_verify.specs.Fields.{IsInField}
use Rattle.plan_verify.proofs.field.is_in_some.Given as goal

abbrev pub invariant-fields : goal.invariant-fields
invariant-fields l = All (λ f. IsInField l.line_width l.m f → ⊥) (take l.field-index l.fields)
