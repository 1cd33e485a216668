-- The fields so far are those of the layers so far.
use Rattle.std.proofs.Common.{take}
use Rattle.std.specs.List.{AllZip}
use Rattle.plan_verify.specs.Fields.{IsFieldOf}
use Rattle.plan_verify.proofs.field.fields_of.Given as goal

abbrev pub invariant-layers : goal.invariant-layers
invariant-layers l = AllZip IsFieldOf (take l.layer-index l.layers) l.fields.items
