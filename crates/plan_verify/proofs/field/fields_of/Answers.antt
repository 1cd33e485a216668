use Rattle.std.proofs.Common.{◌+◌, List, take, sym, subst}
use Rattle.std.specs.List.{AllZip}
use Rattle.plan_verify.specs.declared.field.Field.{Field}
use Rattle.plan_verify.specs.Fields.{IsFieldOf}
use Rattle.plan_verify.proofs.Layers.{zip_more, zip_all}
use Rattle.plan_verify.proofs.field.fields_of.Goals as goal

pub layers-preserved : goal.layers-preserved
layers-preserved c =
    subst (λ (fs : List Field). AllZip IsFieldOf (take (c.layers.layer-index + 1) c.args.layers.now) fs)
    (sym c.in_ok-push.ensures.items)
    (zip_more c.args.layers.now c.layers.fields.items c.layers.layer-index c.layer-item.result c.in_ok-field.field
    c.layers-test.true c.layer-item.is c.layers.invariant c.in_ok-field.ensures)

pub returns : goal.returns
returns c = zip_all c.args.layers.now c.layers.fields.items c.layers.layer-index c.layers-test.false c.layers.invariant
