use Rattle.std.proofs.Common.{sym, ap, ◌∙◌}
use Rattle.scad_ast.specs.Scope.{item_of}
use Rattle.scad_members.specs.Modules.{module_by}
use Rattle.scad_inst.proofs.Homes.{a_module}
use Rattle.scad_inst.proofs.lookup.module_by.Goals as goal

pub returns-in-Module : goal.returns-in-Module
returns-in-Module c =
    let m = c.in-Module in
    sym (ap (λ i. module_by (item_of i)) m.is ∙ a_module m.field-0 m.params m.body m.field-3)
