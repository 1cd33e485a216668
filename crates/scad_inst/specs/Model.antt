-- What a program makes, as code answers it.
use Rattle.std.specs.Prelude.{◌≡◌, ◌≢◌, Result, Ok, Err}
use Rattle.scad_machine.specs.declared.fault.EvalFault.TheVariants.{Memory}
use Rattle.scad_expr.specs.State.{State, Outcome, gives, refuses}
use Rattle.scad_tree.specs.Solid.{Solid}
use Rattle.scad_tree.specs.View.{solid_of}
use Rattle.scad_inst.specs.declared.answers.Model.{Model}
use Rattle.scad_inst.specs.declared.answers.ModelEnd.{ModelEnd}

abbrev pub Makes : Outcome Solid → Result Model ModelEnd → Type 0
Makes outcome (Ok m) = (s : State) × (outcome ≡ gives (solid_of m.tree) s) × (s.echoes ≡ m.echoes.items)
Makes outcome (Err e) = e.fault ≢ Memory → (s : State) × (outcome ≡ refuses e.fault s) × (s.echoes ≡ e.echoes.items)
