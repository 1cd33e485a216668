-- What the parser's answer in memory is.
use Rattle.scad_fault.specs.declared.fault.FaultKind.TheVariants.{Syntax as IsSyntax, Nesting as IsNesting, LeftOut as IsLeftOut}
use Rattle.scad_parse.specs.declared.fault.ParseFault.{ParseFault}
use Rattle.scad_parse.specs.declared.fault.ParseFault.TheVariants.{Memory, Syntax, Nesting, LeftOut}
use Rattle.scad_machine.specs.declared.fault.EvalFault.{EvalFault}
use Rattle.scad_machine.specs.declared.fault.EvalFault.TheVariants.{Fault, Memory as WantOfMemory}
use Rattle.scad_run.specs.Meaning.{fault_at}

-- why tokens are no program, as the parser answers it
abbrev pub parse_fault : ParseFault → EvalFault
parse_fault (Syntax at) = fault_at IsSyntax at
parse_fault (Nesting at) = fault_at IsNesting at
parse_fault (LeftOut at name) = Fault (record { kind = IsLeftOut; at = at; name = name })
parse_fault Memory = WantOfMemory
