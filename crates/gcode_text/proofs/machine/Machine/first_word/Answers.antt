use Rattle.std.proofs.Common.{◌≡◌, ℕ, List, drop, Option, Result, Ok, Err, IfOk, IfErr, subst, sym, ap, ◌∙◌}
use Rattle.std.proofs.lemmas.List.{take_rest}
use Rattle.gcode_text.specs.declared.command.Command.{Command}
use Rattle.gcode_text.specs.declared.fault.GFault.{GFault}
use Rattle.gcode_text.specs.Reading.{words}
use Rattle.gcode_text.specs.Machine.{After, limited, words_line, command_line}
use Rattle.gcode_text.proofs.Words.{command_in_front}
use Rattle.gcode_text.proofs.machine.Machine.first_word.Goals as goal
use Rattle.gcode_text.proofs.machine.Machine.first_word.Goals.{After-command}

same_line : (c : After-command) → command_line limited c.args.self.now c.command_of.result
    (words (drop c.first_at-len.result c.args.text.now))
    ≡ words_line limited c.args.self.now (words c.args.text.now)
same_line c =
    ap (λ (it : Option Command). command_line limited c.args.self.now it
    (words (drop c.first_at-len.result c.args.text.now))) c.command_of.ensures
    ∙ sym (command_in_front limited c.args.self.now c.args.text.now c.first_at-len.result c.requires.some
    c.requires.word c.first_at-len.ensures.value)

pub returns-clause-accepted : goal.returns-clause-accepted
returns-clause-accepted c =
    subst (λ (it : Result After GFault). IfOk c.command.result
    (λ move. it ≡ Ok (record { state = c.command.new.self; move = move }))) (same_line c)
    (subst (λ (rest : List ℕ). IfOk c.command.result (λ move. command_line limited c.args.self.now c.command_of.result
    (words rest) ≡ Ok (record { state = c.command.new.self; move = move })))
    (take_rest c.args.text.now c.first_at-len.result) c.command.ensures.accepted)

pub returns-clause-refused : goal.returns-clause-refused
returns-clause-refused c =
    subst (λ (it : Result After GFault). IfErr c.command.result (λ fault. it ≡ Err fault)) (same_line c)
    (subst (λ (rest : List ℕ). IfErr c.command.result (λ fault. command_line limited c.args.self.now c.command_of.result
    (words rest) ≡ Err fault))
    (take_rest c.args.text.now c.first_at-len.result) c.command.ensures.refused)
