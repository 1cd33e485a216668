use Rattle.scad_words.proofs.command_set.command_set.Goals as goal

pub returns : goal.returns
returns c =
    let check = c.with_command-commands.ensures _ c.program.ensures in
    let tree = c.with_command-commands-2.ensures _ check in
    let slice = c.with_command-commands-3.ensures _ tree in
    let plan = c.with_command-commands-4.ensures _ slice in
    let sample = c.with_command-commands-5.ensures _ plan in
    c.with_command.ensures _ sample
