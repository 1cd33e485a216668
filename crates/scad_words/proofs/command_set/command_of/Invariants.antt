use Rattle.std.proofs.Common.{◌≡◌, false, drop, map}
use Rattle.clap.specs.Simple.{app_of, new_app}
use Rattle.clap.specs.declared.builder.command.Command.TheViews.{out-Command}
use Rattle.scad_words.specs.CommandSet.{requiring}
use Rattle.scad_words.proofs.command_set.command_of.Given as goal

abbrev pub invariant-loop-word : goal.invariant-loop-word
invariant-loop-word l =
    (requiring (app_of l.command) (map (λ w. w.now) (drop l.word-index l.words))
    ≡ requiring (new_app l.name) (map (λ w. w.now) l.words))
    × ((out-Command l.command).has_globals ≡ false)
