-- What a further argument makes of the form of a command.
use Rattle.std.proofs.Common.{◌≡◌, ℕ, ◌+◌, ◌<◌, false, List, length, get_or, drop, map, Bor, refl, ap₂, ◌∙◌, add-one, drop-cons}
use Rattle.clap.specs.Walk.{Rule, Text, rule_of}
use Rattle.clap.specs.Simple.{App, with_rule}
use Rattle.clap.specs.Built.{AddsArg}
use Rattle.clap.specs.declared.builder.arg.Arg.{Arg}
use Rattle.clap.specs.declared.builder.command.Command.{Command}
use Rattle.scad_words.specs.CommandSet.{positional, requiring, IsOf}

pub arg_added : (app : App) (rule : Rule) (old : Command) (arg : Arg) (new : Command)
    → arg.global ≡ false → IsOf app old → rule_of arg ≡ rule → AddsArg old arg new → IsOf (with_rule app rule) new
arg_added app rule old arg new plain of is added = record {
  form = added.shape plain ∙ ap₂ with_rule of.form is;
  local = added.globals ∙ rw (of.local, plain) refl;
}

-- the next of the words is required, and then the rest
pub word_required : (app : App) (words : List (Bor Text)) (i : ℕ) (d : Bor Text) → i < length words
    → requiring app (map (λ w. w.now) (drop i words))
    ≡ requiring (with_rule app (positional (get_or words i d).now)) (map (λ w. w.now) (drop (i + 1) words))
word_required app words i d below = rw (add-one, drop-cons words i d)
