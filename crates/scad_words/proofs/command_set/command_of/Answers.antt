use Rattle.std.proofs.Common.{◌≡◌, ◌+◌, map, drop, sym, refl, ap, ◌∙◌, arith}
use Rattle.std.proofs.lemmas.List.{at_drop_all}
use Rattle.std.proofs.lemmas.Result.{IfOk-weaker}
use Rattle.clap.specs.Simple.{App, app_of, new_app}
use Rattle.scad_words.specs.CommandSet.{requiring}
use Rattle.scad_words.proofs.CommandForms.{arg_added, word_required}
use Rattle.scad_words.proofs.command_set.command_of.Goals as goal

pub loop-word-init : goal.loop-word-init
loop-word-init c =
    (ap (λ (a : App). requiring a (map (λ w. w.now) c.args.words.now)) c.new-command.ensures.app, c.new-command.ensures.local)

pub loop-word-preserved : goal.loop-word-preserved
loop-word-preserved c =
    let of = arg_added (app_of c.loop-word.command) _ _ _ c.in_ok-command.command c.positional.ensures.plain
    (record { form = refl; local = c.loop-word.invariant.1 }) c.positional.ensures.rule c.in_ok-command.ensures in (
      ap (λ (a : App). requiring a (map (λ w. w.now) (drop (c.loop-word.word-index + 1) c.args.words.now))) of.form
          ∙ sym (word_required (app_of c.loop-word.command) c.args.words.now c.loop-word.word-index _ (omega arith))
          ∙ c.loop-word.invariant.0,
      of.local,
    )

pub returns : goal.returns
returns c =
    let read : app_of c.loop-word.command ≡ requiring (new_app c.args.name.now) (map (λ w. w.now) c.args.words.now) =
    sym (at_drop_all (λ ws. requiring (app_of c.loop-word.command) (map (λ w. w.now) ws)) c.args.words.now
    c.loop-word.word-index (omega arith)) ∙ c.loop-word.invariant.0 in
    let of = arg_added _ _ _ _ c.in_ok-command-2.command c.option.ensures.plain
    (record { form = read; local = c.loop-word.invariant.1 }) c.option.ensures.rule c.in_ok-command-2.ensures in
    IfOk-weaker c.arg-3.result _ _
    (λ command added. arg_added _ _ _ _ command c.option-2.ensures.plain of c.option-2.ensures.rule added) c.arg-3.ensures
