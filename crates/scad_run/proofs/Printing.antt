-- What `plan` printed where all is done, and the headline.
use Rattle.std.proofs.Common.{◌≡◌, ◌++◌, ◌<◌, ◌≤◌, List, ℕ, Option, Some, None, refl, ap, ◌∙◌, subst}
use Rattle.std.specs.Prelude.{IfSome, IsSomeAnd, option_map, length}
use Rattle.scad_fault.specs.declared.status.Status.{Status}
use Rattle.scad_fault.specs.declared.status.Status.TheVariants.{Done, Read, Write}
use Rattle.scad_io.specs.Desk.{Files, View}
use Rattle.scad_words.specs.declared.job.Command.TheVariants.{Plan}
use Rattle.scad_words.specs.declared.job.Job.{Job}
use Rattle.scad_script.specs.Promises.{Adds, Promised}
use Rattle.cli_text.specs.Cli.{Layer, cli as text_of_layers}
use Rattle.slice_work.specs.declared.want.Want.TheVariants.{Plan as WithPlan}
use Rattle.scad_slice.specs.Budgets.{layer_count}
use Rattle.scad_slice.proofs.Texts.{plans_are_whole, programs_are_whole}
use Rattle.print_laws.specs.Print.{program_of, written}
use Rattle.print_laws.specs.Laws.{LayersArePrinted, PrintsAreOne}
use Rattle.scad_run.specs.Words.{given_by}
use Rattle.scad_run.specs.Answer.{Findings, script_of, AreFound}
use Rattle.scad_run.specs.Inputs.{Inputs, source_limit, IsRead, GoBy}
use Rattle.scad_run.specs.Meaning.{MeansTree, Means}
use Rattle.scad_run.specs.Printing.{PlanAddsPrint}
use Rattle.scad_run.specs.Headline.{Prints, Headline}
use Rattle.scad_run.proofs.Sources.{as_part, sources_mean_one}
use Rattle.scad_run.proofs.FileReport.{source_is, settings_are}
use Rattle.scad_run.proofs.PrintLayers.{layouts, written_is, program_is, are_layers}
use Rattle.scad_run.proofs.WrittenFiles.{words_finished}
use Rattle.scad_run.proofs.Causes.{has_cause}

module _ (words : List (List ℕ)) (files : Files) (inputs : Inputs) (found : Findings) (status : Status) (old new : View)
    (is : IsRead words files inputs) (of_all : AreFound words inputs found)
    (promised : Promised (given_by words) (script_of words found inputs) status old new) where
  -- over every desk
  pub adds_print : LayersArePrinted → PrintsAreOne → status ≡ Done → PlanAddsPrint words files old new
  adds_print printed one done model cli gcode name workers form =
      let job : Job = record { command = Plan model cli gcode; settings = name; workers = workers } in
      let f = words_finished words inputs found status old new job of_all promised done form refl in
      let s = f.settings in
      let part = found.parts WithPlan s in
      let is_part = as_part f.tree found.parts f.of_tree WithPlan s f.in_range in
      let n = layer_count s.layer_height f.tree in
      let layers = layouts part n in
      let print =
      printed s f.tree layers f.solids f.in_range (are_layers s f.tree part is_part f.done.few
      f.done.made)
      in
      record {
        settings = s;
        tree = f.tree;
        outlines = text_of_layers (written s.layer_height layers);
        program = program_of s layers;
        accepted = settings_are words files inputs job s form is f.found;
        meant = source_is words files inputs job model f.source f.tree form refl is f.there f.means;
        cli = subst (λ (text : List ℕ). Adds text old.cli new.cli)
            (plans_are_whole s cli gcode part f.tree f.done
            ∙ ap (λ (ls : List Layer). text_of_layers ls) (written_is s.layer_height part n)) f.cli;
        gcode = subst (λ (text : List ℕ). Adds text old.gcode new.gcode)
            (programs_are_whole s cli gcode part f.tree f.done ∙ program_is s part n) f.gcode;
        is = record {
          print = print;
          one = λ other_cli other_gcode other.
              one s f.tree (text_of_layers (written s.layer_height layers)) (program_of s layers) other_cli other_gcode
              f.solids
              f.in_range print other;
        };
      }

-- ---- over a desk that tells
held : (o : Option (List ℕ)) (P : List ℕ → Type 0) → IsSomeAnd o P → (text : List ℕ) × (o ≡ Some text) × P text
held None P h = absurd h
held (Some text) P h = (text, refl, h)

prints : (words : List (List ℕ)) (files : Files) (old new : View) → PlanAddsPrint words files old new
    → Prints Means words files old new
prints words files old new adds desk model cli gcode name workers form =
    let a = adds model cli gcode name workers form in
    let source =
    held (desk.contents model) (λ source. (length source ≤ source_limit) × MeansTree a.tree source)
    (subst (λ (told : Files).
    IfSome told (λ contents. IsSomeAnd (contents model) (λ source. (length source ≤ source_limit) × MeansTree a.tree
    source)))
    desk.files_told a.meant)
    in
    record {
      settings = a.settings;
      accepted = subst (λ (told : Files). IfSome told (λ contents. GoBy contents name a.settings)) desk.files_told
          a.accepted;
      source = source.0;
      there = source.1;
      within = source.2.0;
      tree = a.tree;
      means = source.2.1;
      outlines = a.outlines;
      program = a.program;
      outlines_added = a.cli ∙ ap (option_map (λ before. before ++ a.outlines)) desk.outlines_told;
      program_added = a.gcode ∙ ap (option_map (λ before. before ++ a.program)) desk.program_told;
      print = a.is.print;
      one = a.is.one;
    }

pub headline : (words : List (List ℕ)) (files : Files) (inputs : Inputs) (found : Findings) (status : Status)
    (old new : View)
    (before now : ℕ) → LayersArePrinted → PrintsAreOne → IsRead words files inputs → AreFound words inputs found
    → Promised (given_by words) (script_of words found inputs) status old new → (status ≡ Read → before < now)
    → (status ≡ Write → before < now) → Headline Means words files status old new before now
headline words files inputs found status old new before now printed one is drawn promised read write =
    record {
      meaning = sources_mean_one;
      prints = λ done. prints words files old new (adds_print words files inputs found status old new is drawn promised
          printed one done);
      cause = has_cause words files inputs found status old new before now is drawn promised read write;
    }
