-- The script of all words, every source and all parts is orderly.
use Rattle.std.proofs.Common.{◌≡◌, ◌≢◌, ◌++◌, List, [], ◌∷◌, ℕ, Bool, true, false, Option, Some, None, inl, inr, refl, sym, ◌∙◌, subst, arith, nat_lt}
use Rattle.std.specs.Prelude.{if◌then◌else◌}
use Rattle.scad_fault.specs.declared.budget.Budget.{Budget}
use Rattle.scad_io.specs.declared.desk.Out.TheVariants.{Report}
use Rattle.scad_words.specs.declared.job.Command.{Command}
use Rattle.scad_words.specs.declared.job.Command.TheVariants.{Check, Tree, Slice, Plan, Sample, Verify}
use Rattle.scad_words.specs.declared.job.Job.{Job}
use Rattle.scad_words.specs.declared.settings.Settings.{Settings as SettingsOfRun}
use Rattle.scad_words.specs.Job.{job_of, named}
use Rattle.scad_script.specs.declared.refusal.Refusal.{Refusal}
use Rattle.scad_script.specs.declared.refusal.Refusal.TheVariants.{Source, Over as IsOver}
use Rattle.scad_script.specs.declared.loading.Input.{Input}
use Rattle.scad_script.specs.declared.loading.Input.TheVariants.{Whole, Long}
use Rattle.scad_script.specs.Steps.{Step, Reads, Sends, reading}
use Rattle.scad_script.specs.Script.{Script, Ending, Finishes, Refuses, Lacks, first, ends}
use Rattle.scad_script.specs.Names.{Given, UsesGiven, IsAmong, AllFrom, OnlyReads, IsOrderly}
use Rattle.scad_script.proofs.Layers.{lacks_nothing}
use Rattle.scad_machine.specs.declared.fault.EvalFault.TheVariants.{Fault, Over, Memory}
use Rattle.scad_expr.specs.State.{Outcome, gives, refuses}
use Rattle.scad_tree.specs.Solid.{Solid}
use Rattle.scad_tree.specs.Order.{leaves as leaf_count}
use Rattle.scad_tree.specs.Sizes.{triangle_count}
use Rattle.scad_tree.specs.Text.{text_of as tree_text}
use Rattle.slice_work.specs.declared.want.Want.TheVariants.{Outlines as OutlinesAlone, Plan as WithPlan}
use Rattle.slice_work.specs.Part.{layer_limit}
use Rattle.scad_slice.specs.Budgets.{layer_count, layers_passed}
use Rattle.scad_slice.proofs.Orderly.{DrawsInOrder, slice_draws, plan_draws}
use Rattle.scad_run.specs.Words.{Case, model_of, case_of, both_named, given_names, given_of, given_by}
use Rattle.scad_run.specs.Meaning.{source_means}
use Rattle.scad_run.specs.SourceReport.{echo_text, echoed, ok_line, check_end, told}
use Rattle.scad_run.specs.Judging.{judgement, whole_then}
use Rattle.scad_run.specs.Answer.{Parts, Findings, follows, input_script, model_read_first, model_script, case_or, after_settings, job_script, script_of}
use Rattle.scad_run.specs.Inputs.{Inputs, source_of}
use Rattle.scad_run.proofs.Following.{settings_have}
use Rattle.scad_run.proofs.Ends.{IsDone, IsOver as IsOverBy, EndsBy, follows_end}

-- steps that only read or draw may stand behind a reading
from_reading : (steps : List Step) → AllFrom reading steps
from_reading [] = tt
from_reading (s ∷ ss) = (omega arith, from_reading ss)

-- an end alone
ends_in_order : (given : Given) (ending : Ending) → ending ≢ Lacks → DrawsInOrder given (ends ending)
ends_in_order given ending there = record { order = tt; stand = tt; there = there }

-- the echo lines, and then what draws
echoed_orderly : (given : Given) (lines : List (List ℕ)) (rest : Script) → DrawsInOrder given rest
    → IsOrderly given (echoed lines rest)
echoed_orderly given lines rest draws =
    record {
      steps = (record { order = draws.order; name = tt; filled = tt }, draws.stand);
      lacks = lacks_nothing (Sends Report (echo_text lines) ∷ rest.steps) rest.ending draws.there;
    }

told_orderly : (given : Given) (follows : Solid → Script) (meaning : Outcome Solid)
    → ((tree : Solid) → DrawsInOrder given (follows tree)) → IsOrderly given (told follows meaning)
told_orderly given follows (gives tree s) draws = echoed_orderly given s.echoes (follows tree) (draws tree)
told_orderly given follows (refuses (Fault fault) s) draws =
    echoed_orderly given s.echoes (ends (Refuses (Source fault))) (ends_in_order given (Refuses (Source fault)) (λ same. let never : ⊥ = cc in absurd never))
told_orderly given follows (refuses (Over budget) s) draws =
    echoed_orderly given s.echoes (ends (Refuses (IsOver budget))) (ends_in_order given (Refuses (IsOver budget)) (λ same. let never : ⊥ = cc in absurd never))
told_orderly given follows (refuses Memory s) draws = record { steps = tt; lacks = tt }

end_if : (refusal : Refusal) (line : List ℕ) (b : Bool) → (if b then Refuses refusal else Finishes line) ≢ Lacks
end_if refusal line true same = let never : ⊥ = cc in absurd never
end_if refusal line false same = let never : ⊥ = cc in absurd never

-- an end of one of two kinds
ends_if : (given : Given) (b : Bool) (x y : Ending) → (if b then ends x else ends y).ending ≢ Lacks
    → DrawsInOrder given (if b then ends x else ends y)
ends_if given true x y there = ends_in_order given x there
ends_if given false x y there = ends_in_order given y there

-- what ends with a line or by a budget lacks nothing
ends_there : (Found : Type 0) (Passes : Budget → Type 0) (ending : Ending) → EndsBy Found Passes ending → ending ≢ Lacks
ends_there Found Passes ending (inl (line, is, done)) same =
    let other : Finishes line ≡ Lacks = sym is ∙ same in let never : ⊥ = cc in absurd never
ends_there Found Passes ending (inr (budget, is, passes)) same =
    let other : Refuses (IsOver budget) ≡ Lacks = sym is ∙ same in let never : ⊥ = cc in absurd never

-- what follows a tree draws in order
follows_draws : (command : Command) (name : Option (List ℕ)) (settings : SettingsOfRun) (parts : Parts) (tree : Solid)
    → DrawsInOrder (given_names command name) (follows command settings parts tree)
follows_draws (Check model) name settings parts tree =
    let count = layer_count settings.layer_height tree in
    ends_in_order _ (check_end (leaf_count tree) (triangle_count tree) count)
    (end_if (IsOver (layers_passed count)) (ok_line (leaf_count tree) (triangle_count tree) count)
    (nat_lt layer_limit count))
follows_draws (Tree model) name settings parts tree =
    ends_in_order _ (Finishes (tree_text tree)) (λ same. let never : ⊥ = cc in absurd never)
follows_draws (Slice model cli) name settings parts tree =
    slice_draws settings (given_names (Slice model cli) name) cli (parts OutlinesAlone settings) tree refl
follows_draws (Plan model cli gcode) name settings parts tree =
    plan_draws settings (given_names (Plan model cli gcode) name) cli gcode (parts WithPlan settings) tree refl refl
follows_draws (Verify outlines program) name settings parts tree =
    ends_in_order _ (Finishes []) (λ same. let never : ⊥ = cc in absurd never)
follows_draws (Sample n) name settings parts tree =
    ends_if (given_names (Sample n) name) (nat_lt layer_limit (layer_count settings.layer_height tree)) _ _
    (ends_there (IsDone (Sample n) settings parts tree) (IsOverBy (Sample n) settings parts tree)
    (follows (Sample n) settings parts tree).ending
    (follows_end (Sample n) settings parts tree))

input_orderly : (command : Command) (name : Option (List ℕ)) (settings : SettingsOfRun) (parts : Parts)
    (input : Option Input)
    → IsOrderly (given_names command name) (input_script command settings parts input)
input_orderly command name settings parts None = record { steps = tt; lacks = tt }
input_orderly command name settings parts (Some Long) = record { steps = tt; lacks = tt }
input_orderly command name settings parts (Some (Whole source)) =
    told_orderly (given_names command name) (follows command settings parts) (source_means source)
    (λ tree. follows_draws command name settings parts tree)

-- one reading more
reads_more : (name : List ℕ) (steps : List Step) (ending : Ending) → OnlyReads steps ending
    → OnlyReads (Reads name ∷ steps) ending
reads_more name steps (Finishes line) only = tt
reads_more name steps (Refuses refusal) only = tt
reads_more name steps Lacks only = (omega arith, only)

reads_first : (given : Given) (name : List ℕ) (rest : Script) → UsesGiven given (Reads name) → IsOrderly given rest
    → IsOrderly given (first (Reads name ∷ []) rest)
reads_first given name rest named behind =
    record {
      steps = (record { order = from_reading rest.steps; name = named; filled = tt }, behind.steps);
      lacks = reads_more name rest.steps rest.ending behind.lacks;
    }

-- the model and the settings are among the names that the words give
model_given : (command : Command) (name : Option (List ℕ)) (model : List ℕ) → model_of command ≡ Some model
    → UsesGiven (given_names command name) (Reads model)
model_given command None model is =
    subst (λ (m : Option (List ℕ)). IsAmong model (named m ++ both_named (case_of command))) (sym is) (inl refl)
model_given command (Some file) model is =
    inr (subst (λ (m : Option (List ℕ)). IsAmong model (named m ++ both_named (case_of command))) (sym is) (inl refl))

-- so are both files that are judged
among_behind : (name : List ℕ) (before behind : List (List ℕ)) → IsAmong name behind → IsAmong name (before ++ behind)
among_behind name [] behind among = among
among_behind name (b ∷ before) behind among = inr (among_behind name before behind among)

case_given : (command : Command) (name : Option (List ℕ)) (case : Case) (file : List ℕ) → case_of command ≡ Some case
    → IsAmong file (both_named (Some case)) → UsesGiven (given_names command name) (Reads file)
case_given command name case file is among =
    among_behind file (named name ++ named (model_of command)) (both_named (case_of command))
    (subst (λ (c : Option Case). IsAmong file (both_named c)) (sym is) among)

settings_given : (command : Command) (name : Option (List ℕ)) (file : List ℕ) → name ≡ Some file
    → UsesGiven (given_names command name) (Reads file)
settings_given command name file is =
    subst (λ (n : Option (List ℕ)). UsesGiven (given_names command n) (Reads file)) (sym is) (inl refl)

-- a model is read first, where there is one
model_first : (command : Command) (name model : Option (List ℕ)) (rest : Script) → model_of command ≡ model
    → IsOrderly (given_names command name) rest → IsOrderly (given_names command name) (model_read_first model rest)
model_first command name None rest is behind = behind
model_first command name (Some model) rest is behind =
    reads_first (given_names command name) model rest (model_given command name model is) behind

-- both files that are judged are read, and then there is an end
whole_orderly : (given : Given) (read : Option Input) (follows : List ℕ → Script)
    → ((text : List ℕ) → IsOrderly given (follows text)) → IsOrderly given (whole_then read follows)
whole_orderly given None follows behind = record { steps = tt; lacks = tt }
whole_orderly given (Some Long) follows behind = record { steps = tt; lacks = tt }
whole_orderly given (Some (Whole text)) follows behind = behind text

end_orderly : (given : Given) (ending : Ending) → IsOrderly given (ends ending)
end_orderly given (Finishes line) = record { steps = tt; lacks = tt }
end_orderly given (Refuses refusal) = record { steps = tt; lacks = tt }
end_orderly given Lacks = record { steps = tt; lacks = tt }

after_orderly : (job : Job) (found : Findings) (inputs : Inputs) (settings : SettingsOfRun) (case : Option Case)
    → case_of job.command ≡ case
    → IsOrderly (given_names job.command job.settings)
    (case_or case found inputs settings (model_script job.command found.parts inputs.model settings))
after_orderly job found inputs settings None is =
    model_first job.command job.settings (model_of job.command) _ refl
    (input_orderly job.command job.settings settings found.parts (source_of job.command inputs.model))
after_orderly job found inputs settings (Some case) is =
    let given = given_names job.command job.settings in
    let judge = judgement found.opinions settings.line_width in
    reads_first given case.outlines _ (case_given job.command job.settings case case.outlines is (inl refl))
    (whole_orderly given inputs.outlines _
    (λ text. reads_first given case.program _ (case_given job.command job.settings case case.program is (inr (inl refl)))
    (whole_orderly given inputs.program _ (λ other. end_orderly given (judge text other)))))

job_orderly : (job : Option Job) (found : Findings) (inputs : Inputs)
    → IsOrderly (given_of job) (job_script job found inputs)
job_orderly None found inputs = record { steps = tt; lacks = tt }
job_orderly (Some job) findings inputs =
    let given = given_names job.command job.settings in
    settings_have (IsOrderly given) job.settings inputs.settings (after_settings job.command findings inputs)
    (λ settings found. after_orderly job findings inputs settings (case_of job.command) refl)
    (λ file rest is behind. reads_first given file rest (settings_given job.command job.settings file is) behind)
    (λ file named missing. record { steps = tt; lacks = tt })
    (λ file text fault named there is. record { steps = tt; lacks = tt })

pub orderly : (words : List (List ℕ)) (found : Findings) (inputs : Inputs)
    → IsOrderly (given_by words) (script_of words found inputs)
orderly words found inputs = job_orderly (job_of words) found inputs
