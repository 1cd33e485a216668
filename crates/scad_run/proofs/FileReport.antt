-- What a run was told of the files, where its source means a tree.
use Rattle.std.proofs.Common.{◌≡◌, ◌≤◌, List, [], ℕ, Bool, true, false, Option, Some, None, refl, sym, ap, ◌∙◌, subst, length, nat_lt, rules, arith}
use Rattle.std.specs.Prelude.{IfSome, IsSomeAnd, option_map, unwrap_or, if◌then◌else◌}
use Rattle.scad_io.specs.Desk.{Files}
use Rattle.scad_words.specs.declared.job.Job.{Job}
use Rattle.scad_words.specs.declared.settings.Settings.{Settings as SettingsOfRun}
use Rattle.scad_words.specs.Job.{job_of}
use Rattle.scad_script.specs.declared.loading.Input.{Input}
use Rattle.scad_script.specs.declared.loading.Input.TheVariants.{Whole, Long}
use Rattle.scad_script.specs.Script.{input_of}
use Rattle.scad_tree.specs.Solid.{Solid}
use Rattle.scad_run.specs.Words.{model_of}
use Rattle.scad_run.specs.Inputs.{Inputs, source_limit, text_read, IsRead, settings_found, GoBy}
use Rattle.scad_run.specs.Promises.{IsTreeOf}
use Rattle.scad_run.specs.Meaning.{MeansTree}
use Rattle.scad_run.proofs.Working.{model_read_as, settings_read_as}

-- the text of what was read whole
abbrev pub text_in : Input → List ℕ
text_in (Whole text) = text
text_in Long = []

whole_if : (text source : List ℕ) (b : Bool) → nat_lt source_limit (length text) ≡ b → (if b then Long else Whole text)
    ≡ Whole source → (length text ≤ source_limit) × (text ≡ source)
whole_if text source true long same = let never : ⊥ = cc in absurd never
whole_if text source false short same = (search (rules, arith), ap text_in same)

source_there : (told : Option (List ℕ)) (source : List ℕ) (tree : Solid) → Some (Whole source)
    ≡ option_map (input_of (Some source_limit)) told → MeansTree tree source
    → IsSomeAnd told (λ text. (length text ≤ source_limit) × MeansTree tree text)
source_there None source tree same means = let never : ⊥ = cc in absurd never
source_there (Some text) source tree same means =
    let whole = whole_if text source (nat_lt source_limit (length text)) refl
    (sym (ap (λ (o : Option Input). unwrap_or o Long) same)) in
    (whole.0, subst (MeansTree tree) (sym whole.1) means)

-- a model that was read whole is the source that the words name
model_told : (words : List (List ℕ)) (contents : List ℕ → Option (List ℕ)) (inputs : Inputs) (job : Job)
    (model source : List ℕ)
    → job_of words ≡ Some job → model_of job.command ≡ Some model → IsRead words (Some contents) inputs
    → inputs.model ≡ Some (Whole source)
    → Some (Whole source) ≡ option_map (input_of (Some source_limit)) (contents model)
model_told words contents inputs job model source form named is whole =
    sym whole ∙ ap (λ i. i.model) is ∙ model_read_as words contents job form ∙ ap (λ name. text_read name contents)
    named

pub source_is : (words : List (List ℕ)) (files : Files) (inputs : Inputs) (job : Job) (model source : List ℕ)
    (tree : Solid)
    → job_of words ≡ Some job → model_of job.command ≡ Some model → IsRead words files inputs
    → inputs.model ≡ Some (Whole source)
    → MeansTree tree source → IsTreeOf files model tree
source_is words None inputs job model source tree form named is whole means = tt
source_is words (Some contents) inputs job model source tree form named is whole means =
    source_there (contents model) source tree (model_told words contents inputs job model source form named is whole)
    means

pub settings_are : (words : List (List ℕ)) (files : Files) (inputs : Inputs) (job : Job) (settings : SettingsOfRun)
    → job_of words ≡ Some job
    → IsRead words files inputs → settings_found job.settings inputs.settings ≡ Some settings
    → IfSome files (λ contents. GoBy contents job.settings settings)
settings_are words None inputs job settings form is found = tt
settings_are words (Some contents) inputs job settings form is found =
    let text = ap (λ i. i.settings) is ∙ settings_read_as words contents job form in
    sym (ap (settings_found job.settings) text) ∙ found
