-- How far the script of a job comes: to its tree, or to an end before it.
use Rattle.std.proofs.Common.{◌≡◌, ◌⊎◌, List, [], ◌∷◌, ℕ, Option, Some, None, Result, Ok, Err, inl, inr, refl, sym, subst, length, arith}
use Rattle.scad_fault.specs.declared.verdict.BadKind.{BadKind}
use Rattle.scad_fault.specs.declared.verdict.BadKind.TheVariants.{CliLine, CliCount, CliOpen, GWord, GNumber}
use Rattle.scad_io.specs.declared.desk.Out.TheVariants.{Cli, Gcode}
use Rattle.scad_words.specs.declared.job.Job.{Job}
use Rattle.scad_words.specs.declared.settings.Settings.{Settings as SettingsOfRun}
use Rattle.scad_script.specs.declared.loading.Input.{Input}
use Rattle.scad_script.specs.declared.loading.Input.TheVariants.{Whole, Long}
use Rattle.scad_script.specs.declared.refusal.Refusal.TheVariants.{Source, Usage, Settings, Over, Outside, BadFile}
use Rattle.scad_script.specs.Steps.{Reads, echoing, text_of}
use Rattle.scad_script.specs.Script.{Script, Ending, Finishes, Refuses, Lacks, first, ends}
use Rattle.scad_script.specs.Names.{AllUpTo}
use Rattle.scad_machine.specs.declared.fault.EvalFault.TheVariants.{Fault as IsFault, Over as IsOver, Memory as NoMemory}
use Rattle.scad_expr.specs.State.{State, Outcome, gives, refuses}
use Rattle.scad_tree.specs.Solid.{Solid}
use Rattle.cli_text.specs.Cli.{Layer}
use Rattle.cli_read.specs.declared.fault.CliFault.{CliFault}
use Rattle.cli_read.specs.declared.fault.CliFault.TheVariants.{BadLine, CountDiffers, OpenLoop, Memory as NoText}
use Rattle.cli_read.specs.Reading.{reading}
use Rattle.gcode_text.specs.declared.fault.GFault.TheVariants.{UnknownWord, BadNumber}
use Rattle.plan_verify.specs.declared.verdict.Verdict.TheVariants.{Inside, Outside as GoesOutside}
use Rattle.scad_run.specs.Words.{Case, model_of, case_of}
use Rattle.scad_run.specs.Meaning.{source_means, Means}
use Rattle.scad_run.specs.SourceReport.{told}
use Rattle.verdict_laws.specs.Opinion.{Opinion, Opinions}
use Rattle.scad_run.specs.Judging.{opinion_end, judged_end, judgement, whole_then, file_then, case_script}
use Rattle.scad_run.specs.Answer.{Parts, Findings, follows, input_script, model_read_first, model_script, case_or, after_settings, job_script}
use Rattle.scad_run.specs.Inputs.{Inputs, source_of, source_in, settings_found}
use Rattle.scad_run.specs.Causes.{SourceIsLong, FileIsLong, AreJudged, HaveBadFile, MeansFault, SettingsHaveFault, EvaluationPasses, IsUnread, IsMissing}
use Rattle.scad_run.proofs.Following.{settings_have}
use Rattle.scad_run.proofs.Sources.{sources_want_no_memory}
use Rattle.verdict_laws.proofs.Readings.{reading_wants_no_memory}

-- both files of a job were read whole, the outlines say layers, and this is the opinion on the program
pub record HasOpinion (job : Job) (inputs : Inputs) (opinions : Opinions) (opinion : Opinion) : Type 0 where
  pub judged : AreJudged job inputs
  pub layers : List Layer
  pub said : reading judged.outlines ≡ Ok layers
  pub is : opinions layers judged.settings.line_width judged.program ≡ opinion

-- why one of both files isn't of the form
abbrev pub HasBadFile : Job → Inputs → Opinions → BadKind → ℕ → ℕ → Type 0
HasBadFile job inputs opinions CliLine first second = HaveBadFile job inputs CliLine first second
HasBadFile job inputs opinions CliCount first second = HaveBadFile job inputs CliCount first second
HasBadFile job inputs opinions CliOpen first second = HaveBadFile job inputs CliOpen first second
HasBadFile job inputs opinions GWord first second =
    HasOpinion job inputs opinions (Err (UnknownWord first)) × (second ≡ 0)
HasBadFile job inputs opinions GNumber first second =
    HasOpinion job inputs opinions (Err (BadNumber first)) × (second ≡ 0)

-- why a script ends before its tree
abbrev pub EndsBefore : Job → Inputs → Opinions → Ending → Type 0
EndsBefore job inputs opinions (Finishes line) = (moves : ℕ) × HasOpinion job inputs opinions (Ok (Inside moves))
EndsBefore job inputs opinions Lacks = IsMissing job inputs
EndsBefore job inputs opinions (Refuses (Source fault)) = MeansFault Means job inputs fault
EndsBefore job inputs opinions (Refuses Usage) = ⊥
EndsBefore job inputs opinions (Refuses (Settings fault)) = SettingsHaveFault job inputs fault
EndsBefore job inputs opinions (Refuses (Over budget)) =
    SourceIsLong job inputs budget ⊎ (FileIsLong job inputs budget ⊎ EvaluationPasses Means job inputs budget)
EndsBefore job inputs opinions (Refuses (Outside number line)) =
    HasOpinion job inputs opinions (Ok (GoesOutside number line))
EndsBefore job inputs opinions (Refuses (BadFile kind first second)) =
    HasBadFile job inputs opinions kind first second

-- it ends so, having written to nothing but the report
pub record IsStopped (job : Job) (inputs : Inputs) (opinions : Opinions) (whole : Script) : Type 0 where
  pub why : EndsBefore job inputs opinions whole.ending
  pub quiet : AllUpTo echoing whole.steps

-- it comes to the tree of the source, ends as what follows that, and writes what this writes
pub record IsFollowed (job : Job) (inputs : Inputs) (parts : Parts) (whole : Script) : Type 0 where
  pub settings : SettingsOfRun
  pub found : settings_found job.settings inputs.settings ≡ Some settings
  pub drawn : case_of job.command ≡ None
  pub source : List ℕ
  pub there : source_in (Some job) inputs ≡ Some (Whole source)
  pub tree : Solid
  pub state : State
  pub means : source_means source ≡ gives tree state
  pub ending : whole.ending ≡ (follows job.command settings parts tree).ending
  pub cli : text_of Cli whole.steps ≡ text_of Cli (follows job.command settings parts tree).steps
  pub gcode : text_of Gcode whole.steps ≡ text_of Gcode (follows job.command settings parts tree).steps
  pub quiet : AllUpTo echoing (follows job.command settings parts tree).steps → AllUpTo echoing whole.steps

module _ (job : Job) (inputs : Inputs) (findings : Findings) where
  abbrev pub Reaches : Script → Type 0
  Reaches whole = IsStopped job inputs findings.opinions whole ⊎ IsFollowed job inputs findings.parts whole

  reads_more : (file : List ℕ) (rest : Script) → Reaches rest → Reaches (first (Reads file ∷ []) rest)
  reads_more file rest (inl stopped) = inl (record { why = stopped.why; quiet = (omega arith, stopped.quiet) })
  reads_more file rest (inr f) =
      inr (record {
        settings = f.settings;
        found = f.found;
        drawn = f.drawn;
        source = f.source;
        there = f.there;
        tree = f.tree;
        state = f.state;
        means = f.means;
        ending = f.ending;
        cli = f.cli;
        gcode = f.gcode;
        quiet = λ all. (omega arith, f.quiet all);
      })

  model_reached : (model : Option (List ℕ)) (rest : Script) → Reaches rest → Reaches (model_read_first model rest)
  model_reached None rest reached = reached
  model_reached (Some model) rest reached = reads_more model rest reached

  module _ (settings : SettingsOfRun) (found : settings_found job.settings inputs.settings ≡ Some settings)
      (none : case_of job.command ≡ None) where
    told_reached : (source : List ℕ) (meaning : Outcome Solid) → source_in (Some job) inputs ≡ Some (Whole source)
        → source_means source ≡ meaning
        → Reaches (told (follows job.command settings findings.parts) meaning)
    told_reached source (gives tree s) there is =
        inr (record {
          settings = settings;
          found = found;
          drawn = none;
          source = source;
          there = there;
          tree = tree;
          state = s;
          means = is;
          ending = refl;
          cli = refl;
          gcode = refl;
          quiet = λ all. (omega arith, all);
        })
    told_reached source (refuses (IsFault fault) s) there is =
        inl (record {
          why = record { source = source; whole = there; settings = settings; found = found; means = (s, is) };
          quiet = (omega arith, tt);
        })
    told_reached source (refuses (IsOver budget) s) there is =
        inl (record {
          why = inr (inr (record {
            source = source;
            whole = there;
            settings = settings;
            found = found;
            means = (s, is);
          }));
          quiet = (omega arith, tt);
        })
    told_reached source (refuses NoMemory s) there is = absurd (sources_want_no_memory source s is)

    input_reached : (input : Option Input) → source_in (Some job) inputs ≡ input
        → Reaches (input_script job.command settings findings.parts input)
    input_reached None is = inl (record { why = inr (settings, found, unread is); quiet = tt })
      where
        unread : source_in (Some job) inputs ≡ None → IsUnread (case_of job.command) job inputs
        unread is = subst (λ (c : Option Case). IsUnread c job inputs) (sym none) is
    input_reached (Some Long) is = inl (record {
      why = inl (record { long = is; settings = settings; found = found; is = refl });
      quiet = tt;
    })
    input_reached (Some (Whole source)) is = told_reached source (source_means source) is refl

  -- ---- files that are judged
  module _ (settings : SettingsOfRun) (found : settings_found job.settings inputs.settings ≡ Some settings) (case : Case)
      (named : case_of job.command ≡ Some case) where
    judged_reached : (outlines program : List ℕ) → inputs.outlines ≡ Some (Whole outlines)
        → inputs.program ≡ Some (Whole program)
        → Reaches (ends (judgement findings.opinions settings.line_width outlines program))
    judged_reached outlines program whole other = inl (record { why = by_reading (reading outlines) refl; quiet = tt })
      where
        judged : AreJudged job inputs
        judged = record {
          case = case;
          named = named;
          settings = settings;
          found = found;
          outlines = outlines;
          outlines_whole = whole;
          program = program;
          program_whole = other;
        }

        by_opinion : (layers : List Layer) → reading outlines ≡ Ok layers → (opinion : Opinion)
            → findings.opinions layers settings.line_width program ≡ opinion
            → EndsBefore job inputs findings.opinions (opinion_end (length layers) opinion)
        by_opinion layers said (Ok (Inside moves)) is =
            (moves, record { judged = judged; layers = layers; said = said; is = is })
        by_opinion layers said (Ok (GoesOutside number line)) is =
            record { judged = judged; layers = layers; said = said; is = is }
        by_opinion layers said (Err (UnknownWord line)) is =
            (record { judged = judged; layers = layers; said = said; is = is }, refl)
        by_opinion layers said (Err (BadNumber line)) is =
            (record { judged = judged; layers = layers; said = said; is = is }, refl)

        by_reading : (read : Result (List Layer) CliFault) → reading outlines ≡ read
            → EndsBefore job inputs findings.opinions
            (judged_end findings.opinions settings.line_width program read)
        by_reading (Ok layers) said =
            by_opinion layers said (findings.opinions layers settings.line_width program) refl
        by_reading (Err (BadLine line)) said = (judged, (said, refl))
        by_reading (Err (CountDiffers told there)) said = (judged, said)
        by_reading (Err (OpenLoop line)) said = (judged, (said, refl))
        by_reading (Err NoText) said = absurd (reading_wants_no_memory outlines said)

    unread : (inputs.outlines ≡ None) ⊎ (inputs.program ≡ None) → IsMissing job inputs
    unread missing = inr (settings, found, subst (λ (c : Option Case). IsUnread c job inputs) (sym named) missing)

    program_reached : (outlines : List ℕ) (program : Option Input) → inputs.outlines ≡ Some (Whole outlines)
        → inputs.program ≡ program
        → Reaches (whole_then program
        (λ other. ends (judgement findings.opinions settings.line_width outlines other)))
    program_reached outlines None whole is = inl (record { why = unread (inr is); quiet = tt })
    program_reached outlines (Some Long) whole is = inl (record {
      why = inr (inl (record {
        case = case;
        named = named;
        settings = settings;
        found = found;
        long = inr (outlines, whole, is);
        is = refl;
      }));
      quiet = tt;
    })
    program_reached outlines (Some (Whole program)) whole is = judged_reached outlines program whole is

    outlines_reached : (outlines : Option Input) → inputs.outlines ≡ outlines
        → Reaches (whole_then outlines (λ text. file_then case.program inputs.program
        (λ other. ends (judgement findings.opinions settings.line_width text other))))
    outlines_reached None is = inl (record { why = unread (inl is); quiet = tt })
    outlines_reached (Some Long) is = inl (record {
      why = inr (inl (record {
        case = case;
        named = named;
        settings = settings;
        found = found;
        long = inl is;
        is = refl;
      }));
      quiet = tt;
    })
    outlines_reached (Some (Whole outlines)) is =
        reads_more case.program _ (program_reached outlines inputs.program is refl)

    case_reached : Reaches (case_script case inputs.outlines inputs.program
        (judgement findings.opinions settings.line_width))
    case_reached = reads_more case.outlines _ (outlines_reached inputs.outlines refl)

  -- what follows the settings
  after_reached : (settings : SettingsOfRun) → settings_found job.settings inputs.settings ≡ Some settings
      → (case : Option Case) → case_of job.command ≡ case
      → Reaches (case_or case findings inputs settings (model_script job.command findings.parts inputs.model settings))
  after_reached settings found None named =
      model_reached (model_of job.command) _
      (input_reached settings found named (source_of job.command inputs.model) refl)
  after_reached settings found (Some case) named = case_reached settings found case named

  pub reached : Reaches (job_script (Some job) findings inputs)
  reached =
      settings_have Reaches job.settings inputs.settings (after_settings job.command findings inputs)
      (λ settings found. after_reached settings found (case_of job.command) refl)
      (λ file rest named behind. reads_more file rest behind)
      (λ file named missing. inl (record { why = inl (file, named, missing); quiet = tt }))
      (λ file text fault named there is.
      inl (record { why = record { name = file; named = named; text = text; read = there; judged = is }; quiet = tt }))
