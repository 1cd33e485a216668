-- Both files of a case are read and judged as the script says.
use Rattle.std.proofs.Common.{◌≡◌, ◌≢◌, List, [], ◌∷◌, ℕ, Option, Some, None, Result, Ok, Err, refl, sym, ap, ◌∙◌, subst, length}
use Rattle.std.specs.Prelude.{IfSome, option_map}
use Rattle.scad_io.specs.Desk.{Files, View}
use Rattle.scad_script.specs.declared.loading.Input.{Input}
use Rattle.scad_script.specs.declared.loading.Input.TheVariants.{Whole, Long}
use Rattle.scad_script.specs.declared.refusal.Refusal.{Refusal}
use Rattle.scad_script.specs.declared.stop.Stop.{Stop}
use Rattle.scad_script.specs.Steps.{Step, Reads}
use Rattle.scad_script.specs.Script.{Script, Refuses, first, ends, input_of}
use Rattle.scad_script.specs.Play.{Left, Stops, HasRisen}
use Rattle.scad_script.proofs.Layers.{as_left}
use Rattle.cli_text.specs.Cli.{Layer}
use Rattle.cli_read.specs.declared.fault.CliFault.{CliFault}
use Rattle.cli_read.specs.declared.fault.CliFault.TheVariants.{Memory}
use Rattle.cli_read.specs.Reading.{reading}
use Rattle.scad_run.specs.Words.{Case}
use Rattle.scad_run.specs.Inputs.{file_limit, file_read}
use Rattle.plan_verify.specs.declared.verdict.Verdict.{Verdict}
use Rattle.plan_verify.specs.declared.verdict.VerifyFault.{VerifyFault}
use Rattle.plan_verify.specs.Verdict.{IsVerdict}
use Rattle.verdict_laws.specs.Opinion.{Opinion, Opinions, IsWidth, AreRight, Answers}
use Rattle.verdict_laws.proofs.Opinions.{answers_opinion}
use Rattle.scad_run.specs.Judging.{opinion_end, outlines_refused, judged_end, judgement, whole_then}
use Rattle.scad_run.specs.Playing.{IsEnd, LoadsWhole, IsRefusedBy, Judges}
use Rattle.scad_run.proofs.Telling.{ended}

-- ---- one file
-- in every script in which this step comes next this goes on
abbrev GoesOn : Step → View → View → Type 0
GoesOn step old new = (whole rest : Script) (start : View) → Left whole (first (step ∷ []) rest) start old
    → Left whole rest start new

told_file : (files : Files) (name : List ℕ) (input : Input)
    → IfSome files (λ contents. option_map (input_of (Some file_limit)) (contents name) ≡ Some input)
    → IfSome files (λ contents. Some input ≡ file_read (Some name) contents)
told_file None name input told = tt
told_file (Some contents) name input told = sym told

-- it was read whole
pub loads_text : (files : Files) (name text : List ℕ) (input : Input) (result : Result (List ℕ) Stop) (old new : View)
    → input ≡ Whole text → result ≡ Ok text
    → IfSome files (λ contents. option_map (input_of (Some file_limit)) (contents name) ≡ Some input)
    → GoesOn (Reads name) old new → LoadsWhole name files result old new
loads_text files name text input result old new whole is told reads =
    subst (λ (r : Result (List ℕ) Stop). LoadsWhole name files r old new) (sym is)
    (record {
      read = Some input;
      told = told_file files name input told;
      goes = λ follows all start left.
          as_left (ap (λ (i : Input). whole_then (Some i) follows) whole)
          (reads all (whole_then (Some input) follows) start left);
    })

-- it is too long
pub loads_long : (files : Files) (name : List ℕ) (input : Input) (result : Result (List ℕ) Stop) (stop : Stop) (old new : View)
    → input ≡ Long → result ≡ Err stop
    → ((follows : List ℕ → Script) (whole : Script) (start : View) → Left whole (whole_then (Some Long) follows) start new
    → Stops whole stop start new)
    → IfSome files (λ contents. option_map (input_of (Some file_limit)) (contents name) ≡ Some input)
    → GoesOn (Reads name) old new → LoadsWhole name files result old new
loads_long files name input result stop old new long is refused told reads =
    subst (λ (r : Result (List ℕ) Stop). LoadsWhole name files r old new) (sym is)
    (record {
      read = Some input;
      told = told_file files name input told;
      goes = λ follows all start left.
          refused follows all start
          (as_left (ap (λ (i : Input). whole_then (Some i) follows) long)
          (reads all (whole_then (Some input) follows) start left));
    })

-- what is there to read of a file
abbrev file_there : List ℕ → Files → Option Input
file_there name None = None
file_there name (Some contents) = file_read (Some name) contents

there_is : (name : List ℕ) (files : Files) → IfSome files (λ contents. file_there name files ≡ file_read (Some name) contents)
there_is name None = tt
there_is name (Some contents) = refl

-- it was not read
pub loads_nothing : (files : Files) (name : List ℕ) (result : Result (List ℕ) Stop) (stop : Stop) (old new : View)
    → result ≡ Err stop
    → ((whole rest : Script) (start : View) → Left whole (first (Reads name ∷ []) rest) start old
    → Stops whole stop start new)
    → LoadsWhole name files result old new
loads_nothing files name result stop old new is stops =
    subst (λ (r : Result (List ℕ) Stop). LoadsWhole name files r old new) (sym is)
    (record {
      read = file_there name files;
      told = there_is name files;
      goes = λ follows all start left. stops all (whole_then (file_there name files) follows) start left;
    })

-- ---- both files
both_told : (files : Files) (a b : List ℕ) (x y : Option Input) → IfSome files (λ contents. x ≡ file_read (Some a) contents)
    → IfSome files (λ contents. y ≡ file_read (Some b) contents)
    → IfSome files (λ contents. (x ≡ file_read (Some a) contents) × (y ≡ file_read (Some b) contents))
both_told None a b x y first second = tt
both_told (Some contents) a b x y first second = (first, second)

module _ (case : Case) (width : ℕ) (files : Files) (result : Result (List ℕ) Stop) where
  -- the outlines were not read, or are too long
  pub stops_at_outlines : (stop : Stop) (old new : View) → result ≡ Err stop
      → LoadsWhole case.outlines files (Err stop) old new → Judges case width files result old new
  stops_at_outlines stop old new is loads =
      subst (λ (r : Result (List ℕ) Stop). Judges case width files r old new) (sym is)
      (record {
        outlines = loads.read;
        program = file_there case.program files;
        told = both_told files case.outlines case.program loads.read (file_there case.program files) loads.told
            (there_is case.program files);
        goes = λ opinions right whole start left. loads.goes _ whole start left;
      })

  module _ (outlines : List ℕ) (later : Files) (old mid new : View) (unmoved : later ≡ files)
      (first : LoadsWhole case.outlines files (Ok outlines) old mid) where
    abbrev IsToldOf : Option Input → Files → Type 0
    IsToldOf read fs = IfSome fs (λ contents. read ≡ file_read (Some case.program) contents)

    -- the program was not read, or is too long
    pub stops_at_program : (stop : Stop) → result ≡ Err stop → LoadsWhole case.program later (Err stop) mid new
        → Judges case width files result old new
    stops_at_program stop is loads =
        subst (λ (r : Result (List ℕ) Stop). Judges case width files r old new) (sym is)
        (record {
          outlines = first.read;
          program = loads.read;
          told = both_told files case.outlines case.program first.read loads.read first.told
              (subst (IsToldOf loads.read) unmoved loads.told);
          goes = λ opinions right whole start left.
              loads.goes _ whole start (first.goes _ whole start left);
        })

    -- both were read and judged
    pub judges_both : (program here there : List ℕ) → LoadsWhole case.program later (Ok program) mid new
        → here ≡ outlines → there ≡ program
        → ((opinions : Opinions) → AreRight opinions → IsEnd (ends (judgement opinions width here there)) result)
        → Judges case width files result old new
    judges_both program here there loads same same_program judged =
        record {
          outlines = first.read;
          program = loads.read;
          told = both_told files case.outlines case.program first.read loads.read first.told
              (subst (IsToldOf loads.read) unmoved loads.told);
          goes = λ opinions right whole start left.
              ended (ends (judgement opinions width outlines program)) result whole start new
              (subst (λ (text : List ℕ). IsEnd (ends (judgement opinions width outlines text)) result) same_program
              (subst (λ (text : List ℕ). IsEnd (ends (judgement opinions width text there)) result) same
              (judged opinions right)))
              (loads.goes _ whole start (first.goes _ whole start left));
        }

-- ---- outlines that aren't read
-- they end as their refusal says
pub refused_end : (opinions : Opinions) (width : ℕ) (outlines program : List ℕ) (fault : CliFault) (stop : Stop)
    (result : Result (List ℕ) Stop) → result ≡ Err stop → (fault ≢ Memory → reading outlines ≡ Err fault)
    → IsRefusedBy fault stop → IsEnd (ends (judgement opinions width outlines program)) result
refused_end opinions width outlines program fault stop result is read refused =
    subst (IsEnd (ends (judgement opinions width outlines program))) (sym is) (by stop refused)
  where
    not_memory : (why : Refusal) → outlines_refused fault ≡ Refuses why → fault ≢ Memory
    not_memory why refused same = let other = sym (ap outlines_refused same) ∙ refused in let never : ⊥ = cc in never

    by : (s : Stop) → IsRefusedBy fault s → IsEnd (ends (judgement opinions width outlines program)) (Err s)
    by (Stop.Ends why) refused =
        ap ends (ap (judged_end opinions width program) (read (not_memory why refused)) ∙ refused)
    by Stop.Memory refused = tt
    by Stop.Read refused = absurd refused
    by Stop.Write refused = absurd refused
    by Stop.Silent refused = absurd refused

-- ---- outlines that are read
pub read_end : (opinions : Opinions) (width : ℕ) (outlines program : List ℕ) (layers : List Layer)
    (result : Result (List ℕ) Stop) → reading outlines ≡ Ok layers
    → IsEnd (ends (judged_end opinions width program (Ok layers))) result
    → IsEnd (ends (judgement opinions width outlines program)) result
read_end opinions width outlines program layers result said is =
    subst (λ (r : Result (List Layer) CliFault). IsEnd (ends (judged_end opinions width program r)) result) (sym said) is

-- the opinion on the program decides, over as many layers as were counted
pub opinion_ends : (opinions : Opinions) (width count : ℕ) (program : List ℕ) (layers : List Layer)
    (verdict : Result Verdict VerifyFault) (result : Result (List ℕ) Stop) → AreRight opinions → IsWidth width
    → IsVerdict layers width program verdict → count ≡ length layers
    → ((opinion : Opinion) → Answers verdict opinion → IsEnd (ends (opinion_end count opinion)) result)
    → IsEnd (ends (judged_end opinions width program (Ok layers))) result
opinion_ends opinions width count program layers verdict result right is_width is same told =
    let opinion = opinions layers width program in
    subst (λ (n : ℕ). IsEnd (ends (opinion_end n opinion)) result) same
    (told opinion (answers_opinion layers width program verdict opinion is (right layers width program is_width)))

-- an end is no fault
pub no_rise : (script : Script) (result : Result (List ℕ) Stop) (before now : ℕ) → IsEnd script result
    → HasRisen result before now
no_rise script (Ok line) before now is = tt
no_rise script (Err (Stop.Ends refusal)) before now is = λ same. let never : ⊥ = cc in absurd never
no_rise script (Err Stop.Memory) before now is = λ same. let never : ⊥ = cc in absurd never
no_rise script (Err Stop.Read) before now is = absurd is
no_rise script (Err Stop.Write) before now is = absurd is
no_rise script (Err Stop.Silent) before now is = absurd is
