use Rattle.std.proofs.Common.{rules, Global, ℕ, List, map, string_bytes, subst}
use Rattle.scad_io.specs.Desk.{Files, View}
use Rattle.scad_script.specs.Run.{RunsTo}
use Rattle.scad_script.specs.Names.{IsOrderly}
use Rattle.scad_script.specs.Script.{Script}
use Rattle.scad_script.specs.Promises.{Promised, IsWriteFault, IsMemoryLine, AreFronts}
use Rattle.scad_script.proofs.StatusPromises.{statuses_keep_promises}
use Rattle.scad_script.proofs.DeskFaults.{report_sound}
use Rattle.scad_script.proofs.Fronts.{files_are_fronts}
use Rattle.scad_script.proofs.HandOver.{names_are_given}
use Rattle.scad_script.proofs.Creation.{created_for_bytes}
use Rattle.scad_run.specs.Words.{given_by}
use Rattle.scad_words.specs.Job.{job_of}
use Rattle.scad_run.specs.Answer.{Findings, script_of, AreFound, OnScript}
use Rattle.scad_run.specs.Inputs.{Inputs, source_in}
use Rattle.scad_run.specs.Playing.{Works}
use Rattle.scad_run.specs.Promises.{Refuses}
use Rattle.scad_run.proofs.Orderly.{orderly}
use Rattle.scad_run.proofs.Uniqueness.{answers_are_there, answers_are_one, PromisedOn, answers}
use Rattle.scad_run.proofs.StatusMeaning.{judges, read_fault, write_fault, memory_line}
use Rattle.scad_run.proofs.WrittenFiles.{holds_tree}
use Rattle.scad_run.proofs.Printing.{adds_print, headline}
use Rattle.scad_run.proofs.Assurance.{verifies_moves}
use Rattle.scad_run.proofs.Approval.{confirms}
use Rattle.scad_run.proofs.Cutting.{cuts_short}
use Rattle.scad_run.proofs.ByGrammar.{sources_go_by_grammar}
use Rattle.scad_run.proofs.Refusals.{leaves, refuses_so}
use Rattle.scad_run.proofs.Completion.{completes}
use Rattle.scad_run.proofs.whole_run.run.Given.{Over}
use Rattle.scad_run.proofs.whole_run.run.Goals as goal

abbrev words : (g : Over) → goal.After-report g → List (List ℕ)
words g c = map (string_bytes {Z = Global}) c.args.words.now

abbrev files : (g : Over) → goal.After-report g → Files
files g c = g.D.Desk.files c.args.desk.now

abbrev before : (g : Over) → goal.After-report g → View
before g c = g.D.Desk.view c.args.desk.now

abbrev after : (g : Over) → goal.After-report g → View
after g c = g.D.Desk.view c.report.new.desk

-- what the work has played
abbrev played : (g : Over) (c : goal.After-report g) → Works (words g c) (files g c) c.work-ended.result (before g c)
    (g.D.Desk.view c.work-ended.new.desk)
played g c = c.work-ended.ensures.works

-- what was read of the files
abbrev inputs : (g : Over) → goal.After-report g → Inputs
inputs g c = (played g c).inputs

-- parts of the source's tree, and right opinions
abbrev found : (g : Over) → goal.After-report g → Findings
found g c = (answers_are_there (source_in (job_of (words g c)) (inputs g c))).0

are_found : (g : Over) (c : goal.After-report g) → AreFound (words g c) (inputs g c) (found g c)
are_found g c = (answers_are_there (source_in (job_of (words g c)) (inputs g c))).1

-- the script of the run
abbrev whole : (g : Over) → goal.After-report g → Script
whole g c = script_of (words g c) (found g c) (inputs g c)

-- with all parts: the work, then the report
runs_on : (g : Over) (c : goal.After-report g) (d : Findings) → AreFound (words g c) (inputs g c) d
    → RunsTo (script_of (words g c) d (inputs g c)) c.report.result (before g c) (after g c)
runs_on g c d is = (
  c.work-ended.result,
  g.D.Desk.view c.work-ended.new.desk,
  (played g c).plays d is,
  c.report.ensures.reports,
)

promised_on : (g : Over) (c : goal.After-report g) → PromisedOn (words g c) (inputs g c) c.report.result (before g c)
    (after g c)
promised_on g c d is =
    statuses_keep_promises (given_by (words g c)) (script_of (words g c) d (inputs g c)) c.report.result (before g c)
    (after g c)
    (orderly (words g c) d (inputs g c)) c.requires.ready (runs_on g c d is)

runs : (g : Over) (c : goal.After-report g) → RunsTo (whole g c) c.report.result (before g c) (after g c)
runs g c = runs_on g c (found g c) (are_found g c)

promised : (g : Over) (c : goal.After-report g) → Promised (given_by (words g c)) (whole g c) c.report.result
    (before g c) (after g c)
promised g c = promised_on g c (found g c) (are_found g c)

in_order : (g : Over) (c : goal.After-report g) → IsOrderly (given_by (words g c)) (whole g c)
in_order g c = orderly (words g c) (found g c) (inputs g c)

-- a property of the run's script
on_script : (g : Over) (c : goal.After-report g) (Holds : Script → Type 0) → Holds (whole g c)
    → OnScript (words g c) (files g c) Holds
on_script g c Holds holds =
    record {
      inputs = inputs g c;
      read = (played g c).read;
      findings = found g c;
      found = are_found g c;
      holds = λ others drawn. subst Holds (answers_are_one (words g c) (inputs g c) (found g c) others (are_found g c)
          drawn) holds;
    }

pub report-requires : goal.report-requires
report-requires g c =
    let given = map (string_bytes {Z = Global}) c.args.words.now in
    let w = c.work-ended.ensures.works in
    let drawn = answers_are_there (source_in (job_of given) w.inputs) in
    record {
      sound = λ said. report_sound (given_by given) (script_of given drawn.0 w.inputs) c.work-ended.result
          (g.D.Desk.view c.args.desk.now)
          (g.D.Desk.view c.work-ended.new.desk) (orderly given drawn.0 w.inputs) c.requires.ready
          (w.plays drawn.0 drawn.1) said;
    }

pub returns-clause-runs : goal.returns-clause-runs
returns-clause-runs g c = on_script g c (λ s. RunsTo s c.report.result (before g c) (after g c)) (runs g c)

pub returns-clause-answer : goal.returns-clause-answer
returns-clause-answer g c = answers (words g c) (files g c) (inputs g c) c.report.result (before g c) (after g c)
    (played g c).read (promised_on g c)

pub returns-clause-outlines : goal.returns-clause-outlines
returns-clause-outlines g c =
    holds_tree (words g c) (files g c) (inputs g c) (found g c) c.report.result (before g c) (after g c)
    (played g c).read (are_found g c)
    (promised g c)

pub returns-clause-print : goal.returns-clause-print
returns-clause-print g c =
    adds_print (words g c) (files g c) (inputs g c) (found g c) c.report.result (before g c) (after g c)
    (played g c).read (are_found g c)
    (promised g c) c.layers_are_printed.ensures c.prints_are_one.ensures

pub returns-clause-verified : goal.returns-clause-verified
returns-clause-verified g c =
    verifies_moves (words g c) (files g c) (inputs g c) (found g c) c.report.result (before g c) (after g c)
    (played g c).read (are_found g c) (promised g c)

pub returns-clause-confirms : goal.returns-clause-confirms
returns-clause-confirms g c =
    confirms (words g c) (files g c) (found g c) (inputs g c) c.report.result (before g c) (after g c)
    (g.D.Desk.faults c.args.desk.now)
    (g.D.Desk.faults c.report.new.desk) (played g c).read (are_found g c) (promised g c) (search rules) (search rules)

pub returns-clause-headline : goal.returns-clause-headline
returns-clause-headline g c =
    headline (words g c) (files g c) (inputs g c) (found g c) c.report.result (before g c) (after g c)
    (g.D.Desk.faults c.args.desk.now)
    (g.D.Desk.faults c.report.new.desk) c.layers_are_printed.ensures c.prints_are_one.ensures (played g c).read
    (are_found g c)
    (promised g c) (search rules) (search rules)

pub returns-clause-grammar : goal.returns-clause-grammar
returns-clause-grammar g c = sources_go_by_grammar c.judges_as_the_grammar.ensures

pub returns-clause-cut : goal.returns-clause-cut
returns-clause-cut g c =
    cuts_short (words g c) (files g c) (found g c) (inputs g c) c.report.result (before g c) (after g c)
    (played g c).read (runs g c)
    (promised g c) (are_found g c)

pub returns-clause-words : goal.returns-clause-words
returns-clause-words g c = judges (words g c) (found g c) (inputs g c) c.report.result (before g c) (after g c)
    (promised g c)

pub returns-clause-refusal : goal.returns-clause-refusal
returns-clause-refusal g c =
    on_script g c (λ s. Refuses s c.report.result (before g c) (after g c))
    (refuses_so (words g c) (found g c) (inputs g c) c.report.result (before g c) (after g c) (runs g c) (promised g c)
    (are_found g c))

pub returns-clause-leaves : goal.returns-clause-leaves
returns-clause-leaves g c = leaves (words g c) (found g c) (inputs g c) c.report.result (before g c) (after g c)
    (runs g c)

pub returns-clause-read_fault : goal.returns-clause-read_fault
returns-clause-read_fault g c = read_fault (given_by (words g c)) (whole g c) c.report.result (before g c) (after g c)
    (promised g c)

pub returns-clause-write_fault : goal.returns-clause-write_fault
returns-clause-write_fault g c same =
    on_script g c (λ s. IsWriteFault (given_by (words g c)) s (before g c) (after g c))
    (write_fault (given_by (words g c)) (whole g c) c.report.result (before g c) (after g c) (promised g c) same)

pub returns-clause-memory : goal.returns-clause-memory
returns-clause-memory g c same =
    on_script g c (λ s. IsMemoryLine s (before g c) (after g c))
    (memory_line (given_by (words g c)) (whole g c) c.report.result (before g c) (after g c) (promised g c) same)

pub returns-clause-complete : goal.returns-clause-complete
returns-clause-complete g c =
    completes (words g c) (files g c) (found g c) (inputs g c) c.report.result (before g c) (after g c)
    (g.D.Desk.faults c.args.desk.now)
    (g.D.Desk.faults c.report.new.desk) (played g c).read (are_found g c) (promised g c) (search rules) (search rules)

pub returns-clause-front : goal.returns-clause-front
returns-clause-front g c =
    on_script g c (λ s. AreFronts s (before g c) (after g c))
    (files_are_fronts (given_by (words g c)) (whole g c) c.report.result (before g c) (after g c) (in_order g c)
    c.requires.ready (runs g c))

pub returns-clause-created : goal.returns-clause-created
returns-clause-created g c =
    created_for_bytes (given_by (words g c)) (whole g c) c.report.result (before g c) (after g c) (in_order g c)
    c.requires.ready (runs g c)

pub returns-clause-names : goal.returns-clause-names
returns-clause-names g c =
    names_are_given (given_by (words g c)) (whole g c) c.report.result (before g c) (after g c) (in_order g c)
    c.requires.ready (runs g c)
