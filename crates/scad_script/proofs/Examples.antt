-- Three runs by the definitions: a budget in the middle of a file, a report cut within its echo lines, and two outputs
-- of
-- which the second fails.
use Rattle.std.proofs.Common.{◌≡◌, ◌==◌, List, [], ◌∷◌, ℕ, true, false, Option, Some, None, Result, Ok, Err, inl, refl, codes, decimal, pos, arith}
use Rattle.std.specs.Prelude.{if◌then◌else◌}
use Rattle.std.specs.Fmt.{digits}
use Rattle.scad_fault.specs.declared.budget.Budget.{Budget}
use Rattle.scad_fault.specs.declared.budget.BudgetKind.TheVariants.{LayerEdges}
use Rattle.scad_fault.specs.declared.settings.SetFault.{SetFault}
use Rattle.scad_fault.specs.declared.settings.SetKind.TheVariants.{NotToml}
use Rattle.scad_fault.specs.declared.status.Status.TheVariants.{Done, Write, Over}
use Rattle.scad_fault.specs.Line.{budget_line}
use Rattle.scad_io.specs.Desk.{Side, View, unused}
use Rattle.scad_io.specs.declared.desk.Out.TheVariants.{Report, Cli, Gcode}
use Rattle.scad_script.specs.declared.refusal.Refusal.TheVariants.{Settings}
use Rattle.scad_script.specs.declared.stop.Stop.{Stop}
use Rattle.scad_script.specs.declared.loading.Input.{Input}
use Rattle.scad_script.specs.declared.loading.Input.TheVariants.{Whole}
use Rattle.scad_script.specs.Steps.{Step, Reads, Makes, Sends}
use Rattle.scad_script.specs.Script.{Script, Finishes, Refuses, Lacks, first, ends, layers, answer_of}
use Rattle.scad_script.specs.Run.{RunsTo}

abbrev too_many_edges : Budget
too_many_edges = record { kind = LayerEdges; at = record { line = 0; col = 0 }; layer = 4; count = 20010 }

-- layer 4 passes its budget; the text of another layer is its number
abbrev layer_of : ℕ → Result (List Step) Budget
layer_of i = if i == 4 then Err too_many_edges else Ok (Sends Cli (decimal i) ∷ [])

-- a source that echoes, and of whose nine layers one passes its budget
abbrev budgeted : Script
budgeted =
    first (Reads (codes "m.scad") ∷ []) (first (Sends Report (codes "ECHO: 1\n") ∷ [])
    (first (Makes Cli (codes "o.cli") ∷ []) (first (Sends Cli (codes "H") ∷ [])
    (layers layer_of 0 9 (first (Sends Cli (codes "E") ∷ []) (ends (Finishes (codes "done\n"))))))))

-- the bytes end before layer 4, with no end text, and the echo line stands before the budget's
budget_in_mid_file :
    answer_of budgeted ≡ Some (record {
      status = Over too_many_edges;
      echoes = codes "ECHO: 1\n";
      line = codes "budget 7 LayerEdges layer 4 count 20010\n";
      cli = codes "H0123";
      gcode = [];
    })
unfolding budget_line digits
budget_in_mid_file = refl

-- an object of which all is told
abbrev told : List ℕ → List ℕ → Side
told name bytes = record { name = Some name; bytes = Some bytes; created = false; failed = false }

-- the file was read to its end
abbrev after_reading : View
after_reading = record (unused (Some [])) { input = told (codes "m.scad") [] }

-- the report failed after four bytes of its echo line
abbrev after_cut : View
after_cut =
    record after_reading {
      report = record { name = None; bytes = Some (codes "ECHO"); created = false; failed = true };
    }

echo_line_cut : RunsTo budgeted Write (unused (Some [])) after_cut
echo_line_cut = (
  Err Stop.Silent,
  after_cut,
  (
    Sends Report (codes "ECHO: 1\n"),
    _,
    after_reading,
    refl,
    record {
      done = Reads (codes "m.scad") ∷ [];
      parts = refl;
      went =
          (after_reading, record { only = refl; named = refl }, refl);
    },
    (λ drawn. absurd (drawn refl), record { count = 4; proper = omega arith; view = refl }),
  ),
  (refl, refl),
)

-- a file of outlines and one for the printing program, both created before their heads are written
abbrev two_outputs : Script
two_outputs =
    first (Reads (codes "m.scad") ∷ []) (first (Makes Cli (codes "o.cli") ∷ [])
    (first (Makes Gcode (codes "o.gcode") ∷ [])
    (first (Sends Cli (codes "HEAD") ∷ []) (first (Sends Gcode (codes "head") ∷ [])
    (first (Sends Cli (codes "END") ∷ []) (first (Sends Gcode (codes "end") ∷ [])
    (ends (Finishes (codes "done\n")))))))))

both_in_full :
    answer_of two_outputs ≡ Some (record {
      status = Done;
      echoes = [];
      line = codes "done\n";
      cli = codes "HEADEND";
      gcode = codes "headend";
    })
both_in_full = refl

abbrev is_there : Side → Side
is_there s = record s { created = true }

abbrev with_outlines : View
with_outlines = record after_reading { cli = is_there (told (codes "o.cli") []) }

abbrev with_both : View
with_both = record with_outlines { gcode = is_there (told (codes "o.gcode") []) }

abbrev with_head : View
with_head = record with_both { cli = is_there (told (codes "o.cli") (codes "HEAD")) }

-- the second output failed after two bytes of its head
abbrev second_failed : View
second_failed = record with_head { gcode = record (is_there (told (codes "o.gcode") (codes "he"))) { failed = true } }

abbrev after_second : View
after_second = record second_failed { report = record second_failed.report { bytes = Some (codes "write fault\n") } }

second_output_fails : RunsTo two_outputs Write (unused (Some [])) after_second
second_output_fails = (
  Err Stop.Write,
  second_failed,
  (
    Sends Gcode (codes "head"),
    _,
    with_head,
    refl,
    record {
      done = Reads (codes "m.scad") ∷ Makes Cli (codes "o.cli") ∷ Makes Gcode (codes "o.gcode") ∷ Sends Cli
          (codes "HEAD") ∷ [];
      parts = refl;
      went = (
        after_reading,
        record { only = refl; named = refl },
        (
          with_outlines,
          record { only = refl; named = refl },
          (with_both, record { only = refl; named = refl }, (with_head, ((λ drawn. refl), refl), refl)),
        ),
      );
    },
    ((λ drawn. refl), record { count = 2; proper = omega arith; view = refl }),
  ),
  inl (refl, refl),
)

-- Settings that are judged before the source is opened.

abbrev no_settings : SetFault
no_settings = record { kind = NotToml; key = []; value = pos 0 }

-- settings without a byte are taken, others are refused
abbrev settled : Input → Script → Script
settled (Whole []) rest = rest
settled input rest = ends (Refuses (Settings no_settings))

-- what comes after a file that was read, or isn't there
abbrev after_file : Option Input → (Input → Script) → Script
after_file None rest = ends Lacks
after_file (Some input) rest = rest input

abbrev with_settings : Option Input → Option Input → Script
with_settings settings source =
    first (Reads (codes "s.toml") ∷ [])
    (after_file settings (λ input. settled input
    (first (Reads (codes "m.scad") ∷ []) (after_file source (λ text. ends (Finishes (codes "done\n")))))))

-- where the settings are refused the source isn't opened, whatever it holds
settings_before_source : (source : Option Input) → with_settings (Some (Whole (codes "="))) source
    ≡ record { steps = Reads (codes "s.toml") ∷ []; ending = Refuses (Settings no_settings) }
settings_before_source source = refl

-- without a source there is no answer
no_source : answer_of (with_settings (Some (Whole [])) None) ≡ None
no_source = refl
