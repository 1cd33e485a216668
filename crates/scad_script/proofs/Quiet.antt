-- A script that only reads and reports echo lines leaves both files as they were.
use Rattle.std.proofs.Common.{◌≡◌, ◌≤◌, ◌++◌, List, [], ◌∷◌, ℕ, Result, Ok, Err, sym, ap, ◌∙◌, subst, arith}
use Rattle.scad_io.specs.Desk.{View, side}
use Rattle.scad_io.specs.declared.desk.Out.{Out}
use Rattle.scad_io.specs.declared.desk.Out.TheVariants.{Report, Cli, Gcode}
use Rattle.scad_script.specs.declared.stop.Stop.{Stop}
use Rattle.scad_script.specs.Steps.{Step, Reads, Makes, Sends, stage, echoing}
use Rattle.scad_script.specs.Script.{Script, first}
use Rattle.scad_script.specs.Names.{AllUpTo}
use Rattle.scad_script.specs.Play.{Takes, Fails, Went, Left, StopsAt, EndsIn}
use Rattle.scad_script.proofs.Effects.{read_each}

-- an output other than the report
abbrev pub IsFile : Out → Type 0
IsFile Report = ⊥
IsFile Cli = Unit {0}
IsFile Gcode = Unit {0}

quiet_takes : (out : Out) (step : Step) (old now : View) → IsFile out → stage step ≤ echoing → Takes step old now
    → side out now ≡ side out old
quiet_takes out (Reads name) old now file early takes = read_each out takes
quiet_takes out (Makes o name) old now file early takes = absurd (omega (arith, early))
quiet_takes Report (Sends Report piece) old now file early takes = absurd file
quiet_takes Cli (Sends Report piece) old now file early takes = ap (λ v. v.cli) takes.1
quiet_takes Gcode (Sends Report piece) old now file early takes = ap (λ v. v.gcode) takes.1
quiet_takes out (Sends Cli piece) old now file early takes = absurd (omega (arith, early))
quiet_takes out (Sends Gcode piece) old now file early takes = absurd (omega (arith, early))

quiet_fails : (out : Out) (step : Step) (old now : View) → IsFile out → stage step ≤ echoing → Fails step old now
    → side out now ≡ side out old
quiet_fails out (Reads name) old now file early fails = read_each out fails
quiet_fails out (Makes o name) old now file early fails = absurd (omega (arith, early))
quiet_fails Report (Sends Report piece) old now file early fails = absurd file
quiet_fails Cli (Sends Report piece) old now file early fails = ap (λ v. v.cli) fails.1.view
quiet_fails Gcode (Sends Report piece) old now file early fails = ap (λ v. v.gcode) fails.1.view
quiet_fails out (Sends Cli piece) old now file early fails = absurd (omega (arith, early))
quiet_fails out (Sends Gcode piece) old now file early fails = absurd (omega (arith, early))

quiet_went : (out : Out) (steps : List Step) (old now : View) → IsFile out → AllUpTo echoing steps → Went steps old now
    → side out now ≡ side out old
quiet_went out [] old now file all same = ap (side out) same
quiet_went out (s ∷ ss) old now file all (mid, takes, went) =
    quiet_went out ss mid now file all.1 went ∙ quiet_takes out s old mid file all.0 takes

quiet_front : (done rest : List Step) → AllUpTo echoing (done ++ rest) → AllUpTo echoing done
quiet_front [] rest all = tt
quiet_front (d ∷ ds) rest all = (all.0, quiet_front ds rest all.1)

quiet_here : (done : List Step) (step : Step) (rest : List Step) → AllUpTo echoing (done ++ step ∷ rest)
    → stage step ≤ echoing
quiet_here [] step rest all = all.0
quiet_here (d ∷ ds) step rest all = quiet_here ds step rest all.1

quiet_left : (out : Out) (whole rest : Script) (old now : View) → IsFile out → AllUpTo echoing whole.steps
    → Left whole rest old now → side out now ≡ side out old
quiet_left out whole rest old now file all left =
    quiet_went out left.done old now file
    (quiet_front left.done rest.steps (subst (λ (s : Script). AllUpTo echoing s.steps) (sym left.parts) all)) left.went

quiet_stops : (out : Out) (at : ℕ) (whole : Script) (old now : View) → IsFile out → AllUpTo echoing whole.steps
    → StopsAt at whole old now → side out now ≡ side out old
quiet_stops out at whole old now file all (step, rest, mid, same, left, fails) =
    let mine = subst (λ (s : Script). AllUpTo echoing s.steps) (sym left.parts) all in
    quiet_fails out step mid now file (quiet_here left.done step rest.steps mine) fails
    ∙ quiet_left out whole (first (step ∷ []) rest) old mid file all left

pub ends_quietly : (out : Out) (whole : Script) (ended : Result (List ℕ) Stop) (old now : View) → IsFile out
    → AllUpTo echoing whole.steps → EndsIn whole ended old now → side out now ≡ side out old
ends_quietly out whole (Ok line) old now file all left = quiet_left out whole _ old now file all left
ends_quietly out whole (Err (Stop.Ends why)) old now file all left = quiet_left out whole _ old now file all left
ends_quietly out whole (Err Stop.Read) old now file all stops = quiet_stops out _ whole old now file all stops
ends_quietly out whole (Err Stop.Silent) old now file all stops = quiet_stops out _ whole old now file all stops
ends_quietly out whole (Err Stop.Write) old now file all stops = quiet_stops out _ whole old now file all stops
ends_quietly out whole (Err Stop.Memory) old now file all (rest, left) = quiet_left out whole rest old now file all left
