-- What the order of a script's steps says of those before a step and of those behind it.
use Rattle.std.proofs.Common.{◌≡◌, ◌≤◌, ◌++◌, List, [], ◌∷◌, ℕ, Result, Ok, Err, refl, sym, ap, subst, ◌∙◌, arith}
use Rattle.scad_io.specs.Desk.{View, side}
use Rattle.scad_io.specs.declared.desk.Out.{Out}
use Rattle.scad_io.specs.declared.desk.Out.TheVariants.{Report, Cli, Gcode}
use Rattle.scad_script.specs.Steps.{Step, Reads, Makes, Sends, stage, reading, drawing, text_of}
use Rattle.scad_script.specs.Names.{Given, UsesGiven, AllFrom, AllUpTo, Stands, AllStand}
use Rattle.scad_script.specs.declared.stop.Stop.{Stop}
use Rattle.scad_script.specs.Script.{Script, first}
use Rattle.scad_script.specs.Play.{Fails, Went, Left, StopsAt, EndsIn}
use Rattle.scad_script.proofs.Effects.{read_each}

from_each : (least : ℕ) (steps : List Step) (step : Step) (rest : List Step) → AllFrom least (steps ++ step ∷ rest)
    → least ≤ stage step
from_each least [] step rest all = all.0
from_each least (s ∷ ss) step rest all = from_each least ss step rest all.1

-- the steps before a step belong no later
pub all_before : (given : Given) (done : List Step) (step : Step) (rest : List Step)
    → AllStand given (done ++ step ∷ rest) → AllUpTo (stage step) done
all_before given [] step rest all = tt
all_before given (d ∷ ds) step rest all = (
  from_each (stage d) ds step rest all.0.order,
  all_before given ds step rest
      all.1,
)

-- a step stands before those behind it
pub stands_at : (given : Given) (done : List Step) (step : Step) (rest : List Step)
    → AllStand given (done ++ step ∷ rest) → Stands given step rest
stands_at given [] step rest all = all.0
stands_at given (d ∷ ds) step rest all = stands_at given ds step rest all.1

-- all of these steps use the names that were given
abbrev pub AllUseGiven : Given → List Step → Type 0
AllUseGiven given [] = Unit {0}
AllUseGiven given (step ∷ steps) = UsesGiven given step × AllUseGiven given steps

pub front_uses : (given : Given) (done rest : List Step) → AllStand given (done ++ rest) → AllUseGiven given done
front_uses given [] rest all = tt
front_uses given (d ∷ ds) rest all = (all.0.name, front_uses given ds rest all.1)

-- steps that draw report nothing
pub drawing_echoes : (steps : List Step) → AllFrom drawing steps → text_of Report steps ≡ []
drawing_echoes [] all = refl
drawing_echoes (Reads name ∷ ss) all = drawing_echoes ss all.1
drawing_echoes (Makes o name ∷ ss) all = drawing_echoes ss all.1
drawing_echoes (Sends Report piece ∷ ss) all = let late = all.0 in absurd (omega (arith, late))
drawing_echoes (Sends Cli piece ∷ ss) all = drawing_echoes ss all.1
drawing_echoes (Sends Gcode piece ∷ ss) all = drawing_echoes ss all.1

-- steps that only read write nothing
pub reading_text : (out : Out) (steps : List Step) → AllUpTo reading steps → text_of out steps ≡ []
reading_text out [] all = refl
reading_text out (Reads name ∷ ss) all = reading_text out ss all.1
reading_text out (Makes o name ∷ ss) all = let late = all.0 in absurd (omega (arith, late))
reading_text out (Sends Report piece ∷ ss) all = let late = all.0 in absurd (omega (arith, late))
reading_text out (Sends Cli piece ∷ ss) all = let late = all.0 in absurd (omega (arith, late))
reading_text out (Sends Gcode piece ∷ ss) all = let late = all.0 in absurd (omega (arith, late))

-- and leave the outputs as they were
pub reading_stands : (out : Out) (steps : List Step) (old now : View) → AllUpTo reading steps → Went steps old now
    → side out now ≡ side out old
reading_stands out [] old now all same = ap (side out) same
reading_stands out (Reads name ∷ ss) old now all (mid, uses, went) = reading_stands out ss mid now all.1 went ∙
    read_each out uses
reading_stands out (Makes o name ∷ ss) old now all went = let late = all.0 in absurd (omega (arith, late))
reading_stands out (Sends Report piece ∷ ss) old now all went = let late = all.0 in absurd (omega (arith, late))
reading_stands out (Sends Cli piece ∷ ss) old now all went = let late = all.0 in absurd (omega (arith, late))
reading_stands out (Sends Gcode piece ∷ ss) old now all went = let late = all.0 in absurd (omega (arith, late))

-- A script that only reads leaves the outputs as they were.

reads_front : (done rest : List Step) → AllUpTo reading (done ++ rest) → AllUpTo reading done
reads_front [] rest all = tt
reads_front (d ∷ ds) rest all = (all.0, reads_front ds rest all.1)

reads_here : (done : List Step) (step : Step) (rest : List Step) → AllUpTo reading (done ++ step ∷ rest)
    → stage step ≤ reading
reads_here [] step rest all = all.0
reads_here (d ∷ ds) step rest all = reads_here ds step rest all.1

fails_reading : (out : Out) (step : Step) (old now : View) → stage step ≤ reading → Fails step old now
    → side out now ≡ side out old
fails_reading out (Reads name) old now early fails = read_each out fails
fails_reading out (Makes o name) old now early fails = absurd (omega (arith, early))
fails_reading out (Sends Report piece) old now early fails = absurd (omega (arith, early))
fails_reading out (Sends Cli piece) old now early fails = absurd (omega (arith, early))
fails_reading out (Sends Gcode piece) old now early fails = absurd (omega (arith, early))

left_reading : (out : Out) (whole rest : Script) (old now : View) → AllUpTo reading whole.steps
    → Left whole rest old now → side out now ≡ side out old
left_reading out whole rest old now all left =
    reading_stands out left.done old now
    (reads_front left.done rest.steps (subst (λ (s : Script). AllUpTo reading s.steps) (sym left.parts) all)) left.went

stops_only_reading : (out : Out) (at : ℕ) (whole : Script) (old now : View) → AllUpTo reading whole.steps
    → StopsAt at whole old now → side out now ≡ side out old
stops_only_reading out at whole old now all (step, rest, mid, same, left, fails) =
    let mine = subst (λ (s : Script). AllUpTo reading s.steps) (sym left.parts) all in
    fails_reading out step mid now (reads_here left.done step rest.steps mine) fails
    ∙ left_reading out whole (first (step ∷ []) rest) old mid all left

pub ends_reading : (out : Out) (whole : Script) (ended : Result (List ℕ) Stop) (old now : View)
    → AllUpTo reading whole.steps → EndsIn whole ended old now → side out now ≡ side out old
ends_reading out whole (Ok line) old now all left = left_reading out whole _ old now all left
ends_reading out whole (Err (Stop.Ends why)) old now all left = left_reading out whole _ old now all left
ends_reading out whole (Err Stop.Read) old now all stops = stops_only_reading out _ whole old now all stops
ends_reading out whole (Err Stop.Silent) old now all stops = stops_only_reading out _ whole old now all stops
ends_reading out whole (Err Stop.Write) old now all stops = stops_only_reading out _ whole old now all stops
ends_reading out whole (Err Stop.Memory) old now all (rest, left) = left_reading out whole rest old now all left
