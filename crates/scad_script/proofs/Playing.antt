-- How playing a script goes on, and what a part of a file that was read is.
use Rattle.std.proofs.Common.{◌++◌, List, [], ◌∷◌, refl, ap, ◌∙◌, subst, append_assoc}
use Rattle.scad_io.specs.Desk.{View}
use Rattle.scad_script.specs.Steps.{Step}
use Rattle.scad_script.specs.Script.{Script, first}
use Rattle.scad_script.specs.Play.{Takes, Went, Left}

-- one more step behind those that were taken
pub then_takes : (done : List Step) (step : Step) (old mid new : View) → Went done old mid → Takes step mid new
    → Went (done ++ step ∷ []) old new
then_takes [] step old mid new same takes =
    (new, subst (λ (v : View). Takes step v new) same takes, refl)
then_takes (d ∷ ds) step old mid new (next, took, went) takes = (next, took, then_takes ds step next mid new went takes)

-- the step that comes next was taken
pub goes_on : {whole rest : Script} (step : Step) {old mid : View} (new : View) → Left whole (first (step ∷ []) rest)
    old mid → Takes step mid new → Left whole rest old new
goes_on {rest = rest} step {old = old} {mid = mid} new left takes =
    record {
      done = left.done ++ step ∷ [];
      parts = ap (λ steps. record { steps = steps; ending = rest.ending }) (append_assoc left.done (step ∷ [])
          rest.steps) ∙ left.parts;
      went = then_takes left.done step old mid new left.went takes;
    }

-- a script of which nothing was played yet
pub begun : (whole : Script) (v : View) → Left whole whole v v
begun whole v = record { done = []; parts = refl; went = refl }
