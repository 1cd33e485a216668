use Rattle.std.proofs.Common.{◌≡◌, rules, [], ◌∷◌, ◌++◌, pos, ◌-ℤ◌, ◌∙◌, ap, List, append_assoc}
use Rattle.scad_geom.specs.Line.{run, left_of, heading}
use Rattle.scad_geom.proofs.Casts.{casts}
use Rattle.plan_infill.specs.declared.step.Step.{Step}
use Rattle.plan_infill.specs.Columns.{heights_of, IsPositivePart}
use Rattle.plan_infill.proofs.Steps.{step_of, column_turns}
use Rattle.plan_infill.proofs.turn_steps.push_on_column.Goals as goal

first : (c : goal.In_ok-push-2) → Step
first c = step_of c.right_part-part.result.from (heading c.args.e.now)

second : (c : goal.In_ok-push-2) → Step
second c = step_of c.right_part-part.result.until (pos 0 -ℤ heading c.args.e.now)

grown : (c : goal.In_ok-push-2) → c.push-2.new.self.items ≡ c.args.steps.now.items
    ++ (first c ∷ (second c ∷ []))
unfolding first second
grown c =
    let a : c.push.new.self.items ≡ c.args.steps.now.items ++ (first c ∷ []) = search (rules, casts) in
    let b : c.push-2.new.self.items ≡ c.push.new.self.items ++ (second c ∷ []) = search (rules, casts) in
    b ∙ ap (λ (xs : List Step). xs ++ (second c ∷ [])) a
    ∙ append_assoc c.args.steps.now.items (first c ∷ []) (second c ∷ [])

pub returns : goal.returns
unfolding first second
returns c =
    let k : IsPositivePart (heights_of c.args.e.now) (run c.args.e.now) (left_of c.args.e.now c.args.x (pos 0) (pos 1)) c.right_part-part.result = search (rules, casts) in
    let steps = column_turns c.args.e.now c.args.x c.right_part-part.result c.requires.edge k in
    (first c ∷ (second c ∷ []), steps, grown c)
