use Rattle.std.proofs.Common.{◌≡◌, ◌++◌, ◌∷◌, [], List, false, sym, ap, ap₂, ◌∙◌, ℤ}
use Rattle.std.specs.Prelude.{is_err}
use Rattle.std.proofs.lemmas.Int.{to_z-of_z}
use mir.Syntax.{w32}
use Rattle.plan_infill.specs.declared.run.Run.{Run}
use Rattle.plan_support.specs.Rows.{Row, row_list}
use Rattle.plan_support.proofs.Consecutive.{from_ok, to_ok}
use Rattle.plan_support.proofs.HeightRows.{row_push}
use Rattle.plan_support.proofs.rows.Rows.push.Goals as goal

pub returns-else-is_err : goal.returns-else-is_err
returns-else-is_err c =
    let pushed = c.push-pushed in
    let fine : is_err pushed.result ≡ false = sym c.is_err.ensures.value ∙ c.if-is_err.false in
    let lists : pushed.new.self ≡ c.self.inside.lists ++ c.args.runs.now ∷ [] =
    from_ok pushed.result _ fine pushed.ensures.ok in
    let heights : c.push.new.self.items ≡ c.self.inside.heights.items ++ c.args.y ∷ [] =
    c.in_ok-push.ensures.items
    ∙ ap (λ (z : ℤ). c.self.inside.heights.items ++ z ∷ []) (to_z-of_z w32 c.args.y c.ranges.y) in
    to_ok pushed.result _
    (ap₂ (λ (ys : List ℤ) (ls : List (List Run)). row_list ys ls) heights lists
    ∙ row_push c.self.inside.heights.items c.self.inside.lists c.args.y c.args.runs.now c.self.invariant
    ∙ ap (λ (rows : List Row). rows ++ record { y = c.args.y; runs = c.args.runs.now } ∷ []) c.self.view_is)
