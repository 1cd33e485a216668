use Rattle.std.proofs.Common.{◌≡◌, ◌≤◌, ◌*◌, List, length, true, ◌++◌, ap, ◌∙◌, refl, arith, inr}
use Rattle.std.specs.Prelude.{Result, Ok, Err, IfOk}
use Rattle.std.specs.List.{sum_by}
use Rattle.std.proofs.lemmas.Result.{IfOk-weaker, IfErr-weaker}
use Rattle.scad_geom.specs.declared.point.Pt.{Pt}
use Rattle.plan_layer.specs.Infill.{LineRuns, infill_paths}
use Rattle.plan_layer.specs.Moves.{all_moves, move_limit}
use Rattle.plan_layer.specs.Plan.{IsPlan}
use Rattle.plan_layer.specs.Refusal.{IsManyMoves, IsRefusal}
use Rattle.plan_layer.proofs.MoveCount.{moves_both}
use Rattle.plan_layer.proofs.Points.{plan_ways, few_points}
use Rattle.plan_layer.proofs.layer_plan.plan.Goals as goal

both : {T E : Type 0} (r : Result T E) (P Q R : T → Type 0) → ((x : T) → P x → Q x → R x) → IfOk r P → IfOk r Q
    → IfOk r R
both (Ok x) P Q R f h k = f x h k
both (Err e) P Q R f h k = h

is_plan : (c : goal.After-drop-lines-2) (paths : List (List Pt)) → paths ≡ c.push_infill.new.paths.items
    → IsPlan c.args.outlines.now c.args.layer c.args.settings.now paths (length (infill_paths c.args.layer true c.in_ok-lines.lines.items))
is_plan c paths kept = record {
  walls = c.in_ok-paths.paths.items;
  lines = c.in_ok-lines.lines.items;
  are_walls = c.in_ok-paths.ensures.walls;
  are_filled = c.in_ok-lines.ensures;
  paths_are = kept ∙ c.in_ok-push_infill.ensures
      ∙ ap (λ (ls : List LineRuns). c.in_ok-paths.paths.items ++ infill_paths c.args.layer true ls)
      c.deref.ensures.value;
  runs_are = refl;
}

pub returns-clause-accepted : goal.returns-clause-accepted
returns-clause-accepted c =
    IfOk-weaker c.judged.result _ _ (λ p kept. c.in_ok-paths.ensures.accepted) c.judged.ensures.kept

pub returns-clause-supports : goal.returns-clause-supports
returns-clause-supports c = c.judged.ensures.supports

pub returns-clause-moves : goal.returns-clause-moves
returns-clause-moves c = c.judged.ensures.few

pub returns-clause-clear : goal.returns-clause-clear
returns-clause-clear c =
    IfOk-weaker c.judged.result _ _
    (λ p kept. c.plans_keep_clear.ensures c.args.outlines.now c.args.layer c.args.settings.now p.paths.items _
    c.requires.settings (is_plan c p.paths.items kept))
    c.judged.ensures.kept

pub returns-clause-ways : goal.returns-clause-ways
returns-clause-ways c =
    IfOk-weaker c.judged.result _ _
    (λ p kept. plan_ways c.args.outlines.now c.args.layer c.args.settings.now p.paths.items _
    (is_plan c p.paths.items kept))
    c.judged.ensures.kept

pub returns-clause-points : goal.returns-clause-points
returns-clause-points c =
    both c.judged.result (λ p. p.paths.items ≡ c.push_infill.new.paths.items)
    (λ p. length (all_moves (p.paths.items ++ c.args.supports.items)) ≤ move_limit)
    (λ p. sum_by length p.paths.items ≤ 2 * move_limit)
    (λ p kept few.
    let both = moves_both p.paths.items c.args.supports.items in
    let n = few_points p.paths.items (plan_ways c.args.outlines.now c.args.layer c.args.settings.now p.paths.items _
    (is_plan c p.paths.items kept)) in
    omega (arith, both, n, few))
    c.judged.ensures.kept c.judged.ensures.few

pub returns-clause-refused : goal.returns-clause-refused
returns-clause-refused c =
    IfErr-weaker c.judged.result (IsManyMoves (c.push_infill.new.paths.items ++ c.args.supports.items))
    (IsRefusal c.args.outlines.now c.args.layer c.args.settings.now c.args.supports.items)
    (λ fault many. inr (record {
      paths = c.push_infill.new.paths.items;
      runs = length (infill_paths c.args.layer true c.in_ok-lines.lines.items);
      plan = is_plan c c.push_infill.new.paths.items refl;
      accepted = c.in_ok-paths.ensures.accepted;
      many = many;
    }))
    c.judged.ensures.many
