-- A stretch counts from its start until its end, and one without places not at all.
use Rattle.std.proofs.Common.{◌≡◌, rules, [], ◌∷◌, ◌++◌, List, pos, negsuc, ◌<ℤ◌, ◌∙◌, ap, sym, append_assoc}
use lib.Signed.{◌≤ℤ◌}
use Rattle.std.proofs.lemmas.List.{append-nil}
use Rattle.scad_geom.proofs.Casts.{casts}
use Rattle.plan_infill.specs.declared.step.Step.{Step}
use Rattle.plan_infill.proofs.RowReach.{near_at, counts, counts_none}
use Rattle.plan_infill.proofs.near_steps.push_stretch.Goals as goal

pub returns-in_ok-push-2 : goal.returns-in_ok-push-2
returns-in_ok-push-2 c =
    let s = c.args.stretch in
    let before : List Step = c.args.steps.now.items in
    let first : Step = near_at s.from (pos 1) in
    let last : Step = near_at s.until (negsuc 0) in
    let h : s.from <ℤ s.until = search (rules, casts) in
    let a : c.push.new.self.items ≡ before ++ (first ∷ []) = search (rules, casts) in
    let b : c.push-then-stretch.new.self.items ≡ c.push.new.self.items ++ (last ∷ []) = search (rules, casts) in (
      first ∷ (last ∷ []),
      counts s h,
      b ∙ ap (λ (xs : List Step). xs ++ (last ∷ [])) a
          ∙ append_assoc before (first ∷ []) (last ∷ []),
    )

pub returns-else-stretch : goal.returns-else-stretch
returns-else-stretch c =
    let h : c.args.stretch.until ≤ℤ c.args.stretch.from = search (rules, casts) in
    ([], counts_none c.args.stretch h, sym (append-nil c.args.steps.now.items))
