use Rattle.std.proofs.Common.{List, subst, ◌≡◌}
use Rattle.std.proofs.lemmas.Int.{to_z-of_z}
use Rattle.std.proofs.lemmas.Result.{IfOk-weaker}
use Rattle.plan_infill.specs.declared.run.Run.{Run}
use Rattle.plan_support.specs.Stretches.{AreStretches}
use Rattle.plan_support.specs.Supports.{IsFreeOn}
use Rattle.plan_support.specs.Near.{AreHoles}
use Rattle.plan_support.specs.Free.{AreLeft}
use Rattle.plan_support.proofs.SupportRuns.{are_free}
use Rattle.plan_support.proofs.support.free_runs.Goals as goal

pub returns : goal.returns
returns c =
    let y_fits = c.ranges.y in
    let outlines = c.args.outlines.now in
    let y = c.args.y in
    let gap = c.args.gap in
    let runs = c.args.runs.now in
    let holes = c.in_ok-holes.holes.items in
    let are : AreHoles outlines y gap holes = simp to_z-of_z at c.in_ok-holes.ensures.holes in
    let same : c.deref.result.now ≡ holes = c.deref.ensures.value in
    IfOk-weaker c.without.result (λ v. AreLeft runs c.deref.result.now v.items)
    (λ v. AreStretches (IsFreeOn outlines gap y runs) 0 v.items)
    (λ v l. are_free outlines gap y runs holes v.items (subst (λ (hs : List Run). AreLeft runs hs v.items) same l) are)
    c.without.ensures
