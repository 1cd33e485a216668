use Rattle.std.proofs.Common.{sym, subst}
use lib.Signed.{◌≤ℤ◌}
use Rattle.std.specs.Prelude.{All}
use Rattle.std.proofs.lemmas.List.Elements.{All-append}
use Rattle.plan_infill.specs.declared.run.Run.{Run}
use Rattle.plan_support.proofs.HoleRests.{place_at}
use Rattle.plan_support.proofs.line_work.with_runs.Goals as goal

pub united-requires : goal.united-requires
united-requires c =
    subst (All (λ (r : Run). r.from ≤ℤ r.to)) (sym c.in_ok-extend_from_slice.ensures.items)
    (All-append (λ (r : Run). r.from ≤ℤ r.to) c.args.above.items c.args.runs.now
    (λ k d l. place_at c.args.above.items k d c.requires.above l)
    (λ k d l. place_at c.args.runs.now k d c.requires.runs l))
