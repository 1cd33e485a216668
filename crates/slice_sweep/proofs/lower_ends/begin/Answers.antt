-- At the end all starts have begun.
use Rattle.std.proofs.Common.{refl, sym, ap, ◌∙◌, List}
use Rattle.std.proofs.Math.Seq.{drop-length}
use Rattle.std.proofs.lemmas.List.{drop_all}
use Rattle.slice_bundles.specs.Starts.{numbers_of, begun_at, pending_at}
use Rattle.slice_bundles.proofs.Loops.{last_step}
use Rattle.slice_sweep.specs.declared.lower_end.LowerEnd.{LowerEnd}
use Rattle.slice_sweep.specs.LowerEnds.{starts_of}
use Rattle.slice_sweep.proofs.lower_ends.begin.Goals as goal

pub returns-clause-begun : goal.returns-clause-begun
returns-clause-begun c = last_step (λ es. numbers_of (begun_at c.args.at.now (starts_of es))) _ _ c.args.ends.now
    c.ends.i refl c.ends-test.false c.ends.invariant.begun

pub returns-clause-pending : goal.returns-clause-pending
returns-clause-pending c =
    ap starts_of (drop-length c.args.ends.now)
    ∙ sym (ap (λ (es : List LowerEnd). pending_at c.args.at.now (starts_of es))
    (drop_all c.ends.i c.args.ends.now c.ends-test.false)) ∙ c.ends.invariant.pending
