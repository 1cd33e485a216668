-- A start that has begun is added; the first that hasn't ends it, and else all have begun.
use Rattle.std.proofs.Common.{◌++◌, ◌∷◌, [], ◌+◌, drop, List, ℕ, refl, sym, ap, ◌∙◌}
use Rattle.std.proofs.Math.Seq.{drop-length}
use Rattle.std.proofs.lemmas.List.{drop_all, append-nil}
use Rattle.slice_bundles.specs.declared.start.Start.{Start}
use Rattle.slice_bundles.specs.Starts.{numbers_of, begun_at, pending_at}
use Rattle.slice_bundles.proofs.Loops.{put_step, last_step}
use Rattle.slice_slab.proofs.Beginning.{begun_on, pending_on, begun_until, pending_from, read_again}
use Rattle.slice_slab.proofs.lower_ends.begin.Goals as goal

pub returns-then-not-is_begun-clause-begun : goal.returns-then-not-is_begun-clause-begun
returns-then-not-is_begun-clause-begun c =
    let ss = c.args.starts.now in
    let s = c.index-starts-i in
    let none = begun_until c.args.at.now ss c.starts.i s.result c.starts-test.true s.is
    (sym c.is_begun.ensures ∙ c.if-not-is_begun.true) in
    sym (ap (λ (ns : List ℕ). c.starts.live.items ++ ns) (ap numbers_of none) ∙ append-nil c.starts.live.items)
    ∙ c.starts.invariant.begun

pub returns-then-not-is_begun-clause-pending : goal.returns-then-not-is_begun-clause-pending
returns-then-not-is_begun-clause-pending c =
    let ss = c.args.starts.now in
    let s = c.index-starts-i in
    sym (pending_from c.args.at.now ss c.starts.i s.result c.starts-test.true s.is
    (sym c.is_begun.ensures ∙ c.if-not-is_begun.true)) ∙ c.starts.invariant.pending

pub starts-preserved : goal.starts-preserved
starts-preserved c =
    let at = c.args.at.now in
    let ss = c.args.starts.now in
    let i = c.starts.i in
    let s = c.index-starts-i in
    let begun = sym c.is_begun.ensures ∙ c.if-not-is_begun.false in
    record {
      begun = ap (λ (ns : List ℕ). ns ++ numbers_of (begun_at at (drop (i + 1) ss))) (c.in_ok-push.ensures.items
          ∙ ap (λ (r : Start). c.starts.live.items ++ (r.number ∷ []))
          (read_again at ss i s.result c.starts-test.true s.is _))
          ∙ put_step c.starts.live.items s.result.number _ _ _
          (ap numbers_of (begun_on at ss i s.result c.starts-test.true s.is begun)) c.starts.invariant.begun;
      pending = sym (pending_on at ss i s.result c.starts-test.true s.is begun) ∙ c.starts.invariant.pending;
    }

pub returns-clause-begun : goal.returns-clause-begun
returns-clause-begun c = last_step (λ ss. numbers_of (begun_at c.args.at.now ss)) _ _ c.args.starts.now c.starts.i refl
    c.starts-test.false c.starts.invariant.begun

pub returns-clause-pending : goal.returns-clause-pending
returns-clause-pending c =
    drop-length c.args.starts.now
    ∙ sym (ap (pending_at c.args.at.now) (drop_all c.starts.i c.args.starts.now c.starts-test.false))
    ∙ c.starts.invariant.pending
