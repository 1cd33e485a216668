-- The way leads on with each edge that is taken, and where it is back at its start the loop is drawn.
use Rattle.std.proofs.Common.{List, [], ◌∷◌, ◌++◌, sym, ap, ◌∙◌, subst}
use Rattle.scad_geom.specs.declared.point.Pt.{Pt}
use Rattle.scad_geom.specs.declared.point.Edge.{Edge}
use Rattle.slice_loops.specs.declared.remainder.Remaining.{Remaining}
use Rattle.slice_loops.specs.Drawing.{TakesLeast}
use Rattle.slice_loops.specs.Remaining.{remaining}
use Rattle.slice_loops.proofs.Points.{differ_by, equal_by}
use Rattle.slice_loops.proofs.Marks.{still, in_order, least, taken_so_far, still_twice, fewer_left}
use Rattle.slice_loops.proofs.LoopClosure.{balanced_permuted, goes_on, comes_back, one_starts}
use Rattle.slice_loops.proofs.Ways.{Leads, leads_first, leads_on, leads_back}
use Rattle.slice_loops.proofs.drawing.draw.Goals as goal

pub way-init : goal.way-init
way-init c =
    let old : Remaining = c.args.left.now in
    let e : Edge = c.take-first.result in
    let new : Remaining = c.take-first.new.self in
    let t : TakesLeast (remaining old) e (remaining new) = least old c.args.place e new c.requires.order c.requires.there c.take-first.ensures c.requires.least in
    record {
      leads = subst (λ (vs : List Pt). Leads (remaining old) e.a vs e.b (remaining new))
          (sym (c.in_ok-push.ensures.items ∙ ap (λ (vs : List Pt). vs ++ (e.a ∷ [])) c.new-vertices.ensures.items))
          (leads_first (remaining old) e (remaining new) t);
      order = in_order old c.args.place e new c.requires.order c.requires.there c.take-first.ensures;
      balanced = balanced_permuted (remaining old) (e ∷ remaining new) t.taken c.requires.balanced;
      taken = still old c.args.place e new c.requires.order c.requires.there c.take-first.ensures;
      least = taken_so_far old c.args.place e new c.requires.order c.requires.there c.take-first.ensures
          c.requires.least;
    }

pub take_from-next-requires-clause-there : goal.take_from-next-requires-clause-there
take_from-next-requires-clause-there c =
    one_starts c.take-first.result.a c.way.at (remaining c.way.left) c.way.invariant.balanced
    (differ_by c.way.at c.take-first.result.a c.ne.result c.ne.ensures c.way-test.true)

pub way-preserved : goal.way-preserved
way-preserved c =
    let start : Pt = c.take-first.result.a in
    let next : Edge = c.take_from-next.result in
    let old : Remaining = c.way.left in
    let new : Remaining = c.take_from-next.new.self in
    record {
      leads = subst (λ (vs : List Pt). Leads (remaining c.args.left.now) start vs next.b (remaining new))
          (sym c.in_ok-push-2.ensures.items)
          (leads_on (remaining c.args.left.now) start c.way.vertices.items c.way.at (remaining old) next (remaining new)
          c.way.invariant.leads
          (differ_by c.way.at start c.ne.result c.ne.ensures c.way-test.true) c.take_from-next.ensures.least);
      order = c.take_from-next.ensures.order;
      balanced = goes_on start c.way.at (remaining old) next (remaining new) c.way.invariant.balanced
          c.take_from-next.ensures.least;
      taken = still_twice c.args.left.now old new c.way.invariant.taken c.take_from-next.ensures.taken;
      least = λ k l. c.take_from-next.ensures.taken.taken k (c.way.invariant.least k l);
    }

pub way-smaller : goal.way-smaller
way-smaller c = fewer_left (remaining c.way.left) c.take_from-next.result (remaining c.take_from-next.new.self)
    c.take_from-next.ensures.least.taken

pub returns-clause-drawn : goal.returns-clause-drawn
returns-clause-drawn c =
    leads_back (remaining c.args.left.now) c.take-first.result.a c.way.vertices.items c.way.at (remaining c.way.left)
    c.way.invariant.leads
    (equal_by c.way.at c.take-first.result.a c.ne.result c.ne.ensures c.way-test.false)

pub returns-clause-balanced : goal.returns-clause-balanced
returns-clause-balanced c =
    comes_back c.take-first.result.a c.way.at (remaining c.way.left)
    (equal_by c.way.at c.take-first.result.a c.ne.result c.ne.ensures c.way-test.false) c.way.invariant.balanced
