-- Each edge gives its start.
use Rattle.std.proofs.Common.{◌≡◌, refl, ◌++◌, ◌+◌, ◌<◌, length, drop, sym, ap, ◌∙◌, subst, List, ℕ}
use Rattle.std.proofs.lemmas.List.{at_drop_more}
use Rattle.std.proofs.lemmas.List.Elements.{All-push}
use Rattle.scad_geom.specs.Line.{low}
use Rattle.slice_bundles.specs.declared.start.Start.{Start}
use Rattle.slice_bundles.specs.Bundles.{no_edge, edge_at}
use Rattle.slice_bundles.specs.Starts.{AreStarts, IsStartOf, numbers_of, numbers_from}
use Rattle.slice_bundles.proofs.Loops.{mapped_step, last_step}
use Rattle.slice_slab.proofs.lower_ends.unsorted.Goals as goal

pub edges-preserved : goal.edges-preserved
edges-preserved c =
    let es = c.args.edges.now in
    let i = c.edges.i in
    let number = c.start_of.ensures.number in
    record {
      all = ap (λ (ss : List Start). numbers_of ss ++ numbers_from (i + 1) (drop (i + 1) es)) c.in_ok-push.ensures.items
          ∙ mapped_step (λ (s : Start). s.number) c.edges.out.items c.start_of.result i _ _ _ number
          (at_drop_more (numbers_from i) es i no_edge c.edges-test.true) c.edges.invariant.all;
      starts = subst (AreStarts es) (sym c.in_ok-push.ensures.items)
          (All-push (IsStartOf es) c.edges.out.items c.start_of.result c.edges.invariant.starts (record {
            there = subst (λ (k : ℕ). k < length es) (sym number) c.edges-test.true;
            y = subst (λ (k : ℕ). c.start_of.result.y ≡ (low (edge_at es k)).y) (sym number) c.start_of.ensures.y;
          }));
    }

pub returns-clause-all : goal.returns-clause-all
returns-clause-all c = last_step (numbers_from c.edges.i) _ _ c.args.edges.now c.edges.i refl c.edges-test.false
    c.edges.invariant.all
