-- Each edge's heading goes to its leaf.
use Rattle.std.proofs.Common.{◌+◌, ◌≤◌, ℕ, ◌++◌, drop, get_or, sym, ◌∙◌, subst, refl, arith}
use Rattle.std.specs.Prelude.{ℤ, pos, ◌==◌, ◌<◌, unsigned_abs}
use Rattle.std.specs.List.{All}
use Rattle.std.proofs.lemmas.List.{at_drop_more, at_drop_all}
use Rattle.scad_geom.specs.declared.level.LeafEdge.{LeafEdge}
use Rattle.scad_geom.specs.Line.{heading}
use Rattle.slice_bundles.specs.Bundles.{no_edge}
use Rattle.slice_border.specs.Tally.{headings}
use Rattle.slice_border.proofs.Keeping.{heading_size, keeps_both, keeps_still, sum_on, size_on}
use Rattle.slice_border.proofs.Tallying.{headings_append, added_all}
use Rattle.slice_border.proofs.tally.Tally.add.Goals as goal

pub numbers-init : goal.numbers-init
numbers-init c = record {
  sums = λ leaf. refl;
  room = λ leaf. let r = c.requires.small.room leaf in omega (arith, r);
  len = refl;
  held = keeps_still c.args.self.now.turns.items c.args.self.now.held c.requires.small.ready;
}

pub numbers-preserved : goal.numbers-preserved
numbers-preserved c =
    let k : ℕ = get_or c.args.numbers.now c.numbers.k-index 0 in
    let e : LeafEdge = get_or c.args.edges.now k no_edge in
    let old : ℕ → ℤ = λ leaf. get_or c.numbers.self.turns.items leaf (pos 0) in
    let new : ℕ → ℤ = λ leaf. get_or c.add_edge.new.turns.items leaf (pos 0) in
    record {
      sums = λ leaf.
          let rest : ℤ = headings c.args.edges.now leaf (drop (c.numbers.k-index + 1) c.args.numbers.now) in
          let w = at_drop_more (headings c.args.edges.now leaf) c.args.numbers.now c.numbers.k-index 0
          c.numbers-test.true in
          sum_on (old leaf) (new leaf) (heading e.edge) (e.leaf == leaf) rest _ _ (c.add_edge.ensures.turns leaf) w
          (c.numbers.invariant.sums leaf);
      room = λ leaf.
          let r = c.numbers.invariant.room leaf in
          let s : unsigned_abs (new leaf) ≤ unsigned_abs (old leaf) + 1 =
          size_on (old leaf) (new leaf) (heading e.edge) (e.leaf == leaf) (unsigned_abs (old leaf))
          (c.add_edge.ensures.turns leaf) (heading_size e.edge) (omega arith) in
          omega (arith, r, s);
      len = c.add_edge.ensures.len ∙ c.numbers.invariant.len;
      held = keeps_both c.args.self.now.turns.items c.numbers.self.turns.items c.add_edge.new.turns.items
          c.args.self.now.held c.numbers.self.held c.add_edge.new.held c.numbers.invariant.held c.add_edge.ensures.held;
    }

pub returns : goal.returns
returns c = λ shape ks t. record {
  ready = c.numbers.invariant.held.ready;
  size = c.numbers.invariant.held.size ∙ t.size ∙ sym c.numbers.invariant.len;
  leaves = subst (λ (n : ℕ). All (λ e. e.leaf < n) c.args.edges.now) (sym c.numbers.invariant.len) t.leaves;
  turns = λ leaf.
      added_all (get_or c.numbers.self.turns.items leaf (pos 0))
      (headings c.args.edges.now leaf (drop c.numbers.k-index c.args.numbers.now))
      (get_or c.args.self.now.turns.items leaf (pos 0)) (headings c.args.edges.now leaf c.args.numbers.now)
      (headings c.args.edges.now leaf ks) (headings c.args.edges.now leaf (c.args.numbers.now ++ ks))
      (c.numbers.invariant.sums leaf)
      (at_drop_all (headings c.args.edges.now leaf) c.args.numbers.now c.numbers.k-index c.numbers-test.false)
      (t.turns leaf) (headings_append c.args.edges.now leaf c.args.numbers.now ks);
  shows = c.numbers.invariant.held.shows shape t.shows;
}
