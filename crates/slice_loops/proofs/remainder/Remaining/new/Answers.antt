-- Where none is taken all the edges remain, in order.
use Rattle.std.proofs.Common.{◌≡◌, ℕ, Bool, false, List, sym, ap, ◌∙◌, subst}
use Rattle.std.specs.Prelude.{IsPermutation}
use Rattle.scad_geom.specs.declared.point.Edge.{Edge}
use Rattle.slice_loops.specs.Remaining.{taken_at}
use Rattle.slice_loops.proofs.Marks.{none_taken, no_marks}
use Rattle.slice_loops.proofs.remainder.Remaining.new.Goals as goal

pub returns-clause-all : goal.returns-clause-all
returns-clause-all c =
    let edges : List Edge = c.args.edges.now in
    let sorted : List Edge = c.sort.new.edges.items in
    let marks : List Bool = c.in_ok-taken.taken.items in
    let order : IsPermutation edges sorted = subst (λ (es : List Edge). IsPermutation es sorted) c.in_ok-sorted.ensures.items c.sort.ensures.permutation in
    let free : (k : ℕ) → taken_at marks k ≡ false = λ k. ap (λ (ts : List Bool). taken_at ts k) (c.in_ok-taken.ensures.items_if_clones_equal (λ y h. h)) ∙ no_marks c.len-count.result k in
    subst (IsPermutation edges) (sym (none_taken marks sorted free)) order
