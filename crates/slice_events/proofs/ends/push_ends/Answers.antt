-- The ends in order are the ends.
use Rattle.std.proofs.Common.{List, ℤ, All, ◌≤◌, ◌∙◌, ◌++◌, map, ap, sym, subst}
use Rattle.std.specs.Prelude.{unsigned_abs}
use Rattle.std.specs.List.Sorted.{IsPermutation}
use Rattle.std.proofs.lemmas.Result.{on_ok_weaker}
use Rattle.scad_geom.specs.Limits.{coordinate_limit}
use Rattle.scad_geom.specs.Level.{level_of}
use Rattle.slice_events.specs.Collection.{levels_in}
use Rattle.slice_events.proofs.EndHeights.{ends_rearranged, ends_within}
use Rattle.slice_events.proofs.ends.push_ends.Goals as goal

pub push_all-requires : goal.push_all-requires
push_all-requires c =
    let ys : List ℤ = c.sort_unstable.new.self.items in
    let arranged = subst (λ (xs : List ℤ). IsPermutation xs ys) c.in_ok-ends.ensures c.sort_unstable.ensures.permutation in
    subst (All (λ y. unsigned_abs y ≤ coordinate_limit)) (sym c.deref.ensures.value)
    (ends_within c.args.edges.now ys c.requires arranged)

pub returns : goal.returns
returns c =
    let ys : List ℤ = c.sort_unstable.new.self.items in
    let arranged = subst (λ (xs : List ℤ). IsPermutation xs ys) c.in_ok-ends.ensures c.sort_unstable.ensures.permutation in
    let before = levels_in c.args.out.now.items in
    record {
      ok = on_ok_weaker c.push_all.result
          (λ h. ends_rearranged c.args.edges.now ys before (levels_in c.push_all.new.out.items) arranged
          (h ∙ ap (λ (xs : List ℤ). before ++ map level_of xs) c.deref.ensures.value))
          c.push_all.ensures.ok;
    }
