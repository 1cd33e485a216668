-- Sorting moves all flat edges.
use Rattle.std.proofs.Common.{List, ℕ, subst}
use Rattle.std.specs.List.Sorted.{IsPermutation}
use Rattle.std.proofs.lemmas.List.Elements.{recursion_from_All}
use Rattle.std.proofs.lemmas.List.Sorted.{All-permutation, IsPermutation-map}
use Rattle.slice_outlines.specs.declared.flat.Flat.{Flat}
use Rattle.slice_outlines.specs.Flats.{IsFlatOf, numbers_of}
use Rattle.slice_outlines.proofs.flats.flats.Goals as goal

pub returns : goal.returns
returns c =
    let old : List Flat = c.in_ok-out.out.items in
    let new : List Flat = c.sort.new.flats.items in
    record {
      all = subst (λ (ks : List ℕ). IsPermutation ks (numbers_of new)) c.in_ok-out.ensures.all
          (IsPermutation-map (λ (f : Flat). f.number) old new c.in_ok-sort.ensures.permutation);
      each = recursion_from_All (IsFlatOf c.args.edges.now) new
          (All-permutation (IsFlatOf c.args.edges.now) old new c.in_ok-sort.ensures.permutation
          c.in_ok-out.ensures.each);
      sorted = c.in_ok-sort.ensures.sorted;
    }
