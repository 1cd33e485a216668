-- Without flat edges nothing is asked of the edges that meet the level, and else they stand as in the list.
use Rattle.std.proofs.Common.{◌≡◌, ◌<◌, ◌∙◌, ℕ, List, [], All, sym, subst, length, IsPermutation}
use Rattle.std.proofs.lemmas.List.Sorted.{All-permutation, IsNonDecreasingBy-from_sort}
use Rattle.slice_bundles.specs.Touching.{touching}
use Rattle.slice_bundles.proofs.Times.{ascends_from}
use Rattle.slice_slab.proofs.Standing.{all_there}
use Rattle.slice_border.specs.Flats.{flats_from}
use Rattle.slice_border.proofs.Keeping.{same_leaf}
use Rattle.slice_bool.proofs.SomeStops.{empty_list}
use Rattle.slice_bool.proofs.LevelEdges.{flats_there, in_ascending, no_flats, none_stands}
use Rattle.slice_bool.proofs.near.edges_near.Goals as goal

pub flats-requires-clause-there : goal.flats-requires-clause-there
flats-requires-clause-there c =
    let es = c.args.edges.now in
    let at = c.args.at.now in
    All-permutation (λ k. k < length es) (touching 0 es at) c.args.numbers.now c.requires.numbers (all_there es at)

pub returns-then-is_empty : goal.returns-then-is_empty
returns-then-is_empty c =
    let es = c.args.edges.now in
    let at = c.args.at.now in
    let none : c.in_ok-flats.flats.items ≡ [] = empty_list c.in_ok-flats.flats.items
    (sym c.in_ok-flats.flats.ok.0 ∙ same_leaf _ 0 (sym c.is_empty.ensures ∙ c.if-is_empty.true)) in
    let flats : c.in_ok-flats.flats.items ≡ flats_from 0 es at =
    none ∙ sym (no_flats es at c.args.numbers.now c.requires.numbers (sym c.in_ok-flats.ensures ∙ none)) in
    record {
      flats = record { are = flats; there = subst (All (λ k. k < length es)) (sym flats) (flats_there es at) };
      touching = λ h. absurd (none_stands c.in_ok-flats.flats.items none h);
      within = λ h. absurd (none_stands c.in_ok-flats.flats.items none h);
    }

pub near_ascending-requires-clause-numbers : goal.near_ascending-requires-clause-numbers
near_ascending-requires-clause-numbers c =
    let numbers : List ℕ = c.args.numbers.now in
    let news : List ℕ = c.sort_unstable.new.self.items in
    let order : IsPermutation numbers news =
    subst (λ (ks : List ℕ). IsPermutation ks news) c.in_ok-ascending.ensures.items
    c.sort_unstable.ensures.permutation in
    c.deref.ensures.value ∙ in_ascending c.args.edges.now c.args.at.now numbers news c.requires.numbers order
    (ascends_from news (IsNonDecreasingBy-from_sort (λ x. x) news c.sort_unstable.ensures.sorted))
