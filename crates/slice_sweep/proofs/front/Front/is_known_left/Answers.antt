-- Neighbours lie apart at a height below the first one's key.
use Rattle.std.proofs.Common.{◌<◌, ◌+◌, ◌≡◌, [], ℕ, suc, List, length, get_or, subst, sym, arith}
use Rattle.std.proofs.lemmas.List.{get_or-map, length-map}
use Rattle.slice_bundles.specs.KeptOrder.{IsLeftAt}
use Rattle.slice_sweep.specs.declared.strand.Strand.{Strand}
use Rattle.slice_sweep.specs.Keys.{IsBelowKey}
use Rattle.slice_sweep.specs.Strands.{head, bundles_of, no_strand, strand_at, AreApart, LiesLeft}
use Rattle.slice_sweep.proofs.Lists.{chain_at}
use Rattle.slice_sweep.proofs.front.Front.is_known_left.Goals as goal

pub returns : goal.returns
returns c known es ready =
    let at = c.args.at.now in
    let strands : List Strand = c.args.self.now.strands.items in
    let i : ℕ = c.args.i in
    let there = c.requires.there in
    let more : i + 1 < length strands = omega (arith, there, length-map strands (λ (s : Strand). s.bundle)) in
    let next : suc i ≡ i + 1 = omega arith in
    let below : IsBelowKey at (strand_at strands i).wake =
    subst (λ (ss : List Strand). IsBelowKey at (strand_at ss i).wake) c.deref.ensures.value (c.sleeps_at.ensures known) in
    let left : LiesLeft es at (strand_at strands i) (strand_at strands (suc i)) =
    chain_at (AreApart es at) strands i no_strand ready.waiting.apart (omega (arith, more)) below in
    let bundle_of = λ (j : ℕ) (o : j < length strands). sym (get_or-map (λ (s : Strand). s.bundle) strands j no_strand [] o) in
    subst (λ (b : List ℕ). IsLeftAt at (head es b) (head es (get_or (bundles_of strands) (i + 1) [])))
    (bundle_of i (omega (arith, more)))
    (subst (λ (b : List ℕ). IsLeftAt at (head es (strand_at strands i).bundle) (head es b)) (bundle_of (i + 1) more)
    (subst (λ (j : ℕ). LiesLeft es at (strand_at strands i) (strand_at strands j)) next left))
