-- The key is that of the end, or of the meeting with the next strand.
use Rattle.std.proofs.Common.{◌≡◌, ◌+◌, ◌<◌, length, sym, subst, arith, ℤ, FitsSigned, All}
use lib.Signed.{◌≤ℤ◌}
use Rattle.std.proofs.lemmas.Int.{ints, to_z-of_z}
use Rattle.std.proofs.lemmas.List.{get_or_read}
use Rattle.slice_sweep.specs.declared.strand.Strand.{Strand}
use Rattle.slice_sweep.specs.Keys.{IsBelowKey}
use Rattle.slice_sweep.specs.Mending.{ComesBefore}
use Rattle.slice_sweep.specs.Strands.{EndAbove, LiesLeft, no_strand, strand_at}
use Rattle.slice_sweep.proofs.wake.wake_of.Goals as goal
use mir.Syntax.{w64}

same : (z : ℤ) → z ≤ℤ z
same z = omega (arith, ints)

pub end_key-end-requires : goal.end_key-end-requires
end_key-end-requires c = record {
  there = subst (λ (s : Strand). All (λ k. k < length c.args.edges.now) s.bundle) (sym c.index-strands-i.is)
      (c.requires.strands c.args.i c.index-strands-i.result c.requires.there);
}

pub side_key-requires : goal.side_key-requires
side_key-requires c =
    let there = c.requires.there in
    let last = c.if-i-strands.false in
    record {
      within = c.requires.within;
      first = subst (λ (s : Strand). All (λ k. k < length c.args.edges.now) s.bundle) (sym c.index-strands-i-2.is)
          (c.requires.strands c.args.i c.index-strands-i-2.result there);
      second = subst (λ (s : Strand). All (λ k. k < length c.args.edges.now) s.bundle) (sym c.index-strands-i-3.is)
          (c.requires.strands (c.args.i + 1) c.index-strands-i-3.result (omega (arith, there, last)));
    }

pub returns-then-i-strands : goal.returns-then-i-strands
returns-then-i-strands c =
    let L = c.args.strands.now in
    let key : ℤ = c.end_key-end.result in
    let key_fits : FitsSigned w64 c.end_key-end.result = record { sfits = c.end_key-end.type_inv } in
    let is : c.index-strands-i.result ≡ strand_at L c.args.i = get_or_read L c.args.i c.index-strands-i.result
    c.requires.there c.index-strands-i.is no_strand in
    let last = c.if-i-strands.true in
    record {
      ends = λ h d b. let b' : IsBelowKey h c.end_key-end.result = simp to_z-of_z at b in
          subst (λ (s : Strand). EndAbove c.args.edges.now h s.bundle) is
          (c.end_key-end.ensures h c.end_key-end.result d (same c.end_key-end.result) b');
      left = λ o. absurd (omega (arith, o, last));
    }

pub returns-clause-ends : goal.returns-clause-ends
returns-clause-ends c h d b =
    let L = c.args.strands.now in
    let key_fits : FitsSigned w64 c.side_key.result = record { sfits = c.side_key.type_inv } in
    let end_fits : FitsSigned w64 c.end_key-end.result = record { sfits = c.end_key-end.type_inv } in
    let b' : IsBelowKey h c.side_key.result = simp to_z-of_z at b in
    let most : c.side_key.result ≤ℤ c.end_key-end.result = simp to_z-of_z at c.side_key.ensures.most in
    subst (λ (s : Strand). EndAbove c.args.edges.now h s.bundle)
    (get_or_read L c.args.i c.index-strands-i.result c.requires.there c.index-strands-i.is no_strand)
    (c.end_key-end.ensures h c.side_key.result d most b')

pub returns-clause-left : goal.returns-clause-left
returns-clause-left c o at h w q d l b =
    let L = c.args.strands.now in
    let es = c.args.edges.now in
    let s : Strand = c.index-strands-i-2.result in
    let t : Strand = c.index-strands-i-3.result in
    let key_fits : FitsSigned w64 c.side_key.result = record { sfits = c.side_key.type_inv } in
    let b' : IsBelowKey h c.side_key.result = simp to_z-of_z at b in
    let s-is : s ≡ strand_at L c.args.i = get_or_read L c.args.i s c.requires.there c.index-strands-i-2.is no_strand in
    let t-is : t ≡ strand_at L (c.args.i + 1) = get_or_read L (c.args.i + 1) t o c.index-strands-i-3.is no_strand in
    let before : ComesBefore es at s t = subst (λ (x : Strand). ComesBefore es at x t) (sym s-is)
    (subst (λ (y : Strand). ComesBefore es at (strand_at L c.args.i) y) (sym t-is) q) in
    subst (λ (y : Strand). LiesLeft es h (strand_at L c.args.i) y) t-is
    (subst (λ (x : Strand). LiesLeft es h x t) s-is (c.side_key.ensures.left at h w before d l b'))
