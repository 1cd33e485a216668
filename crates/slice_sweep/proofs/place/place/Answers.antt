-- Each look halves the places.
use Rattle.std.proofs.Common.{◌≡◌, ℕ, ◌+◌, ◌-◌, ◌/◌, ◌<◌, Bool, true, false, List, length, get_or, sym, ◌∙◌, subst, arith, ℤ, ◌*ℤ◌, ◌<ℤ◌, All}
use lib.Signed.{◌≤ℤ◌}
use Rattle.std.specs.Prelude.{int_lt}
use Rattle.std.proofs.lemmas.Int.{ints}
use Rattle.std.proofs.lemmas.List.{get_or_read}
use Rattle.scad_geom.specs.declared.point.Edge.{Edge}
use Rattle.scad_geom.specs.declared.level.Level.{Level}
use Rattle.scad_geom.specs.declared.level.LeafEdge.{LeafEdge}
use Rattle.scad_geom.specs.Line.{rise, x_at}
use Rattle.slice_bundles.specs.Bundles.{edge_at, reaches}
use Rattle.slice_bundles.specs.KeptOrder.{IsLeftAt, IsNotRightAt}
use Rattle.slice_sweep.specs.declared.strand.Strand.{Strand}
use Rattle.slice_sweep.specs.Strands.{head, no_strand, strand_at}
use Rattle.slice_sweep.proofs.place.place.Goals as goal

less : (a b : ℤ) → int_lt a b ≡ true → a <ℤ b
less a b h = omega (arith, ints)

not_less : (a b : ℤ) → int_lt a b ≡ false → b ≤ℤ a
not_less a b h = omega (arith, ints)

module _ (es : List LeafEdge) (L : List Strand) (m : ℕ) (s : Strand) (at : Level) (e : Edge) (x up : ℤ) (r : Bool)
    (there : m < length L) (read : s ≡ get_or L m s) (x-is : x ≡ x_at e at.n at.d) (up-is : up ≡ rise e)
    (told : r ≡ int_lt (x_at (head es s.bundle) at.n at.d *ℤ up) (x *ℤ rise (head es s.bundle))) where
  is : s ≡ strand_at L m
  is = get_or_read L m s there read no_strand

  lies_left : r ≡ true → IsLeftAt at (head es (strand_at L m).bundle) e
  lies_left h =
      let f : Edge = head es s.bundle in
      subst (λ (t : Strand). IsLeftAt at (head es t.bundle) e) is
      (subst (λ (y : ℤ). (x_at f at.n at.d *ℤ rise e) <ℤ (y *ℤ rise f)) x-is
      (subst (λ (y : ℤ). (x_at f at.n at.d *ℤ y) <ℤ (x *ℤ rise f)) up-is (less _ _ (sym told ∙ h))))

  lies_not_left : r ≡ false → IsNotRightAt at e (head es (strand_at L m).bundle)
  lies_not_left h =
      let f : Edge = head es s.bundle in
      subst (λ (t : Strand). IsNotRightAt at e (head es t.bundle)) is
      (subst (λ (y : ℤ). (y *ℤ rise f) ≤ℤ (x_at f at.n at.d *ℤ rise e)) x-is
      (subst (λ (y : ℤ). (x *ℤ rise f) ≤ℤ (x_at f at.n at.d *ℤ y)) up-is (not_less _ _ (sym told ∙ h))))

pub is_left-requires-clause-there : goal.is_left-requires-clause-there
is_left-requires-clause-there c =
    let i = c.places.invariant in
    let some = c.places-test.true in
    subst (λ (s : Strand). All (λ k. k < length c.args.edges.now) s.bundle) (sym c.index-strands-middle.is)
    (c.requires.strands (c.places.low + (c.places.high - c.places.low) / 2) c.index-strands-middle.result
    (omega (arith, i, some)))

pub is_left-requires-clause-reach : goal.is_left-requires-clause-reach
is_left-requires-clause-reach c =
    let i = c.places.invariant in
    let some = c.places-test.true in
    subst (λ (s : Strand). reaches (head c.args.edges.now s.bundle) c.args.at.now c.args.at.now ≡ true)
    (sym c.index-strands-middle.is)
    (c.requires.reach (c.places.low + (c.places.high - c.places.low) / 2) c.index-strands-middle.result
    (omega (arith, i, some)))

pub places-preserved-then-is_left : goal.places-preserved-then-is_left
places-preserved-then-is_left c =
    let i = c.places.invariant in
    let some = c.places-test.true in
    let m = c.places.low + (c.places.high - c.places.low) / 2 in
    let s = c.spot_on-spot in
    let left : IsLeftAt c.args.at.now (head c.args.edges.now (strand_at c.args.strands.now m).bundle)
    (edge_at c.args.edges.now c.args.k) =
    lies_left c.args.edges.now c.args.strands.now m c.index-strands-middle.result c.args.at.now
    (edge_at c.args.edges.now c.args.k) s.result.x s.result.up c.is_left.result (omega (arith, i, some))
    c.index-strands-middle.is s.ensures.x s.ensures.up c.is_left.ensures c.if-is_left.true in
    record {
      order = omega (arith, some);
      within = i.within;
      left = λ j e. subst (λ (k : ℕ). IsLeftAt c.args.at.now
          (head c.args.edges.now (strand_at c.args.strands.now k).bundle) (edge_at c.args.edges.now c.args.k))
          (omega (arith, e)) left;
      right = i.right;
    }

pub places-preserved : goal.places-preserved
places-preserved c =
    let i = c.places.invariant in
    let some = c.places-test.true in
    let m = c.places.low + (c.places.high - c.places.low) / 2 in
    let s = c.spot_on-spot in
    record {
      order = omega (arith, some);
      within = omega (arith, i, some);
      left = i.left;
      right = λ o. lies_not_left c.args.edges.now c.args.strands.now m c.index-strands-middle.result c.args.at.now
          (edge_at c.args.edges.now c.args.k) s.result.x s.result.up c.is_left.result o
          c.index-strands-middle.is s.ensures.x s.ensures.up c.is_left.ensures c.if-is_left.false;
    }
