-- The key is that of their meeting.
use Rattle.std.proofs.Common.{subst, sym, ℤ, FitsSigned}
use lib.Signed.{◌≤ℤ◌}
use Rattle.std.proofs.lemmas.Int.{to_z-of_z}
use Rattle.scad_geom.specs.declared.point.Edge.{Edge}
use Rattle.scad_geom.specs.EdgeOrder.{IsBefore}
use Rattle.slice_bundles.specs.KeptOrder.{IsLeftAt}
use Rattle.slice_sweep.specs.Keys.{IsBelowKey}
use Rattle.slice_sweep.specs.Strands.{head}
use Rattle.slice_sweep.proofs.Waking.{left_by}
use Rattle.slice_sweep.proofs.wake.side_key.Goals as goal
use mir.Syntax.{w64}

pub meeting_key-requires : goal.meeting_key-requires
meeting_key-requires c = record {
  e = c.head-e.ensures.within c.requires.within;
  f = c.head-f.ensures.within c.requires.within;
}

pub returns-clause-most : goal.returns-clause-most
returns-clause-most c =
    let k = c.meeting_key.result in
    subst (λ (z : ℤ). z ≤ℤ c.args.most) (sym (to_z-of_z w64 k (record { sfits = c.meeting_key.type_inv })))
    (subst (λ (z : ℤ). k ≤ℤ z) (to_z-of_z w64 c.args.most c.ranges.most) c.meeting_key.ensures.most)

pub returns-clause-left : goal.returns-clause-left
returns-clause-left c at h w o d q b =
    let k_fits : FitsSigned w64 c.meeting_key.result = record { sfits = c.meeting_key.type_inv } in
    let b' : IsBelowKey h c.meeting_key.result = simp to_z-of_z at b in
    let e = c.head-e.ensures.value in
    let f = c.head-f.ensures.value in
    let o' : IsBefore at c.head-e.result c.head-f.result = subst (λ (y : Edge). IsBefore at c.head-e.result y) (sym f)
    (subst (λ (x : Edge). IsBefore at x (head c.args.edges.now c.args.t.now.bundle)) (sym e) o) in
    subst (λ (y : Edge). IsLeftAt h (head c.args.edges.now c.args.s.now.bundle) y) f
    (subst (λ (x : Edge). IsLeftAt h x c.head-f.result) e
    (left_by c.head-e.result c.head-f.result c.meeting_key.result c.meeting_key.ensures.meeting at h w o' d q b'))
