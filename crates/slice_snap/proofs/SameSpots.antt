-- Spots that have one level where their heights are equal: they are the same point where levels and places are equal.
use Rattle.std.proofs.Common.{◌≡◌, ◌<◌, Bool, true, ◌&&◌, sym, ap, ap₂, ◌∙◌}
use lib.IntN.{ℤ, pos, ◌*ℤ◌}
use lib.Signed.{◌<ℤ◌}
use Rattle.std.specs.Ordering.{int_eq}
use Rattle.std.specs.Cmp.{both_ways}
use Rattle.std.proofs.lemmas.Bool.{and_parts, and_from}
use Rattle.scad_base.proofs.Products.{positive_product}
use Rattle.scad_base.proofs.Tests.{int_eq-true}
use Rattle.winding_laws.proofs.Sameness.{cancel_mul}
use Rattle.scad_geom.specs.declared.level.Level.{Level}
use Rattle.scad_geom.proofs.Ring.{crossed}
use Rattle.slice_pieces.specs.declared.piece.Spot.{Spot}
use Rattle.slice_pieces.specs.Spots.{is_same_spot}
use Rattle.slice_pieces.proofs.SameSpots.{to_eq, crossed_back, mul_beside, run_above}
use Rattle.slice_snap.specs.Joints.{AreOfOneLevel}

abbrev pub levels_equal : Spot → Spot → Bool
levels_equal s t = int_eq s.at.n t.at.n && int_eq s.at.d t.at.d

abbrev pub places_equal : Spot → Spot → Bool
places_equal s t = int_eq (s.x *ℤ pos t.run) (t.x *ℤ pos s.run)

module _ (s t : Spot) (ds : pos 0 <ℤ s.at.d) (rs : 0 < s.run) (dt : pos 0 <ℤ t.at.d) (rt : 0 < t.run) where
  to_parts : AreOfOneLevel s t → is_same_spot s t ≡ true → (levels_equal s t && places_equal s t) ≡ true
  to_parts one h =
      let a : ℤ = pos s.run in
      let b : ℤ = pos t.run in
      let parts = and_parts (int_eq ((s.at.n *ℤ a) *ℤ (t.at.d *ℤ b)) ((t.at.n *ℤ b) *ℤ (s.at.d *ℤ a))) (int_eq (s.x *ℤ (t.at.d *ℤ b)) (t.x *ℤ (s.at.d *ℤ a))) h in
      let up = int_eq-true _ _ parts.0 in
      let runs : pos 0 <ℤ (a *ℤ b) = positive_product a b (run_above s.run rs) (run_above t.run rt) in
      let height : s.at.n *ℤ t.at.d ≡ t.at.n *ℤ s.at.d =
      cancel_mul (s.at.n *ℤ t.at.d) (t.at.n *ℤ s.at.d) (a *ℤ b) runs (sym (crossed s.at.n a t.at.d b) ∙ up ∙ crossed_back t.at.n s.at.d a b) in
      let at : s.at ≡ t.at = one height in
      let d : s.at.d ≡ t.at.d = ap (λ (l : Level). l.d) at in
      let across : (s.x *ℤ b) *ℤ t.at.d ≡ (t.x *ℤ a) *ℤ t.at.d =
      sym (mul_beside s.x t.at.d b) ∙ int_eq-true _ _ parts.1 ∙ mul_beside t.x s.at.d a
      ∙ ap (λ (e : ℤ). (t.x *ℤ a) *ℤ e) d in
      and_from (levels_equal s t) (places_equal s t)
      (and_from (int_eq s.at.n t.at.n) (int_eq s.at.d t.at.d) (to_eq s.at.n t.at.n (ap (λ (l : Level). l.n) at))
      (to_eq s.at.d t.at.d d))
      (to_eq (s.x *ℤ b) (t.x *ℤ a) (cancel_mul (s.x *ℤ b) (t.x *ℤ a) t.at.d dt across))

  from_parts : (levels_equal s t && places_equal s t) ≡ true → is_same_spot s t ≡ true
  from_parts h =
      let a : ℤ = pos s.run in
      let b : ℤ = pos t.run in
      let both = and_parts (levels_equal s t) (places_equal s t) h in
      let level = and_parts (int_eq s.at.n t.at.n) (int_eq s.at.d t.at.d) both.0 in
      let n = int_eq-true s.at.n t.at.n level.0 in
      let d = int_eq-true s.at.d t.at.d level.1 in
      let x = int_eq-true (s.x *ℤ b) (t.x *ℤ a) both.1 in
      and_from (int_eq ((s.at.n *ℤ a) *ℤ (t.at.d *ℤ b)) ((t.at.n *ℤ b) *ℤ (s.at.d *ℤ a)))
      (int_eq (s.x *ℤ (t.at.d *ℤ b)) (t.x *ℤ (s.at.d *ℤ a)))
      (to_eq ((s.at.n *ℤ a) *ℤ (t.at.d *ℤ b)) ((t.at.n *ℤ b) *ℤ (s.at.d *ℤ a))
      (crossed s.at.n a t.at.d b ∙ ap₂ (λ (p q : ℤ). (p *ℤ q) *ℤ (a *ℤ b)) n (sym d)
      ∙ sym (crossed_back t.at.n s.at.d a b)))
      (to_eq (s.x *ℤ (t.at.d *ℤ b)) (t.x *ℤ (s.at.d *ℤ a))
      (mul_beside s.x t.at.d b ∙ ap₂ (λ (p q : ℤ). p *ℤ q) x (sym d) ∙ sym (mul_beside t.x s.at.d a)))

  pub same_by_parts : AreOfOneLevel s t → (levels_equal s t && places_equal s t) ≡ is_same_spot s t
  same_by_parts one = both_ways (levels_equal s t && places_equal s t) (is_same_spot s t) from_parts (to_parts one)
