-- Spots of one height and of two heights: which are the same point.
use Rattle.std.proofs.Common.{◌≡◌, refl, sym, ap, ap₂, ◌∙◌, subst, arith}
use lib.IntN.{ℤ, pos, ◌*ℤ◌}
use lib.Signed.{◌<ℤ◌}
use Rattle.std.specs.Ordering.{int_eq}
use Rattle.std.proofs.lemmas.Int.{ints}
use Rattle.std.proofs.lemmas.Bool.{and_from, false_from_ne_true}
use Rattle.scad_geom.specs.declared.point.Edge.{Edge}
use Rattle.scad_geom.specs.declared.level.Level.{Level}
use Rattle.scad_geom.specs.Line.{rise}
use Rattle.scad_geom.specs.Level.{IsLower}
use Rattle.scad_geom.specs.Point.{is_same_point}
use Rattle.scad_geom.proofs.Points.{same_height, same_across}
use Rattle.slice_pieces.specs.declared.piece.Spot.{Spot}
use Rattle.slice_pieces.specs.Spots.{point_of}
use Rattle.slice_pieces.proofs.SameSpots.{to_eq, crossed_back, mul_beside}
use Rattle.scad_geom.proofs.Ring.{crossed}
use Rattle.slice_border.specs.Pieces.{spot_on, IsLeft, IsSameAcross}
use Rattle.slice_border.proofs.Middle.{size_of, scaled, lower_scaled, scaled_below}
use Rattle.slice_border.proofs.Winding.{IsSpotAt}
use Rattle.slice_border.proofs.PieceNames.{stop_left}
use Rattle.sweep_laws.specs.Ways.{IsAt, IsAway}

-- where an edge that rises meets a height
pub spot_at : (e : Edge) (l : Level) → pos 0 <ℤ rise e → IsSpotAt l (spot_on e l)
spot_at e l r = record {
  at = refl;
  runs = subst (λ (z : ℤ). pos 0 <ℤ z) (sym (size_of (rise e) r)) r;
}

less_not_equal : (x y : ℤ) → x <ℤ y → x ≡ y → ⊥
less_not_equal x y h k = omega (arith, ints)

-- two spots of one height at the same place
pub same_place : (l : Level) (s w : Spot) → IsSpotAt l s → IsSpotAt l w → IsSameAcross w s → IsAt (point_of s) w
same_place l s w hs hw h =
    let a : ℤ = pos s.run in
    let b : ℤ = pos w.run in
    let level : s.at ≡ w.at = hs.at ∙ sym hw.at in
    let d : s.at.d ≡ w.at.d = ap (λ (l : Level). l.d) level in
    and_from (int_eq ((s.at.n *ℤ a) *ℤ (w.at.d *ℤ b)) ((w.at.n *ℤ b) *ℤ (s.at.d *ℤ a)))
    (int_eq (s.x *ℤ (w.at.d *ℤ b)) (w.x *ℤ (s.at.d *ℤ a)))
    (to_eq ((s.at.n *ℤ a) *ℤ (w.at.d *ℤ b)) ((w.at.n *ℤ b) *ℤ (s.at.d *ℤ a))
    (crossed s.at.n a w.at.d b ∙ ap₂ (λ (p q : ℤ). (p *ℤ q) *ℤ (a *ℤ b)) (ap (λ (l : Level). l.n) level) (sym d)
    ∙ sym (crossed_back w.at.n s.at.d a b)))
    (to_eq (s.x *ℤ (w.at.d *ℤ b)) (w.x *ℤ (s.at.d *ℤ a))
    (mul_beside s.x w.at.d b ∙ ap₂ (λ (p q : ℤ). p *ℤ q) (sym h) (sym d) ∙ sym (mul_beside w.x s.at.d a)))

-- one to the left of the other
pub left_away : (l : Level) (s t : Spot) → pos 0 <ℤ l.d → IsSpotAt l s → IsSpotAt l t → IsLeft s t
    → IsAway (point_of s) t
left_away l s t dl hs ht o =
    false_from_ne_true (is_same_point (point_of s) (point_of t))
    (λ e. less_not_equal ((point_of s).x *ℤ (point_of t).d) ((point_of t).x *ℤ (point_of s).d)
    (stop_left l s t dl hs ht o) (same_across (point_of s) (point_of t) e))

-- of two heights
pub lower_away : (l u : Level) (s t : Spot) → IsSpotAt l s → IsSpotAt u t → IsLower l u → IsAway (point_of s) t
lower_away l u s t hs ht o =
    let from : IsLower (scaled s.at (pos s.run)) u = scaled_below u s.at (pos s.run) hs.runs
    (subst (λ (m : Level). IsLower m u) (sym hs.at) o) in
    let to : IsLower (scaled s.at (pos s.run)) (scaled t.at (pos t.run)) =
    lower_scaled (scaled s.at (pos s.run)) t.at (pos t.run) ht.runs
    (subst (IsLower (scaled s.at (pos s.run))) (sym ht.at) from) in
    false_from_ne_true (is_same_point (point_of s) (point_of t))
    (λ e. less_not_equal ((point_of s).y *ℤ (point_of t).d) ((point_of t).y *ℤ (point_of s).d) to
    (same_height (point_of s) (point_of t) e))
