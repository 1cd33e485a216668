-- Where an edge passes a height is within the limit, and at an end of the edge it rounds to that end.
use Rattle.std.proofs.Common.{◌≡◌, ℕ, ◌<◌, Bool, true, List, [], ◌∷◌, length, inl, inr, refl, sym, ap, ap₂, ◌∙◌, arith, subst}
use lib.IntN.{ℤ, pos, ◌+ℤ◌, ◌-ℤ◌, ◌*ℤ◌}
use lib.Signed.{◌<ℤ◌}
use Rattle.std.specs.Prelude.{unsigned_abs}
use Rattle.std.specs.Ordering.{int_eq}
use Rattle.std.specs.Cmp.{signed_Decides}
use Rattle.std.proofs.lemmas.Int.{ints}
use Rattle.std.proofs.lemmas.Bool.{and_from, cases_lt}
use Rattle.std.proofs.lemmas.List.{get_or_past}
use Rattle.scad_geom.specs.declared.point.Pt.{Pt}
use Rattle.scad_geom.specs.declared.point.Edge.{Edge}
use Rattle.scad_geom.specs.declared.level.Level.{Level}
use Rattle.scad_geom.specs.declared.level.LeafEdge.{LeafEdge}
use Rattle.scad_geom.specs.Point.{Point, whole, is_same_point}
use Rattle.scad_geom.specs.Within.{IsEdgeWithin}
use Rattle.scad_geom.specs.Level.{IsLevelWithin}
use Rattle.scad_geom.specs.Line.{low, high, rise, run, offset, x_at}
use Rattle.scad_geom.specs.Rounding.{half_down, IsNearest}
use Rattle.scad_geom.proofs.Integers.{mul_assoc}
use Rattle.scad_geom.proofs.Balance.{same_whole, same_place-is}
use Rattle.scad_geom.proofs.Nearest.{IsNearest-half_down}
use Rattle.scad_geom.proofs.Ring.{ring, num, ◌⊕◌, ◌⊖◌, ◌⊗◌, v0, v1, v2, v3, v4}
use Rattle.scad_base.proofs.Products.{positive_product}
use Rattle.winding_laws.specs.Edges.{rounded}
use Rattle.winding_laws.proofs.Rounding.{rounded_same}
use Rattle.slice_bundles.specs.Bundles.{no_edge, edge_at, reaches}
use Rattle.slice_bundles.proofs.Live.{reaches_is}
use Rattle.slice_pieces.specs.Spots.{point_of, IsSpotWithin}
use Rattle.slice_pieces.proofs.SameSpots.{to_eq}
use Rattle.slice_border.specs.Pieces.{spot_on, passes_at}
use Rattle.slice_border.proofs.Middle.{size_of}
use Rattle.slice_border.proofs.Within.{x_within, rise_within, size_above}

-- ---- within the limit
pub passes_then_rises : (e : Edge) (l : Level) → passes_at e l ≡ true → pos 0 <ℤ rise e
unfolding reaches
passes_then_rises e l h = (reaches_is e l l h).rises

no_rise : pos 0 <ℤ rise (record { a = record { x = pos 0; y = pos 0 }; b = record { x = pos 0; y = pos 0 } }) → ⊥
unfolding rise low high
no_rise h = omega (arith, ints)

pub passes_there : (es : List LeafEdge) (k : ℕ) (l : Level) → passes_at (edge_at es k) l ≡ true → k < length es
passes_there es k l h = elim (cases_lt k (length es)) [
  | inl a ↦ a
  | inr b ↦ absurd (no_rise (subst (λ (e : LeafEdge). pos 0 <ℤ rise e.edge) (get_or_past es k no_edge b)
      (passes_then_rises (edge_at es k) l h)))
]

pub passing_within : (limit : ℕ) (e : Edge) (l : Level) → IsEdgeWithin limit e → IsLevelWithin limit l
    → passes_at e l ≡ true → IsSpotWithin limit (spot_on e l)
unfolding reaches
passing_within limit e l w v h =
    let r = reaches_is e l l h in
    let f = r.from in
    let t = r.to in
    record {
      level = v;
      positive = size_above (rise e) r.rises;
      run = rise_within limit e w;
      size = x_within limit e l w (omega (arith, ints)) (omega (arith, ints));
    }

-- ---- at an end
pub lies_at : (p q : Pt) (l : Level) (t : Bool) → p ≡ q → t ≡ int_eq (p.y *ℤ l.d) l.n → t ≡ true
    → q.y *ℤ l.d ≡ l.n
lies_at p q l t e f g = ap (λ (p : Pt). p.y *ℤ l.d) (sym e) ∙ (signed_Decides (p.y *ℤ l.d) l.n).0 (sym f ∙ g)

whole_half : (n : ℤ) → half_down n (pos 1) ≡ n
whole_half n =
    let h : IsNearest n (pos 1) (half_down n (pos 1)) = IsNearest-half_down n 1 (omega arith) in
    let b = h.below in
    let a = h.above in
    omega (arith, ints)

whole_rounds : (p : Pt) → rounded (whole p) ≡ p
whole_rounds p = ap₂ (λ (x y : ℤ). record { x = x; y = y }) (whole_half p.x) (whole_half p.y)

low_across : (a b g h d : ℤ) → (g -ℤ a) *ℤ (b *ℤ d) +ℤ ((h -ℤ b) *ℤ a -ℤ (g -ℤ a) *ℤ b) *ℤ d
    ≡ a *ℤ (d *ℤ (h -ℤ b))
low_across a b g h d = ring (a ∷ b ∷ g ∷ h ∷ d ∷ [])
    ((v2 ⊖ v0) ⊗ (v1 ⊗ v4) ⊕ ((v3 ⊖ v1) ⊗ v0 ⊖ (v2 ⊖ v0) ⊗ v1) ⊗ v4)
    (v0 ⊗ (v4 ⊗ (v3 ⊖ v1))) refl

high_across : (a b g h d : ℤ) → (g -ℤ a) *ℤ (h *ℤ d) +ℤ ((h -ℤ b) *ℤ a -ℤ (g -ℤ a) *ℤ b) *ℤ d
    ≡ g *ℤ (d *ℤ (h -ℤ b))
high_across a b g h d = ring (a ∷ b ∷ g ∷ h ∷ d ∷ [])
    ((v2 ⊖ v0) ⊗ (v3 ⊗ v4) ⊕ ((v3 ⊖ v1) ⊗ v0 ⊖ (v2 ⊖ v0) ⊗ v1) ⊗ v4)
    (v2 ⊗ (v4 ⊗ (v3 ⊖ v1))) refl

times_one : (z : ℤ) → z *ℤ pos 1 ≡ z
times_one z = ring (z ∷ []) (v0 ⊗ num (pos 1)) v0 refl

-- a whole point whose multiples a spot's numbers are
is_whole : (q : Point) (p : Pt) → q.x ≡ p.x *ℤ q.d → q.y ≡ p.y *ℤ q.d → is_same_point q (whole p) ≡ true
is_whole q p x y = and_from (int_eq (q.y *ℤ pos 1) (p.y *ℤ q.d)) (int_eq (q.x *ℤ pos 1) (p.x *ℤ q.d))
    (to_eq (q.y *ℤ pos 1) (p.y *ℤ q.d) (times_one q.y ∙ y)) (to_eq (q.x *ℤ pos 1) (p.x *ℤ q.d) (times_one q.x ∙ x))

rounds_to : (q : Point) (p : Pt) → pos 0 <ℤ q.d → q.x ≡ p.x *ℤ q.d → q.y ≡ p.y *ℤ q.d → rounded q ≡ p
rounds_to q p d x y = same_place-is (rounded q) (rounded (whole p))
    (sym (same_whole (rounded q) (rounded (whole p)))
    ∙ rounded_same q (whole p) d (omega (arith, ints)) (is_whole q p x y))
    ∙ whole_rounds p

module _ (e : Edge) (l : Level) (dl : pos 0 <ℤ l.d) (r : pos 0 <ℤ rise e) where
  above_none : pos 0 <ℤ (l.d *ℤ pos (unsigned_abs (rise e)))
  above_none = subst (λ (z : ℤ). pos 0 <ℤ (l.d *ℤ z)) (sym (size_of (rise e) r)) (positive_product l.d (rise e) dl r)

  pub low_rounds : (low e).y *ℤ l.d ≡ l.n → low e ≡ rounded (point_of (spot_on e l))
  unfolding x_at run offset rise
  low_rounds h =
      let p = low e in
      let q = high e in
      sym (rounds_to (point_of (spot_on e l)) p above_none
      (ap (λ (n : ℤ). x_at e n l.d) (sym h) ∙ low_across p.x p.y q.x q.y l.d
      ∙ ap (λ (z : ℤ). p.x *ℤ (l.d *ℤ z)) (sym (size_of (rise e) r)))
      (ap (λ (n : ℤ). n *ℤ pos (unsigned_abs (rise e))) (sym h)
      ∙ mul_assoc p.y l.d (pos (unsigned_abs (rise e)))))

  pub high_rounds : (high e).y *ℤ l.d ≡ l.n → high e ≡ rounded (point_of (spot_on e l))
  unfolding x_at run offset rise
  high_rounds h =
      let p = low e in
      let q = high e in
      sym (rounds_to (point_of (spot_on e l)) q above_none
      (ap (λ (n : ℤ). x_at e n l.d) (sym h) ∙ high_across p.x p.y q.x q.y l.d
      ∙ ap (λ (z : ℤ). q.x *ℤ (l.d *ℤ z)) (sym (size_of (rise e) r)))
      (ap (λ (n : ℤ). n *ℤ pos (unsigned_abs (rise e))) (sym h)
      ∙ mul_assoc q.y l.d (pos (unsigned_abs (rise e)))))
