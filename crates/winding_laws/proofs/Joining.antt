-- Two segments on one line, the second starting where the first ends, are one.
use Rattle.std.proofs.Common.{◌≡◌, ℕ, ◌+◌, Bool, [], ◌∷◌, refl, sym, ap, ap₂, ◌∙◌, arith}
use lib.IntN.{ℤ, pos, ◌+ℤ◌, ◌-ℤ◌, ◌*ℤ◌, +ℤ_assoc}
use lib.Signed.{◌<ℤ◌, ◌≤ℤ◌}
use Rattle.std.proofs.lemmas.Int.{ints}
use Rattle.scad_base.proofs.Products.{positive_product, zero_factor}
use Rattle.scad_geom.specs.Point.{Point, is_same_point}
use Rattle.scad_geom.specs.Winding.{turn, wind_by, side_by}
use Rattle.scad_geom.specs.Balance.{starts_at, ends_at}
use Rattle.scad_geom.proofs.Balance.{once, starts-cons, ends-cons}
use Rattle.scad_geom.proofs.Ring.{ring, num, ◌⊕◌, ◌⊖◌, ◌⊗◌, v0, v1, v2, v3, v4, v5, v6, v7, v8, v9, v10, v11}
use Rattle.winding_laws.specs.Nearness.{seen_from}
use Rattle.winding_laws.specs.Joining.{JoiningKeepsBalance, JoiningKeepsWinding}
use Rattle.winding_laws.specs.Edges.{joined}
use Rattle.winding_laws.proofs.Views.{cross, swing, swing_turned, turn_seen}
use Rattle.winding_laws.proofs.Triangles.{IsRound, triangle}
use Rattle.winding_laws.proofs.Sameness.{same_itself, same_through, turn_same}
use Rattle.winding_laws.proofs.Weights.{some_of_three}
use Rattle.std.proofs.Math.IntN.{zero-*ℤ}

-- ---- balance
counts : (a m n b x y s t : ℕ) → s ≡ a + (n + x) → t ≡ m + (b + y) → s ≡ t → m ≡ n → a + x ≡ b + y
counts a m n b x y s t hs ht h e = omega arith

pub joining_keeps_balance : JoiningKeepsBalance
joining_keeps_balance s t ss ps pt h b = record {
  each = λ p d.
      starts-cons p (joined s t) ss
      ∙ counts (once (is_same_point p s.from)) (once (is_same_point p s.to)) (once (is_same_point p t.from))
      (once (is_same_point p t.to)) (starts_at p ss) (ends_at p ss)
      (starts_at p (s ∷ (t ∷ ss))) (ends_at p (s ∷ (t ∷ ss)))
      (starts-cons p s (t ∷ ss) ∙ ap (λ (n : ℕ). once (is_same_point p s.from) + n) (starts-cons p t ss))
      (ends-cons p s (t ∷ ss) ∙ ap (λ (n : ℕ). once (is_same_point p s.to) + n) (ends-cons p t ss))
      (b.each p d) (ap once (same_through p s.to t.from ps.to pt.from h))
      ∙ sym (ends-cons p (joined s t) ss);
}

-- ---- a flat triangle goes round nothing
no_room : (u v w k l m : ℤ) → pos 0 ≤ℤ u → pos 0 ≤ℤ v → pos 0 ≤ℤ w
    → pos 0 <ℤ (u +ℤ (v +ℤ w)) → pos 0 <ℤ k → pos 0 <ℤ l → pos 0 <ℤ m
    → u *ℤ k +ℤ (v *ℤ l +ℤ w *ℤ m) ≡ pos 0 → ⊥
no_room u v w k l m hu hv hw o kp lp mp e = let more = some_of_three u v w k l m hu hv hw o kp lp mp in omega (arith, ints)

pub flat_not_round : (a b c : Point) → pos 0 <ℤ a.d → pos 0 <ℤ b.d → pos 0 <ℤ c.d
    → cross b c *ℤ a.d +ℤ (cross c a *ℤ b.d +ℤ cross a b *ℤ c.d) ≡ pos 0 → ¬ IsRound a b c
flat_not_round a b c da db dc e = λ r. no_room (cross b c) (cross c a) (cross a b) a.d b.d c.d r.first r.second r.third
    r.some da db dc e

-- twice the area of the triangle that q sees, by the side of its middle point
area_seen : (q a m b : Point) → (cross (seen_from q m) (seen_from q b) *ℤ (seen_from q a).d +ℤ
    (cross (seen_from q b) (seen_from q a) *ℤ (seen_from q m).d +ℤ cross (seen_from q a) (seen_from q m) *ℤ
    (seen_from q b).d)) *ℤ a.d
    ≡ side_by m a b *ℤ (pos 0 -ℤ q.d *ℤ (q.d *ℤ q.d))
unfolding cross side_by
area_seen q a m b =
    ring (a.x ∷ a.y ∷ a.d ∷ m.x ∷ m.y ∷ m.d ∷ b.x ∷ b.y ∷ b.d ∷ q.x ∷ q.y ∷ q.d ∷ [])
    ((((v3 ⊗ v11 ⊖ v9 ⊗ v5) ⊗ (v7 ⊗ v11 ⊖ v10 ⊗ v8) ⊖ (v4 ⊗ v11 ⊖ v10 ⊗ v5)
    ⊗ (v6 ⊗ v11 ⊖ v9 ⊗ v8)) ⊗ (v2 ⊗ v11)
    ⊕ (((v6 ⊗ v11 ⊖ v9 ⊗ v8) ⊗ (v1 ⊗ v11 ⊖ v10 ⊗ v2) ⊖ (v7 ⊗ v11 ⊖ v10 ⊗ v8)
    ⊗ (v0 ⊗ v11 ⊖ v9 ⊗ v2)) ⊗ (v5 ⊗ v11)
    ⊕ ((v0 ⊗ v11 ⊖ v9 ⊗ v2) ⊗ (v4 ⊗ v11 ⊖ v10 ⊗ v5) ⊖ (v1 ⊗ v11 ⊖ v10 ⊗ v2)
    ⊗ (v3 ⊗ v11 ⊖ v9 ⊗ v5)) ⊗ (v8 ⊗ v11))) ⊗ v2)
    (((v6 ⊗ v2 ⊖ v0 ⊗ v8) ⊗ (v4 ⊗ v2 ⊖ v1 ⊗ v5) ⊖ (v7 ⊗ v2 ⊖ v1 ⊗ v8)
    ⊗ (v3 ⊗ v2 ⊖ v0 ⊗ v5)) ⊗
    (num (pos 0) ⊖ v11 ⊗ (v11 ⊗ v11))) refl

by_triangle : (am mb ba ab : ℤ) → am +ℤ (mb +ℤ ba) ≡ pos 0 → ba ≡ pos 0 -ℤ ab → am +ℤ mb ≡ ab
by_triangle am mb ba ab h e = omega (arith, ints)

turned_area : (a b c : Point) → cross b c *ℤ a.d +ℤ (cross c a *ℤ b.d +ℤ cross a b *ℤ c.d) ≡ pos 0
    → cross c b *ℤ a.d +ℤ (cross b a *ℤ c.d +ℤ cross a c *ℤ b.d) ≡ pos 0
unfolding cross
turned_area a b c h =
    ring (a.x ∷ a.y ∷ a.d ∷ b.x ∷ b.y ∷ b.d ∷ c.x ∷ c.y ∷ c.d ∷ [])
    ((v6 ⊗ v4 ⊖ v7 ⊗ v3) ⊗ v2 ⊕ ((v3 ⊗ v1 ⊖ v4 ⊗ v0) ⊗ v8 ⊕ (v0 ⊗ v7 ⊖ v1 ⊗ v6) ⊗ v5))
    (num (pos 0) ⊖ ((v3 ⊗ v7 ⊖ v4 ⊗ v6) ⊗ v2
    ⊕ ((v6 ⊗ v1 ⊖ v7 ⊗ v0) ⊗ v5 ⊕ (v0 ⊗ v4 ⊖ v1 ⊗ v3) ⊗ v8))) refl
    ∙ ap (λ (s : ℤ). pos 0 -ℤ s) h

-- three points on one line, in whatever order
pub line_turn : (above right : Bool) (q a m b : Point) → pos 0 <ℤ q.d → pos 0 <ℤ a.d → pos 0 <ℤ m.d
    → pos 0 <ℤ b.d → side_by m a b ≡ pos 0
    → turn above right q a m +ℤ turn above right q m b ≡ turn above right q a b
line_turn above right q a m b dq da dm db h =
    let sa : Point = seen_from q a in
    let sm : Point = seen_from q m in
    let sb : Point = seen_from q b in
    let ea : pos 0 <ℤ sa.d = positive_product a.d q.d da dq in
    let em : pos 0 <ℤ sm.d = positive_product m.d q.d dm dq in
    let eb : pos 0 <ℤ sb.d = positive_product b.d q.d db dq in
    let none : cross sm sb *ℤ sa.d +ℤ (cross sb sa *ℤ sm.d +ℤ cross sa sm *ℤ sb.d) ≡ pos 0 =
    zero_factor (cross sm sb *ℤ sa.d +ℤ (cross sb sa *ℤ sm.d +ℤ cross sa sm *ℤ sb.d)) a.d da
    (area_seen q a m b ∙ ap (λ (s : ℤ). s *ℤ (pos 0 -ℤ q.d *ℤ (q.d *ℤ q.d))) h
    ∙ zero-*ℤ (pos 0 -ℤ q.d *ℤ (q.d *ℤ q.d)))
    in
    ap₂ (λ (s t : ℤ). s +ℤ t) (turn_seen above right q a m dq da) (turn_seen above right q m b dq dm)
    ∙ by_triangle (swing above right sa sm) (swing above right sm sb) (swing above right sb sa)
    (swing above right sa sb)
    (triangle above right sa sm sb (flat_not_round sa sm sb ea em eb none) (flat_not_round sa sb sm ea eb em
    (turned_area sa sm sb none)))
    (swing_turned above right sa sb)
    ∙ sym (turn_seen above right q a b dq da)

pub joining_keeps_winding : JoiningKeepsWinding
joining_keeps_winding s t ss ps pt h l above right q d =
    ap (λ (z : ℤ). z +ℤ wind_by above right q ss)
    (sym (line_turn above right q s.from s.to t.to d ps.from ps.to pt.to l)
    ∙ ap (λ (z : ℤ). turn above right q s.from s.to +ℤ z)
    (turn_same above right q s.to t.to t.from t.to d ps.to pt.to
    pt.from pt.to h (same_itself t.to)))
    ∙ +ℤ_assoc (turn above right q s.from s.to) (turn above right q t.from t.to) (wind_by above right q ss)
