-- Whether an edge meets the box round a point in halves, by the tests of its mirror image that rises along both axes.
use Rattle.std.proofs.Common.{◌≡◌, Bool, true, false, cond, ◌&&◌, [], ◌∷◌, refl, sym, ap₂, ◌∙◌, arith, ℤ, pos, neg_ℤ, ◌+ℤ◌, ◌-ℤ◌, ◌*ℤ◌, ◌<ℤ◌}
use lib.Signed.{◌≤ℤ◌}
use Rattle.std.specs.Prelude.{int_le}
use Rattle.std.proofs.lemmas.Int.{ints}
use Rattle.std.proofs.lemmas.Bool.{and_parts, both_ways}
use Rattle.scad_geom.specs.declared.point.Edge.{Edge}
use Rattle.scad_geom.specs.Point.{whole, halves}
use Rattle.scad_geom.specs.Near.{mean, IsHalf, IsClose, MeetsBox, IsClear}
use Rattle.scad_geom.proofs.Rising.{Lies, Found, Passes, found, passes, mirrored_mean}
use Rattle.scad_geom.proofs.Ring.{ring, num, ◌⊕◌, ◌⊖◌, ◌⊗◌, v0, v1, v2, v3, v4}
use Rattle.scad_base.proofs.Integers.{zero_minus}
use Rattle.scad_base.proofs.Tests.{int_le-at_most}

-- the ends of a way, mirrored where it falls
abbrev pub first_of : ℤ → ℤ → ℤ
first_of a b = cond (int_le a b) a (neg_ℤ a)

abbrev pub last_of : ℤ → ℤ → ℤ
last_of a b = cond (int_le a b) b (neg_ℤ b)

pub rises : (a b : ℤ) → first_of a b ≤ℤ last_of a b
rises a b = by_test (int_le a b) refl
  where
    by_test : (t : Bool) → int_le a b ≡ t → cond t a (neg_ℤ a) ≤ℤ cond t b (neg_ℤ b)
    by_test true q = omega (arith, ints)
    by_test false q = omega (arith, ints)

negated_mean : (s t a b : ℤ) → s *ℤ neg_ℤ a +ℤ t *ℤ neg_ℤ b ≡ neg_ℤ (s *ℤ a +ℤ t *ℤ b)
negated_mean s t a b = ap₂ (λ (x y : ℤ). s *ℤ x +ℤ t *ℤ y) (sym (zero_minus a)) (sym (zero_minus b)) ∙ mirrored_mean s t
    a b ∙ zero_minus (s *ℤ a +ℤ t *ℤ b)

-- a mean lies in the square where the mirrored one does
mirrored : (w s t a b : ℤ) (u : Bool) → Lies w s t (cond u a (neg_ℤ a)) (cond u b (neg_ℤ b)) → Lies w s t a b
mirrored w s t a b true l = l
mirrored w s t a b false l =
    let f = l.from in
    let g = l.to in
    let e = negated_mean s t a b in
    record { from = omega (arith, ints, e); to = omega (arith, ints, e) }

mirrored_back : (w s t a b : ℤ) (u : Bool) → Lies w s t a b → Lies w s t (cond u a (neg_ℤ a)) (cond u b (neg_ℤ b))
mirrored_back w s t a b true l = l
mirrored_back w s t a b false l =
    let f = l.from in
    let g = l.to in
    let e = negated_mean s t a b in
    record { from = omega (arith, ints, e); to = omega (arith, ints, e) }

-- the tests of the mirrored segment decide
pub found_by_tests : (w ax ay bx by : ℤ) → pos 0 ≤ℤ w → Passes w (first_of ax bx) (first_of ay by) (last_of ax bx)
    (last_of ay by) → Found w ax ay bx by
found_by_tests w ax ay bx by some p =
    let f = found w (first_of ax bx) (first_of ay by) (last_of ax bx) (last_of ay by) some (rises ax bx) (rises ay by) p
    in
    record {
      s = f.s;
      t = f.t;
      from = f.from;
      to = f.to;
      some = f.some;
      x = mirrored w f.s f.t ax bx (int_le ax bx) f.x;
      y = mirrored w f.s f.t ay by (int_le ay by) f.y;
    }

pub tests_of_found : (w ax ay bx by : ℤ) → Found w ax ay bx by → Passes w (first_of ax bx) (first_of ay by)
    (last_of ax bx) (last_of ay by)
tests_of_found w ax ay bx by f =
    passes w (first_of ax bx) (first_of ay by) (last_of ax bx) (last_of ay by) (rises ax bx) (rises ay by)
    (record {
      s = f.s;
      t = f.t;
      from = f.from;
      to = f.to;
      some = f.some;
      x = mirrored_back w f.s f.t ax bx
          (int_le ax bx) f.x;
      y = mirrored_back w f.s f.t ay by (int_le ay by) f.y;
    })

-- ---- of points
-- along one axis, over the divisor of a point in halves
axis_place : (s t a b x : ℤ) → pos 2 *ℤ ((s *ℤ a +ℤ t *ℤ b) *ℤ pos 2 -ℤ x *ℤ (s *ℤ pos 1 +ℤ t *ℤ pos 1))
    ≡ pos 2 *ℤ (s *ℤ (pos 2 *ℤ a -ℤ x) +ℤ t *ℤ (pos 2 *ℤ b -ℤ x))
axis_place s t a b x = ring (s ∷ t ∷ a ∷ b ∷ x ∷ [])
    (num (pos 2) ⊗ ((v0 ⊗ v2 ⊕ v1 ⊗ v3) ⊗ num (pos 2) ⊖ v4 ⊗ (v0 ⊗ num (pos 1) ⊕ v1 ⊗ num (pos 1))))
    (num (pos 2) ⊗ (v0 ⊗ (num (pos 2) ⊗ v2 ⊖ v4) ⊕ v1 ⊗ (num (pos 2) ⊗ v3 ⊖ v4))) refl

axis_weight : (h s t : ℤ) → h *ℤ ((s *ℤ pos 1 +ℤ t *ℤ pos 1) *ℤ pos 2) ≡ pos 2 *ℤ (h *ℤ (s +ℤ t))
axis_weight h s t = ring (h ∷ s ∷ t ∷ []) (v0 ⊗ ((v1 ⊗ num (pos 1) ⊕ v2 ⊗ num (pos 1)) ⊗ num (pos 2)))
    (num (pos 2) ⊗ (v0 ⊗ (v1 ⊕ v2))) refl

half_of_lies : (h s t a b x : ℤ) → Lies h s t (pos 2 *ℤ a -ℤ x) (pos 2 *ℤ b -ℤ x)
    → IsHalf h ((s *ℤ a +ℤ t *ℤ b) *ℤ pos 2 -ℤ x *ℤ (s *ℤ pos 1 +ℤ t *ℤ pos 1)) ((s *ℤ pos 1 +ℤ t *ℤ pos 1) *ℤ pos 2)
half_of_lies h s t a b x l =
    let f = l.from in
    let g = l.to in
    let p = axis_place s t a b x in
    let w = axis_weight h s t in
    record { from = omega (arith, ints, p, w); to = omega (arith, ints, p, w) }

lies_of_half : (h s t a b x : ℤ) → IsHalf h ((s *ℤ a +ℤ t *ℤ b) *ℤ pos 2 -ℤ x *ℤ (s *ℤ pos 1 +ℤ t *ℤ pos 1))
    ((s *ℤ pos 1 +ℤ t *ℤ pos 1) *ℤ pos 2) → Lies h s t (pos 2 *ℤ a -ℤ x) (pos 2 *ℤ b -ℤ x)
lies_of_half h s t a b x l =
    let f = l.from in
    let g = l.to in
    let p = axis_place s t a b x in
    let w = axis_weight h s t in
    record { from = omega (arith, ints, p, w); to = omega (arith, ints, p, w) }

abbrev pub FoundFor : ℤ → ℤ → ℤ → Edge → Type 0
FoundFor h x y e = Found h (pos 2 *ℤ e.a.x -ℤ x) (pos 2 *ℤ e.a.y -ℤ y) (pos 2 *ℤ e.b.x -ℤ x) (pos 2 *ℤ e.b.y -ℤ y)

meets_if_found : (h x y : ℤ) (e : Edge) → FoundFor h x y e → MeetsBox h (halves x y) (whole e.a) (whole e.b)
meets_if_found h x y e f = record {
  s = f.s;
  t = f.t;
  from = f.from;
  to = f.to;
  some = f.some;
  close = record {
    across = half_of_lies h f.s f.t e.a.x e.b.x x f.x;
    along = half_of_lies h f.s f.t e.a.y e.b.y y f.y;
  };
}

found_if_close : (h x y : ℤ) (e : Edge) (s t : ℤ) → pos 0 ≤ℤ s → pos 0 ≤ℤ t → pos 0 <ℤ (s +ℤ t)
    → IsClose h (halves x y) (mean s t (whole e.a) (whole e.b)) → FoundFor h x y e
found_if_close h x y e s t from to some c =
    record {
      s = s;
      t = t;
      from = from;
      to = to;
      some = some;
      x = lies_of_half h s t e.a.x e.b.x x c.across;
      y =
          lies_of_half h s t e.a.y e.b.y y c.along;
    }

-- the tests as they stand in code
abbrev pub passes_tests : ℤ → ℤ → ℤ → ℤ → ℤ → Bool
passes_tests w ax ay bx by = (int_le ax w && int_le (neg_ℤ w) bx) && ((int_le ay w && int_le (neg_ℤ w) by)
    && (int_le (bx *ℤ ay -ℤ ax *ℤ by) (w *ℤ (bx -ℤ ax) +ℤ w *ℤ (by -ℤ ay)) && int_le (neg_ℤ (bx *ℤ ay -ℤ ax *ℤ by))
    (w *ℤ (bx -ℤ ax) +ℤ w *ℤ (by -ℤ ay))))

passes_if : (w ax ay bx by : ℤ) → passes_tests w ax ay bx by ≡ true → Passes w ax ay bx by
passes_if w ax ay bx by h =
    by_parts
    (int_le ax w) (int_le (neg_ℤ w) bx) (int_le ay w) (int_le (neg_ℤ w) by)
    (int_le (bx *ℤ ay -ℤ ax *ℤ by) (w *ℤ (bx -ℤ ax) +ℤ w *ℤ (by -ℤ ay)))
    (int_le (neg_ℤ (bx *ℤ ay -ℤ ax *ℤ by)) (w *ℤ (bx -ℤ ax) +ℤ w *ℤ (by -ℤ ay)))
    h (λ p q r s t u. record {
      left = omega (arith, ints, p);
      right = omega (arith, ints, q);
      below = omega (arith, ints, r);
      over = omega (arith, ints, s);
      most = omega (arith, ints, t);
      least = omega (arith, ints, u);
    })
  where
    by_parts : {P : Type 0} (a b c d e f : Bool) → ((a && b) && ((c && d) && (e && f))) ≡ true
        → (a ≡ true → b ≡ true → c ≡ true → d ≡ true → e ≡ true → f ≡ true → P) → P
    by_parts a b c d e f h k =
        let p = and_parts (a && b) ((c && d) && (e && f)) h in
        let q = and_parts a b p.0 in
        let r = and_parts (c && d) (e && f) p.1 in
        let s = and_parts c d r.0 in
        let t = and_parts e f r.1 in
        k q.0 q.1 s.0 s.1 t.0 t.1

if_passes : (w ax ay bx by : ℤ) → Passes w ax ay bx by → passes_tests w ax ay bx by ≡ true
if_passes w ax ay bx by p =
    let l = p.left in
    let r = p.right in
    let b = p.below in
    let o = p.over in
    let m = p.most in
    let n = p.least in
    rw (
      int_le-at_most ax w l,
      int_le-at_most (neg_ℤ w) bx (omega (arith, ints)),
      int_le-at_most ay w b,
      int_le-at_most (neg_ℤ w) by (omega (arith, ints)),
      int_le-at_most (bx *ℤ ay -ℤ ax *ℤ by) (w *ℤ (bx -ℤ ax) +ℤ w *ℤ (by -ℤ ay)) m,
      int_le-at_most (neg_ℤ (bx *ℤ ay -ℤ ax *ℤ by)) (w *ℤ (bx -ℤ ax) +ℤ w *ℤ (by -ℤ ay)) (omega (arith, ints)),
    ) refl

-- the tests of an edge, over a point in halves
abbrev pub edge_passes : ℤ → ℤ → ℤ → Edge → Bool
edge_passes h x y e = passes_tests h
    (first_of (pos 2 *ℤ e.a.x -ℤ x) (pos 2 *ℤ e.b.x -ℤ x)) (first_of (pos 2 *ℤ e.a.y -ℤ y) (pos 2 *ℤ e.b.y -ℤ y))
    (last_of (pos 2 *ℤ e.a.x -ℤ x) (pos 2 *ℤ e.b.x -ℤ x)) (last_of (pos 2 *ℤ e.a.y -ℤ y) (pos 2 *ℤ e.b.y -ℤ y))

pub edge_meets : (h x y : ℤ) (e : Edge) → pos 0 ≤ℤ h → edge_passes h x y e ≡ true → MeetsBox h (halves x y) (whole e.a)
    (whole e.b)
edge_meets h x y e some t = meets_if_found h x y e (found_by_tests h _ _ _ _ some (passes_if h _ _ _ _ t))

pub edge_is_clear : (h x y : ℤ) (e : Edge) → edge_passes h x y e ≡ false → IsClear h (halves x y) (whole e.a)
    (whole e.b)
edge_is_clear h x y e t r u from to some c = both_ways _ t
    (if_passes h _ _ _ _ (tests_of_found h _ _ _ _ (found_if_close h x y e r u from to some c)))
