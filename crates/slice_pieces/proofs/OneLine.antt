-- Points on the line of an edge: by height where the edge rises, else by x.
use Rattle.std.proofs.Common.{◌≡◌, Bool, true, false, cond, [], ◌∷◌, refl, sym, ap, ap₂, ◌∙◌, arith, subst}
use lib.IntN.{ℤ, pos, ◌+ℤ◌, ◌-ℤ◌, ◌*ℤ◌}
use lib.Signed.{◌<ℤ◌}
use Rattle.std.specs.Prelude.{int_lt, ◌&&◌}
use Rattle.std.specs.Cmp.{signed_Decides}
use Rattle.std.proofs.lemmas.Int.{ints, by_lt_z}
use Rattle.scad_base.proofs.Products.{zero_factor}
use Rattle.scad_geom.specs.declared.point.Edge.{Edge}
use Rattle.scad_geom.specs.Point.{Point, whole, is_same_point}
use Rattle.scad_geom.specs.Line.{low, high, rise, run, offset, x_at, left_of}
use Rattle.scad_geom.specs.Winding.{side_by}
use Rattle.scad_geom.proofs.Ring.{ring, num, ◌⊕◌, ◌⊖◌, ◌⊗◌, v0, v1, v2, v3, v4, v5, v6, v7, v8}
use Rattle.scad_geom.proofs.Bounds.{rise_at_least}
use Rattle.slice_pieces.specs.Naming.{IsOnLine}
use Rattle.scad_geom.proofs.Signs.{no_gap}
use Rattle.scad_base.proofs.Integers.{equal_of_gap, zero_between}
use Rattle.std.proofs.lemmas.Bool.{true≢false}

-- the rise times a gap across is the run times the gap upwards, for two points of the line
across_gap : (r u o x y d x' y' d' : ℤ) → u *ℤ y +ℤ o *ℤ d -ℤ r *ℤ x ≡ pos 0
    → u *ℤ y' +ℤ o *ℤ d' -ℤ r *ℤ x' ≡ pos 0
    → r *ℤ (x' *ℤ d -ℤ x *ℤ d') ≡ u *ℤ (y' *ℤ d -ℤ y *ℤ d')
across_gap r u o x y d x' y' d' h k =
    let i : u *ℤ (y' *ℤ d -ℤ y *ℤ d') -ℤ r *ℤ (x' *ℤ d -ℤ x *ℤ d') ≡ (u *ℤ y' +ℤ o *ℤ d' -ℤ r *ℤ x') *ℤ d -ℤ (u *ℤ y +ℤ o *ℤ d -ℤ r *ℤ x) *ℤ d' =
    ring (r ∷ u ∷ o ∷ x ∷ y ∷ d ∷ x' ∷ y' ∷ d' ∷ []) (v1 ⊗ (v7 ⊗ v5 ⊖ v4 ⊗ v8) ⊖ v0 ⊗ (v6 ⊗ v5 ⊖ v3 ⊗ v8)) ((v1 ⊗ v7 ⊕ v2 ⊗ v8 ⊖ v0 ⊗ v6) ⊗ v5 ⊖ (v1 ⊗ v4 ⊕ v2 ⊗ v5 ⊖ v0 ⊗ v3) ⊗ v8) refl in
    sym (equal_of_gap _ _ (i ∙ ap₂ (λ (s t : ℤ). s *ℤ d -ℤ t *ℤ d') k h ∙ nothing d d'))
  where
    nothing : (d d' : ℤ) → pos 0 *ℤ d -ℤ pos 0 *ℤ d' ≡ pos 0
    nothing d d' = omega (arith, ints)

cancel_any : (a r : ℤ) → (r ≡ pos 0 → ⊥) → a *ℤ r ≡ pos 0 → a ≡ pos 0
cancel_any a r n h = by_lt_z (pos 0) r (λ p. zero_factor a r p h)
    (λ p. by_lt_z r (pos 0) (λ q. zero_factor a (pos 0 -ℤ r) (turned r q) (turned_mul a r h))
    (λ q. absurd (n (zero_between r q p))))
  where
    turned : (r : ℤ) → r <ℤ pos 0 → pos 0 <ℤ (pos 0 -ℤ r)
    turned r h = omega (arith, ints)

    turned_mul : (a r : ℤ) → a *ℤ r ≡ pos 0 → a *ℤ (pos 0 -ℤ r) ≡ pos 0
    turned_mul a r h =
        let i : a *ℤ (pos 0 -ℤ r) ≡ pos 0 -ℤ a *ℤ r = ring (a ∷ r ∷ []) (v0 ⊗ (num (pos 0) ⊖ v1)) (num (pos 0) ⊖ v0 ⊗ v1) refl in
        omega (arith, ints)

-- ---- the points of the line
is_same : (p q : Point) → p.y *ℤ q.d ≡ q.y *ℤ p.d → p.x *ℤ q.d ≡ q.x *ℤ p.d
    → is_same_point p q ≡ true
is_same p q h k = ap₂ (λ (s t : Bool). s && t) ((signed_Decides (p.y *ℤ q.d) (q.y *ℤ p.d)).1 h)
    ((signed_Decides (p.x *ℤ q.d) (q.x *ℤ p.d)).1 k)

products : (r u X Y x y : ℤ) → r *ℤ X ≡ u *ℤ Y → r *ℤ x ≡ u *ℤ y
    → (X *ℤ y -ℤ Y *ℤ x) *ℤ r ≡ pos 0
products r u X Y x y h k =
    ring (r ∷ X ∷ Y ∷ x ∷ y ∷ []) ((v1 ⊗ v4 ⊖ v2 ⊗ v3) ⊗ v0)
    ((v0 ⊗ v1) ⊗ v4 ⊖ v2 ⊗ (v0 ⊗ v3)) refl
    ∙ ap₂ (λ (s t : ℤ). s *ℤ y -ℤ Y *ℤ t) h k
    ∙ ring (u ∷ Y ∷ y ∷ []) ((v0 ⊗ v1) ⊗ v2 ⊖ v1 ⊗ (v0 ⊗ v2)) (num (pos 0)) refl

-- the point between two whose numbers are the sums of theirs
abbrev pub mean : Point → Point → Point
mean p q = record { x = p.x +ℤ q.x; y = p.y +ℤ q.y; d = p.d +ℤ q.d }

module _ (e : Edge) where
  gaps : (p q : Point) → IsOnLine e p → IsOnLine e q
      → rise e *ℤ (q.x *ℤ p.d -ℤ p.x *ℤ q.d) ≡ run e *ℤ (q.y *ℤ p.d -ℤ p.y *ℤ q.d)
  unfolding left_of x_at
  gaps p q h k = across_gap (rise e) (run e) (offset e) p.x p.y p.d q.x q.y q.d h k

  pub mean_on : (p q : Point) → IsOnLine e p → IsOnLine e q → IsOnLine e (mean p q)
  unfolding left_of x_at
  mean_on p q h k =
      ring (rise e ∷ run e ∷ offset e ∷ p.x ∷ p.y ∷ p.d ∷ q.x ∷ q.y ∷ q.d ∷ [])
      (v1 ⊗ (v4 ⊕ v7) ⊕ v2 ⊗ (v5 ⊕ v8) ⊖ v0 ⊗ (v3 ⊕ v6))
      ((v1 ⊗ v4 ⊕ v2 ⊗ v5 ⊖ v0 ⊗ v3) ⊕ (v1 ⊗ v7 ⊕ v2 ⊗ v8 ⊖ v0 ⊗ v6)) refl
      ∙ ap₂ (λ (s t : ℤ). s +ℤ t) h k

  -- ---- where the edge rises
  pub side_rising : pos 0 <ℤ rise e → (p a b : Point) → IsOnLine e p → IsOnLine e a → IsOnLine e b
      → side_by p a b ≡ pos 0
  unfolding side_by
  side_rising r p a b hp ha hb =
      zero_factor _ (rise e) r (products (rise e) (run e) (b.x *ℤ a.d -ℤ a.x *ℤ b.d)
      (b.y *ℤ a.d -ℤ a.y *ℤ b.d) (p.x *ℤ a.d -ℤ a.x *ℤ p.d) (p.y *ℤ a.d -ℤ a.y *ℤ p.d)
      (gaps a b ha hb) (gaps a p ha hp))

  pub same_rising : pos 0 <ℤ rise e → (p q : Point) → IsOnLine e p → IsOnLine e q
      → p.y *ℤ q.d ≡ q.y *ℤ p.d → is_same_point p q ≡ true
  same_rising r p q hp hq h =
      let g = gaps p q hp hq in
      let z : q.y *ℤ p.d -ℤ p.y *ℤ q.d ≡ pos 0 = no_gap (q.y *ℤ p.d) (p.y *ℤ q.d) (sym h) in
      let x : q.x *ℤ p.d -ℤ p.x *ℤ q.d ≡ pos 0 = zero_factor (q.x *ℤ p.d -ℤ p.x *ℤ q.d) (rise e) r
      (ring (rise e ∷ (q.x *ℤ p.d -ℤ p.x *ℤ q.d) ∷ []) (v1 ⊗ v0) (v0 ⊗ v1) refl ∙ g ∙ ap (λ (t : ℤ). run e *ℤ t) z ∙ ring (run e ∷ []) (v0 ⊗ num (pos 0)) (num (pos 0)) refl) in
      is_same p q h (sym (equal_of_gap (q.x *ℤ p.d) (p.x *ℤ q.d) x))

  -- ---- where it is flat
  module _ (flat : rise e ≡ pos 0) (long : run e ≡ pos 0 → ⊥) where
    at_height : (p : Point) → IsOnLine e p → p.y ≡ (low e).y *ℤ p.d
    unfolding left_of x_at offset
    at_height p h =
        let own : run e *ℤ p.y +ℤ (pos 0 *ℤ (low e).x -ℤ run e *ℤ (low e).y) *ℤ p.d -ℤ pos 0 *ℤ p.x ≡ pos 0 =
        subst (λ (r : ℤ). run e *ℤ p.y +ℤ (r *ℤ (low e).x -ℤ run e *ℤ (low e).y) *ℤ p.d -ℤ r *ℤ p.x ≡ pos 0) flat h in
        equal_of_gap p.y ((low e).y *ℤ p.d) (cancel_any (p.y -ℤ (low e).y *ℤ p.d) (run e) long
        (ring (run e ∷ p.y ∷ (low e).x ∷ (low e).y ∷ p.d ∷ p.x ∷ []) ((v1 ⊖ v3 ⊗ v4) ⊗ v0)
        (v0 ⊗ v1 ⊕ (num (pos 0) ⊗ v2 ⊖ v0 ⊗ v3) ⊗ v4 ⊖ num (pos 0) ⊗ v5) refl ∙ own))

    pub all_level : (p q : Point) → IsOnLine e p → IsOnLine e q → p.y *ℤ q.d ≡ q.y *ℤ p.d
    all_level p q hp hq =
        ap (λ (y : ℤ). y *ℤ q.d) (at_height p hp)
        ∙ ring ((low e).y ∷ p.d ∷ q.d ∷ []) ((v0 ⊗ v1) ⊗ v2) ((v0 ⊗ v2) ⊗ v1) refl
        ∙ sym (ap (λ (y : ℤ). y *ℤ p.d) (at_height q hq))

    pub side_flat : (p a b : Point) → IsOnLine e p → IsOnLine e a → IsOnLine e b → side_by p a b ≡ pos 0
    unfolding side_by
    side_flat p a b hp ha hb =
        ap₂ (λ (s t : ℤ). (b.x *ℤ a.d -ℤ a.x *ℤ b.d) *ℤ s -ℤ t *ℤ (p.x *ℤ a.d -ℤ a.x *ℤ p.d))
        (no_gap (p.y *ℤ a.d) (a.y *ℤ p.d) (all_level p a hp ha))
        (no_gap (b.y *ℤ a.d) (a.y *ℤ b.d) (all_level b a hb ha))
        ∙ ring ((b.x *ℤ a.d -ℤ a.x *ℤ b.d) ∷ (p.x *ℤ a.d -ℤ a.x *ℤ p.d) ∷ [])
        (v0 ⊗ num (pos 0) ⊖ num (pos 0) ⊗ v1) (num (pos 0)) refl

    pub same_flat : (p q : Point) → IsOnLine e p → IsOnLine e q → p.x *ℤ q.d ≡ q.x *ℤ p.d
        → is_same_point p q ≡ true
    same_flat p q hp hq h = is_same p q (all_level p q hp hq) h

  -- an edge with a length that doesn't rise runs
  runs : is_same_point (whole e.a) (whole e.b) ≡ false → rise e ≡ pos 0 → run e ≡ pos 0 → ⊥
  unfolding rise run low high
  runs d r u = by_test (int_lt e.b.y e.a.y) r u
    where
      equal : (x y : ℤ) → x -ℤ y ≡ pos 0 → y *ℤ pos 1 ≡ x *ℤ pos 1
      equal x y h = ap (λ (z : ℤ). z *ℤ pos 1) (sym (equal_of_gap x y h))

      by_test : (t : Bool) → (cond t e.a e.b).y -ℤ (cond t e.b e.a).y ≡ pos 0
          → (cond t e.a e.b).x -ℤ (cond t e.b e.a).x ≡ pos 0 → ⊥
      by_test true r u = true≢false (sym (is_same (whole e.a) (whole e.b) (sym (equal e.a.y e.b.y r))
          (sym (equal e.a.x e.b.x u))) ∙ d)
      by_test false r u = true≢false (sym (is_same (whole e.a) (whole e.b) (equal e.b.y e.a.y r)
          (equal e.b.x e.a.x u)) ∙ d)

  pub by_rise : {A : Type 0} → is_same_point (whole e.a) (whole e.b) ≡ false → (pos 0 <ℤ rise e → A)
      → (rise e ≡ pos 0 → (run e ≡ pos 0 → ⊥) → A) → A
  by_rise d f g = by_lt_z (pos 0) (rise e) f (λ h. let z = rise_at_least e in let r : rise e ≡ pos 0 = omega (arith, ints) in g r (runs d r))
