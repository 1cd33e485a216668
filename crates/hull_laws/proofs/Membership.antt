-- What the cuts of a closed surface contain: a point on the inner side of all triangles, and none beyond a plane that
-- has all corners on one side.
use Rattle.std.proofs.Common.{◌≡◌, inl, inr, ℕ, ◌+◌, Bool, true, false, not, cond, ◌&&◌, List, [], ◌∷◌, map, Some, None, Option, refl, sym, ap, ap₂, ◌∙◌, arith, subst}
use lib.IntN.{ℤ, pos, ◌+ℤ◌, ◌-ℤ◌, ◌*ℤ◌}
use lib.Signed.{◌<ℤ◌, ◌≤ℤ◌}
use Rattle.std.specs.Prelude.{⊤, int_lt}
use Rattle.std.specs.List.{AllByRecursion, cons_option}
use Rattle.std.proofs.lemmas.Int.{ints}
use Rattle.scad_base.proofs.Products.{positive_product}
use Rattle.scad_geom.specs.declared.point3.Pt3.{Pt3}
use Rattle.scad_geom.specs.Point.{Point, is_same_point}
use Rattle.scad_geom.specs.Segment.{Segment}
use Rattle.scad_geom.specs.Winding.{turn, wind}
use Rattle.scad_geom.specs.Balance.{starts_at, ends_at, IsBalanced}
use Rattle.scad_geom.proofs.Balance.{once, starts-cons, ends-cons}
use Rattle.scad_geom.proofs.Ring.{ring, num, ◌⊕◌, ◌⊖◌, ◌⊗◌, v0, v1, v2, v3, v4, v5, v6, v7, v8, v9}
use Rattle.scad_solid.specs.declared.side.Side.{Side}
use Rattle.scad_solid.specs.declared.triangle.Triangle.{Triangle}
use Rattle.scad_solid.specs.Surface.{is_closed}
use Rattle.scad_solid.specs.Cut.{plane_of, is_above, is_below, point_between, cut_between, cut_of, cuts_of}
use Rattle.scad_solid.proofs.Holds.{below_or_above}
use Rattle.slice_section.proofs.CutBalance.{cuts_balanced}
use Rattle.winding_laws.specs.Nearness.{IsPoint, IsProper, seen_from}
use Rattle.winding_laws.proofs.Views.{cross, swing_turned, turn_seen}
use Rattle.scad_hull.proofs.Escape.{volume, IsToward, IsSided, one_open}
use Rattle.scad_hull.proofs.Winds.{HasLeft, winds, IsBeside, unwound}

-- ---- segments run the other way
abbrev pub back : Segment → Segment
back s = record { from = s.to; to = s.from }

back_starts : (p : Point) (ss : List Segment) → starts_at p (map back ss) ≡ ends_at p ss
back_starts p [] = refl
back_starts p (s ∷ ss) = starts-cons p (back s) (map back ss)
    ∙ ap (λ (n : ℕ). once (is_same_point p s.to) + n) (back_starts p ss) ∙ sym (ends-cons p s ss)

back_ends : (p : Point) (ss : List Segment) → ends_at p (map back ss) ≡ starts_at p ss
back_ends p [] = refl
back_ends p (s ∷ ss) = ends-cons p (back s) (map back ss)
    ∙ ap (λ (n : ℕ). once (is_same_point p s.from) + n) (back_ends p ss) ∙ sym (starts-cons p s ss)

back_balanced : (ss : List Segment) → IsBalanced ss → IsBalanced (map back ss)
back_balanced ss h = record { each = λ p dp. back_starts p ss ∙ sym (h.each p dp) ∙ sym (back_ends p ss) }

two_turned : (a b c d : ℤ) → a ≡ pos 0 -ℤ c → b ≡ pos 0 -ℤ d → a +ℤ b ≡ pos 0 -ℤ (c +ℤ d)
two_turned a b c d h k = omega (arith, ints)

back_wind : (q : Point) (dq : IsPoint q) → (ss : List Segment) → AllByRecursion (HasLeft q dq) (map back ss)
    → wind q (map back ss) ≡ pos 0 -ℤ wind q ss
back_wind q dq [] h = refl
back_wind q dq (s ∷ ss) h =
    two_turned (turn true true q s.to s.from) (wind q (map back ss)) (turn true true q s.from s.to) (wind q ss)
    (turn_seen true true q s.to s.from dq h.0.proper.from
    ∙ swing_turned true true (seen_from q s.from) (seen_from q s.to)
    ∙ ap (λ (z : ℤ). pos 0 -ℤ z) (sym (turn_seen true true q s.from s.to dq h.0.proper.to)))
    (back_wind q dq ss h.1)

-- ---- signs
above_up : (plane z : ℤ) → is_above plane z ≡ true → pos 0 <ℤ (pos 2 *ℤ z -ℤ plane)
above_up plane z h = let e : int_lt plane (pos 2 *ℤ z) ≡ true = h in omega (arith, ints)

below_up : (plane z : ℤ) → is_below plane z ≡ true → pos 0 <ℤ (plane -ℤ pos 2 *ℤ z)
below_up plane z h = let e : int_lt (pos 2 *ℤ z) plane ≡ true = h in omega (arith, ints)

above_low : (plane z : ℤ) → is_above plane z ≡ false → (pos 2 *ℤ z -ℤ plane) ≤ℤ pos 0
above_low plane z h = let e : int_lt plane (pos 2 *ℤ z) ≡ false = h in omega (arith, ints)

above_under : (plane z : ℤ) → is_above plane z ≡ true → (plane -ℤ pos 2 *ℤ z) ≤ℤ pos 0
above_under plane z h = let e : int_lt plane (pos 2 *ℤ z) ≡ true = h in omega (arith, ints)

apart : (plane l u : ℤ) → is_below plane l ≡ true → is_above plane u ≡ true
    → pos 0 <ℤ (pos 2 *ℤ u -ℤ pos 2 *ℤ l)
apart plane l u h k = let e : int_lt (pos 2 *ℤ l) plane ≡ true = h in let f : int_lt plane (pos 2 *ℤ u) ≡ true = k in omega (arith, ints)

positive_by : (z k v : ℤ) → z ≡ k *ℤ v → pos 0 <ℤ k → pos 0 <ℤ v → pos 0 <ℤ z
positive_by z k v e h g = let p = positive_product k v h g in omega (arith, ints)

no_none : {c : Segment} → Some c ≡ None → ⊥
no_none e = cc

no_nil : {c : Segment} {cs : List Segment} → c ∷ cs ≡ [] → ⊥
no_nil e = cc

module _ (layer h : ℕ) (q : Point) (dq : IsPoint q) where
  abbrev plane : ℤ
  plane = plane_of layer h

  -- a corner as the point sees it
  abbrev pub across : Pt3 → ℤ
  across p = p.x *ℤ q.d -ℤ q.x

  abbrev pub along : Pt3 → ℤ
  along p = p.y *ℤ q.d -ℤ q.y

  abbrev pub over : Pt3 → ℤ
  over p = pos 2 *ℤ p.z -ℤ plane

  abbrev pub under : Pt3 → ℤ
  under p = plane -ℤ pos 2 *ℤ p.z

  -- the point lies on the inner side of a triangle that goes clockwise as seen from outside
  abbrev pub IsInside : Triangle → Type 0
  IsInside t = pos 0 <ℤ volume along across over t.a t.b t.c

  turned_volume : (a b c : Pt3) → volume along across over b c a ≡ volume along across over a b c
  unfolding volume
  turned_volume a b c =
      ring (along a ∷ across a ∷ over a ∷ along b ∷ across b ∷ over b ∷ along c ∷ across c ∷ over c
      ∷ [])
      (v5 ⊗ (v6 ⊗ v1 ⊖ v7 ⊗ v0) ⊕ (v8 ⊗ (v0 ⊗ v4 ⊖ v1 ⊗ v3) ⊕ v2 ⊗ (v3 ⊗ v7 ⊖ v4 ⊗ v6)))
      (v2 ⊗ (v3 ⊗ v7 ⊖ v4 ⊗ v6) ⊕ (v5 ⊗ (v6 ⊗ v1 ⊖ v7 ⊗ v0) ⊕ v8 ⊗ (v0 ⊗ v4 ⊖ v1 ⊗ v3)))
      refl

  under_volume : (a b c : Pt3) → volume across along under a b c ≡ volume along across over a b c
  unfolding volume
  under_volume a b c =
      ring (along a ∷ across a ∷ a.z ∷ along b ∷ across b ∷ b.z ∷ along c ∷ across c ∷ c.z ∷ plane
      ∷ [])
      ((v9 ⊖ num (pos 2) ⊗ v2) ⊗ (v4 ⊗ v6 ⊖ v3 ⊗ v7)
      ⊕ ((v9 ⊖ num (pos 2) ⊗ v5) ⊗ (v7 ⊗ v0 ⊖ v6 ⊗ v1) ⊕ (v9 ⊖ num (pos 2) ⊗ v8)
      ⊗ (v1 ⊗ v3 ⊖ v0 ⊗ v4)))
      ((num (pos 2) ⊗ v2 ⊖ v9) ⊗ (v3 ⊗ v7 ⊖ v4 ⊗ v6)
      ⊕ ((num (pos 2) ⊗ v5 ⊖ v9) ⊗ (v6 ⊗ v1 ⊖ v7 ⊗ v0) ⊕ (num (pos 2) ⊗ v8 ⊖ v9)
      ⊗ (v0 ⊗ v4 ⊖ v1 ⊗ v3))) refl

  -- ---- the point where a side meets the plane, as the point sees it
  seen_x : (l u : Pt3) → (seen_from q (point_between l u plane)).x ≡ across l *ℤ over u -ℤ across u *ℤ over l
  seen_x l u =
      ring (l.x ∷ u.x ∷ l.z ∷ u.z ∷ plane ∷ q.x ∷ q.d ∷ [])
      ((v0 ⊗ (num (pos 2) ⊗ v3 ⊖ v4) ⊕ v1 ⊗ (v4 ⊖ num (pos 2) ⊗ v2)) ⊗ v6 ⊖ v5
      ⊗ (num (pos 2) ⊗ v3 ⊖ num (pos 2) ⊗ v2))
      ((v0 ⊗ v6 ⊖ v5) ⊗ (num (pos 2) ⊗ v3 ⊖ v4) ⊖ (v1 ⊗ v6 ⊖ v5) ⊗ (num (pos 2) ⊗ v2 ⊖ v4)) refl

  seen_y : (l u : Pt3) → (seen_from q (point_between l u plane)).y ≡ along l *ℤ over u -ℤ along u *ℤ over l
  seen_y l u =
      ring (l.y ∷ u.y ∷ l.z ∷ u.z ∷ plane ∷ q.y ∷ q.d ∷ [])
      ((v0 ⊗ (num (pos 2) ⊗ v3 ⊖ v4) ⊕ v1 ⊗ (v4 ⊖ num (pos 2) ⊗ v2)) ⊗ v6 ⊖ v5
      ⊗ (num (pos 2) ⊗ v3 ⊖ num (pos 2) ⊗ v2))
      ((v0 ⊗ v6 ⊖ v5) ⊗ (num (pos 2) ⊗ v3 ⊖ v4) ⊖ (v1 ⊗ v6 ⊖ v5) ⊗ (num (pos 2) ⊗ v2 ⊖ v4)) refl

  seen_cross : (l u m v : Pt3) → cross (seen_from q (point_between l u plane)) (seen_from q (point_between m v plane))
      ≡ (across l *ℤ over u -ℤ across u *ℤ over l) *ℤ (along m *ℤ over v -ℤ along v *ℤ over m) -ℤ
      (along l *ℤ over u -ℤ along u *ℤ over l) *ℤ (across m *ℤ over v -ℤ across v *ℤ over m)
  unfolding cross
  seen_cross l u m v = λ i. seen_x l u i *ℤ seen_y m v i -ℤ seen_y l u i *ℤ seen_x m v i

  -- u alone lies above
  cross_above : (u l m : Pt3) → cross (seen_from q (point_between m u plane)) (seen_from q (point_between l u plane))
      ≡ over u *ℤ volume along across over u l m
  unfolding volume
  cross_above u l m = seen_cross m u l u ∙
      ring (along u ∷ across u ∷ over u ∷ along l ∷ across l ∷ over l ∷ along m ∷ across m ∷ over m
      ∷ [])
      ((v7 ⊗ v2 ⊖ v1 ⊗ v8) ⊗ (v3 ⊗ v2 ⊖ v0 ⊗ v5) ⊖ (v6 ⊗ v2 ⊖ v0 ⊗ v8)
      ⊗ (v4 ⊗ v2 ⊖ v1 ⊗ v5))
      (v2 ⊗ (v2 ⊗ (v3 ⊗ v7 ⊖ v4 ⊗ v6)
      ⊕ (v5 ⊗ (v6 ⊗ v1 ⊖ v7 ⊗ v0) ⊕ v8 ⊗ (v0 ⊗ v4 ⊖ v1 ⊗ v3)))) refl

  -- l alone lies below
  cross_below : (l u v : Pt3) → cross (seen_from q (point_between l u plane)) (seen_from q (point_between l v plane))
      ≡ under l *ℤ volume along across over l u v
  unfolding volume
  cross_below l u v = seen_cross l u l v ∙
      ring (along l ∷ across l ∷ l.z ∷ along u ∷ across u ∷ u.z ∷ along v ∷ across v ∷ v.z ∷ plane
      ∷ [])
      (let A = num (pos 2) ⊗ v2 ⊖ v9 in let B = num (pos 2) ⊗ v5 ⊖ v9 in let C = num (pos 2) ⊗ v8 ⊖ v9 in
      (v1 ⊗ B ⊖ v4 ⊗ A) ⊗ (v0 ⊗ C ⊖ v6 ⊗ A) ⊖ (v0 ⊗ B ⊖ v3 ⊗ A) ⊗ (v1 ⊗ C ⊖ v7 ⊗ A))
      (let A = num (pos 2) ⊗ v2 ⊖ v9 in let B = num (pos 2) ⊗ v5 ⊖ v9 in let C = num (pos 2) ⊗ v8 ⊖ v9 in
      (v9 ⊖ num (pos 2) ⊗ v2) ⊗ (A ⊗ (v3 ⊗ v7 ⊖ v4 ⊗ v6)
      ⊕ (B ⊗ (v6 ⊗ v1 ⊖ v7 ⊗ v0) ⊕ C ⊗ (v0 ⊗ v4 ⊖ v1 ⊗ v3)))) refl

  abbrev way : Pt3 → Pt3 → Pt3 → Pt3 → Segment
  way l u m v = record { from = point_between l u plane; to = point_between m v plane }

  abbrev IsUp : Pt3 → Type 0
  IsUp p = is_above plane p.z ≡ true

  abbrev IsDown : Pt3 → Type 0
  IsDown p = is_below plane p.z ≡ true

  proper_way : (l u m v : Pt3) → IsDown l → IsUp u → IsDown m → IsUp v → IsProper (way l u m v)
  proper_way l u m v hl hu hm hv = record { from = apart plane l.z u.z hl hu; to = apart plane m.z v.z hm hv }

  left_above : (u l m : Pt3) → IsUp u → IsDown l → IsDown m → pos 0 <ℤ volume along across over u l m
      → HasLeft q dq (way m u l u)
  left_above u l m hu hl hm i = record {
    proper = proper_way m u l u hm hu hl hu;
    left = positive_by (cross (seen_from q (point_between m u plane)) (seen_from q (point_between l u plane))) (over u)
        (volume along across over u l m) (cross_above u l m) (above_up plane u.z hu) i;
  }

  left_below : (l u v : Pt3) → IsDown l → IsUp u → IsUp v → pos 0 <ℤ volume along across over l u v
      → HasLeft q dq (way l u l v)
  left_below l u v hl hu hv i = record {
    proper = proper_way l u l v hl hu hl hv;
    left = positive_by (cross (seen_from q (point_between l u plane)) (seen_from q (point_between l v plane))) (under l)
        (volume along across over l u v) (cross_below l u v) (below_up plane l.z hl) i;
  }

  -- ---- the cut of a triangle by which of its corners lie above
  abbrev ab : Triangle → Side
  ab t = record { from = t.a; to = t.b }

  abbrev bc : Triangle → Side
  bc t = record { from = t.b; to = t.c }

  abbrev ca : Triangle → Side
  ca t = record { from = t.c; to = t.a }

  abbrev cut_by : Triangle → Bool → Bool → Bool → Bool → Bool → Bool → Option Segment
  cut_by t a a' b b' c c' = cut_between plane
      (cond (a && b') (Some (ab t)) (cond (b && c') (Some (bc t)) (cond (c && a') (Some (ca t)) None)))
      (cond (a' && b) (Some (ab t)) (cond (b' && c) (Some (bc t)) (cond (c' && a) (Some (ca t)) None)))

  abbrev cut_told : Triangle → Bool → Bool → Bool → Option Segment
  cut_told t a b c = cut_by t a (not a) b (not b) c (not c)

  as_told : (t : Triangle) → cut_of plane t
      ≡ cut_told t (is_above plane t.a.z) (is_above plane t.b.z) (is_above plane t.c.z)
  as_told t = λ i. cut_by t (is_above plane t.a.z) (below_or_above layer h t.a.z i) (is_above plane t.b.z)
      (below_or_above layer h t.b.z i) (is_above plane t.c.z) (below_or_above layer h t.c.z i)

  down : (p : Pt3) → is_above plane p.z ≡ false → IsDown p
  down p e = below_or_above layer h p.z ∙ ap not e

  abbrev LeftOf : Option Segment → Type 0
  LeftOf None = ⊤
  LeftOf (Some s) = HasLeft q dq (back s)

  left_told : (t : Triangle) → IsInside t → (a b c : Bool) → is_above plane t.a.z ≡ a
      → is_above plane t.b.z ≡ b → is_above plane t.c.z ≡ c → LeftOf (cut_told t a b c)
  left_told t i true true true ha hb hc = tt
  left_told t i false false false ha hb hc = tt
  left_told t i true false false ha hb hc = left_above t.a t.b t.c ha (down t.b hb) (down t.c hc) i
  left_told t i false true false ha hb hc =
      left_above t.b t.c t.a hb (down t.c hc) (down t.a ha)
      (subst (λ (z : ℤ). pos 0 <ℤ z) (sym (turned_volume t.a t.b t.c)) i)
  left_told t i false false true ha hb hc =
      left_above t.c t.a t.b hc (down t.a ha) (down t.b hb)
      (subst (λ (z : ℤ). pos 0 <ℤ z) (sym (turned_volume t.a t.b t.c) ∙ sym (turned_volume t.b t.c t.a)) i)
  left_told t i false true true ha hb hc = left_below t.a t.b t.c (down t.a ha) hb hc i
  left_told t i true false true ha hb hc =
      left_below t.b t.c t.a (down t.b hb) hc ha
      (subst (λ (z : ℤ). pos 0 <ℤ z) (sym (turned_volume t.a t.b t.c)) i)
  left_told t i true true false ha hb hc =
      left_below t.c t.a t.b (down t.c hc) ha hb
      (subst (λ (z : ℤ). pos 0 <ℤ z) (sym (turned_volume t.a t.b t.c) ∙ sym (turned_volume t.b t.c t.a)) i)

  left_cut : (t : Triangle) → IsInside t → LeftOf (cut_of plane t)
  left_cut t i = subst LeftOf (sym (as_told t))
      (left_told t i (is_above plane t.a.z) (is_above plane t.b.z) (is_above plane t.c.z) refl refl refl)

  left_more : (o : Option Segment) (ss : List Segment) → LeftOf o → AllByRecursion (HasLeft q dq) (map back ss)
      → AllByRecursion (HasLeft q dq) (map back (cons_option o ss))
  left_more None ss h k = k
  left_more (Some s) ss h k = (h, k)

  left_cuts : (ts : List Triangle) → AllByRecursion IsInside ts
      → AllByRecursion (HasLeft q dq) (map back (cuts_of plane ts))
  left_cuts [] i = tt
  left_cuts (t ∷ ts) i = left_more (cut_of plane t) (cuts_of plane ts) (left_cut t i.0) (left_cuts ts i.1)

  -- ---- some triangle is cut
  alike : (t : Triangle) (a b c : Bool) → cut_told t a b c ≡ None → (a ≡ b) × (a ≡ c)
  alike t true true true e = (refl, refl)
  alike t false false false e = (refl, refl)
  alike t true false false e = absurd (no_none e)
  alike t false true false e = absurd (no_none e)
  alike t false false true e = absurd (no_none e)
  alike t false true true e = absurd (no_none e)
  alike t true false true e = absurd (no_none e)
  alike t true true false e = absurd (no_none e)

  uncut : (t : Triangle) → cut_of plane t ≡ None
      → (is_above plane t.a.z ≡ is_above plane t.b.z) × (is_above plane t.a.z ≡ is_above plane t.c.z)
  uncut t e = alike t (is_above plane t.a.z) (is_above plane t.b.z) (is_above plane t.c.z) (sym (as_told t) ∙ e)

  none_first : (o : Option Segment) (ss : List Segment) → cons_option o ss ≡ [] → o ≡ None
  none_first None ss e = refl
  none_first (Some s) ss e = absurd (no_nil e)

  none_rest : (o : Option Segment) (ss : List Segment) → cons_option o ss ≡ [] → ss ≡ []
  none_rest None ss e = e
  none_rest (Some s) ss e = absurd (no_nil e)

  all_up : (t : Triangle) → IsInside t → is_above plane t.a.z ≡ true → is_above plane t.b.z ≡ true
      → is_above plane t.c.z ≡ true → IsToward along across over t
  all_up t i a b c = record {
    first = above_up plane t.a.z a;
    second = above_up plane t.b.z b;
    third
        = above_up plane t.c.z c;
    round = i;
  }

  all_down : (t : Triangle) → IsInside t → is_above plane t.a.z ≡ false → is_above plane t.b.z ≡ false
      → is_above plane t.c.z ≡ false → IsToward across along under t
  all_down t i a b c = record {
    first = below_up plane t.a.z (down t.a a);
    second = below_up plane t.b.z (down t.b b);
    third = below_up plane t.c.z (down t.c c);
    round = subst (λ (z : ℤ). pos 0 <ℤ z) (sym (under_volume t.a t.b t.c)) i;
  }

  over_sided : (t : Triangle) → IsInside t → cut_of plane t ≡ None → IsSided along across over t
  over_sided t i e = by_test (is_above plane t.a.z) refl
    where
      by_test : (b : Bool) → is_above plane t.a.z ≡ b → IsSided along across over t
      by_test true a = inl (all_up t i a (sym (uncut t e).0 ∙ a) (sym (uncut t e).1 ∙ a))
      by_test false a = inr (record {
        first = above_low plane t.a.z a;
        second
            = above_low plane t.b.z (sym (uncut t e).0 ∙ a);
        third = above_low plane t.c.z (sym (uncut t e).1 ∙ a);
      })

  under_sided : (t : Triangle) → IsInside t → cut_of plane t ≡ None → IsSided across along under t
  under_sided t i e = by_test (is_above plane t.a.z) refl
    where
      by_test : (b : Bool) → is_above plane t.a.z ≡ b → IsSided across along under t
      by_test true a = inr (record {
        first = above_under plane t.a.z a;
        second
            = above_under plane t.b.z (sym (uncut t e).0 ∙ a);
        third
            = above_under plane t.c.z (sym (uncut t e).1 ∙ a);
      })
      by_test false a = inl (all_down t i a (sym (uncut t e).0 ∙ a) (sym (uncut t e).1 ∙ a))

  overs : (ts : List Triangle) → AllByRecursion IsInside ts → cuts_of plane ts ≡ []
      → AllByRecursion (IsSided along across over) ts
  overs [] i e = tt
  overs (t ∷ ts) i e = (
    over_sided t i.0 (none_first (cut_of plane t) (cuts_of plane ts) e),
    overs ts i.1 (none_rest (cut_of plane t) (cuts_of plane ts) e),
  )

  unders : (ts : List Triangle) → AllByRecursion IsInside ts → cuts_of plane ts ≡ []
      → AllByRecursion (IsSided across along under) ts
  unders [] i e = tt
  unders (t ∷ ts) i e = (
    under_sided t i.0 (none_first (cut_of plane t) (cuts_of plane ts) e),
    unders ts i.1 (none_rest (cut_of plane t) (cuts_of plane ts) e),
  )

  some_cut : (t : Triangle) (ts : List Triangle) → is_closed (t ∷ ts) ≡ true
      → AllByRecursion IsInside (t ∷ ts) → cuts_of plane (t ∷ ts) ≡ [] → ⊥
  some_cut t ts closed i e = by_test (is_above plane t.a.z) refl
    where
      un : (is_above plane t.a.z ≡ is_above plane t.b.z) × (is_above plane t.a.z ≡ is_above plane t.c.z)
      un = uncut t (none_first (cut_of plane t) (cuts_of plane ts) e)

      by_test : (b : Bool) → is_above plane t.a.z ≡ b → ⊥
      by_test true a = one_open along across over t (all_up t i.0 a (sym un.0 ∙ a) (sym un.1 ∙ a)) ts
          (overs ts i.1 (none_rest (cut_of plane t) (cuts_of plane ts) e)) closed
      by_test false a = one_open across along under t (all_down t i.0 a (sym un.0 ∙ a) (sym un.1 ∙ a)) ts
          (unders ts i.1 (none_rest (cut_of plane t) (cuts_of plane ts) e)) closed

  -- ---- the two halves
  below_zero : (y z : ℤ) → pos 1 ≤ℤ y → y ≡ pos 0 -ℤ z → z <ℤ pos 0
  below_zero y z h e = omega (arith, ints)

  wound : (ss : List Segment) → (ss ≡ [] → ⊥) → AllByRecursion (HasLeft q dq) (map back ss) → IsBalanced ss
      → wind q ss <ℤ pos 0
  wound [] n h b = absurd (n refl)
  wound (s ∷ ss) n h b =
      below_zero (wind q (map back (s ∷ ss))) (wind q (s ∷ ss))
      (winds q dq (back s) (map back ss) h (back_balanced (s ∷ ss) b)) (back_wind q dq (s ∷ ss) h)

  -- a closed surface of which the point lies on the inner side of each triangle winds round it, clockwise
  pub inside_winds : (t : Triangle) (ts : List Triangle) → is_closed (t ∷ ts) ≡ true
      → AllByRecursion IsInside (t ∷ ts) → wind q (cuts_of plane (t ∷ ts)) <ℤ pos 0
  inside_winds t ts closed i =
      wound (cuts_of plane (t ∷ ts)) (some_cut t ts closed i) (left_cuts (t ∷ ts) i)
      (cuts_balanced layer h (t ∷ ts) closed)

  -- a plane through the point that has all corners on one side
  module _ (u v k : ℤ) where
    abbrev beyond : Pt3 → ℤ
    beyond p = u *ℤ across p +ℤ (v *ℤ along p +ℤ k *ℤ over p)

    pub record IsBeyond (t : Triangle) : Type 0 where
      pub first : pos 0 <ℤ beyond t.a
      pub second : pos 0 <ℤ beyond t.b
      pub third : pos 0 <ℤ beyond t.c

    met : (l w : Pt3) → u *ℤ (seen_from q (point_between l w plane)).x +ℤ v *ℤ
        (seen_from q (point_between l w plane)).y ≡ beyond l *ℤ over w +ℤ beyond w *ℤ under l
    met l w = ap₂ (λ (x y : ℤ). u *ℤ x +ℤ v *ℤ y) (seen_x l w) (seen_y l w) ∙
        ring (across l ∷ along l ∷ l.z ∷ across w ∷ along w ∷ w.z ∷ plane ∷ u ∷ v ∷ k ∷ [])
        (let A = num (pos 2) ⊗ v2 ⊖ v6 in let B = num (pos 2) ⊗ v5 ⊖ v6 in v7 ⊗ (v0 ⊗ B ⊖ v3 ⊗ A) ⊕ v8 ⊗ (v1 ⊗ B ⊖ v4 ⊗ A))
        (let A = num (pos 2) ⊗ v2 ⊖ v6 in let B = num (pos 2) ⊗ v5 ⊖ v6 in
        (v7 ⊗ v0 ⊕ (v8 ⊗ v1 ⊕ v9 ⊗ A)) ⊗ B ⊕ (v7 ⊗ v3 ⊕ (v8 ⊗ v4 ⊕ v9 ⊗ B))
        ⊗ (v6 ⊖ num (pos 2) ⊗ v2)) refl

    sum_beyond : (z s r : ℤ) → z ≡ s +ℤ r → pos 0 <ℤ s → pos 0 <ℤ r → pos 0 <ℤ z
    sum_beyond z s r e h g = omega (arith, ints)

    met_beyond : (l w : Pt3) → IsDown l → IsUp w → pos 0 <ℤ beyond l → pos 0 <ℤ beyond w
        → pos 0 <ℤ (u *ℤ (seen_from q (point_between l w plane)).x +ℤ v *ℤ
        (seen_from q (point_between l w plane)).y)
    met_beyond l w hl hw bl bw =
        sum_beyond (u *ℤ (seen_from q (point_between l w plane)).x +ℤ v *ℤ
        (seen_from q (point_between l w plane)).y) (beyond l *ℤ over w) (beyond w *ℤ under l) (met l w)
        (positive_product (beyond l) (over w) bl (above_up plane w.z hw))
        (positive_product (beyond w) (under l) bw (below_up plane l.z hl))

    beside_way : (l w m r : Pt3) → IsDown l → IsUp w → IsDown m → IsUp r → pos 0 <ℤ beyond l
        → pos 0 <ℤ beyond w → pos 0 <ℤ beyond m → pos 0 <ℤ beyond r → IsBeside q dq u v (way l w m r)
    beside_way l w m r hl hw hm hr bl bw bm br
        = record {
          proper = proper_way l w m r hl hw hm hr;
          from = met_beyond l w hl hw bl bw;
          to
              = met_beyond m r hm hr bm br;
        }

    abbrev BesideOf : Option Segment → Type 0
    BesideOf None = ⊤
    BesideOf (Some s) = IsBeside q dq u v s

    beside_told : (t : Triangle) → IsBeyond t → (a b c : Bool) → is_above plane t.a.z ≡ a
        → is_above plane t.b.z ≡ b → is_above plane t.c.z ≡ c → BesideOf (cut_told t a b c)
    beside_told t i true true true ha hb hc = tt
    beside_told t i false false false ha hb hc = tt
    beside_told t i true false false ha hb hc
        = beside_way t.b t.a t.c t.a (down t.b hb) ha (down t.c hc) ha i.second i.first i.third i.first
    beside_told t i false true false ha hb hc
        = beside_way t.c t.b t.a t.b (down t.c hc) hb (down t.a ha) hb i.third i.second i.first i.second
    beside_told t i false false true ha hb hc
        = beside_way t.a t.c t.b t.c (down t.a ha) hc (down t.b hb) hc i.first i.third i.second i.third
    beside_told t i false true true ha hb hc
        = beside_way t.a t.c t.a t.b (down t.a ha) hc (down t.a ha) hb i.first i.third i.first i.second
    beside_told t i true false true ha hb hc
        = beside_way t.b t.a t.b t.c (down t.b hb) ha (down t.b hb) hc i.second i.first i.second i.third
    beside_told t i true true false ha hb hc
        = beside_way t.c t.b t.c t.a (down t.c hc) hb (down t.c hc) ha i.third i.second i.third i.first

    beside_more : (o : Option Segment) (ss : List Segment) → BesideOf o → AllByRecursion (IsBeside q dq u v) ss
        → AllByRecursion (IsBeside q dq u v) (cons_option o ss)
    beside_more None ss h k = k
    beside_more (Some s) ss h k = (h, k)

    beside_cuts : (ts : List Triangle) → AllByRecursion IsBeyond ts
        → AllByRecursion (IsBeside q dq u v) (cuts_of plane ts)
    beside_cuts [] i = tt
    beside_cuts (t ∷ ts) i =
        beside_more (cut_of plane t) (cuts_of plane ts)
        (subst BesideOf (sym (as_told t)) (beside_told t i.0 (is_above plane t.a.z) (is_above plane t.b.z)
        (is_above plane t.c.z) refl refl refl)) (beside_cuts ts i.1)

    -- a closed surface beyond a plane through the point doesn't wind round it
    pub outside_unwound : (ts : List Triangle) → is_closed ts ≡ true → AllByRecursion IsBeyond ts
        → wind q (cuts_of plane ts) ≡ pos 0
    outside_unwound ts closed i = unwound q dq u v (cuts_of plane ts) (beside_cuts ts i)
        (cuts_balanced layer h ts closed)
