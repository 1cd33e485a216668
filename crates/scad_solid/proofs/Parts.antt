-- How an edge's crossing of a ray is told by signs, and that the parts of an edge cross it as the whole does.
use Rattle.std.proofs.Common.{◌≡◌, ℕ, zero, suc, Bool, true, false, [], ◌∷◌, ℤ, pos, negsuc, ◌+ℤ◌, ◌-ℤ◌, ◌*ℤ◌, ◌<ℤ◌, arith, refl, ap, ap₂, sym, ◌∙◌}
use Rattle.std.specs.Prelude.{int_lt, if◌then◌else◌}
use Rattle.std.proofs.lemmas.Int.{ints}
use Rattle.scad_geom.specs.declared.point.Pt.{Pt}
use Rattle.scad_geom.specs.declared.point.Edge.{Edge}
use Rattle.scad_geom.specs.Winding.{counted}
use Rattle.scad_geom.proofs.Crossing.{side_of, crossing, scaled, times_point}
use Rattle.scad_geom.proofs.Ring.{ring, var, plus, less, times}
use Rattle.scad_base.proofs.Tests.{cond_same}

-- the crossing by whether each end lies above, and on which side the point lies
abbrev pub told : Bool → Bool → Bool → Bool → ℤ
told false false left right = pos 0
told false true left right = if left then pos 1 else pos 0
told true false left right = if right then negsuc 0 else pos 0
told true true left right = pos 0

crossing_by : (a b : Bool) (s : ℤ) → (if int_lt (pos 0) ((counted b -ℤ counted a) *ℤ s) then counted b -ℤ counted a else
    pos 0) ≡ told a b (int_lt (pos 0) s) (int_lt s (pos 0))
crossing_by false false s = cond_same (int_lt (pos 0) ((pos 0 -ℤ pos 0) *ℤ s)) (pos 0)
crossing_by false true s = let same : (pos 1 -ℤ pos 0) *ℤ s ≡ s = omega (arith, ints) in ap (λ z. if int_lt (pos 0) z then pos 1 else pos 0) same
crossing_by true false (pos zero) = refl
crossing_by true false (pos (suc n)) = grind (arith, ints)
crossing_by true false (negsuc n) = grind (arith, ints)
crossing_by true true s = cond_same (int_lt (pos 0) ((pos 1 -ℤ pos 1) *ℤ s)) (pos 0)

pub crossing-told : (e : Edge) (x y : ℤ) → crossing e x y ≡ told (int_lt y e.a.y) (int_lt y e.b.y)
    (int_lt (pos 0) (side_of e x y)) (int_lt (side_of e x y) (pos 0))
crossing-told e x y = crossing_by (int_lt y e.a.y) (int_lt y e.b.y) (side_of e x y)

-- signs of products with positive numbers
sign_up : (k : ℕ) (s : ℤ) → int_lt (pos 0) (pos (suc k) *ℤ s) ≡ int_lt (pos 0) s
sign_up k (pos n) = grind (arith, ints)
sign_up k (negsuc n) = grind (arith, ints)

sign_down : (k : ℕ) (s : ℤ) → int_lt (pos (suc k) *ℤ s) (pos 0) ≡ int_lt s (pos 0)
sign_down k (pos n) = grind (arith, ints)
sign_down k (negsuc n) = grind (arith, ints)

pub gap_sign : (a b : ℤ) → int_lt a b ≡ int_lt (pos 0) (b -ℤ a)
gap_sign a b = grind (arith, ints)

side_of-scaled : (k : ℤ) (e : Edge) (x y : ℤ) → side_of (scaled k e) (k *ℤ x) (k *ℤ y) ≡ k *ℤ (k *ℤ side_of e x y)
side_of-scaled k e x y =
    let K = var 0 in let AX = var 1 in let AY = var 2 in let BX = var 3 in let BY = var 4 in let X = var 5 in let Y = var 6 in
    ring (k ∷ e.a.x ∷ e.a.y ∷ e.b.x ∷ e.b.y ∷ x ∷ y ∷ [])
    (less (times (less (times K BX) (times K AX)) (less (times K Y) (times K AY)))
    (times (less (times K BY) (times K AY)) (less (times K X) (times K AX))))
    (times K (times K (less (times (less BX AX) (less Y AY)) (times (less BY AY) (less X AX))))) refl

-- a crossing is the same at every scale
pub crossing-scaled : (k : ℕ) (e : Edge) (x y : ℤ) → crossing (scaled (pos (suc k)) e) (pos (suc k) *ℤ x)
    (pos (suc k) *ℤ y) ≡ crossing e x y
crossing-scaled k e x y =
    crossing-told (scaled (pos (suc k)) e) (pos (suc k) *ℤ x) (pos (suc k) *ℤ y)
    ∙ (λ i. told (height e.a.y i) (height e.b.y i) (left i) (right i))
    ∙ sym (crossing-told e x y)
  where
    height : (h : ℤ) → int_lt (pos (suc k) *ℤ y) (pos (suc k) *ℤ h) ≡ int_lt y h
    height h =
        let factor : pos (suc k) *ℤ h -ℤ pos (suc k) *ℤ y ≡ pos (suc k) *ℤ (h -ℤ y) = ring (pos (suc k) ∷ h ∷ y ∷ [])
        (less (times (var 0) (var 1)) (times (var 0) (var 2))) (times (var 0) (less (var 1) (var 2))) refl in
        gap_sign (pos (suc k) *ℤ y) (pos (suc k) *ℤ h) ∙ ap (int_lt (pos 0)) factor ∙ sign_up k (h -ℤ y) ∙ sym
        (gap_sign y h)

    left : int_lt (pos 0) (side_of (scaled (pos (suc k)) e) (pos (suc k) *ℤ x) (pos (suc k) *ℤ y)) ≡ int_lt (pos 0)
        (side_of e x y)
    left = ap (int_lt (pos 0)) (side_of-scaled (pos (suc k)) e x y) ∙ sign_up k (pos (suc k) *ℤ side_of e x y) ∙ sign_up
        k (side_of e x y)

    right : int_lt (side_of (scaled (pos (suc k)) e) (pos (suc k) *ℤ x) (pos (suc k) *ℤ y)) (pos 0)
        ≡ int_lt (side_of e x y) (pos 0)
    right = ap (λ s. int_lt s (pos 0)) (side_of-scaled (pos (suc k)) e x y) ∙ sign_down k (pos (suc k) *ℤ side_of e x y)
        ∙ sign_down k (side_of e x y)

-- the point of an edge that divides it as v to u, over the divisor u + v
abbrev pub mixed : ℤ → ℤ → Edge → Pt
mixed u v e = record { x = u *ℤ e.a.x +ℤ v *ℤ e.b.x; y = u *ℤ e.a.y +ℤ v *ℤ e.b.y }

-- the table: a point between two ends lies above where both do, and below where both do
parts_told : (a b m left right : Bool) → ((a ≡ true) → (b ≡ true) → m ≡ true) → ((a ≡ false) → (b ≡ false) → m ≡ false)
    → told a m left right +ℤ told m b left right ≡ told a b left right
parts_told false false false l r up down = refl
parts_told false false true l r up down = let no = down refl refl in cc
parts_told true true true l r up down = refl
parts_told true true false l r up down = let no = up refl refl in cc
parts_told false true true true r up down = refl
parts_told false true true false r up down = refl
parts_told false true false true r up down = refl
parts_told false true false false r up down = refl
parts_told true false true l true up down = refl
parts_told true false true l false up down = refl
parts_told true false false l true up down = refl
parts_told true false false l false up down = refl

side_of-first : (u v ax ay bx by x y : ℤ) →
    ((u *ℤ ax +ℤ v *ℤ bx) -ℤ (u +ℤ v) *ℤ ax) *ℤ ((u +ℤ v) *ℤ y -ℤ (u +ℤ v) *ℤ ay) -ℤ ((u *ℤ ay +ℤ v *ℤ by) -ℤ (u +ℤ v)
    *ℤ ay) *ℤ ((u +ℤ v) *ℤ x -ℤ (u +ℤ v) *ℤ ax)
    ≡ (u +ℤ v) *ℤ (v *ℤ ((bx -ℤ ax) *ℤ (y -ℤ ay) -ℤ (by -ℤ ay) *ℤ (x -ℤ ax)))
side_of-first u v ax ay bx by x y =
    let U = var 0 in let V = var 1 in let AX = var 2 in let AY = var 3 in let BX = var 4 in let BY = var 5 in let X = var 6 in let Y = var 7 in
    let W = plus U V in
    ring (u ∷ v ∷ ax ∷ ay ∷ bx ∷ by ∷ x ∷ y ∷ [])
    (less (times (less (plus (times U AX) (times V BX)) (times W AX)) (less (times W Y) (times W AY)))
    (times (less (plus (times U AY) (times V BY)) (times W AY)) (less (times W X) (times W AX))))
    (times W (times V (less (times (less BX AX) (less Y AY)) (times (less BY AY) (less X AX))))) refl

side_of-second : (u v ax ay bx by x y : ℤ) →
    ((u +ℤ v) *ℤ bx -ℤ (u *ℤ ax +ℤ v *ℤ bx)) *ℤ ((u +ℤ v) *ℤ y -ℤ (u *ℤ ay +ℤ v *ℤ by)) -ℤ
    ((u +ℤ v) *ℤ by -ℤ (u *ℤ ay +ℤ v *ℤ by)) *ℤ ((u +ℤ v) *ℤ x -ℤ (u *ℤ ax +ℤ v *ℤ bx))
    ≡ (u +ℤ v) *ℤ (u *ℤ ((bx -ℤ ax) *ℤ (y -ℤ ay) -ℤ (by -ℤ ay) *ℤ (x -ℤ ax)))
side_of-second u v ax ay bx by x y =
    let U = var 0 in let V = var 1 in let AX = var 2 in let AY = var 3 in let BX = var 4 in let BY = var 5 in let X = var 6 in let Y = var 7 in
    let W = plus U V in
    ring (u ∷ v ∷ ax ∷ ay ∷ bx ∷ by ∷ x ∷ y ∷ [])
    (less (times (less (times W BX) (plus (times U AX) (times V BX)))
    (less (times W Y) (plus (times U AY) (times V BY)))) (times (less (times W BY) (plus (times U AY) (times V BY)))
    (less (times W X) (plus (times U AX) (times V BX)))))
    (times W (times U (less (times (less BX AX) (less Y AY)) (times (less BY AY) (less X AX))))) refl

-- signs of products with any positive number
pub sign_up_by : (k s : ℤ) → pos 0 <ℤ k → int_lt (pos 0) (k *ℤ s) ≡ int_lt (pos 0) s
sign_up_by (pos zero) s some = absurd (omega (arith, ints))
sign_up_by (pos (suc n)) s some = sign_up n s
sign_up_by (negsuc n) s some = absurd (omega (arith, ints))

pub sign_down_by : (k s : ℤ) → pos 0 <ℤ k → int_lt (k *ℤ s) (pos 0) ≡ int_lt s (pos 0)
sign_down_by (pos zero) s some = absurd (omega (arith, ints))
sign_down_by (pos (suc n)) s some = sign_down n s
sign_down_by (negsuc n) s some = absurd (omega (arith, ints))

sum_up : (p q : ℤ) → int_lt (pos 0) p ≡ true → int_lt (pos 0) q ≡ true → int_lt (pos 0) (p +ℤ q) ≡ true
sum_up p q a b = grind (arith, ints)

sum_not_up : (p q : ℤ) → int_lt (pos 0) p ≡ false → int_lt (pos 0) q ≡ false → int_lt (pos 0) (p +ℤ q) ≡ false
sum_not_up p q a b = grind (arith, ints)

module _ (u v : ℤ) (some_u : pos 0 <ℤ u) (some_v : pos 0 <ℤ v) (e : Edge) (x y : ℤ) where
  whole_some : pos 0 <ℤ (u +ℤ v)
  whole_some = omega (arith, ints)

  height : (h : ℤ) → int_lt ((u +ℤ v) *ℤ y) ((u +ℤ v) *ℤ h) ≡ int_lt y h
  height h =
      let factor : (u +ℤ v) *ℤ h -ℤ (u +ℤ v) *ℤ y ≡ (u +ℤ v) *ℤ (h -ℤ y) = ring (u ∷ v ∷ h ∷ y ∷ [])
      (less (times (plus (var 0) (var 1)) (var 2)) (times (plus (var 0) (var 1)) (var 3)))
      (times (plus (var 0) (var 1)) (less (var 2) (var 3))) refl in
      gap_sign ((u +ℤ v) *ℤ y) ((u +ℤ v) *ℤ h) ∙ ap (int_lt (pos 0)) factor ∙ sign_up_by (u +ℤ v) (h -ℤ y) whole_some ∙
      sym (gap_sign y h)

  middle : int_lt ((u +ℤ v) *ℤ y) (u *ℤ e.a.y +ℤ v *ℤ e.b.y) ≡ int_lt (pos 0) (u *ℤ (e.a.y -ℤ y) +ℤ v *ℤ (e.b.y -ℤ y))
  middle =
      let factor : (u *ℤ e.a.y +ℤ v *ℤ e.b.y) -ℤ (u +ℤ v) *ℤ y ≡ u *ℤ (e.a.y -ℤ y) +ℤ v *ℤ (e.b.y -ℤ y) =
      ring (u ∷ v ∷ e.a.y ∷ e.b.y ∷ y ∷ []) (less (plus (times (var 0) (var 2)) (times (var 1) (var 3)))
      (times (plus (var 0) (var 1)) (var 4))) (plus (times (var 0) (less (var 2) (var 4)))
      (times (var 1) (less (var 3) (var 4)))) refl in
      gap_sign ((u +ℤ v) *ℤ y) (u *ℤ e.a.y +ℤ v *ℤ e.b.y) ∙ ap (int_lt (pos 0)) factor

  weighted_sign : (k h : ℤ) → pos 0 <ℤ k → int_lt (pos 0) (k *ℤ (h -ℤ y)) ≡ int_lt y h
  weighted_sign k h some = sign_up_by k (h -ℤ y) some ∙ sym (gap_sign y h)

  middle_up : int_lt y e.a.y ≡ true → int_lt y e.b.y ≡ true → int_lt ((u +ℤ v) *ℤ y) (u *ℤ e.a.y +ℤ v *ℤ e.b.y) ≡ true
  middle_up a b = middle ∙ sum_up (u *ℤ (e.a.y -ℤ y)) (v *ℤ (e.b.y -ℤ y)) (weighted_sign u e.a.y some_u ∙ a)
      (weighted_sign v e.b.y some_v ∙ b)

  middle_down : int_lt y e.a.y ≡ false → int_lt y e.b.y ≡ false → int_lt ((u +ℤ v) *ℤ y) (u *ℤ e.a.y +ℤ v *ℤ e.b.y)
      ≡ false
  middle_down a b = middle ∙ sum_not_up (u *ℤ (e.a.y -ℤ y)) (v *ℤ (e.b.y -ℤ y)) (weighted_sign u e.a.y some_u ∙ a)
      (weighted_sign v e.b.y some_v ∙ b)

-- the two parts of an edge together cross a ray as the whole does
pub crossing-parts : (u v : ℤ) → pos 0 <ℤ u → pos 0 <ℤ v → (e : Edge) (x y : ℤ) →
    crossing (record { a = times_point (u +ℤ v) e.a; b = mixed u v e }) ((u +ℤ v) *ℤ x) ((u +ℤ v) *ℤ y)
    +ℤ crossing (record { a = mixed u v e; b = times_point (u +ℤ v) e.b }) ((u +ℤ v) *ℤ x) ((u +ℤ v) *ℤ y)
    ≡ crossing e x y
crossing-parts u v some_u some_v e x y =
    let w = u +ℤ v in
    let m = int_lt (w *ℤ y) (u *ℤ e.a.y +ℤ v *ℤ e.b.y) in
    let s = side_of e x y in
    let some_w : pos 0 <ℤ w = whole_some u v some_u some_v e x y in
    let first = side_of-first u v e.a.x e.a.y e.b.x e.b.y x y in
    let second = side_of-second u v e.a.x e.a.y e.b.x e.b.y x y in
    let up_first : int_lt (pos 0) (w *ℤ (v *ℤ s)) ≡ int_lt (pos 0) s = sign_up_by w (v *ℤ s) some_w ∙ sign_up_by v s
    some_v in
    let down_first : int_lt (w *ℤ (v *ℤ s)) (pos 0) ≡ int_lt s (pos 0) = sign_down_by w (v *ℤ s) some_w ∙ sign_down_by v
    s some_v in
    let up_second : int_lt (pos 0) (w *ℤ (u *ℤ s)) ≡ int_lt (pos 0) s = sign_up_by w (u *ℤ s) some_w ∙ sign_up_by u s
    some_u in
    let down_second : int_lt (w *ℤ (u *ℤ s)) (pos 0) ≡ int_lt s (pos 0) = sign_down_by w (u *ℤ s) some_w ∙ sign_down_by
    u s some_u in
    let at_a = height u v some_u some_v e x y e.a.y in
    let at_b = height u v some_u some_v e x y e.b.y in
    ap₂ (λ p q. p +ℤ q)
    (crossing-told (record { a = times_point w e.a; b = mixed u v e }) (w *ℤ x) (w *ℤ y) ∙
    (λ i. told (at_a i) m ((ap (int_lt (pos 0)) first ∙ up_first) i)
    ((ap (λ z. int_lt z (pos 0)) first ∙ down_first) i)))
    (crossing-told (record { a = mixed u v e; b = times_point w e.b }) (w *ℤ x) (w *ℤ y) ∙
    (λ i. told m (at_b i) ((ap (int_lt (pos 0)) second ∙ up_second) i)
    ((ap (λ z. int_lt z (pos 0)) second ∙ down_second) i)))
    ∙ parts_told (int_lt y e.a.y) (int_lt y e.b.y) m (int_lt (pos 0) s) (int_lt s (pos 0))
    (middle_up u v some_u some_v e x y) (middle_down u v some_u some_v e x y)
    ∙ sym (crossing-told e x y)
