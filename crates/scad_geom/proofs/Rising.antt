-- Where a segment meets the square of the points at most w from the origin along both axes: exactly where it isn't
-- wholly
-- beyond a side of the square and the square's corners aren't all strictly on one side of its line.
use Rattle.std.proofs.Common.{◌≡◌, ◌⊎◌, inl, inr, Bool, true, false, [], ◌∷◌, refl, arith, ℤ, pos, ◌+ℤ◌, ◌-ℤ◌, ◌*ℤ◌, ◌<ℤ◌}
use lib.Signed.{◌≤ℤ◌}
use Rattle.std.specs.Prelude.{int_le}
use Rattle.std.proofs.lemmas.Int.{ints}
use Rattle.scad_geom.proofs.Signs.{at_least_mul, at_least_left}
use Rattle.scad_geom.proofs.Ring.{ring, num, ◌⊕◌, ◌⊖◌, ◌⊗◌, v0, v1, v2, v3, v4, v5, v6}

-- the mean of a and b by the weights s and t is at most w in size
pub record Lies (w s t a b : ℤ) : Type 0 where
  pub from : (pos 0 -ℤ w *ℤ (s +ℤ t)) ≤ℤ (s *ℤ a +ℤ t *ℤ b)
  pub to : (s *ℤ a +ℤ t *ℤ b) ≤ℤ (w *ℤ (s +ℤ t))

-- some mean of (ax, ay) and (bx, by) lies in the square
pub record Found (w ax ay bx by : ℤ) : Type 0 where
  pub s : ℤ
  pub t : ℤ
  pub from : pos 0 ≤ℤ s
  pub to : pos 0 ≤ℤ t
  pub some : pos 0 <ℤ (s +ℤ t)
  pub x : Lies w s t ax bx
  pub y : Lies w s t ay by

-- what is tested of a segment that runs to the right and upwards
pub record Passes (w ax ay bx by : ℤ) : Type 0 where
  pub left : ax ≤ℤ w
  pub right : (pos 0 -ℤ w) ≤ℤ bx
  pub below : ay ≤ℤ w
  pub over : (pos 0 -ℤ w) ≤ℤ by
  pub most : (bx *ℤ ay -ℤ ax *ℤ by) ≤ℤ (w *ℤ (bx -ℤ ax) +ℤ w *ℤ (by -ℤ ay))
  pub least : (pos 0 -ℤ (bx *ℤ ay -ℤ ax *ℤ by)) ≤ℤ (w *ℤ (bx -ℤ ax) +ℤ w *ℤ (by -ℤ ay))

-- ---- a mean from the tests
start : (w a b : ℤ) → (pos 0 -ℤ w) ≤ℤ a → a ≤ℤ w → Lies w (pos 1) (pos 0) a b
start w a b h k = record { from = omega (arith, ints); to = omega (arith, ints) }

-- where the way from a to b, a below -w, reaches -w
entry : (w a b : ℤ) → (b +ℤ w) *ℤ a +ℤ ((pos 0 -ℤ w) -ℤ a) *ℤ b ≡ pos 0 -ℤ w *ℤ ((b +ℤ w) +ℤ ((pos 0 -ℤ w) -ℤ a))
entry w a b = ring (w ∷ a ∷ b ∷ []) ((v2 ⊕ v0) ⊗ v1 ⊕ ((num (pos 0) ⊖ v0) ⊖ v1) ⊗ v2)
    (num (pos 0) ⊖ v0 ⊗ ((v2 ⊕ v0) ⊕ ((num (pos 0) ⊖ v0) ⊖ v1))) refl

entry_weight : (w a b : ℤ) → w *ℤ ((b +ℤ w) +ℤ ((pos 0 -ℤ w) -ℤ a)) ≡ w *ℤ (b -ℤ a)
entry_weight w a b = ring (w ∷ a ∷ b ∷ []) (v0 ⊗ ((v2 ⊕ v0) ⊕ ((num (pos 0) ⊖ v0) ⊖ v1))) (v0 ⊗ (v2 ⊖ v1)) refl

-- how far along the other axis the way is there
entry_other : (w a b c d : ℤ) → (b +ℤ w) *ℤ c +ℤ ((pos 0 -ℤ w) -ℤ a) *ℤ d ≡ (b *ℤ c -ℤ a *ℤ d) -ℤ w *ℤ (d -ℤ c)
entry_other w a b c d = ring (w ∷ a ∷ b ∷ c ∷ d ∷ []) ((v2 ⊕ v0) ⊗ v3 ⊕ ((num (pos 0) ⊖ v0) ⊖ v1) ⊗ v4)
    ((v2 ⊗ v3 ⊖ v1 ⊗ v4) ⊖ v0 ⊗ (v4 ⊖ v3)) refl

at_side : (w a b : ℤ) → pos 0 ≤ℤ (w *ℤ (b -ℤ a)) → Lies w (b +ℤ w) ((pos 0 -ℤ w) -ℤ a) a b
at_side w a b h =
    let e = entry w a b in
    let f = entry_weight w a b in
    record { from = omega (arith, ints, e); to = omega (arith, ints, e, f) }

beside : (w a b c d : ℤ) → (pos 0 -ℤ w *ℤ (b -ℤ a)) ≤ℤ ((b *ℤ c -ℤ a *ℤ d) -ℤ w *ℤ (d -ℤ c))
    → ((b *ℤ c -ℤ a *ℤ d) -ℤ w *ℤ (d -ℤ c)) ≤ℤ (w *ℤ (b -ℤ a))
    → Lies w (b +ℤ w) ((pos 0 -ℤ w) -ℤ a) c d
beside w a b c d h k =
    let e = entry_other w a b c d in
    let f = entry_weight w a b in
    record { from = omega (arith, ints, e, f); to = omega (arith, ints, e, f) }

pub by_order : {P : Type 0} {A B : Type 0} → A ⊎ B → (A → P) → (B → P) → P
by_order (inl a) f g = f a
by_order (inr b) f g = g b

pub order : (a b : ℤ) → (a ≤ℤ b) ⊎ (b <ℤ a)
order a b = by_test (int_le a b) refl
  where
    by_test : (t : Bool) → int_le a b ≡ t → (a ≤ℤ b) ⊎ (b <ℤ a)
    by_test true q = inl (omega (arith, ints))
    by_test false q = inr (omega (arith, ints))

swapped : (ax ay bx by : ℤ) → by *ℤ ax -ℤ ay *ℤ bx ≡ pos 0 -ℤ (bx *ℤ ay -ℤ ax *ℤ by)
swapped ax ay bx by = ring (ax ∷ ay ∷ bx ∷ by ∷ []) (v3 ⊗ v0 ⊖ v1 ⊗ v2) (num (pos 0) ⊖ (v2 ⊗ v1 ⊖ v0 ⊗ v3)) refl

-- where the way is left of the square at its start, it enters at the left side, or else at the lower one
past_left : (w ax ay bx by : ℤ) → pos 0 ≤ℤ w → ax ≤ℤ bx → ay ≤ℤ by → Passes w ax ay bx by → ax <ℤ (pos 0 -ℤ w)
    → Found w ax ay bx by
past_left w ax ay bx by some rx ry p out =
    let nx : pos 0 ≤ℤ (w *ℤ (bx -ℤ ax)) = at_least_mul w (bx -ℤ ax) some (omega (arith, ints)) in
    let ny : pos 0 ≤ℤ (w *ℤ (by -ℤ ay)) = at_least_mul w (by -ℤ ay) some (omega (arith, ints)) in
    let r = p.right in
    let m = p.most in
    let l = p.least in
    let over = p.over in
    elim (order (pos 0 -ℤ w *ℤ (bx -ℤ ax)) ((bx *ℤ ay -ℤ ax *ℤ by) -ℤ w *ℤ (by -ℤ ay))) [
      | inl h ↦ record {
        s = bx +ℤ w;
        t = (pos 0 -ℤ w) -ℤ ax;
        from = omega (arith, ints);
        to = omega (arith, ints);
        some = omega (arith, ints);
        x = at_side w ax bx nx;
        y = beside w ax bx ay by h (omega (arith, ints));
      }
      | inr h ↦
          let below : ay <ℤ (pos 0 -ℤ w) = lower w ax ay bx by ry out rx h in
          record {
            s = by +ℤ w;
            t = (pos 0 -ℤ w) -ℤ ay;
            from = omega (arith, ints);
            to = omega (arith, ints);
            some = omega (arith, ints);
            x = beside w ay by ax bx (omega (arith, ints, swapped ax ay bx by))
                (omega (arith, ints, swapped ax ay bx by));
            y = at_side w ay by ny;
          }
    ]
  where
    rest_is : (w ax ay bx by : ℤ) → (ay +ℤ w) *ℤ (bx -ℤ ax) ≡ ((bx *ℤ ay -ℤ ax *ℤ by) -ℤ w *ℤ (by -ℤ ay)) +ℤ w *ℤ
        (bx -ℤ ax) -ℤ ((pos 0 -ℤ w) -ℤ ax) *ℤ (by -ℤ ay)
    rest_is w ax ay bx by = ring (w ∷ ax ∷ ay ∷ bx ∷ by ∷ []) ((v2 ⊕ v0) ⊗ (v3 ⊖ v1))
        (((v3 ⊗ v2 ⊖ v1 ⊗ v4) ⊖ v0 ⊗ (v4 ⊖ v2)) ⊕ v0 ⊗ (v3 ⊖ v1) ⊖ ((num (pos 0) ⊖ v0) ⊖ v1) ⊗ (v4 ⊖ v2)) refl

    lower : (w ax ay bx by : ℤ) → ay ≤ℤ by → ax <ℤ (pos 0 -ℤ w) → ax ≤ℤ bx → ((bx *ℤ ay -ℤ ax *ℤ by) -ℤ w *ℤ (by -ℤ ay))
        <ℤ (pos 0 -ℤ w *ℤ (bx -ℤ ax)) → ay <ℤ (pos 0 -ℤ w)
    lower w ax ay bx by ry out rx h =
        let m = at_least_mul ((pos 0 -ℤ w) -ℤ ax) (by -ℤ ay) (omega (arith, ints)) (omega (arith, ints)) in
        let e = rest_is w ax ay bx by in
        elim (order (pos 0) (ay +ℤ w)) [
          | inl k ↦ let n = at_least_mul (ay +ℤ w) (bx -ℤ ax) k (omega (arith, ints)) in absurd (omega (arith, ints, m, e, n))
          | inr k ↦ omega (arith, ints)
        ]

-- where it is within the width of the square at its start but below it, it enters at the lower side
past_below : (w ax ay bx by : ℤ) → pos 0 ≤ℤ w → ax ≤ℤ bx → ay ≤ℤ by → Passes w ax ay bx by → (pos 0 -ℤ w) ≤ℤ ax
    → ay <ℤ (pos 0 -ℤ w) → Found w ax ay bx by
past_below w ax ay bx by some rx ry p inside out =
    let ny : pos 0 ≤ℤ (w *ℤ (by -ℤ ay)) = at_least_mul w (by -ℤ ay) some (omega (arith, ints)) in
    let over = p.over in
    let l = p.least in
    let m = at_least_mul (ax +ℤ w) (by -ℤ ay) (omega (arith, ints)) (omega (arith, ints)) in
    let n = at_least_mul ((pos 0 -ℤ w) -ℤ ay) (bx -ℤ ax) (omega (arith, ints)) (omega (arith, ints)) in
    let e = parts_are w ax ay bx by in
    record {
      s = by +ℤ w;
      t = (pos 0 -ℤ w) -ℤ ay;
      from = omega (arith, ints);
      to = omega (arith, ints);
      some = omega (arith, ints);
      x = beside w ay by ax bx (omega (arith, ints, m, n, e, swapped ax ay bx by))
          (omega (arith, ints, swapped ax ay bx by));
      y = at_side w ay by ny;
    }
  where
    parts_are : (w ax ay bx by : ℤ) → (ax +ℤ w) *ℤ (by -ℤ ay) +ℤ ((pos 0 -ℤ w) -ℤ ay) *ℤ (bx -ℤ ax)
        ≡ (pos 0 -ℤ (bx *ℤ ay -ℤ ax *ℤ by)) -ℤ w *ℤ (bx -ℤ ax) +ℤ w *ℤ (by -ℤ ay)
    parts_are w ax ay bx by = ring (w ∷ ax ∷ ay ∷ bx ∷ by ∷ []) ((v1 ⊕ v0) ⊗ (v4 ⊖ v2) ⊕ ((num (pos 0) ⊖ v0) ⊖ v2) ⊗
        (v3 ⊖ v1)) ((num (pos 0) ⊖ (v3 ⊗ v2 ⊖ v1 ⊗ v4)) ⊖ v0 ⊗ (v3 ⊖ v1) ⊕ v0 ⊗ (v4 ⊖ v2)) refl

pub found : (w ax ay bx by : ℤ) → pos 0 ≤ℤ w → ax ≤ℤ bx → ay ≤ℤ by → Passes w ax ay bx by → Found w ax ay bx by
found w ax ay bx by some rx ry p =
    elim (order (pos 0 -ℤ w) ax) [
      | inl h ↦ elim (order (pos 0 -ℤ w) ay) [
        | inl k ↦ record {
          s = pos 1;
          t = pos 0;
          from = omega (arith, ints);
          to = omega (arith, ints);
          some =
              omega (arith, ints);
          x = start w ax bx h p.left;
          y = start w ay by k p.below;
        }
        | inr k ↦ past_below w ax ay bx by some rx ry p h k
      ]
      | inr h ↦ past_left w ax ay bx by some rx ry p h
    ]

-- ---- the tests from a mean
sides_of : (w s t a b : ℤ) → pos 0 ≤ℤ s → pos 0 ≤ℤ t → pos 0 <ℤ (s +ℤ t) → a ≤ℤ b → Lies w s t a b
    → (a ≤ℤ w) × ((pos 0 -ℤ w) ≤ℤ b)
sides_of w s t a b from to some h l =
    let lf = l.from in
    let lt = l.to in
    let m = at_least_mul t (b -ℤ a) to (omega (arith, ints)) in
    let n = at_least_mul s (b -ℤ a) from (omega (arith, ints)) in
    let p = at_least_left (w -ℤ a) (s +ℤ t) some (omega (arith, ints, m, first)) in
    let q = at_least_left (b +ℤ w) (s +ℤ t) some (omega (arith, ints, n, second)) in
    (omega (arith, ints, p), omega (arith, ints, q))
  where
    first : (w -ℤ a) *ℤ (s +ℤ t) ≡ (w *ℤ (s +ℤ t) -ℤ (s *ℤ a +ℤ t *ℤ b)) +ℤ t *ℤ (b -ℤ a)
    first = ring (w ∷ s ∷ t ∷ a ∷ b ∷ []) ((v0 ⊖ v3) ⊗ (v1 ⊕ v2)) ((v0 ⊗ (v1 ⊕ v2) ⊖ (v1 ⊗ v3 ⊕ v2 ⊗ v4)) ⊕ v2 ⊗
        (v4 ⊖ v3)) refl

    second : (b +ℤ w) *ℤ (s +ℤ t) ≡ ((s *ℤ a +ℤ t *ℤ b) +ℤ w *ℤ (s +ℤ t)) +ℤ s *ℤ (b -ℤ a)
    second = ring (w ∷ s ∷ t ∷ a ∷ b ∷ []) ((v4 ⊕ v0) ⊗ (v1 ⊕ v2)) (((v1 ⊗ v3 ⊕ v2 ⊗ v4) ⊕ v0 ⊗ (v1 ⊕ v2)) ⊕ v1 ⊗
        (v4 ⊖ v3)) refl

pub passes : (w ax ay bx by : ℤ) → ax ≤ℤ bx → ay ≤ℤ by → Found w ax ay bx by → Passes w ax ay bx by
passes w ax ay bx by rx ry f =
    let s : ℤ = f.s in
    let t : ℤ = f.t in
    let x = sides_of w s t ax bx f.from f.to f.some rx f.x in
    let y = sides_of w s t ay by f.from f.to f.some ry f.y in
    let xf = f.x.from in
    let xt = f.x.to in
    let yf = f.y.from in
    let yt = f.y.to in
    let m = at_least_mul (bx -ℤ ax) (w *ℤ (s +ℤ t) -ℤ (s *ℤ ay +ℤ t *ℤ by)) (omega (arith, ints)) (omega (arith, ints))
    in
    let n = at_least_mul (by -ℤ ay) (w *ℤ (s +ℤ t) +ℤ (s *ℤ ax +ℤ t *ℤ bx)) (omega (arith, ints)) (omega (arith, ints))
    in
    let o = at_least_mul (bx -ℤ ax) (w *ℤ (s +ℤ t) +ℤ (s *ℤ ay +ℤ t *ℤ by)) (omega (arith, ints)) (omega (arith, ints))
    in
    let q = at_least_mul (by -ℤ ay) (w *ℤ (s +ℤ t) -ℤ (s *ℤ ax +ℤ t *ℤ bx)) (omega (arith, ints)) (omega (arith, ints))
    in
    let u = at_least_left ((w *ℤ (bx -ℤ ax) +ℤ w *ℤ (by -ℤ ay)) -ℤ (bx *ℤ ay -ℤ ax *ℤ by)) (s +ℤ t) f.some
    (omega (arith, ints, m, n, most_is w s t ax ay bx by)) in
    let v = at_least_left ((w *ℤ (bx -ℤ ax) +ℤ w *ℤ (by -ℤ ay)) +ℤ (bx *ℤ ay -ℤ ax *ℤ by)) (s +ℤ t) f.some
    (omega (arith, ints, o, q, least_is w s t ax ay bx by)) in
    record {
      left = x.0;
      right = x.1;
      below = y.0;
      over = y.1;
      most = omega (arith, ints, u);
      least =
          omega (arith, ints, v);
    }
  where
    most_is : (w s t ax ay bx by : ℤ) → ((w *ℤ (bx -ℤ ax) +ℤ w *ℤ (by -ℤ ay)) -ℤ (bx *ℤ ay -ℤ ax *ℤ by)) *ℤ (s +ℤ t)
        ≡ (bx -ℤ ax) *ℤ (w *ℤ (s +ℤ t) -ℤ (s *ℤ ay +ℤ t *ℤ by)) +ℤ (by -ℤ ay) *ℤ (w *ℤ (s +ℤ t) +ℤ (s *ℤ ax +ℤ t *ℤ bx))
    most_is w s t ax ay bx by = ring (w ∷ s ∷ t ∷ ax ∷ ay ∷ bx ∷ by ∷ [])
        (((v0 ⊗ (v5 ⊖ v3) ⊕ v0 ⊗ (v6 ⊖ v4)) ⊖ (v5 ⊗ v4 ⊖ v3 ⊗ v6)) ⊗ (v1 ⊕ v2))
        ((v5 ⊖ v3) ⊗ (v0 ⊗ (v1 ⊕ v2) ⊖ (v1 ⊗ v4 ⊕ v2 ⊗ v6)) ⊕ (v6 ⊖ v4) ⊗ (v0 ⊗ (v1 ⊕ v2) ⊕ (v1 ⊗ v3 ⊕ v2 ⊗ v5))) refl

    least_is : (w s t ax ay bx by : ℤ) → ((w *ℤ (bx -ℤ ax) +ℤ w *ℤ (by -ℤ ay)) +ℤ (bx *ℤ ay -ℤ ax *ℤ by)) *ℤ (s +ℤ t)
        ≡ (bx -ℤ ax) *ℤ (w *ℤ (s +ℤ t) +ℤ (s *ℤ ay +ℤ t *ℤ by)) +ℤ (by -ℤ ay) *ℤ (w *ℤ (s +ℤ t) -ℤ (s *ℤ ax +ℤ t *ℤ bx))
    least_is w s t ax ay bx by = ring (w ∷ s ∷ t ∷ ax ∷ ay ∷ bx ∷ by ∷ [])
        (((v0 ⊗ (v5 ⊖ v3) ⊕ v0 ⊗ (v6 ⊖ v4)) ⊕ (v5 ⊗ v4 ⊖ v3 ⊗ v6)) ⊗ (v1 ⊕ v2))
        ((v5 ⊖ v3) ⊗ (v0 ⊗ (v1 ⊕ v2) ⊕ (v1 ⊗ v4 ⊕ v2 ⊗ v6)) ⊕ (v6 ⊖ v4) ⊗ (v0 ⊗ (v1 ⊕ v2) ⊖ (v1 ⊗ v3 ⊕ v2 ⊗ v5))) refl

-- ---- mirrored segments
pub mirrored_mean : (s t a b : ℤ) → s *ℤ (pos 0 -ℤ a) +ℤ t *ℤ (pos 0 -ℤ b) ≡ pos 0 -ℤ (s *ℤ a +ℤ t *ℤ b)
mirrored_mean s t a b = ring (s ∷ t ∷ a ∷ b ∷ []) (v0 ⊗ (num (pos 0) ⊖ v2) ⊕ v1 ⊗ (num (pos 0) ⊖ v3))
    (num (pos 0) ⊖ (v0 ⊗ v2 ⊕ v1 ⊗ v3)) refl
