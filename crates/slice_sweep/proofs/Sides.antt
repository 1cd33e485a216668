-- On which side of a place an edge lies by its ends alone.
use Rattle.std.proofs.Common.{◌≡◌, Bool, true, false, cond, [], ◌∷◌, refl, sym, ◌∙◌, arith, ℤ, pos, ◌+ℤ◌, ◌-ℤ◌, ◌*ℤ◌, ◌<ℤ◌}
use lib.Signed.{◌≤ℤ◌}
use Rattle.std.specs.Prelude.{int_lt}
use Rattle.std.proofs.lemmas.Int.{ints}
use Rattle.scad_base.proofs.Products.{positive_product}
use Rattle.scad_geom.specs.declared.point.Edge.{Edge}
use Rattle.scad_geom.specs.declared.level.Level.{Level}
use Rattle.scad_geom.specs.Line.{low, high, rise, run, offset, x_at}
use Rattle.scad_geom.proofs.Ring.{ring, num, ◌⊕◌, ◌⊖◌, ◌⊗◌, v0, v1, v2, v3, v4, v5}
use Rattle.scad_geom.proofs.Signs.{at_least_mul, sub_mul}
use Rattle.scad_geom.proofs.Heights.{Reaches}
use Rattle.slice_sweep.specs.Spots.{IsBetween}
use Rattle.slice_sweep.proofs.Keys.{times_at_most, times_less}

-- ---- an edge passes a height between its ends
-- by how far the height lies above the lower end, and below the upper one
between_ends : (lx ly hx hy n d : ℤ) → (hx -ℤ lx) *ℤ n +ℤ ((hy -ℤ ly) *ℤ lx -ℤ (hx -ℤ lx) *ℤ ly) *ℤ d
    ≡ lx *ℤ (hy *ℤ d -ℤ n) +ℤ hx *ℤ (n -ℤ ly *ℤ d)
between_ends lx ly hx hy n d = ring (lx ∷ ly ∷ hx ∷ hy ∷ n ∷ d ∷ [])
    ((v2 ⊖ v0) ⊗ v4 ⊕ ((v3 ⊖ v1) ⊗ v0 ⊖ (v2 ⊖ v0) ⊗ v1) ⊗ v5)
    (v0 ⊗ (v3 ⊗ v5 ⊖ v4) ⊕ v2 ⊗ (v4 ⊖ v1 ⊗ v5)) refl

x_is : (e : Edge) (n d : ℤ) → x_at e n d
    ≡ (low e).x *ℤ ((high e).y *ℤ d -ℤ n) +ℤ (high e).x *ℤ (n -ℤ (low e).y *ℤ d)
unfolding x_at offset run rise
x_is e n d = between_ends (low e).x (low e).y (high e).x (high e).y n d

-- the two parts of the rise
parts_of : (m ly hy n d : ℤ) → m *ℤ ((hy -ℤ ly) *ℤ d) ≡ m *ℤ (hy *ℤ d -ℤ n) +ℤ m *ℤ (n -ℤ ly *ℤ d)
parts_of m ly hy n d = ring (m ∷ ly ∷ hy ∷ n ∷ d ∷ [])
    (v0 ⊗ ((v2 ⊖ v1) ⊗ v4)) (v0 ⊗ (v2 ⊗ v4 ⊖ v3) ⊕ v0 ⊗ (v3 ⊖ v1 ⊗ v4)) refl

rise_parts : (e : Edge) (m n d : ℤ) → m *ℤ (rise e *ℤ d)
    ≡ m *ℤ ((high e).y *ℤ d -ℤ n) +ℤ m *ℤ (n -ℤ (low e).y *ℤ d)
unfolding rise
rise_parts e m n d = parts_of m (low e).y (high e).y n d

more_times : (a b c : ℤ) → a ≤ℤ b → pos 0 ≤ℤ c → (a *ℤ c) ≤ℤ (b *ℤ c)
more_times a b c h k =
    let m = at_least_mul (b -ℤ a) c (omega (arith, ints)) k in
    let p = sub_mul b a c in
    omega (arith, ints, m, p)

module _ (at : Level) (e : Edge) (r : Reaches e at at) where
  above : pos 0 ≤ℤ (at.n -ℤ (low e).y *ℤ at.d)
  above = let f = r.from in omega (arith, ints, f)

  below : pos 0 ≤ℤ ((high e).y *ℤ at.d -ℤ at.n)
  below = let t = r.to in omega (arith, ints, t)

  pub right_of_least : (m : ℤ) → m ≤ℤ (low e).x → m ≤ℤ (high e).x → (m *ℤ (rise e *ℤ at.d)) ≤ℤ x_at e at.n at.d
  right_of_least m l h =
      let p = rise_parts e m at.n at.d in
      let x = x_is e at.n at.d in
      let a = more_times m (low e).x ((high e).y *ℤ at.d -ℤ at.n) l below in
      let b = more_times m (high e).x (at.n -ℤ (low e).y *ℤ at.d) h above in
      omega (arith, ints, p, x, a, b)

  pub left_of_greatest : (m : ℤ) → (low e).x ≤ℤ m → (high e).x ≤ℤ m → x_at e at.n at.d ≤ℤ (m *ℤ (rise e *ℤ at.d))
  left_of_greatest m l h =
      let p = rise_parts e m at.n at.d in
      let x = x_is e at.n at.d in
      let a = more_times (low e).x m ((high e).y *ℤ at.d -ℤ at.n) l below in
      let b = more_times (high e).x m (at.n -ℤ (low e).y *ℤ at.d) h above in
      omega (arith, ints, p, x, a, b)

-- an edge that starts at a height does so at its lower end
at_low : (lx hx z w r d : ℤ) → z ≡ pos 0 → lx *ℤ w +ℤ hx *ℤ z ≡ lx *ℤ w
at_low lx hx z w r d e = rw e (zero_right (lx *ℤ w) hx)
  where
    zero_right : (a b : ℤ) → a +ℤ b *ℤ pos 0 ≡ a
    zero_right a b = ring (a ∷ b ∷ []) (v0 ⊕ v1 ⊗ num (pos 0)) v0 refl

pub starts_at_low : (e : Edge) (n d : ℤ) → (low e).y *ℤ d ≡ n → x_at e n d ≡ (low e).x *ℤ (rise e *ℤ d)
starts_at_low e n d s =
    let z : n -ℤ (low e).y *ℤ d ≡ pos 0 = omega (arith, ints, s) in
    let x = x_is e n d ∙ at_low (low e).x (high e).x (n -ℤ (low e).y *ℤ d) ((high e).y *ℤ d -ℤ n) n d z in
    let p = rise_parts e (low e).x n d
    ∙ at_low (low e).x (low e).x (n -ℤ (low e).y *ℤ d) ((high e).y *ℤ d -ℤ n) n d z in
    x ∙ sym p

-- ---- the ends as they are written, and from low to high
pub least_of_ends : (e : Edge) (m : ℤ) → m ≤ℤ e.a.x → m ≤ℤ e.b.x → (m ≤ℤ (low e).x) × (m ≤ℤ (high e).x)
unfolding low high
least_of_ends e m a b = by_test (int_lt e.b.y e.a.y)
  where
    by_test : (t : Bool) → (m ≤ℤ (cond t e.b e.a).x) × (m ≤ℤ (cond t e.a e.b).x)
    by_test true = (b, a)
    by_test false = (a, b)

pub greatest_of_ends : (e : Edge) (m : ℤ) → e.a.x ≤ℤ m → e.b.x ≤ℤ m → ((low e).x ≤ℤ m) × ((high e).x ≤ℤ m)
unfolding low high
greatest_of_ends e m a b = by_test (int_lt e.b.y e.a.y)
  where
    by_test : (t : Bool) → ((cond t e.b e.a).x ≤ℤ m) × ((cond t e.a e.b).x ≤ℤ m)
    by_test true = (b, a)
    by_test false = (a, b)

-- ---- an edge whose ends lie on one side of a place
swap_inner : (m a b d : ℤ) → (m *ℤ (a *ℤ d)) *ℤ b ≡ m *ℤ ((b *ℤ a) *ℤ d)
swap_inner m a b d = ring (m ∷ a ∷ b ∷ d ∷ []) ((v0 ⊗ (v1 ⊗ v3)) ⊗ v2) (v0 ⊗ ((v2 ⊗ v1) ⊗ v3)) refl

swap_outer : (m a b d : ℤ) → (m *ℤ (a *ℤ d)) *ℤ b ≡ m *ℤ ((a *ℤ b) *ℤ d)
swap_outer m a b d = ring (m ∷ a ∷ b ∷ d ∷ []) ((v0 ⊗ (v1 ⊗ v3)) ⊗ v2) (v0 ⊗ ((v1 ⊗ v2) ⊗ v3)) refl

-- what is known of an edge's place by its ends, and by its lower end where it starts there
pub between_its_ends : (at : Level) (e : Edge) → Reaches e at at → (x up from to : ℤ) → x ≡ x_at e at.n at.d → up ≡ rise e
    → from ≤ℤ e.a.x → from ≤ℤ e.b.x → e.a.x ≤ℤ to → e.b.x ≤ℤ to → IsBetween at x up from to
between_its_ends at e r x up from to ex eu fa fb ta tb =
    let l = least_of_ends e from fa fb in
    let g = greatest_of_ends e to ta tb in
    rw (ex, eu) (record {
      rises = r.rises;
      from = right_of_least at e r from l.0 l.1;
      to = left_of_greatest at e r to g.0 g.1;
    })

pub between_at_start : (at : Level) (e : Edge) → Reaches e at at → (low e).y *ℤ at.d ≡ at.n → (x up p : ℤ)
    → x ≡ x_at e at.n at.d → up ≡ rise e → p ≡ (low e).x → IsBetween at x up p p
between_at_start at e r s x up p ex eu ep =
    let y = starts_at_low e at.n at.d s in
    rw (ex, eu, ep) (record {
      rises = r.rises;
      from = omega (arith, ints, y);
      to = omega (arith, ints, y);
    })

module _ (at : Level) (d : pos 0 <ℤ at.d) (f : Edge) (r : Reaches f at at) (x up from to : ℤ)
    (b : IsBetween at x up from to) where
  all : pos 0 <ℤ ((up *ℤ rise f) *ℤ at.d)
  all = positive_product (up *ℤ rise f) at.d (positive_product up (rise f) b.rises r.rises) d

  pub left_by_ends : (m : ℤ) → f.a.x ≤ℤ m → f.b.x ≤ℤ m → m <ℤ from
      → (x_at f at.n at.d *ℤ up) <ℤ (x *ℤ rise f)
  left_by_ends m p q o =
      let e = greatest_of_ends f m p q in
      let u = times_at_most (x_at f at.n at.d) (m *ℤ (rise f *ℤ at.d)) up b.rises
      (left_of_greatest at f r m e.0 e.1) in
      let v = times_at_most (from *ℤ (up *ℤ at.d)) x (rise f) r.rises b.from in
      let z = times_less m from ((up *ℤ rise f) *ℤ at.d) all o in
      let i = swap_inner m (rise f) up at.d in
      let j = swap_outer from up (rise f) at.d in
      omega (arith, ints, u, v, z, i, j)

  pub right_by_ends : (m : ℤ) → m ≤ℤ f.a.x → m ≤ℤ f.b.x → to <ℤ m
      → (x *ℤ rise f) <ℤ (x_at f at.n at.d *ℤ up)
  right_by_ends m p q o =
      let e = least_of_ends f m p q in
      let u = times_at_most (m *ℤ (rise f *ℤ at.d)) (x_at f at.n at.d) up b.rises
      (right_of_least at f r m e.0 e.1) in
      let v = times_at_most x (to *ℤ (up *ℤ at.d)) (rise f) r.rises b.to in
      let z = times_less to m ((up *ℤ rise f) *ℤ at.d) all o in
      let i = swap_inner m (rise f) up at.d in
      let j = swap_outer to up (rise f) at.d in
      omega (arith, ints, u, v, z, i, j)
