-- What an edge is at one height over two divisors: whether it lies there or passes it, and where.
use Rattle.std.proofs.Common.{◌≡◌, Bool, true, ◌&&◌, [], ◌∷◌, refl, sym, ap, ap₂, ◌∙◌, arith}
use lib.IntN.{ℤ, pos, ◌+ℤ◌, ◌*ℤ◌}
use Rattle.std.specs.Prelude.{int_lt, int_le}
use Rattle.std.specs.Ordering.{int_eq}
use Rattle.std.specs.Cmp.{signed_Decides, both_ways}
use Rattle.std.proofs.lemmas.Int.{ints}
use Rattle.scad_geom.specs.declared.point.Edge.{Edge}
use Rattle.scad_geom.specs.declared.level.Level.{Level}
use Rattle.scad_geom.specs.Line.{low, high, rise, run, offset, x_at}
use Rattle.scad_geom.specs.Sign.{is_zero}
use Rattle.scad_geom.specs.Level.{level_of, IsAtMost, IsSameHeight}
use Rattle.scad_geom.proofs.Ring.{ring, ◌⊕◌, ◌⊗◌, v0, v1, v2, v3, v4}
use Rattle.slice_bundles.specs.Bundles.{reaches}
use Rattle.slice_border.specs.Pieces.{is_flat_at, passes_at}
use Rattle.outline_laws.proofs.Rising.{HasDivisor, at_most_same, same_then_at_most}
use Rattle.scad_geom.proofs.Heights.{same_chain}

-- ---- tests of whole heights
one : HasDivisor (level_of (pos 0))
one = omega (arith, ints)

module _ (p q : Level) (dp : HasDivisor p) (dq : HasDivisor q) (e : IsSameHeight p q) where
  pub below_test : (y : ℤ) → int_le (y *ℤ p.d) p.n ≡ int_le (y *ℤ q.d) q.n
  below_test y = both_ways (int_le (y *ℤ p.d) p.n) (int_le (y *ℤ q.d) q.n) forth back
    where
      forth : int_le (y *ℤ p.d) p.n ≡ true → int_le (y *ℤ q.d) q.n ≡ true
      forth h =
          let k : IsAtMost (level_of y) p = omega (arith, ints) in
          let m = at_most_same (level_of y) p q one dp dq k e in
          sym (omega (arith, ints))

      back : int_le (y *ℤ q.d) q.n ≡ true → int_le (y *ℤ p.d) p.n ≡ true
      back h =
          let k : IsAtMost (level_of y) q = omega (arith, ints) in
          let m = at_most_same (level_of y) q p one dq dp k (sym e) in
          sym (omega (arith, ints))

  pub above_test : (y : ℤ) → int_le p.n (y *ℤ p.d) ≡ int_le q.n (y *ℤ q.d)
  above_test y = both_ways (int_le p.n (y *ℤ p.d)) (int_le q.n (y *ℤ q.d)) forth back
    where
      forth : int_le p.n (y *ℤ p.d) ≡ true → int_le q.n (y *ℤ q.d) ≡ true
      forth h =
          let k : IsAtMost p (level_of y) = omega (arith, ints) in
          let m = same_then_at_most q p (level_of y) dq dp one (sym e) k in
          sym (omega (arith, ints))

      back : int_le q.n (y *ℤ q.d) ≡ true → int_le p.n (y *ℤ p.d) ≡ true
      back h =
          let k : IsAtMost q (level_of y) = omega (arith, ints) in
          let m = same_then_at_most p q (level_of y) dp dq one e k in
          sym (omega (arith, ints))

  pub level_test : (y : ℤ) → int_eq (y *ℤ p.d) p.n ≡ int_eq (y *ℤ q.d) q.n
  level_test y = both_ways (int_eq (y *ℤ p.d) p.n) (int_eq (y *ℤ q.d) q.n) forth back
    where
      forth : int_eq (y *ℤ p.d) p.n ≡ true → int_eq (y *ℤ q.d) q.n ≡ true
      forth h =
          let n = (signed_Decides (y *ℤ p.d) p.n).0 h in
          let k : IsSameHeight (level_of y) p = omega (arith, ints) in
          let m = same_chain (level_of y) p q one dp dq k e in
          (signed_Decides (y *ℤ q.d) q.n).1 (omega (arith, ints))

      back : int_eq (y *ℤ q.d) q.n ≡ true → int_eq (y *ℤ p.d) p.n ≡ true
      back h =
          let n = (signed_Decides (y *ℤ q.d) q.n).0 h in
          let k : IsSameHeight (level_of y) q = omega (arith, ints) in
          let m = same_chain (level_of y) q p one dq dp k (sym e) in
          (signed_Decides (y *ℤ p.d) p.n).1 (omega (arith, ints))

  -- ---- edges at the height
  pub flat_test : (f : Edge) → is_flat_at f p ≡ is_flat_at f q
  flat_test f = ap (λ (b : Bool). is_zero (rise f) && b) (level_test f.a.y)

  pub passes_test : (f : Edge) → passes_at f p ≡ passes_at f q
  passes_test f = ap₂ (λ (a b : Bool). int_lt (pos 0) (rise f) && (a && b)) (below_test (low f).y)
      (above_test (high f).y)

  -- the line of an edge passes the height at one place
  pub x_same : (f : Edge) → x_at f p.n p.d *ℤ q.d ≡ x_at f q.n q.d *ℤ p.d
  unfolding x_at
  x_same f =
      ring (run f ∷ p.n ∷ offset f ∷ p.d ∷ q.d ∷ []) ((v0 ⊗ v1 ⊕ v2 ⊗ v3) ⊗ v4) (v0 ⊗ (v1 ⊗ v4) ⊕ (v2 ⊗ v4) ⊗ v3) refl
      ∙ ap (λ (z : ℤ). run f *ℤ z +ℤ (offset f *ℤ q.d) *ℤ p.d) e
      ∙ ring (run f ∷ q.n ∷ offset f ∷ q.d ∷ p.d ∷ []) (v0 ⊗ (v1 ⊗ v4) ⊕ (v2 ⊗ v3) ⊗ v4) ((v0 ⊗ v1 ⊕ v2 ⊗ v3) ⊗ v4) refl

pub reaches_test : (l l' u u' : Level) → HasDivisor l → HasDivisor l' → HasDivisor u → HasDivisor u' → IsSameHeight l l'
    → IsSameHeight u u' → (f : Edge) → reaches f l u ≡ reaches f l' u'
unfolding reaches
reaches_test l l' u u' dl dl' du du' e g f =
    ap₂ (λ (a b : Bool). int_lt (pos 0) (rise f) && (a && b)) (below_test l l' dl dl' e (low f).y)
    (above_test u u' du du' g (high f).y)
