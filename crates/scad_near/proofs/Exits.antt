-- Where a way from numbers that aren't below 0 first makes one of them 0.
use Rattle.std.proofs.Common.{◌≡◌, ◌⊎◌, inl, inr, [], ◌∷◌, refl, arith, List, ℤ, pos, ◌+ℤ◌, ◌-ℤ◌, ◌*ℤ◌, ◌<ℤ◌}
use lib.Signed.{◌≤ℤ◌}
use Rattle.std.specs.List.{AllByRecursion}
use Rattle.std.proofs.lemmas.Int.{ints}
use Rattle.scad_geom.proofs.Signs.{at_least_mul, at_least_left}
use Rattle.scad_geom.proofs.Rising.{order}
use Rattle.scad_geom.proofs.Ring.{ring, num, ◌⊕◌, ◌⊖◌, ◌⊗◌, v0, v1, v2, v3, v4, v5}

-- a number and how it changes along the way
pub record Change : Type 0 where
  pub x : ℤ
  pub v : ℤ

-- k times the number, j steps on
abbrev pub gone : ℤ → ℤ → Change → ℤ
gone k j w = k *ℤ w.x +ℤ j *ℤ w.v

abbrev pub AreFrom : List Change → Type 0
AreFrom ws = AllByRecursion (λ w. pos 0 ≤ℤ w.x) ws

abbrev pub Rise : List Change → Type 0
Rise ws = AllByRecursion (λ w. pos 0 ≤ℤ w.v) ws

abbrev pub Last : ℤ → ℤ → List Change → Type 0
Last k j ws = AllByRecursion (λ w. pos 0 ≤ℤ gone k j w) ws

abbrev pub Stops : ℤ → ℤ → List Change → Type 0
Stops k j [] = ⊥
Stops k j (w ∷ ws) = (gone k j w ≡ pos 0) ⊎ Stops k j ws

pub record Exit (ws : List Change) : Type 0 where
  pub k : ℤ
  pub j : ℤ
  pub some : pos 0 <ℤ k
  pub from : pos 0 ≤ℤ j
  pub last : Last k j ws
  pub stops : Stops k j ws

at_stop : (x v : ℤ) → (pos 0 -ℤ v) *ℤ x +ℤ x *ℤ v ≡ pos 0
at_stop x v = ring (x ∷ v ∷ []) ((num (pos 0) ⊖ v1) ⊗ v0 ⊕ v0 ⊗ v1) (num (pos 0)) refl

-- what rises stays
rising : (k j : ℤ) (ws : List Change) → pos 0 ≤ℤ k → pos 0 ≤ℤ j → AreFrom ws → Rise ws → Last k j ws
rising k j [] hk hj from rise = tt
rising k j (w ∷ ws) hk hj from rise =
    let a = at_least_mul k w.x hk from.0 in
    let b = at_least_mul j w.v hj rise.0 in
    (omega (arith, ints, a, b), rising k j ws hk hj from.1 rise.1)

earlier_is : (k j x v y z : ℤ) → ((pos 0 -ℤ v) *ℤ y +ℤ x *ℤ z) *ℤ k
    ≡ (pos 0 -ℤ v) *ℤ (k *ℤ y +ℤ j *ℤ z) +ℤ (pos 0 -ℤ z) *ℤ (pos 0 -ℤ (k *ℤ x +ℤ j *ℤ v))
earlier_is k j x v y z = ring (k ∷ j ∷ x ∷ v ∷ y ∷ z ∷ [])
    (((num (pos 0) ⊖ v3) ⊗ v4 ⊕ v2 ⊗ v5) ⊗ v0)
    ((num (pos 0) ⊖ v3) ⊗ (v0 ⊗ v4 ⊕ v1 ⊗ v5) ⊕ (num (pos 0) ⊖ v5) ⊗ (num (pos 0) ⊖ (v0 ⊗ v2 ⊕ v1 ⊗ v3))) refl

-- where one number is 0 before the others are, they aren't below 0 there
earlier : (k j : ℤ) (w : Change) (ws : List Change) → pos 0 <ℤ k → pos 0 ≤ℤ w.x → w.v <ℤ pos 0
    → gone k j w <ℤ pos 0 → AreFrom ws → Last k j ws → Last (pos 0 -ℤ w.v) w.x ws
earlier k j w [] hk hx down past from last = tt
earlier k j w (y ∷ ws) hk hx down past from last = (
  elim (order (pos 0) y.v) [
    | inl up ↦
        let a = at_least_mul (pos 0 -ℤ w.v) y.x (omega (arith, ints, down)) from.0 in
        let b = at_least_mul w.x y.v hx up in
        omega (arith, ints, a, b)
    | inr falls ↦
        let a = at_least_mul (pos 0 -ℤ w.v) (gone k j y) (omega (arith, ints, down)) last.0 in
        let b = at_least_mul (pos 0 -ℤ y.v) (pos 0 -ℤ gone k j w) (omega (arith, ints, falls))
        (omega (arith, ints, past)) in
        let e = earlier_is k j w.x w.v y.x y.v in
        at_least_left ((pos 0 -ℤ w.v) *ℤ y.x +ℤ w.x *ℤ y.v) k hk (omega (arith, ints, a, b, e))
  ],
  earlier k j w ws hk hx down past from.1 last.1,
)

-- what is below 0 behind the way fell
fell : (k j x v : ℤ) → pos 0 <ℤ k → pos 0 ≤ℤ j → pos 0 ≤ℤ x → (k *ℤ x +ℤ j *ℤ v) <ℤ pos 0 → v <ℤ pos 0
fell k j x v hk hj hx past = elim (order (pos 0) v) [
  | inl up ↦
      let a = at_least_mul k x (omega (arith, ints, hk)) hx in
      let b = at_least_mul j v hj up in
      absurd (omega (arith, ints, a, b, past))
  | inr down ↦ down
]

pub exit : (ws : List Change) → AreFrom ws → Rise ws ⊎ Exit ws
exit [] from = inl tt
exit (w ∷ ws) from = elim (exit ws from.1) [
  | inl rise ↦ elim (order (pos 0) w.v) [
    | inl up ↦ inl (up, rise)
    | inr down ↦
        let e = at_stop w.x w.v in
        inr (record {
          k = pos 0 -ℤ w.v;
          j = w.x;
          some = omega (arith, ints, down);
          from = from.0;
          last = (omega (arith, ints, e), rising (pos 0 -ℤ w.v) w.x ws (omega (arith, ints, down)) from.0 from.1 rise);
          stops = inl e;
        })
  ]
  | inr out ↦ elim (order (pos 0) (gone out.k out.j w)) [
    | inl stays ↦ inr (record {
      k = out.k;
      j = out.j;
      some = out.some;
      from = out.from;
      last = (stays, out.last);
      stops = inr out.stops;
    })
    | inr past ↦
        let down = fell out.k out.j w.x w.v out.some out.from from.0 past in
        let e = at_stop w.x w.v in
        inr (record {
          k = pos 0 -ℤ w.v;
          j = w.x;
          some = omega (arith, ints, down);
          from = from.0;
          last = (omega (arith, ints, e), earlier out.k out.j w ws out.some from.0 down past from.1 out.last);
          stops = inl e;
        })
  ]
]
