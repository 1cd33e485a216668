-- A chain through points in their order has each of them on the left of each of its sides.
use Rattle.std.proofs.Common.{◌≡◌, ◌⊎◌, inl, inr, true, false, List, [], ◌∷◌, ℤ, pos, ◌-ℤ◌, refl, arith}
use lib.Signed.{◌<ℤ◌, ◌≤ℤ◌}
use Rattle.std.specs.Prelude.{⊤, int_lt, if◌then◌else◌}
use Rattle.std.specs.List.{AllByRecursion}
use Rattle.std.proofs.lemmas.Int.{ints}
use Rattle.scad_hull.specs.Chain.{bent, led}

-- what chains need of points: an order, and a number that is above 0 where c lies to the left of the way from a to b
pub record IsPlane {X : Type 0} (left : X → X → X → ℤ) (Before Same : X → X → Type 0) : Type 0 where
  pub turned : (a b c : X) → left a c b ≡ pos 0 -ℤ left a b c
  pub swapped : (a b c : X) → left b a c ≡ pos 0 -ℤ left a b c
  pub ends : (a b : X) → left a b b ≡ pos 0
  pub still : (a b c : X) → Same a c → left a b c ≡ pos 0
  pub either : (p q : X) → Before p q ⊎ (Same q p ⊎ Before q p)
  pub once : (p q : X) → Before p q → Before q p → ⊥
  pub later : (p q r : X) → Before p q → Before q r → Before p r
  pub through : (t p q w : X) → Before t p → Before t q → Before t w → pos 0 ≤ℤ left t w q
      → pos 0 ≤ℤ left t p w → pos 0 ≤ℤ left t p q
  pub behind : (q t u p : X) → Before q t → Before u t → Before t p → pos 0 ≤ℤ left u t q
      → pos 0 <ℤ left u t p → pos 0 ≤ℤ left t p q
  pub onward : (a b c p : X) → Before a b → Before b c → Before c p → pos 0 <ℤ left a b c
      → pos 0 <ℤ left b c p → pos 0 <ℤ left a b p
  pub amid : (q t u p : X) → Before q t → Before t u → Before t p → pos 0 ≤ℤ left u t q
      → pos 0 ≤ℤ left t p q → pos 0 ≤ℤ left t u p

-- ---- signs
weak : (z : ℤ) → pos 0 <ℤ z → pos 0 ≤ℤ z
weak z h = omega (arith, ints)

nought : (z : ℤ) → z ≡ pos 0 → pos 0 ≤ℤ z
nought z h = omega (arith, ints)

told : (z : ℤ) → int_lt (pos 0) z ≡ true → pos 0 <ℤ z
told z h = omega (arith, ints)

told_not : (y z : ℤ) → y ≡ pos 0 -ℤ z → int_lt (pos 0) z ≡ false → pos 0 ≤ℤ y
told_not y z e h = omega (arith, ints)

module _ {X : Type 0} (left : X → X → X → ℤ) (Before Same : X → X → Type 0) (plane : IsPlane left Before Same) where
  -- the stack runs through the points in their order and turns to the left at each
  abbrev pub Turns : List X → Type 0
  Turns [] = ⊤
  Turns (b ∷ []) = ⊤
  Turns (b ∷ (a ∷ [])) = Before a b
  Turns (b ∷ (a ∷ (c ∷ rest))) = Before a b × ((pos 0 <ℤ left c a b) × Turns (a ∷ (c ∷ rest)))

  -- q lies on no side's right
  abbrev pub Under : X → List X → Type 0
  Under q [] = ⊤
  Under q (b ∷ []) = ⊤
  Under q (b ∷ (a ∷ rest)) = (pos 0 ≤ℤ left a b q) × Under q (a ∷ rest)

  -- q doesn't come before the stack's first point
  abbrev pub From : X → List X → Type 0
  From q [] = ⊤
  From q (b ∷ []) = Before q b → ⊥
  From q (b ∷ (a ∷ rest)) = From q (a ∷ rest)

  -- each point comes before all that follow
  abbrev pub Ascends : List X → Type 0
  Ascends [] = ⊤
  Ascends (p ∷ ps) = AllByRecursion (Before p) ps × Ascends ps

  in_order : (b a : X) (rest : List X) → Turns (b ∷ (a ∷ rest)) → Before a b
  in_order b a [] t = t
  in_order b a (c ∷ rest) t = t.0

  pub turns_on : (b a : X) (rest : List X) → Turns (b ∷ (a ∷ rest)) → Turns (a ∷ rest)
  turns_on b a [] t = tt
  turns_on b a (c ∷ rest) t = t.1.1

  -- ---- one more point
  module _ (p : X) where
    abbrev Low : List X → Type 0
    Low stack = AllByRecursion (λ s. Before s p) stack

    turns_push : (b : X) (rest : List X) → Turns (b ∷ rest) → Low (b ∷ rest)
        → Turns (p ∷ bent left p (b ∷ rest))
    turns_push b [] t low = low.0
    turns_push b (a ∷ rest) t low =
        elim (int_lt (pos 0) (left a b p)) as (λ test. int_lt (pos 0) (left a b p) ≡ test
        → Turns (p ∷ (if test then b ∷ (a ∷ rest) else bent left p (a ∷ rest)))) [
          | true ↦ (λ e. (low.0, (told (left a b p) e, t)))
          | false ↦ (λ e. turns_push a rest (turns_on b a rest t) low.1)
        ] refl

    -- the new side at a point that stays
    beside : (q b a : X) → Before a b → Before b p → pos 0 <ℤ left a b p → pos 0 ≤ℤ left a b q
        → (Before b q → pos 0 ≤ℤ left b p q) → pos 0 ≤ℤ left b p q
    beside q b a o l h u beyond = elim (plane.either q b) [
      | inl before ↦ plane.behind q b a p before o l u h
      | inr (inl same) ↦ nought (left b p q) (plane.still b p q same)
      | inr (inr after) ↦ beyond after
    ]

    under_push : (q b : X) (rest : List X) → Turns (b ∷ rest) → Low (b ∷ rest) → Under q (b ∷ rest)
        → From q (b ∷ rest) → (Before b q → pos 0 ≤ℤ left b p q)
        → Under q (p ∷ bent left p (b ∷ rest))
    under_push q b [] t low u f beyond = (here, tt)
      where
        here : pos 0 ≤ℤ left b p q
        here = elim (plane.either q b) [
          | inl before ↦ absurd (f before)
          | inr (inl same) ↦ nought (left b p q) (plane.still b p q same)
          | inr (inr after) ↦ beyond after
        ]
    under_push q b (a ∷ rest) t low u f beyond =
        let o = in_order b a rest t in
        elim (int_lt (pos 0) (left a b p)) as (λ test. int_lt (pos 0) (left a b p) ≡ test
        → Under q (p ∷ (if test then b ∷ (a ∷ rest) else bent left p (a ∷ rest)))) [
          | true ↦ (λ e. (beside q b a o low.0 (told (left a b p) e) u.0 beyond, u))
          | false ↦ (λ e. under_push q a rest (turns_on b a rest t) low.1 u.1 f
              (λ after. plane.through a p q b low.1.0 after o u.0
              (told_not (left a p b) (left a b p) (plane.turned a b p) e)))
        ] refl

    kept : (b a : X) (rest : List X) → Turns (b ∷ (a ∷ rest)) → Low (b ∷ (a ∷ rest))
        → pos 0 <ℤ left a b p → Under p (b ∷ (a ∷ rest))
    kept b a [] t low h = (weak (left a b p) h, tt)
    kept b a (c ∷ rest) t low h = (
      weak (left a b p) h,
      kept a c rest t.1.1 low.1
          (plane.onward c a b p (in_order a c rest t.1.1) t.0 low.0 t.1.0 h),
    )

    under_new : (b : X) (rest : List X) → Turns (b ∷ rest) → Low (b ∷ rest)
        → Under p (p ∷ bent left p (b ∷ rest))
    under_new b [] t low = (nought (left b p p) (plane.ends b p), tt)
    under_new b (a ∷ rest) t low =
        elim (int_lt (pos 0) (left a b p)) as (λ test. int_lt (pos 0) (left a b p) ≡ test
        → Under p (p ∷ (if test then b ∷ (a ∷ rest) else bent left p (a ∷ rest)))) [
          | true ↦ (λ e. (nought (left b p p) (plane.ends b p), kept b a rest t low (told (left a b p) e)))
          | false ↦ (λ e. under_new a rest (turns_on b a rest t) low.1)
        ] refl

    from_push : (q b : X) (rest : List X) → From q (b ∷ rest) → From q (p ∷ bent left p (b ∷ rest))
    from_push q b [] f = f
    from_push q b (a ∷ rest) f =
        elim (int_lt (pos 0) (left a b p)) as (λ test. From q
        (p ∷ (if test then b ∷ (a ∷ rest) else bent left p (a ∷ rest)))) [
          | true ↦ f
          | false ↦ from_push q a rest f
        ]

    from_low : (b : X) (rest : List X) → Low (b ∷ rest) → From p (b ∷ rest)
    from_low b [] low = λ h. plane.once p b h low.0
    from_low b (a ∷ rest) low = from_low a rest low.1

    all_bent : (P : X → Type 0) (b : X) (rest : List X) → AllByRecursion P (b ∷ rest)
        → AllByRecursion P (bent left p (b ∷ rest))
    all_bent P b [] h = h
    all_bent P b (a ∷ rest) h =
        elim (int_lt (pos 0) (left a b p)) as (λ test. AllByRecursion P
        (if test then b ∷ (a ∷ rest) else bent left p (a ∷ rest))) [
          | true ↦ h
          | false ↦ all_bent P a rest h.1
        ]

  -- ---- all points
  -- each point of the stack comes before all points that are still to come
  abbrev pub Ahead : List X → List X → Type 0
  Ahead ps stack = AllByRecursion (λ s. AllByRecursion (Before s) ps) stack

  pub each_first : (p : X) (ps stack : List X) → Ahead (p ∷ ps) stack → AllByRecursion (λ s. Before s p) stack
  each_first p ps [] h = tt
  each_first p ps (s ∷ stack) h = (h.0.0, each_first p ps stack h.1)

  pub each_rest : (p : X) (ps stack : List X) → Ahead (p ∷ ps) stack → Ahead ps stack
  each_rest p ps [] h = tt
  each_rest p ps (s ∷ stack) h = (h.0.1, each_rest p ps stack h.1)

  pub turns_led : (ps : List X) (b : X) (rest : List X) → Turns (b ∷ rest) → Ahead ps (b ∷ rest) → Ascends ps
      → Turns (led left (b ∷ rest) ps)
  turns_led [] b rest t h a = t
  turns_led (p ∷ ps) b rest t h a =
      turns_led ps p (bent left p (b ∷ rest)) (turns_push p b rest t (each_first p ps (b ∷ rest) h))
      (a.0, all_bent p (λ s. AllByRecursion (Before s) ps) b rest (each_rest p ps (b ∷ rest) h)) a.1

  -- a point that was passed
  passed : (q : X) (ps : List X) (b : X) (rest : List X) → Turns (b ∷ rest) → Ahead ps (b ∷ rest) → Ascends ps
      → AllByRecursion (Before q) ps
      → Under q (b ∷ rest) → From q (b ∷ rest) → (Before b q → ⊥) → Under q (led left (b ∷ rest) ps)
  passed q [] b rest t h a l u f n = u
  passed q (p ∷ ps) b rest t h a l u f n =
      let low = each_first p ps (b ∷ rest) h in
      passed q ps p (bent left p (b ∷ rest)) (turns_push p b rest t low)
      (a.0, all_bent p (λ s. AllByRecursion (Before s) ps) b rest (each_rest p ps (b ∷ rest) h)) a.1 l.1
      (under_push p q b rest t low u f (λ after. absurd (n after)))
      (from_push p q b rest f)
      (λ back. plane.once p q back l.0)

  -- all points that are still to come
  pub under_led : (ps : List X) (b : X) (rest : List X) → Turns (b ∷ rest) → Ahead ps (b ∷ rest) → Ascends ps
      → AllByRecursion (λ q. Under q (led left (b ∷ rest) ps)) ps
  under_led [] b rest t h a = tt
  under_led (p ∷ ps) b rest t h a =
      let low = each_first p ps (b ∷ rest) h in
      let turns = turns_push p b rest t low in
      let ahead : Ahead ps (p ∷ bent left p (b ∷ rest)) =
      (a.0, all_bent p (λ s. AllByRecursion (Before s) ps) b rest (each_rest p ps (b ∷ rest) h)) in (
        passed p ps p (bent left p (b ∷ rest)) turns ahead a.1 a.0 (under_new p b rest t low)
            (from_push p p b rest (from_low p b rest low)) (λ h. plane.once p p h h),
        under_led ps p (bent left p (b ∷ rest)) turns ahead a.1,
      )

  pub under_first : (m : X) (ps : List X) → Ascends (m ∷ ps) → Under m (led left (m ∷ []) ps)
  under_first m ps a = passed m ps m [] tt (a.0, tt) a.1 a.0 tt (λ h. plane.once m m h h) (λ h. plane.once m m h h)

  -- the whole chain through points in their order
  pub all_under : (m : X) (ps : List X) → Ascends (m ∷ ps)
      → AllByRecursion (λ q. Under q (led left (m ∷ []) ps)) (m ∷ ps)
  all_under m ps a = (under_first m ps a, under_led ps m [] tt (a.0, tt) a.1)

  pub turns_whole : (m : X) (ps : List X) → Ascends (m ∷ ps) → Turns (led left (m ∷ []) ps)
  turns_whole m ps a = turns_led ps m [] tt (a.0, tt) a.1
