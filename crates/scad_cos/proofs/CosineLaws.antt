-- The laws of the cosine, for every angle in thousandths of a degree.
use Rattle.std.proofs.Common.{◌≡◌, ℕ, zero, suc, ◌+◌, ◌-◌, ◌*◌, ◌/◌, ◌%◌, ◌<◌, ◌≤◌, ℤ, pos, negsuc, neg_ℤ, ◌+ℤ◌, ◌-ℤ◌, unsigned_abs, refl, sym, ap, le_of_lt, ◌∙◌, arith, ◌⊎◌, inl, inr}
use Rattle.std.specs.Int.{int_rem_euclid}
use Rattle.std.proofs.lemmas.Bool.{cases_lt}
use Rattle.std.proofs.lemmas.Bool.Decides.{nat_tests}
use Rattle.std.proofs.lemmas.Int.{ints, int_rem_euclid_is}
use Rattle.std.proofs.Math.IntN.{neg_ℤ-neg_ℤ}
use Rattle.scad_cos.specs.Laws.{CosineIsEven, CosineRepeats, CosineIsOpposite}
use Rattle.scad_cos.specs.Cosine.{cosine, full_turn, half_turn, first_quarter, cosines}

-- the part of an angle past its whole turns
abbrev residue : ℤ → ℕ
residue angle = unsigned_abs (int_rem_euclid angle (pos 360000))

-- it is that of the angle with whole turns added
residue_is : (angle : ℤ) (turns n : ℕ) → angle +ℤ pos (turns * 360000) ≡ pos n → residue angle ≡ n % 360000
residue_is angle turns n e = ap unsigned_abs (int_rem_euclid_is angle (pos 360000) 360000 turns n (omega arith) refl e)

-- some turns lift an angle above 0
abbrev lifted : ℤ → ℕ
lifted (pos n) = n + n * 360000
lifted (negsuc n) = suc n * 359999

lifted_is : (angle : ℤ) → angle +ℤ pos (unsigned_abs angle * 360000) ≡ pos (lifted angle)
lifted_is (pos n) = omega (arith, ints)
lifted_is (negsuc n) = omega (arith, ints)

residue-lifted : (angle : ℤ) → residue angle ≡ lifted angle % 360000
residue-lifted angle = residue_is angle (unsigned_abs angle) (lifted angle) (lifted_is angle)

half_turn-low : (a : ℕ) → a ≤ 90000 → half_turn a ≡ pos (first_quarter a)
unfolding half_turn
half_turn-low a h = grind (arith, nat_tests)

half_turn-high : (a : ℕ) → 90000 < a → half_turn a ≡ neg_ℤ (pos (first_quarter (180000 - a)))
unfolding half_turn
half_turn-high a h = grind (arith, nat_tests)

full_turn-low : (a : ℕ) → a ≤ 180000 → full_turn a ≡ half_turn a
unfolding full_turn
full_turn-low a h = grind (arith, nat_tests)

full_turn-high : (a : ℕ) → 180000 < a → full_turn a ≡ half_turn (360000 - a)
unfolding full_turn
full_turn-high a h = grind (arith, nat_tests)

right_angle : first_quarter 90000 ≡ 0
unfolding first_quarter cosines
right_angle = refl

-- at 180 degrees less the angle the cosine is the opposite
half_turn-opposite : (a : ℕ) → a ≤ 180000 → half_turn (180000 - a) ≡ neg_ℤ (half_turn a)
half_turn-opposite a h = by_quarter (cases_lt a 90000) (cases_lt 90000 a)
  where
    by_quarter : (a < 90000) ⊎ (90000 ≤ a) → (90000 < a) ⊎ (a ≤ 90000) → half_turn (180000 - a) ≡ neg_ℤ (half_turn a)
    by_quarter (inl low) s =
        let back : 180000 - (180000 - a) ≡ a = omega arith in
        half_turn-high (180000 - a) (omega arith) ∙ ap (λ b. neg_ℤ (pos (first_quarter b))) back ∙ ap neg_ℤ
        (sym (half_turn-low a (omega arith)))
    by_quarter (inr r) (inl high) = half_turn-low (180000 - a) (omega arith) ∙ sym
        (neg_ℤ-neg_ℤ (pos (first_quarter (180000 - a)))) ∙ ap neg_ℤ (sym (half_turn-high a high))
    by_quarter (inr r) (inr s) =
        let same : a ≡ 90000 = omega arith in
        let other : 180000 - a ≡ 90000 = omega arith in
        let none : half_turn 90000 ≡ pos 0 = half_turn-low 90000 (omega arith) ∙ ap pos right_angle in
        ap half_turn other ∙ none ∙ ap neg_ℤ (sym (ap half_turn same ∙ none))

-- a full turn less the angle has the same cosine
full_turn-mirror : (a : ℕ) → a ≤ 360000 → full_turn (360000 - a) ≡ full_turn a
full_turn-mirror a h = by_half (cases_lt a 180000) (cases_lt 180000 a)
  where
    by_half : (a < 180000) ⊎ (180000 ≤ a) → (180000 < a) ⊎ (a ≤ 180000) → full_turn (360000 - a) ≡ full_turn a
    by_half (inl low) s =
        let back : 360000 - (360000 - a) ≡ a = omega arith in
        full_turn-high (360000 - a) (omega arith) ∙ ap half_turn back ∙ sym (full_turn-low a (omega arith))
    by_half (inr r) (inl high) = full_turn-low (360000 - a) (omega arith) ∙ sym (full_turn-high a high)
    by_half (inr r) (inr s) = let same : 360000 - a ≡ a = omega arith in ap full_turn same

-- the opposite of an angle has what is left of a full turn, or nothing as it has
residue-neg : (angle : ℤ) → (residue (neg_ℤ angle) ≡ residue angle) ⊎ (residue (neg_ℤ angle) ≡ 360000 - residue angle)
residue-neg (pos zero) = inl refl
residue-neg (pos (suc n)) = by_rest (cases_lt (suc n % 360000) 1)
  where
    by_rest : (suc n % 360000 < 1) ⊎ (1 ≤ suc n % 360000) → (360000 - 1 - n % 360000 ≡ suc n % 360000) ⊎
        (360000 - 1 - n % 360000 ≡ 360000 - suc n % 360000)
    by_rest (inl h) = inl (omega arith)
    by_rest (inr h) = inr (omega arith)
residue-neg (negsuc n) = by_rest (cases_lt (suc n % 360000) 1)
  where
    by_rest : (suc n % 360000 < 1) ⊎ (1 ≤ suc n % 360000) → (suc n % 360000 ≡ 360000 - 1 - n % 360000) ⊎
        (suc n % 360000 ≡ 360000 - (360000 - 1 - n % 360000))
    by_rest (inl h) = inl (omega arith)
    by_rest (inr h) = inr (omega arith)

residue-lt : (angle : ℤ) → residue angle < 360000
residue-lt (pos n) = omega arith
residue-lt (negsuc n) = omega arith

-- the cosine is even
pub cosine_is_even : CosineIsEven
unfolding cosine
cosine_is_even angle = by_rest (residue-neg angle)
  where
    by_rest : (residue (neg_ℤ angle) ≡ residue angle) ⊎ (residue (neg_ℤ angle) ≡ 360000 - residue angle)
        → full_turn (residue (neg_ℤ angle)) ≡ full_turn (residue angle)
    by_rest (inl e) = ap full_turn e
    by_rest (inr e) = ap full_turn e ∙ full_turn-mirror (residue angle) (le_of_lt (residue-lt angle))

-- and has the period of a full turn
pub cosine_repeats : CosineRepeats
unfolding cosine
cosine_repeats angle =
    let more = residue_is (angle +ℤ pos 360000) (unsigned_abs angle) (lifted angle + 360000) (let here = lifted_is angle in omega (arith, ints)) in
    let here = residue-lifted angle in
    let same : residue (angle +ℤ pos 360000) ≡ residue angle = omega arith in
    ap full_turn same

-- the residue of 180 degrees less the angle
residue-opposite : (angle : ℤ) → residue (pos 180000 -ℤ angle) ≡ (540000 - residue angle) % 360000
residue-opposite angle =
    let turns = lifted angle / 360000 + 1 in
    let rest = lifted angle % 360000 in
    let above = (540000 - rest) + unsigned_abs angle * 360000 in
    let lifts : (pos 180000 -ℤ angle) +ℤ pos (turns * 360000) ≡ pos above = let here = lifted_is angle in omega (arith, ints) in
    let opposite = residue_is (pos 180000 -ℤ angle) turns above lifts in
    let whole : above % 360000 ≡ (540000 - rest) % 360000 = omega arith in
    opposite ∙ whole ∙ ap (λ t. (540000 - t) % 360000) (sym (residue-lifted angle))

full_turn-opposite : (a : ℕ) → a < 360000 → full_turn ((540000 - a) % 360000) ≡ neg_ℤ (full_turn a)
full_turn-opposite a h = by_half (cases_lt 180000 a)
  where
    by_half : (180000 < a) ⊎ (a ≤ 180000) → full_turn ((540000 - a) % 360000) ≡ neg_ℤ (full_turn a)
    by_half (inl high) =
        let there : (540000 - a) % 360000 ≡ 540000 - a = omega arith in
        let back : 360000 - (540000 - a) ≡ 180000 - (360000 - a) = omega arith in
        ap full_turn there ∙ full_turn-high (540000 - a) (omega arith) ∙ ap half_turn back ∙ half_turn-opposite
        (360000 - a) (omega arith) ∙ ap neg_ℤ (sym (full_turn-high a high))
    by_half (inr low) =
        let there : (540000 - a) % 360000 ≡ 180000 - a = omega arith in
        ap full_turn there ∙ full_turn-low (180000 - a) (omega arith) ∙ half_turn-opposite a low ∙ ap neg_ℤ
        (sym (full_turn-low a low))

-- at 180 degrees less the angle it is the opposite
pub cosine_is_opposite : CosineIsOpposite
unfolding cosine
cosine_is_opposite angle = ap full_turn (residue-opposite angle) ∙ full_turn-opposite (residue angle) (residue-lt angle)
