-- The corners of a ring by their places on the way round, which goes on to the second corner.
use Rattle.std.proofs.Common.{◌≡◌, ℕ, zero, suc, ◌+◌, ◌-◌, ◌<◌, ◌≤◌, List, [], ◌∷◌, ◌++◌, length, get_or, refl, sym, ap, ◌∙◌, arith}
use lib.IntN.{ℤ, pos}
use lib.Signed.{◌<ℤ◌, ◌≤ℤ◌}
use Rattle.std.proofs.lemmas.List.{get_or_append_left, get_or-append-add}
use Rattle.scad_hull.specs.Ring.{round, IsRightOfNone, AllTurnLeft}

round_is : {X : Type 0} (p q : X) (ps : List X)
    → round (p ∷ (q ∷ ps)) ≡ (p ∷ (q ∷ ps)) ++ (p ∷ (q ∷ []))
round_is p q ps = refl

-- a corner by its place in the ring
pub corner_there : {X : Type 0} (xs : List X) (j : ℕ) (r : X) → 2 ≤ length xs → j < length xs
    → r ≡ get_or xs j r → r ≡ get_or (round xs) j r
corner_there [] j r l h e = absurd (omega arith)
corner_there (p ∷ []) j r l h e = absurd (omega arith)
corner_there (p ∷ (q ∷ ps)) j r l h e = e ∙ sym (get_or_append_left (p ∷ (q ∷ ps)) (p ∷ (q ∷ [])) r j h)

-- the first two again
pub corner_again : {X : Type 0} (xs : List X) (j : ℕ) (r : X) → 2 ≤ length xs → length xs ≤ j
    → j < length xs + 2 → r ≡ get_or xs (j - length xs) r → r ≡ get_or (round xs) j r
corner_again [] j r l m h e = absurd (omega arith)
corner_again (p ∷ []) j r l m h e = absurd (omega arith)
corner_again {X = X} (p ∷ (q ∷ ps)) j r l m h e =
    let n = length (p ∷ (q ∷ ps)) in
    let i = j - n in
    let back : n + i ≡ j = omega arith in
    e ∙ first_two i (omega arith) ∙ sym (get_or-append-add (p ∷ (q ∷ ps)) (p ∷ (q ∷ [])) i r)
    ∙ ap (λ k. get_or (round (p ∷ (q ∷ ps))) k r) back
  where
    first_two : (i : ℕ) → i < 2 → get_or (p ∷ (q ∷ ps)) i r ≡ get_or (p ∷ (q ∷ [])) i r
    first_two zero h = refl
    first_two (suc zero) h = refl
    first_two (suc (suc i)) h = absurd (omega arith)

module _ {X : Type 0} (left : X → X → X → ℤ) where
  turns_rest : (x y : X) (zs : List X) → AllTurnLeft left (x ∷ (y ∷ zs)) → AllTurnLeft left (y ∷ zs)
  turns_rest x y [] t = tt
  turns_rest x y (z ∷ zs) t = t.1

  -- the turn at a place of a way
  pub turn_by_place : (way : List X) (j : ℕ) (d : X) → suc (suc j) < length way → AllTurnLeft left way
      → pos 0 <ℤ left (get_or way j d) (get_or way (suc j) d) (get_or way (suc (suc j)) d)
  turn_by_place [] j d h t = absurd (omega arith)
  turn_by_place (a ∷ []) j d h t = absurd (omega arith)
  turn_by_place (a ∷ (b ∷ [])) j d h t = absurd (omega arith)
  turn_by_place (a ∷ (b ∷ (c ∷ way))) zero d h t = t.0
  turn_by_place (a ∷ (b ∷ (c ∷ way))) (suc j) d h t = turn_by_place (b ∷ (c ∷ way)) j d (omega arith) t.1

  -- and what lies to the left of the side from there
  pub hold_by_place : (q : X) (way : List X) (j : ℕ) (d : X) → suc j < length way → IsRightOfNone left q way
      → pos 0 ≤ℤ left (get_or way j d) (get_or way (suc j) d) q
  hold_by_place q [] j d h r = absurd (omega arith)
  hold_by_place q (a ∷ []) j d h r = absurd (omega arith)
  hold_by_place q (a ∷ (b ∷ way)) zero d h r = r.0
  hold_by_place q (a ∷ (b ∷ way)) (suc j) d h r = hold_by_place q (b ∷ way) j d (omega arith) r.1

-- for `using(..)`
pub ruleset corners = (corner_there, corner_again)
