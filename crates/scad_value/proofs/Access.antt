-- What stands at a place of a list.
use Rattle.std.proofs.Common.{◌≡◌, ℕ, zero, suc, ◌<◌, ◌≤◌, List, [], ◌∷◌, refl, arith, get_or, length}
use Rattle.scad_value.specs.declared.value.Value.{Value}
use Rattle.scad_value.specs.Datum.{undef, string}
use Rattle.scad_value.specs.Index.{character}
use Rattle.scad_value.specs.Products.{nth}
use Rattle.scad_value.specs.View.{datum_of, elements}

pub nth-at : (all : List Value) (n : ℕ) (v : Value) → n < length all → nth (elements all) n ≡ datum_of (get_or all n v)
nth-at [] n v below = absurd (omega arith)
nth-at (w ∷ all) zero v below = refl
nth-at (w ∷ all) (suc n) v below = nth-at all n v (omega arith)

pub nth-past : (all : List Value) (n : ℕ) → length all ≤ n → nth (elements all) n ≡ undef
nth-past [] n past = refl
nth-past (w ∷ all) zero past = absurd (omega arith)
nth-past (w ∷ all) (suc n) past = nth-past all n (omega arith)

pub character-at : (chars : List ℕ) (n : ℕ) → n < length chars → character chars n ≡ string (get_or chars n 0 ∷ [])
character-at [] n below = absurd (omega arith)
character-at (c ∷ chars) zero below = refl
character-at (c ∷ chars) (suc n) below = character-at chars n (omega arith)

pub character-past : (chars : List ℕ) (n : ℕ) → length chars ≤ n → character chars n ≡ undef
character-past [] n past = refl
character-past (c ∷ chars) zero past = absurd (omega arith)
character-past (c ∷ chars) (suc n) past = character-past chars n (omega arith)

pub ruleset places = (nth-at, nth-past, character-at, character-past)
