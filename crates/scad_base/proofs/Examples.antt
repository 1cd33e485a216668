-- Worked examples of the words: which numbers are characters, characters by their names, results one after another,
-- and where want of memory may be an answer.
use Rattle.std.proofs.Common.{◌≡◌, ℕ, ◌+◌, ◌==◌, if◌then◌else◌, Bool, true, false, ◌∷◌, [], refl, sym, true≢false, Result, Ok, Err, codes}
use Rattle.scad_base.specs.Characters.{is_scalar, quote, plus, minus, point, digit_zero, upper_e, open_square, backslash, close_square, lower_e}
use Rattle.scad_base.specs.Memory.{UnlessMemory, Refuses, TakesMemoryFor, TakesNone}
use Rattle.scad_base.specs.Results.{and_then}

-- ---- characters: up to the surrogates, and behind them up to the last code point
last_before : is_scalar 0xD7FF ≡ true
last_before = refl

first_surrogate : is_scalar 0xD800 ≡ false
first_surrogate = refl

last_surrogate : is_scalar 0xDFFF ≡ false
last_surrogate = refl

first_behind : is_scalar 0xE000 ≡ true
first_behind = refl

last_of_all : is_scalar 0x10_FFFF ≡ true
last_of_all = refl

past_all : is_scalar 0x11_0000 ≡ false
past_all = refl

names : quote ∷ plus ∷ minus ∷ point ∷ digit_zero ∷ upper_e ∷ open_square ∷ backslash ∷ close_square ∷ lower_e ∷ []
    ≡ codes "\"+-.0E[\\]e"
names = refl

-- ---- results
-- the number after one, but two numbers are refused
abbrev next : ℕ → Result ℕ Bool
next n = if n == 7 then Err true else (if n == 8 then Err false else Ok (n + 1))

both : and_then (next 4) next ≡ Ok 6
both = refl

first_fault : and_then (next 7) next ≡ Err true
first_fault = refl

second_fault : and_then (and_then (next 6) next) next ≡ Err true
second_fault = refl

-- ---- want of memory, where the fault `true` stands for it
abbrev stands_for : Bool → Bool
stands_for fault = fault

-- a fact holds of a value and of another fault; where there was no memory nothing is said
fact_of_a_value : (P : Type 0) → UnlessMemory {A = ℕ} stands_for (Ok 5) P → P
fact_of_a_value P fact = fact

fact_of_a_fault : (P : Type 0) → UnlessMemory {A = ℕ} stands_for (Err false) P → P
fact_of_a_fault P fact = fact

nothing_of_memory : UnlessMemory {A = ℕ} stands_for (Err true) ⊥
nothing_of_memory = tt

-- a fault is that of the answer, but for want of memory
same_fault : Refuses {A = ℕ} stands_for (Err false) false
same_fault = refl

memory_for_a_value : Refuses {A = ℕ} stands_for (Ok 5) true
memory_for_a_value = tt

-- memory may be wanting where something is made, and nowhere else
made : TakesMemoryFor {A = ℕ} stands_for true (Err true)
made = refl

not_made : TakesMemoryFor {A = ℕ} stands_for false (Err true) → ⊥
not_made wanting = true≢false (sym wanting)

another_fault : TakesNone {A = ℕ} stands_for (Err false)
another_fault = refl

none_taken : TakesNone {A = ℕ} stands_for (Err true) → ⊥
none_taken wanting = true≢false (sym wanting)
