-- The moves that are told with their lines, of a program whose numbers are in range.
use Rattle.std.proofs.Common.{◌≡◌, ℕ, List, [], ◌∷◌, map, refl, ap, ◌∙◌, Option, Some, None, Result, Ok, Err}
use Rattle.std.specs.List.{AllByRecursion}
use Rattle.scad_base.specs.Results.{and_then}
use Rattle.gcode_text.specs.declared.fault.GFault.{GFault}
use Rattle.gcode_text.specs.declared.machine.Move.{Move}
use Rattle.gcode_text.specs.declared.rates.Rates.{Rates}
use Rattle.gcode_text.specs.Gcode.{Printed, gcode}
use Rattle.gcode_text.specs.Reading.{lines}
use Rattle.gcode_text.specs.Machine.{State, After, start, any, line_step, onto_moves, moves_of_lines, machine}
use Rattle.plan_verify.specs.Verdict.{Told, onto, moves_told, program_moves}
use Rattle.verdict_laws.proofs.InRange.{IsInRange}
use Rattle.verdict_laws.proofs.Programs.{HasRange, program_in_range}

value_or : {A : Type 0} → A → Result A GFault → A
value_or other (Ok a) = a
value_or other (Err fault) = other

value_is : {A : Type 0} (a b : A) → ◌≡◌ {A = Result A GFault} (Ok a) (Ok b) → a ≡ b
unfolding value_or
value_is {A} a b e = ap (λ (r : Result A GFault). value_or a r) e

moves_in : List Told → List Move
moves_in told = map (λ t. t.move) told

moves_onto : (line : ℕ) (move : Option Move) (told : List Told)
    → moves_in (onto line move told) ≡ onto_moves move (moves_in told)
unfolding moves_in
moves_onto line None told = refl
moves_onto line (Some move) told = refl

abbrev AreTold : State → List (List ℕ) → List Move → Type 0
AreTold s ls moves = (told : List Told) × (moves_told s ls ≡ Ok told) × (moves_in told ≡ moves)

told_of : (s : State) (ls : List (List ℕ)) (moves : List Move) → AllByRecursion IsInRange ls
    → moves_of_lines any s ls ≡ Ok moves → AreTold s ls moves
unfolding moves_of_lines moves_told moves_in
told_of s [] moves same e = ([], refl, value_is [] moves e)
told_of s (text ∷ rest) moves same e =
    by_line (line_step any s text) refl (λ t ms more. told_of t rest ms same.1 more) e
  where
    by_line : (r : Result After GFault) → line_step any s text ≡ r
        → ((t : State) (ms : List Move) → moves_of_lines any t rest ≡ Ok ms → AreTold t rest ms)
        → and_then r (λ after. and_then (moves_of_lines any after.state rest)
        (λ ms. Ok (onto_moves after.move ms))) ≡ Ok moves → AreTold s (text ∷ rest) moves
    by_line (Err fault) is more e = let never : ⊥ = cc in absurd never
    by_line (Ok after) is more e = by_rest (moves_of_lines any after.state rest) refl e
      where
        told_on : Result (List Told) GFault → Result (List Told) GFault
        told_on r = and_then r (λ ts. Ok (onto after.state.lines after.move ts))

        by_rest : (r : Result (List Move) GFault) → moves_of_lines any after.state rest ≡ r
            → and_then r (λ ms. Ok (onto_moves after.move ms)) ≡ Ok moves → AreTold s (text ∷ rest) moves
        by_rest (Err fault) are e = let never : ⊥ = cc in absurd never
        by_rest (Ok ms) are e =
            let told = more after.state ms are in (
              onto after.state.lines after.move told.0,
              ap (λ (r : Result After GFault). and_then r (λ after. and_then (moves_told after.state rest)
                  (λ ts. Ok (onto after.state.lines after.move ts)))) (same.0 s ∙ is) ∙ ap told_on told.1,
              moves_onto after.state.lines after.move told.0 ∙ ap (onto_moves after.move) told.2
                  ∙ value_is (onto_moves after.move ms) moves e,
            )

-- the moves of a program whose numbers are in range
pub program_told : (rates : Rates) (hot_end bed : ℕ) (layers : List Printed) (moves : List Move)
    → HasRange rates hot_end bed layers → machine (gcode rates hot_end bed layers) ≡ Ok moves
    → (told : List Told) × (program_moves (gcode rates hot_end bed layers) ≡ Ok told) × (map (λ t. t.move) told ≡ moves)
unfolding moves_in
program_told rates hot_end bed layers moves h made =
    told_of start (lines (gcode rates hot_end bed layers)) moves (program_in_range rates hot_end bed layers h) made
