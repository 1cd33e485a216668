-- Layers one after another, and that a script with layers is orderly.
use Rattle.std.proofs.Common.{◌≡◌, ◌≢◌, ◌+◌, ◌-◌, ◌<◌, ◌++◌, List, [], ◌∷◌, ℕ, zero, suc, Result, Ok, Err, refl, sym, ap, ◌∙◌, subst, arith, append_assoc}
use Rattle.std.specs.Prelude.{IfOk, flat_map}
use Rattle.std.specs.List.{range_with_len}
use Rattle.std.proofs.lemmas.Grind.{flat_map-append}
use Rattle.scad_fault.specs.declared.budget.Budget.{Budget}
use Rattle.scad_io.specs.Desk.{View}
use Rattle.scad_io.specs.declared.desk.Out.{Out}
use Rattle.scad_io.specs.declared.desk.Out.TheVariants.{Report, Cli, Gcode}
use Rattle.scad_script.specs.Steps.{Step, Reads, Makes, Sends, piece_for, text_of, drawing}
use Rattle.scad_script.specs.Script.{Script, Ending, Finishes, Refuses, Lacks, layer_then, layers}
use Rattle.scad_script.specs.Names.{Given, AllFrom, AllStand, OnlyReads}
use Rattle.scad_script.specs.Play.{Left}

-- the next layer, and those behind it
pub next_layer : (layer : ℕ → Result (List Step) Budget) (i n : ℕ) (rest : Script) → i < n → layers layer i (n - i) rest
    ≡ layer_then (layer i) (layers layer (i + 1) (n - (i + 1)) rest)
next_layer layer i n rest inside =
    let more : n - i ≡ suc (n - (i + 1)) = omega (arith, inside) in
    ap (λ k. layers layer i k rest) more

-- behind the last layer comes the rest
pub no_layer : (layer : ℕ → Result (List Step) Budget) (n : ℕ) (rest : Script) → layers layer n (n - n) rest ≡ rest
no_layer layer n rest = let none : n - n ≡ 0 = omega arith in ap (λ k. layers layer n k rest) none

-- the same rest of a script, written in another way
pub as_left : {whole : Script} {a b : Script} {old now : View} → a ≡ b → Left whole a old now → Left whole b old now
as_left {whole = whole} {old = old} {now = now} same left = subst (λ (rest : Script). Left whole rest old now) same left

-- Layers that only write to the outputs that are created.

abbrev pub OnlySends : List Step → Type 0
OnlySends [] = Unit {0}
OnlySends (Reads name ∷ ss) = ⊥
OnlySends (Makes o name ∷ ss) = ⊥
OnlySends (Sends Report piece ∷ ss) = ⊥
OnlySends (Sends Cli piece ∷ ss) = OnlySends ss
OnlySends (Sends Gcode piece ∷ ss) = OnlySends ss

-- steps that draw, and keep what holds of every command's steps
pub record Draws (given : Given) (steps : List Step) : Type 0 where
  pub order : AllFrom drawing steps
  pub stand : AllStand given steps

sends_draw : (given : Given) (steps rest : List Step) → OnlySends steps → Draws given rest → Draws given (steps ++ rest)
sends_draw given [] rest only draws = draws
sends_draw given (Reads name ∷ ss) rest only draws = absurd only
sends_draw given (Makes o name ∷ ss) rest only draws = absurd only
sends_draw given (Sends Report piece ∷ ss) rest only draws = absurd only
sends_draw given (Sends Cli piece ∷ ss) rest only draws =
    let behind = sends_draw given ss rest only draws in
    record {
      order = (omega arith, behind.order);
      stand = (
        record { order = behind.order; name = tt; filled = tt },
        behind.stand,
      );
    }
sends_draw given (Sends Gcode piece ∷ ss) rest only draws =
    let behind = sends_draw given ss rest only draws in
    record {
      order = (omega arith, behind.order);
      stand = (
        record { order = behind.order; name = tt; filled = tt },
        behind.stand,
      );
    }

-- a piece for an output that is drawn, before steps that draw
pub piece_draws : (given : Given) (o : Out) (piece : List ℕ) (rest : List Step) → OnlySends (Sends o piece ∷ [])
    → Draws given rest → Draws given (Sends o piece ∷ rest)
piece_draws given Report piece rest only draws = absurd only
piece_draws given Cli piece rest only draws = sends_draw given (Sends Cli piece ∷ []) rest tt draws
piece_draws given Gcode piece rest only draws = sends_draw given (Sends Gcode piece ∷ []) rest tt draws

then_draws : (given : Given) (layer : Result (List Step) Budget) (rest : Script) → IfOk layer OnlySends
    → Draws given rest.steps → Draws given (layer_then layer rest).steps
then_draws given (Ok steps) rest only draws = sends_draw given steps rest.steps only draws
then_draws given (Err budget) rest only draws = record { order = tt; stand = tt }

pub layers_draw : (given : Given) (layer : ℕ → Result (List Step) Budget) (i n : ℕ) (rest : Script)
    → ((k : ℕ) → IfOk (layer k) OnlySends) → Draws given rest.steps → Draws given (layers layer i n rest).steps
layers_draw given layer i zero rest only draws = draws
layers_draw given layer i (suc n) rest only draws = then_draws given (layer i) (layers layer (i + 1) n rest) (only i)
    (layers_draw given layer (i + 1) n rest only draws)

-- a script with layers lacks a file only where the rest does
then_lacks : (layer : Result (List Step) Budget) (rest : Script) → rest.ending ≢ Lacks → (layer_then layer rest).ending
    ≢ Lacks
then_lacks (Ok steps) rest there = there
then_lacks (Err budget) rest there = λ same. let never : ⊥ = cc in absurd never

pub layers_lack : (layer : ℕ → Result (List Step) Budget) (i n : ℕ) (rest : Script) → rest.ending ≢ Lacks
    → (layers layer i n rest).ending ≢ Lacks
layers_lack layer i zero rest there = there
layers_lack layer i (suc n) rest there = then_lacks (layer i) (layers layer (i + 1) n rest)
    (layers_lack layer (i + 1) n rest there)

pub lacks_nothing : (steps : List Step) (ending : Ending) → ending ≢ Lacks → OnlyReads steps ending
lacks_nothing steps (Finishes line) there = tt
lacks_nothing steps (Refuses refusal) there = tt
lacks_nothing steps Lacks there = absurd (there refl)

-- Layers of which none passes a budget.

pub layers_text : (out : Out) (layer : ℕ → List Step) (i n : ℕ) (rest : Script)
    → text_of out (layers (λ k. Ok (layer k)) i n rest).steps ≡ flat_map (λ k. text_of out (layer k))
    (range_with_len i n) ++ text_of out rest.steps
layers_text out layer i zero rest = refl
layers_text out layer i (suc n) rest =
    flat_map-append (piece_for out) (layer i) (layers (λ k. Ok (layer k)) (i + 1) n rest).steps
    ∙ ap (λ text. text_of out (layer i) ++ text) (layers_text out layer (i + 1) n rest)
    ∙ sym (append_assoc (text_of out (layer i)) (flat_map (λ k. text_of out (layer k)) (range_with_len (i + 1) n))
    (text_of out rest.steps))

pub layers_ending : (layer : ℕ → List Step) (i n : ℕ) (rest : Script) → (layers (λ k. Ok (layer k)) i n rest).ending
    ≡ rest.ending
layers_ending layer i zero rest = refl
layers_ending layer i (suc n) rest = layers_ending layer (i + 1) n rest
