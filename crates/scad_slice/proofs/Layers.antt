-- Layers one after another: all are written, or one passes a budget.
use Rattle.std.proofs.Common.{◌≡◌, ◌⊎◌, inl, inr, ◌+◌, ◌<◌, ◌++◌, List, [], ℕ, zero, suc, Result, Ok, Err, refl}
use Rattle.std.proofs.Common.{sym, ap, ◌∙◌, arith, append_assoc}
use Rattle.std.specs.Prelude.{flat_map}
use Rattle.std.specs.List.{range_with_len}
use Rattle.scad_fault.specs.declared.budget.Budget.{Budget}
use Rattle.scad_script.specs.declared.refusal.Refusal.TheVariants.{Over}
use Rattle.scad_script.specs.Steps.{Step}
use Rattle.scad_script.specs.Script.{Script, Refuses, first, ends, layer_then, layers}
use Rattle.gcode_text.specs.declared.rates.Rates.{Rates}
use Rattle.slice_work.specs.declared.want.Want.{Want}
use Rattle.slice_work.specs.Part.{Layout, Part}
use Rattle.slice_work.specs.Script.{written_unless, layer_steps, volume_below}
use Rattle.scad_slice.specs.Parts.{AreMade}

-- these steps and those, and then a script
pub first_of_both : (a b : List Step) (rest : Script) → first a (first b rest) ≡ first (a ++ b) rest
first_of_both a b rest =
    ap (λ steps. record { steps = steps; ending = rest.ending }) (sym (append_assoc a b rest.steps))

-- the steps of a layer, none where it passes a budget
abbrev pub steps_of : Result (List Step) Budget → List Step
steps_of (Ok steps) = steps
steps_of (Err budget) = []

-- none of n layers from layer i on passes a budget
abbrev pub AreMadeFrom : Part → ℕ → ℕ → Type 0
AreMadeFrom part i n = (k : ℕ) → k < n → (layout : Layout) × (part (i + k) ≡ Ok layout)

-- behind so many layers that don't, one passes a budget
pub record Passes (part : Part) (i n : ℕ) : Type 0 where
  pub count : ℕ
  pub inside : count < n
  pub made : AreMadeFrom part i count
  pub budget : Budget
  pub passed : part (i + count) ≡ Err budget

made_next : (part : Part) (i n : ℕ) (layout : Layout) → part i ≡ Ok layout → AreMadeFrom part (i + 1) n
    → AreMadeFrom part i (suc n)
made_next part i n layout is behind zero inside = (layout, ap part (omega arith) ∙ is)
made_next part i n layout is behind (suc k) inside =
    let less : k < n = omega (arith, inside) in
    let found = behind k less in
    (found.0, ap part (omega arith) ∙ found.1)

pub made_all : (part : Part) (n : ℕ) → AreMadeFrom part 0 n → AreMade part n
made_all part n made i inside = let found = made i inside in (found.0, ap part (omega arith) ∙ found.1)

pub made_from : (part : Part) (n : ℕ) → AreMade part n → AreMadeFrom part 0 n
made_from part n made k inside = let found = made k inside in (found.0, ap part (omega arith) ∙ found.1)

module _ (want : Want) (rates : Rates) (part : Part) where
  -- what n layers from layer i on write
  abbrev pub written_from : ℕ → ℕ → List Step
  written_from i n = flat_map (λ k. steps_of (layer_steps want rates part k)) (range_with_len i n)

  -- all are written and then comes the rest, or one passes a budget
  abbrev pub Goes : ℕ → ℕ → Script → Type 0
  Goes i n rest =
      (AreMadeFrom part i n × (layers (layer_steps want rates part) i n rest ≡ first (written_from i n) rest))
      ⊎ ((p : Passes part i n)
      × (layers (layer_steps want rates part) i n rest
      ≡ first (written_from i p.count) (ends (Refuses (Over p.budget)))))

  -- one layer and those behind it
  one_more : (i n : ℕ) (rest end : Script) (layout : Layout) (steps : List Step) → part i ≡ Ok layout
      → layers (layer_steps want rates part) (i + 1) n rest ≡ first steps end
      → layers (layer_steps want rates part) i (suc n) rest
      ≡ first (steps_of (layer_steps want rates part i) ++ steps) end
  one_more i n rest end layout steps is same =
      ap (λ l. layer_then (written_unless want rates (volume_below want rates part i) i l)
      (layers (layer_steps want rates part) (i + 1) n rest)) is
      ∙ ap (λ l. first (steps_of (written_unless want rates (volume_below want rates part i) i l))
      (layers (layer_steps want rates part) (i + 1) n rest)) (sym is)
      ∙ ap (λ s. first (steps_of (layer_steps want rates part i)) s) same
      ∙ first_of_both (steps_of (layer_steps want rates part i)) steps end

  goes_next : (i n : ℕ) (rest : Script) (found : Result Layout Budget) → part i ≡ found → Goes (i + 1) n rest
      → Goes i (suc n) rest
  goes_next i n rest (Err budget) is behind = inr (
    record {
      count =
          0;
      inside =
          omega arith;
      made =
          λ k less. absurd (omega (arith, less));
      budget = budget;
      passed = ap part (omega arith) ∙ is;
    },
    ap (λ l. layer_then (written_unless want rates (volume_below want rates part i) i l)
        (layers (layer_steps want rates part) (i + 1) n rest)) is,
  )
  goes_next i n rest (Ok layout) is (inl (made, same)) = inl (
    made_next part i n layout is made,
    one_more i n rest rest layout (written_from (i + 1) n) is same,
  )
  goes_next i n rest (Ok layout) is (inr (p, same)) =
      let within : p.count < n = p.inside in
      inr (
        record {
          count = suc p.count;
          inside = omega (arith, within);
          made = made_next part i p.count layout is p.made;
          budget = p.budget;
          passed = ap part (omega arith) ∙ p.passed;
        },
        one_more i n rest (ends (Refuses (Over p.budget))) layout (written_from (i + 1) p.count) is same,
      )

  pub goes : (i n : ℕ) (rest : Script) → Goes i n rest
  goes i zero rest = inl ((λ k less. absurd (omega (arith, less))), refl)
  goes i (suc n) rest = goes_next i n rest (part i) refl (goes (i + 1) n rest)

  -- where none passes a budget all are written
  pub all_go : (i n : ℕ) (rest : Script) → AreMadeFrom part i n
      → layers (layer_steps want rates part) i n rest ≡ first (written_from i n) rest
  all_go i n rest made = by_either (goes i n rest)
    where
      by_either : Goes i n rest → layers (layer_steps want rates part) i n rest ≡ first (written_from i n) rest
      by_either (inl (every, same)) = same
      by_either (inr (p, same)) =
          let found = made p.count p.inside in
          let never : Ok found.0 ≡ Err p.budget = sym found.1 ∙ p.passed in
          let no : ⊥ = cc in
          absurd no
