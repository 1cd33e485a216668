-- How many bytes the files have.
use Rattle.std.proofs.Common.{◌≡◌, ◌+◌, ◌++◌, List, [], ◌∷◌, ℕ, zero, suc, Result, Ok, Err, refl, sym, ap, ◌∙◌, subst}
use Rattle.std.proofs.Common.{arith, length-append}
use Rattle.std.specs.Prelude.{map, length}
use Rattle.std.specs.List.{range_with_len, sum_by}
use Rattle.std.proofs.lemmas.List.{append-nil}
use Rattle.std.proofs.lemmas.List.Sums.{sum_by-cons}
use Rattle.scad_fault.specs.declared.budget.Budget.{Budget}
use Rattle.scad_io.specs.Desk.{View}
use Rattle.scad_io.specs.declared.desk.Out.{Out}
use Rattle.scad_io.specs.declared.desk.Out.TheVariants.{Cli, Gcode}
use Rattle.scad_script.specs.Steps.{Step, text_of}
use Rattle.scad_script.specs.Script.{Script, Ending, Finishes, first, ends, layer_then, layers}
use Rattle.scad_script.specs.Play.{Left, Carries}
use Rattle.scad_words.specs.declared.settings.Settings.{Settings}
use Rattle.slice_work.specs.declared.want.Want.{Want}
use Rattle.slice_work.specs.declared.summary.Summary.{Summary}
use Rattle.slice_work.specs.Part.{Part}
use Rattle.slice_work.specs.Script.{layer_steps}
use Rattle.slice_work.specs.Rates.{rates_of}
use Rattle.slice_work.specs.Sums.{step_size, size_below, IsSummary}
use Rattle.scad_slice.specs.declared.summary.Sizes.{Sizes}
use Rattle.scad_slice.specs.declared.summary.Written.{Written}
use Rattle.scad_slice.specs.Script.{heads, tails, file_size, HaveSizes, IsWritten}
use Rattle.scad_slice.proofs.Texts.{text_append}

-- layers that go to their end
module _ (out : Out) (layer : ℕ → Result (List Step) Budget) (line : List ℕ) where
  layer_size : (i n : ℕ) (rest : Script) (found : Result (List Step) Budget)
      → (layer_then found (layers layer (i + 1) n rest)).ending ≡ Finishes line
      → ((layers layer (i + 1) n rest).ending ≡ Finishes line
      → length (text_of out (layers layer (i + 1) n rest).steps)
      ≡ sum_by (step_size out) (map layer (range_with_len (i + 1) n)) + length (text_of out rest.steps))
      → length (text_of out (layer_then found (layers layer (i + 1) n rest)).steps)
      ≡ step_size out found + sum_by (step_size out) (map layer (range_with_len (i + 1) n)) + length
      (text_of out rest.steps)
  layer_size i n rest (Err budget) finishes behind = let never : ⊥ = cc in absurd never
  layer_size i n rest (Ok steps) finishes behind =
      let same = behind finishes in
      let both : length (text_of out (steps ++ (layers layer (i + 1) n rest).steps))
      ≡ length (text_of out steps) + length (text_of out (layers layer (i + 1) n rest).steps) =
      ap length (text_append out steps (layers layer (i + 1) n rest).steps)
      ∙ length-append (text_of out steps) (text_of out (layers layer (i + 1) n rest).steps)
      in
      omega (arith, same, both)

  layers_size : (i n : ℕ) (rest : Script) → (layers layer i n rest).ending ≡ Finishes line
      → length (text_of out (layers layer i n rest).steps)
      ≡ sum_by (step_size out) (map layer (range_with_len i n)) + length (text_of out rest.steps)
  layers_size i zero rest finishes = omega arith
  layers_size i (suc n) rest finishes =
      let behind = layer_size i n rest (layer i) finishes (layers_size (i + 1) n rest) in
      let counted : sum_by (step_size out) (layer i ∷ map layer (range_with_len (i + 1) n))
      ≡ step_size out (layer i) + sum_by (step_size out) (map layer (range_with_len (i + 1) n)) =
      sum_by-cons (step_size out) (layer i) (map layer (range_with_len (i + 1) n))
      in
      omega (arith, behind, counted)

-- a script that was played to its end has this end
pub ends_so : (whole : Script) (ending : Ending) (old now : View) → Left whole (ends ending) old now
    → whole.ending ≡ ending
ends_so whole ending old now left = ap (λ s. s.ending) (sym left.parts)

pub from_start : (whole : Script) (old : View) → Left whole whole old old
from_start whole old = record { done = []; parts = refl; went = refl }

-- what was carried through goes to its end
pub carried_through : {T : Type 0} (part : Script → Script) (t : T) (old new : View) → Carries part (Ok t) old new
    → (part (ends (Finishes []))).ending ≡ Finishes []
carried_through part t old new carries =
    ends_so (part (ends (Finishes []))) (Finishes []) old new
    (carries (part (ends (Finishes []))) (ends (Finishes [])) old (from_start (part (ends (Finishes []))) old))

module _ (want : Want) (s : Settings) (part : Part) (count : ℕ) where
  through_tails : (layers (layer_steps want (rates_of s) part) 0 count (ends (Finishes []))).ending ≡ Finishes []
      → (layers (layer_steps want (rates_of s) part) 0 count (first (tails want) (ends (Finishes [])))).ending
      ≡ Finishes []
  through_tails through = same_ending 0 count ∙ through
    where
      then_ending : (found : Result (List Step) Budget) (a b : Script) → a.ending ≡ b.ending
          → (layer_then found a).ending ≡ (layer_then found b).ending
      then_ending (Ok steps) a b same = same
      then_ending (Err budget) a b same = refl

      same_ending : (i n : ℕ)
          → (layers (layer_steps want (rates_of s) part) i n (first (tails want) (ends (Finishes [])))).ending
          ≡ (layers (layer_steps want (rates_of s) part) i n (ends (Finishes []))).ending
      same_ending i zero = refl
      same_ending i (suc n) =
          then_ending (layer_steps want (rates_of s) part i)
          (layers (layer_steps want (rates_of s) part) (i + 1) n (first (tails want) (ends (Finishes []))))
          (layers (layer_steps want (rates_of s) part) (i + 1) n (ends (Finishes []))) (same_ending (i + 1) n)

  sizes_add : (out : Out) → (layers (layer_steps want (rates_of s) part) 0 count (ends (Finishes []))).ending ≡ Finishes
      []
      → file_size out want s part count ≡ length (text_of out (heads want s count)) + size_below out want (rates_of s)
      part count + length (text_of out (tails want))
  sizes_add out through =
      let behind = layers (layer_steps want (rates_of s) part) 0 count (first (tails want) (ends (Finishes []))) in
      let head : length (text_of out (heads want s count ++ behind.steps))
      ≡ length (text_of out (heads want s count)) + length (text_of out behind.steps) =
      ap length (text_append out (heads want s count) behind.steps)
      ∙ length-append (text_of out (heads want s count)) (text_of out behind.steps)
      in
      let middle =
      layers_size out (layer_steps want (rates_of s) part) [] 0 count (first (tails want) (ends (Finishes [])))
      (through_tails through) in
      let end : length (text_of out (tails want ++ [])) ≡ length (text_of out (tails want)) =
      ap (λ steps. length (text_of out steps)) (append-nil (tails want)) in
      omega (arith, head, middle, end)

  -- what is told of the files
  pub written_so : (told : Summary) (before behind : Sizes) (w : Written) → HaveSizes (heads want s count) before
      → HaveSizes (tails want) behind
      → (layers (layer_steps want (rates_of s) part) 0 count (ends (Finishes []))).ending ≡ Finishes []
      → IsSummary want (rates_of s) part count told
      → w ≡ record
      { summary = told; cli = before.cli + told.cli + behind.cli; gcode = before.gcode + told.gcode + behind.gcode }
      → IsWritten want s part count w
  written_so told before behind w of_heads of_tails through summary is =
      subst (IsWritten want s part count) (sym is)
      (record {
        summary = summary;
        cli = (λ k. of_heads.cli k + summary.cli k + of_tails.cli k) ∙ sym (sizes_add Cli through);
        gcode = (λ k. of_heads.gcode k + summary.gcode k + of_tails.gcode k) ∙ sym (sizes_add Gcode through);
      })
