-- What sources mean: trees of solids, and no want of memory; parts of their trees.
use Rattle.std.proofs.Common.{◌≡◌, List, ℕ, Result, Ok, Err, refl, sym, ap, ◌∙◌}
use Rattle.scad_ast.specs.Tree.{Items}
use Rattle.scad_words.specs.declared.settings.Settings.{Settings}
use Rattle.scad_words.specs.Settings.{AreInRange}
use Rattle.scad_grammar.specs.Machine.{Refusal, syntax_at, nesting_at, left_out_at, outcome_of}
use Rattle.scad_lex.specs.declared.fault.LexFault.TheVariants.{BadText, Range, Memory}
use Rattle.scad_lex.specs.Tokens.{Answer, tokens}
use Rattle.scad_lex.proofs.Refusals.{IsOfText, of_text-tokens}
use Rattle.scad_machine.specs.declared.fault.EvalFault.TheVariants.{Fault, Over, Memory as WantOfMemory}
use Rattle.scad_expr.specs.State.{State, Outcome, gives, refuses}
use Rattle.scad_tree.specs.Solid.{Solid}
use Rattle.scad_tree.specs.Solids.{AreSolids}
use Rattle.meaning_laws.proofs.Programs.{programs_mean_solids, programs_want_no_memory}
use Rattle.slice_work.specs.declared.want.Want.{Want}
use Rattle.scad_slice.specs.Parts.{IsPart}
use Rattle.scad_run.specs.Answer.{Parts, ArePartsOfTree}
use Rattle.scad_run.specs.SourceMeaning.{Meant, meant_tree, meant_fault, meant_budget}
use Rattle.scad_run.specs.Meaning.{program_means, tokens_mean, source_means, Means}
use Rattle.scad_run.specs.Laws.{SourcesMeanSolids, SourcesWantNoMemory, SourcesMeanOne}

-- ---- solids
program_solids : (r : Result Items Refusal) (tree : Solid) (s : State) → program_means r ≡ gives tree s → AreSolids tree
program_solids (Ok program) tree s is = programs_mean_solids program tree s is
program_solids (Err refusal) tree s is = let never : ⊥ = cc in absurd never

tokens_solids : (answer : Answer) (tree : Solid) (s : State) → tokens_mean answer ≡ gives tree s → AreSolids tree
tokens_solids (Ok found) tree s is = program_solids (outcome_of found.0 found.1) tree s is
tokens_solids (Err fault) tree s is = let never : ⊥ = cc in absurd never

pub sources_mean_solids : SourcesMeanSolids
unfolding source_means
sources_mean_solids source tree s is = tokens_solids (tokens source) tree s is

-- ---- no want of memory
program_wants : (r : Result Items Refusal) (s : State) → program_means r ≡ refuses WantOfMemory s → ⊥
program_wants (Ok program) s is = programs_want_no_memory program s is
program_wants (Err (syntax_at at)) s is = let never : ⊥ = cc in never
program_wants (Err (nesting_at at)) s is = let never : ⊥ = cc in never
program_wants (Err (left_out_at at name)) s is = let never : ⊥ = cc in never

tokens_want : (answer : Answer) (s : State) → IsOfText answer → tokens_mean answer ≡ refuses WantOfMemory s → ⊥
tokens_want (Ok found) s of_text is = program_wants (outcome_of found.0 found.1) s is
tokens_want (Err (BadText at)) s of_text is = let never : ⊥ = cc in never
tokens_want (Err (Range at)) s of_text is = let never : ⊥ = cc in never
tokens_want (Err Memory) s of_text is = of_text

pub sources_want_no_memory : SourcesWantNoMemory
unfolding source_means
sources_want_no_memory source s is = tokens_want (tokens source) s (of_text-tokens source) is

-- ---- one meaning
meaning_there : (source : List ℕ) (outcome : Outcome Solid) → source_means source ≡ outcome
    → (meant : Meant) × Means source meant
meaning_there source (gives tree s) is = (meant_tree tree, (s, is))
meaning_there source (refuses (Fault fault) s) is = (meant_fault fault, (s, is))
meaning_there source (refuses (Over budget) s) is = (meant_budget budget, (s, is))
meaning_there source (refuses WantOfMemory s) is = absurd (sources_want_no_memory source s is)

-- what an outcome means; of want of memory nothing is asked
abbrev meant_by : Meant → Outcome Solid → Meant
meant_by other (gives tree s) = meant_tree tree
meant_by other (refuses (Fault fault) s) = meant_fault fault
meant_by other (refuses (Over budget) s) = meant_budget budget
meant_by other (refuses WantOfMemory s) = other

meant_is : (source : List ℕ) (meant other : Meant) → Means source meant → meant_by other (source_means source) ≡ meant
meant_is source (meant_tree tree) other (s, is) = ap (meant_by other) is
meant_is source (meant_fault fault) other (s, is) = ap (meant_by other) is
meant_is source (meant_budget budget) other (s, is) = ap (meant_by other) is

pub sources_mean_one : SourcesMeanOne
sources_mean_one source =
    let there = meaning_there source (source_means source) refl in (
      there.0,
      there.1,
      λ other is. sym (meant_is source other other is) ∙ meant_is source there.0 other there.1,
    )

-- ---- parts
-- by settings in range each of a tree's parts is a part of it
pub as_part : (tree : Solid) (parts : Parts) → ArePartsOfTree tree parts → (want : Want) (settings : Settings)
    → AreInRange settings → IsPart want settings tree (parts want settings)
as_part tree parts of_tree want settings in_range i = of_tree want settings in_range i
