-- What there is to say of a printing program by the outlines of layers, without want of memory.
use Rattle.std.specs.Prelude.{◌≡◌, ◌≢◌, ◌≤◌, List, ℕ, Result, Ok, Err}
use Rattle.cli_text.specs.Cli.{Layer}
use Rattle.gcode_text.specs.declared.fault.GFault.{GFault}
use Rattle.gcode_text.specs.Limits.{width_limit}
use Rattle.plan_verify.specs.declared.verdict.Verdict.{Verdict}
use Rattle.plan_verify.specs.declared.verdict.VerifyFault.{VerifyFault}
use Rattle.plan_verify.specs.declared.verdict.VerifyFault.TheVariants.{Memory}
use Rattle.plan_verify.specs.Verdict.{program_moves, refusal_of, IsVerdict}

-- the verdict on a printing program, or the first of its lines that isn't of the form
abbrev pub Opinion : Type 0
Opinion = Result Verdict GFault

-- this is the opinion on a program, by the outlines of layers and the width of a line
abbrev pub IsOpinion : List Layer → ℕ → List ℕ → Opinion → Type 0
IsOpinion layers width program (Ok verdict) = IsVerdict layers width program (Ok verdict)
IsOpinion layers width program (Err fault) = program_moves program ≡ Err fault

-- an opinion on each program, by all layers and widths
abbrev pub Opinions : Type 0
Opinions = List Layer → ℕ → List ℕ → Opinion

-- the widths that settings can have
abbrev pub IsWidth : ℕ → Type 0
IsWidth width = (100 ≤ width) × (width ≤ width_limit)

-- each of them is right
abbrev pub AreRight : Opinions → Type 0
AreRight opinions =
    (layers : List Layer) (width : ℕ) (program : List ℕ) → IsWidth width
    → IsOpinion layers width program (opinions layers width program)

-- an opinion is what the judgement of a program answers, but for want of memory
abbrev pub Answers : Result Verdict VerifyFault → Opinion → Type 0
Answers (Ok verdict) opinion = opinion ≡ Ok verdict
Answers (Err fault) opinion =
    fault ≢ Memory → (refusal : GFault) × (opinion ≡ Err refusal) × (fault ≡ refusal_of refusal)
