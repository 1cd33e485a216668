-- What holds of opinions, and of outlines that aren't read.
use Rattle.std.specs.Prelude.{◌≡◌, ◌≢◌, List, ℕ, Result, Err}
use Rattle.cli_text.specs.Cli.{Layer}
use Rattle.cli_read.specs.declared.fault.CliFault.TheVariants.{Memory}
use Rattle.cli_read.specs.Reading.{reading}
use Rattle.plan_verify.specs.declared.verdict.Verdict.{Verdict}
use Rattle.plan_verify.specs.declared.verdict.VerifyFault.{VerifyFault}
use Rattle.plan_verify.specs.Verdict.{IsVerdict}
use Rattle.verdict_laws.specs.Opinion.{Opinion, Opinions, IsOpinion, IsWidth, AreRight, Answers}

-- there are right opinions
abbrev pub OpinionsAreThere : Type 0
OpinionsAreThere = (opinions : Opinions) × AreRight opinions

-- all right opinions agree
abbrev pub OpinionsAreOne : Type 0
OpinionsAreOne =
    (a b : Opinions) → AreRight a → AreRight b → (layers : List Layer) (width : ℕ) (program : List ℕ)
    → IsWidth width → a layers width program ≡ b layers width program

-- a verdict is the opinion, but for want of memory
abbrev pub VerdictsAreOpinions : Type 0
VerdictsAreOpinions =
    (layers : List Layer) (width : ℕ) (program : List ℕ) (verdict : Result Verdict VerifyFault) (opinion : Opinion)
    → IsVerdict layers width program verdict → IsOpinion layers width program opinion → Answers verdict opinion

-- no outlines want memory to be read
abbrev pub OutlinesWantNoMemory : Type 0
OutlinesWantNoMemory = (bytes : List ℕ) → reading bytes ≢ Err Memory
