-- What is known of moves that were read. Only the contracts of parts cite this; what is promised is said in Verdict.
use Rattle.std.specs.Prelude.{◌≡◌, ℕ, ◌+◌, Bool, true, false, if◌then◌else◌, Option, Some, None, is_some}
use Rattle.gcode_text.specs.declared.machine.Move.{Move}
use Rattle.plan_verify.specs.declared.judgement.Out.{Out}
use Rattle.plan_verify.specs.declared.judgement.Judgement.{Judgement}
use Rattle.plan_verify.specs.declared.verdict.Verdict.{Verdict}
use Rattle.plan_verify.specs.declared.verdict.Verdict.TheVariants.{Inside, Outside}

-- ---- judgements
abbrev pub first_out : Option Out → ℕ → ℕ → Option Out
first_out None number line = Some (record { number = number; line = line })
first_out (Some out) number line = Some out

abbrev pub added : Judgement → Bool → ℕ → Judgement
added j stays line = record {
  moves = j.moves + 1;
  out = if stays then j.out else first_out j.out (j.moves + 1) line;
}

abbrev pub verdict_of' : ℕ → Option Out → Verdict
verdict_of' moves None = Inside moves
verdict_of' moves (Some out) = Outside out.number out.line

abbrev pub verdict_of : Judgement → Verdict
verdict_of j = verdict_of' j.moves j.out

-- with a move that was read: one that extrudes is counted, and is the first that fails where none did before
pub data IsAdded (Does : Move → Type 0) (j : Judgement) (line : ℕ) (m : Move) : Judgement → Type 0 where
  passed : (m.extruding ≡ true → ⊥) → IsAdded Does j line m j
  late : m.extruding ≡ true → is_some j.out ≡ true → IsAdded Does j line m (added j true line)
  did : m.extruding ≡ true → j.out ≡ None → Does m → IsAdded Does j line m (added j true line)
  failed : m.extruding ≡ true → j.out ≡ None → (Does m → ⊥) → IsAdded Does j line m (added j false line)

-- with the move of a line, where it has one
abbrev pub WithMove : (Move → Type 0) → Option Move → ℕ → Judgement → Judgement → Type 0
WithMove Does None line j i = i ≡ j
WithMove Does (Some m) line j i = IsAdded Does j line m i
