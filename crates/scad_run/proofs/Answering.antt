-- How a script ends that was answered by a status.
use Rattle.std.proofs.Common.{◌≡◌, ◌≢◌, ◌⊎◌, inl, inr, List, ℕ, refl, sym}
use Rattle.scad_fault.specs.declared.status.Status.{Status}
use Rattle.scad_fault.specs.declared.status.Status.TheVariants.{Done, Source, Usage, Settings, Read, Write, Over, Memory, Outside, BadFile}
use Rattle.scad_io.specs.Desk.{View}
use Rattle.scad_script.specs.declared.refusal.Refusal.{Refusal}
use Rattle.scad_script.specs.Steps.{Step}
use Rattle.scad_script.specs.Names.{Given}
use Rattle.scad_script.specs.Script.{Script, Ending, Finishes, Refuses, Lacks, refused}
use Rattle.scad_script.specs.Promises.{IsAnswered, Promised}

-- with Done it finishes
pub done_finishes : (steps : List Step) (ending : Ending) (old new : View)
    → IsAnswered (record { steps = steps; ending = ending }) Done old new
    → (line : List ℕ) × (ending ≡ Finishes line)
done_finishes steps (Finishes line) old new answered = (line, refl)
done_finishes steps (Refuses (Refusal.Source fault)) old new answered = let same = answered.0 in let never : ⊥ = cc in absurd never
done_finishes steps (Refuses Refusal.Usage) old new answered = let same = answered.0 in let never : ⊥ = cc in absurd never
done_finishes steps (Refuses (Refusal.Settings fault)) old new answered = let same = answered.0 in let never : ⊥ = cc in absurd never
done_finishes steps (Refuses (Refusal.Over budget)) old new answered = let same = answered.0 in let never : ⊥ = cc in absurd never
done_finishes steps (Refuses (Refusal.Outside number line)) old new answered = let same = answered.0 in let never : ⊥ = cc in absurd never
done_finishes steps (Refuses (Refusal.BadFile kind first second)) old new answered = let same = answered.0 in let never : ⊥ = cc in absurd never
done_finishes steps Lacks old new answered = absurd answered

-- with another it is refused, by a refusal of this status
pub other_refuses : (steps : List Step) (ending : Ending) (status : Status) (old new : View)
    → IsAnswered (record { steps = steps; ending = ending }) status old new → status ≢ Done
    → (refusal : Refusal) × (ending ≡ Refuses refusal) × (refused refusal ≡ status)
other_refuses steps (Finishes line) status old new answered other = absurd (other (sym answered.0))
other_refuses steps (Refuses refusal) status old new answered other = (refusal, refl, answered.0)
other_refuses steps Lacks status old new answered other = absurd answered

-- a script is answered, but for a fault or want of memory
pub answered_by : (given : Given) (whole : Script) (status : Status) (old new : View)
    → Promised given whole status old new → (status ≡ Read → ⊥) → (status ≡ Write → ⊥)
    → IsAnswered whole status old new ⊎ (status ≡ Memory)
answered_by given whole Done old new promised read write = inl promised
answered_by given whole (Source fault) old new promised read write = inl promised
answered_by given whole Usage old new promised read write = inl promised
answered_by given whole (Settings fault) old new promised read write = inl promised
answered_by given whole Read old new promised read write = absurd (read refl)
answered_by given whole Write old new promised read write = absurd (write refl)
answered_by given whole (Over budget) old new promised read write = inl promised
answered_by given whole Memory old new promised read write = inr refl
answered_by given whole (Outside number at) old new promised read write = inl promised
answered_by given whole (BadFile kind first second) old new promised read write = inl promised
