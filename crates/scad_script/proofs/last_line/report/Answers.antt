-- Where a last line is told, the report wasn't silenced, so it is sound.
use Rattle.std.proofs.Common.{◌≡◌, Result, Ok, Err, sym, ap, ◌∙◌}
use Rattle.scad_fault.specs.declared.text.Text.{Text}
use Rattle.scad_script.specs.declared.stop.Stop.{Stop}
use Rattle.scad_script.specs.declared.stop.Stop.TheVariants.{Ends, Read, Write, Silent, Memory}
use Rattle.scad_script.specs.declared.refusal.Refusal.{Refusal}
use Rattle.scad_script.proofs.last_line.report.Goals as goal

done_is_told : {line : Text} → ◌≡◌ {A = Result Text Stop} (Ok line) (Err Silent) → ⊥
done_is_told is = cc

refusal_is_told : {refusal : Refusal} → ◌≡◌ {A = Result Text Stop} (Err (Ends refusal)) (Err Silent) → ⊥
refusal_is_told is = cc

read_is_told : ◌≡◌ {A = Result Text Stop} (Err Read) (Err Silent) → ⊥
read_is_told is = cc

write_is_told : ◌≡◌ {A = Result Text Stop} (Err Write) (Err Silent) → ⊥
write_is_told is = cc

memory_is_told : ◌≡◌ {A = Result Text Stop} (Err Memory) (Err Silent) → ⊥
memory_is_told is = cc

-- what ended with a stop ended with the one that it is
stopped : {ended : Result Text Stop} {stop other : Stop} → ended ≡ Err stop → stop ≡ other → ended ≡ Err Silent
    → ◌≡◌ {A = Result Text Stop} (Err other) (Err Silent)
stopped ended is silent = ap {B = Result Text Stop} (λ (s : Stop). Err s) (sym is) ∙ sym ended ∙ silent

pub tell-requires : goal.tell-requires
tell-requires g c = record { sound = c.requires.sound (λ is. done_is_told (sym c.in-Ok.is ∙ is)) }

pub tell_refusal-requires : goal.tell_refusal-requires
tell_refusal-requires g c = record {
  sound = c.requires.sound (λ is. refusal_is_told (stopped c.in-Err-Ends.is c.in-Err-Ends.field-0-is is));
}

pub tell-requires-in-Err-Read : goal.tell-requires-in-Err-Read
tell-requires-in-Err-Read g c = record {
  sound = c.requires.sound (λ is. read_is_told (stopped c.in-Err-Read.is c.in-Err-Read.field-0-is is));
}

pub tell-requires-in-Err-Write : goal.tell-requires-in-Err-Write
tell-requires-in-Err-Write g c = record {
  sound = c.requires.sound (λ is. write_is_told (stopped c.in-Err-Write.is c.in-Err-Write.field-0-is is));
}

pub tell-requires-in-Err-Memory : goal.tell-requires-in-Err-Memory
tell-requires-in-Err-Memory g c = record {
  sound = c.requires.sound (λ is. memory_is_told (stopped c.in-Err-Memory.is c.in-Err-Memory.field-0-is is));
}
