-- What the desk is asked for is what was given, and a part of what was left is read.
use Rattle.std.proofs.Common.{◌≡◌, ℕ, false, List, Result, Ok, Err}
use Rattle.std.specs.Prelude.{if◌then◌else◌, is_ok, is_err}
use Rattle.scad_io.proofs.Input.{fails, part_read}
use Rattle.scad_io.proofs.whole_text.pull.Goals as goal

added : {T E : Type 0} {now : List ℕ} (before after : List ℕ) (r : Result T E) → false ≡ is_err r
    → now ≡ (if is_ok r then after else before) → now ≡ after
added before after (Ok x) fine is = is
added before after (Err e) fine is = absurd (cc)

pub read-requires-clause-sound : goal.read-requires-clause-sound
read-requires-clause-sound g c = c.requires.sound

pub read-requires-clause-piece : goal.read-requires-clause-piece
read-requires-clause-piece g c = c.requires.piece

pub returns-in_default-clause-fault : goal.returns-in_default-clause-fault
returns-in_default-clause-fault g c = λ _. fails c.in_default.ensures.view

pub returns-then-is_err-clause-memory : goal.returns-then-is_err-clause-memory
returns-then-is_err-clause-memory g c =
    let read = c.in-Ok.ensures in
    λ _. part_read c.in-Ok.n c.read.new.into read.bytes read.view

pub returns-in_default-clause-later : goal.returns-in_default-clause-later
returns-in_default-clause-later g c = c.in_default.ensures.cause.later

pub returns-in_default-clause-cause : goal.returns-in_default-clause-cause
returns-in_default-clause-cause g c = λ _. c.in_default.ensures.cause.failed

pub returns-then-is_err-clause-later : goal.returns-then-is_err-clause-later
returns-then-is_err-clause-later g c = c.in-Ok.ensures.cause.later

pub returns-clause-text : goal.returns-clause-text
returns-clause-text g c =
    added _ _ c.extend_from_slice.result c.if-is_err.ensures.value c.extend_from_slice.ensures.items

pub returns-clause-view : goal.returns-clause-view
returns-clause-view g c = c.in-Ok.ensures.view

pub returns-clause-later : goal.returns-clause-later
returns-clause-later g c = c.in-Ok.ensures.cause.later
