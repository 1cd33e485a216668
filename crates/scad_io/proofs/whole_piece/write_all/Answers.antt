-- What is sent piece by piece is the whole, in its order.
use Rattle.std.proofs.Common.{◌≡◌, ◌<◌, ◌≤◌, ◌==◌, ℕ, true, false, List, [], ◌∷◌, length, Result, Ok, Err}
use Rattle.std.proofs.Common.{refl, sym, ◌∙◌, arith, le_trans, eqb-true}
use Rattle.std.proofs.lemmas.Result.{err_from_is_err_and}
use Rattle.scad_io.specs.Desk.{HasCause}
use Rattle.scad_io.specs.declared.desk.Failed.{Failed}
use Rattle.scad_io.proofs.Pieces.{goes_on_by, stops_here, stops_at_zero}
use Rattle.scad_io.proofs.Output.{none_left, begun, ended, as_rest, failed-sent, created-sent}
use Rattle.scad_io.proofs.whole_piece.write_all.Goals as goal

-- what isn't empty has no length of 0
not_none : {n : ℕ} → 0 < n → n ≡ 0 → ⊥
not_none some none = omega arith

none_by_test : (bytes : List ℕ) → (length bytes == 0) ≡ true → bytes ≡ []
none_by_test [] test = refl
none_by_test (byte ∷ bytes) test = absurd (not_none (omega arith) (eqb-true (length (byte ∷ bytes)) 0 test))

some_by_test : (bytes : List ℕ) → (length bytes == 0) ≡ false → 0 < length bytes
some_by_test [] test = absurd (cc)
some_by_test (byte ∷ bytes) test = omega arith

-- the count of faults rose
risen : {T : Type 0} {before now new : ℕ} (r : Result T Failed) → before ≤ now → now < new → HasCause before new r
risen (Ok x) before now = record { later = omega arith; failed = tt }
risen (Err e) before now = record { later = omega arith; failed = omega arith }

pub returns-in_err-n-clause-ok : goal.returns-in_err-n-clause-ok
returns-in_err-n-clause-ok g c =
    let end = err_from_is_err_and c.from_residual.result c.from_residual.ensures.1 in
    rw end.1 tt

pub returns-in_err-n-clause-err : goal.returns-in_err-n-clause-err
returns-in_err-n-clause-err g c =
    let more = some_by_test c.pieces.rest.now (sym c.is_empty.ensures ∙ c.pieces-test.true) in
    let end = err_from_is_err_and c.from_residual.result c.from_residual.ensures.1 in
    rw end.1 (stops_here c.pieces.invariant.0 more c.in_err-n.ensures.view)

pub returns-in_err-n-clause-empty : goal.returns-in_err-n-clause-empty
returns-in_err-n-clause-empty g c =
    let more = some_by_test c.pieces.rest.now (sym c.is_empty.ensures ∙ c.pieces-test.true) in
    λ empty. absurd (not_none more (none_left c.pieces.invariant.0 empty))

pub returns-in_err-n-clause-cause : goal.returns-in_err-n-clause-cause
returns-in_err-n-clause-cause g c =
    risen c.from_residual.result c.pieces.invariant.2 c.in_err-n.ensures.cause.failed

pub returns-then-n-eq0-clause-err : goal.returns-then-n-eq0-clause-err
returns-then-n-eq0-clause-err g c =
    let more = some_by_test c.pieces.rest.now (sym c.is_empty.ensures ∙ c.pieces-test.true) in
    stops_at_zero c.in_ok-n.n c.pieces.invariant.0 more c.if-n-eq0.true c.in_ok-n.ensures.view

pub returns-then-n-eq0-clause-empty : goal.returns-then-n-eq0-clause-empty
returns-then-n-eq0-clause-empty g c =
    let more = some_by_test c.pieces.rest.now (sym c.is_empty.ensures ∙ c.pieces-test.true) in
    λ empty. absurd (not_none more (none_left c.pieces.invariant.0 empty))

pub returns-then-n-eq0-clause-cause : goal.returns-then-n-eq0-clause-cause
returns-then-n-eq0-clause-cause g c =
    let rose = c.in_ok-n.ensures.cause.nothing c.if-n-eq0.true in
    risen (Err (record {})) c.pieces.invariant.2 rose

pub pieces-preserved : goal.pieces-preserved
pieces-preserved g c =
    let more = some_by_test c.pieces.rest.now (sym c.is_empty.ensures ∙ c.pieces-test.true) in (
      goes_on_by c.in_ok-n.n c.pieces.invariant.0 c.if-n-eq0.false c.in_ok-n.ensures.view,
      c.in_ok-n.ensures.files ∙ c.pieces.invariant.1,
      le_trans c.pieces.invariant.2 c.in_ok-n.ensures.cause.later,
      λ empty. absurd (not_none more (none_left c.pieces.invariant.0 empty)),
    )

pub write-requires-clause-sound : goal.write-requires-clause-sound
write-requires-clause-sound g c =
    let but = c.pieces.invariant.0 in
    rw but.view (failed-sent c.args.out but.front false (g.D.Desk.view c.args.desk.now))

pub write-requires-clause-made : goal.write-requires-clause-made
write-requires-clause-made g c =
    let but = c.pieces.invariant.0 in
    λ kind. rw but.view (created-sent c.args.out but.front false (g.D.Desk.view c.args.desk.now) ∙ c.requires.made kind)

pub pieces-init : goal.pieces-init
pieces-init g c =
    (begun c.args.out c.args.bytes.now (g.D.Desk.view c.args.desk.now) c.requires.sound, refl, omega arith, λ _. refl)

pub returns-clause-ok : goal.returns-clause-ok
returns-clause-ok g c =
    let none = none_by_test c.pieces.rest.now (sym c.is_empty.ensures ∙ c.pieces-test.false) in
    ended (as_rest none c.pieces.invariant.0)

pub returns-clause-cause : goal.returns-clause-cause
returns-clause-cause g c = record { later = c.pieces.invariant.2; failed = tt }
