-- The two frames that are put behind the others, and where names are sought then.
use Rattle.std.proofs.Common.{◌≡◌, ℕ, List, ◌++◌, ◌∷◌, [], None, refl, ap, ap₂, ◌∙◌}
use Rattle.std.proofs.lemmas.Result.{err_from_is_err_and}
use Rattle.scad_scope.specs.FrameStore.{Stored, pushed}
use Rattle.scad_scope.specs.View.{stored}
use Rattle.scad_machine.specs.Machine.{Held, held, state_of}
use Rattle.scad_machine.specs.OpenFrames.{opened}
use Rattle.scad_machine.proofs.machine.Machine.enter.Goals as goal

abbrev as_held : List Stored → List Stored → ℕ → ℕ → Held
as_held frames along here depth = record { frames = frames; along = along; here = here; depth = depth }

same_held : (frames frames2 along along2 : List Stored) (here here2 depth : ℕ) → frames ≡ frames2 → along ≡ along2
    → here ≡ here2 → as_held frames along here depth ≡ as_held frames2 along2 here2 depth
same_held frames frames2 along along2 here here2 depth e f g =
    ap₂ (λ a b. as_held a b here depth) e f ∙ ap (λ n. as_held frames2 along2 n depth) g

pub returns-in_err-number-clause-does : goal.returns-in_err-number-clause-does
returns-in_err-number-clause-does c =
    let p = err_from_is_err_and c.from_residual.result c.from_residual.ensures.1 in
    rw p.1 (λ some. absurd (some p.2))

pub returns-in_err-push-clause-does : goal.returns-in_err-push-clause-does
returns-in_err-push-clause-does c =
    let p = err_from_is_err_and c.from_residual-in_err-push.result c.from_residual-in_err-push.ensures.1 in
    rw p.1 (λ some. absurd (some p.2))

pub returns-clause-does : goal.returns-clause-does
unfolding state_of
returns-clause-does c = refl

pub returns-clause-held : goal.returns-clause-held
unfolding held opened
returns-clause-held c =
    same_held _ _ _ _ _ _ c.args.self.now.depth_left c.in_ok-number.ensures.frame
    (c.in_ok-push.ensures.frame
    ∙ ap (λ p. stored c.args.self.now.along ++ pushed p None None ∷ []) c.last_of-parent.ensures)
    c.in_ok-number.ensures.number
