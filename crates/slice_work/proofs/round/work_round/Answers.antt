use Rattle.std.proofs.Common.{◌≡◌, ◌≤◌, ℕ, refl, subst}
use Rattle.layer_board.specs.Calls.{view, layers_of, Closed}
use Rattle.slice_work.specs.declared.round.Round.{Round}
use Rattle.slice_work.proofs.Closing.{round_whole}
use Rattle.slice_work.proofs.round.work_round.Goals as goal

pub returns-clause-round : goal.returns-clause-round
returns-clause-round g c =
    let least = c.close-least.result.least in
    let share = c.in_ok-pass.field-0 in
    let round : Round = record { first = c.args.first; count = c.args.count; least = least; done = share.done } in
    let count : layers_of c.in_ok-board.board ≡ c.args.count = c.in_ok-board.ensures.board.0 in
    let closed : Closed (layers_of c.in_ok-board.board) least (view share.pass) = c.close-least.ensures.closed in
    let within : least ≤ layers_of c.in_ok-board.board = c.close-least.ensures.within in
    record {
      start = refl;
      size = refl;
      whole = round_whole round (view share.pass) c.requires.within (subst (λ (k : ℕ). least ≤ k) count within)
          (subst (λ (k : ℕ). Closed k least (view share.pass)) count closed) c.in_ok-pass.ensures.pool.share.noted;
    }
