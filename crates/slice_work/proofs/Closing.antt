-- What a board is closed with makes a whole round.
use Rattle.std.proofs.Common.{◌≡◌, ◌≤◌, ◌+◌, ℕ, List, Contains, sym, subst, arith}
use Rattle.layer_board.specs.declared.view.View.{View}
use Rattle.layer_board.specs.Numbers.{lowest}
use Rattle.layer_board.specs.Calls.{Closed}
use Rattle.layer_board.proofs.Counts.{lowest_among}
use Rattle.slice_work.specs.declared.round.Round.{Round}
use Rattle.slice_work.specs.Part.{layer_limit}
use Rattle.slice_work.specs.Shares.{IsNoted}
use Rattle.slice_work.specs.Rounds.{IsWhole}

pub round_whole : (r : Round) (v : View) → r.first + r.count ≤ layer_limit → r.least ≤ r.count
    → Closed r.count r.least v → IsNoted r.first v r.done.items → IsWhole r
round_whole r v limit within closed noted =
    record {
      within = within;
      limit = limit;
      from = noted.from;
      made = λ n below. subst (λ (xs : List ℕ). Contains xs n) noted.finished (closed.finished n below);
      over = λ less.
          let lowest_is : r.least ≡ lowest r.count v.failed = closed.is_lowest in
          let there : Contains v.failed (lowest r.count v.failed) = lowest_among r.count v.failed (omega arith) in
          let here : Contains v.failed r.least = subst (Contains v.failed) (sym lowest_is) there in
          subst (λ (xs : List ℕ). Contains xs r.least) noted.failed here;
    }
