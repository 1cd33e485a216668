-- The strands behind a flat edge come after the place.
use Rattle.std.proofs.Common.{◌+◌, ◌<◌, ◌≤◌, ℕ, length, arith}
use Rattle.slice_outlines.proofs.Bits.{coordinate}
use Rattle.slice_outlines.proofs.cursor.way_over.Goals as goal

next_of : (i n : ℕ) → i < n → i + 1 ≤ n
next_of i n h = omega arith

behind : (i n : ℕ) → i + 1 ≤ n → i < n
behind i n h = omega arith

pub stop_of-requires-clause-within : goal.stop_of-requires-clause-within
stop_of-requires-clause-within c = c.requires.within

pub stop_of-requires-clause-at : goal.stop_of-requires-clause-at
stop_of-requires-clause-at c = c.requires.at

pub stop_of-requires-clause-passes : goal.stop_of-requires-clause-passes
stop_of-requires-clause-passes c = c.requires.pass c.args.place _ c.requires.place

pub whole_spot-requires-clause-x : goal.whole_spot-requires-clause-x
whole_spot-requires-clause-x c =
    rw (coordinate c.in-Some.e.right c.in-Some.e.right_size) c.in-Some.e.right_size

pub whole_spot-requires-clause-at : goal.whole_spot-requires-clause-at
whole_spot-requires-clause-at c = c.requires.at

pub first_behind-requires-clause-within : goal.first_behind-requires-clause-within
first_behind-requires-clause-within c = c.requires.within

pub first_behind-requires-clause-at : goal.first_behind-requires-clause-at
first_behind-requires-clause-at c = c.requires.at

pub first_behind-requires-clause-pass : goal.first_behind-requires-clause-pass
first_behind-requires-clause-pass c = c.requires.pass

pub first_behind-requires-clause-place : goal.first_behind-requires-clause-place
first_behind-requires-clause-place c = next_of c.args.place (length c.args.marks.now) c.requires.place

pub returns-in-Some-clause-aside : goal.returns-in-Some-clause-aside
returns-in-Some-clause-aside c = λ e. absurd (cc)

pub returns-in-Some-clause-right : goal.returns-in-Some-clause-right
returns-in-Some-clause-right c =
    (behind c.args.place c.first_behind.result c.first_behind.ensures.from, c.first_behind.ensures.bound)
