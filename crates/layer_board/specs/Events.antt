-- A board as two numbers and its passes, and the six events that change it.
-- A pass is named by its place in the list. One that was joined to another stays there as `spent`, without members.
use Rattle.std.specs.Prelude.{◌≡◌, ◌≢◌, ℕ, ◌+◌, ◌<◌, false, None, Some, List, [], ◌∷◌, ◌++◌, length, Contains, slice_index_or, slice_set, option_to_list}
use Rattle.layer_board.specs.declared.view.View.{View}
use Rattle.layer_board.specs.Numbers.{lowest}
use Rattle.layer_board.specs.Pass.{opened, spent, gives, given, claims, looks, fails, finishes, joins}

pub record BoardState : Type 0 where
  pub next : ℕ
  pub least : ℕ
  pub passes : List View

-- where a board of so many layers begins
abbrev pub opening : ℕ → BoardState
opening count = record { next = 0; least = count; passes = opened count ∷ [] }

-- each event is one step of the pass at a place; at a join, the second place is that of the pass that is spent
pub data Event : Type 0 where
  Split : ℕ → Event
  Claim : ℕ → Event
  Look : ℕ → Event
  Fail : ℕ → Event
  Finish : ℕ → Event
  Join : ℕ → ℕ → Event

abbrev pub pass_at : BoardState → ℕ → View
pass_at s i = slice_index_or s.passes i spent

-- a pass that no join has spent
abbrev pub IsLive : View → Type 0
IsLive v = 0 < length v.members

-- a pass that has drawn nothing yet
pub record IsEmpty (v : View) : Type 0 where
  pub drawn : v.drawn ≡ []
  pub pending : v.pending ≡ None
  pub finished : v.finished ≡ []
  pub failed : v.failed ≡ []
  pub skipped : v.skipped ≡ []

-- when an event may be
abbrev pub Allowed : Event → BoardState → Type 0
Allowed (Split i) s = Contains (pass_at s i).members 0 × IsEmpty (pass_at s i)
Allowed (Claim i) s = IsLive (pass_at s i) × ((pass_at s i).pending ≡ None) × ((pass_at s i).ended ≡ false)
Allowed (Look i) s = (n : ℕ) × ((pass_at s i).pending ≡ Some n)
Allowed (Fail i) s = (n : ℕ) × ((pass_at s i).pending ≡ Some n)
Allowed (Finish i) s = (n : ℕ) × ((pass_at s i).pending ≡ Some n)
Allowed (Join i j) s =
    (j ≢ i) × IsLive (pass_at s i) × IsLive (pass_at s j)
    × ((pass_at s i).pending ≡ None) × ((pass_at s j).pending ≡ None)

-- the pass at the place is now v
abbrev pub put : ℕ → View → List View → List View
put i v passes = slice_set passes i v

-- the state after the event
abbrev pub after : Event → BoardState → BoardState
after (Split i) s = record s { passes = put i (gives (pass_at s i)) s.passes ++ given (pass_at s i) ∷ [] }
after (Claim i) s = record s { next = s.next + 1; passes = put i (claims s.next (pass_at s i)) s.passes }
after (Look i) s = record s { passes = put i (looks s.least (pass_at s i)) s.passes }
after (Fail i) s = record s {
  least = lowest s.least (option_to_list (pass_at s i).pending);
  passes = put i (fails (pass_at s i)) s.passes;
}
after (Finish i) s = record s { passes = put i (finishes (pass_at s i)) s.passes }
after (Join i j) s = record s { passes = put j spent (put i (joins (pass_at s i) (pass_at s j)) s.passes) }

-- the events, one after another, lead from s to t
abbrev pub Runs : List Event → BoardState → BoardState → Type 0
Runs [] s t = t ≡ s
Runs (e ∷ es) s t = Allowed e s × Runs es (after e s) t
