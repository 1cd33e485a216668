-- What one pass knows, and what each event does to it.
use Rattle.std.specs.Prelude.{ℕ, ◌+◌, Bool, true, false, ◌||◌, if◌then◌else◌, nat_lt, Option, Some, None, option_to_list, List, [], ◌∷◌, ◌++◌}
use Rattle.layer_board.specs.declared.view.View.{View}

-- a pass that has drawn nothing, for a board of so many layers, with a count of numbers given and with members
abbrev pub empty : ℕ → ℕ → List ℕ → View
empty count given members = record {
  count = count;
  given = given;
  members = members;
  pending = None;
  ended = false;
  drawn = [];
  finished = [];
  failed = [];
  skipped = [];
}

-- the pass that a board opens with: it is member 0, and counts one number given
abbrev pub opened : ℕ → View
opened count = empty count 1 (0 ∷ [])

-- what is left of a pass that was joined to another
abbrev pub spent : View
spent = empty 0 0 []

-- Split: one number more was given ..
abbrev pub gives : View → View
gives v = record v { given = v.given + 1 }

-- .. and it is the only member of a new, empty pass
abbrev pub given : View → View
given v = empty v.count 0 (v.given ∷ [])

-- the layer n is drawn, and pending
abbrev pub draws : ℕ → View → View
draws n v = record v { drawn = v.drawn ++ n ∷ []; pending = Some n }

-- the pass was told that all layers are drawn
abbrev pub ends : View → View
ends v = record v { ended = true }

-- Claim, where the number n was found
abbrev pub claims : ℕ → View → View
claims n v = if nat_lt n v.count then draws n v else ends v

-- the pending layer becomes skipped
abbrev pub skips : View → View
skips v = record v { skipped = v.skipped ++ option_to_list v.pending; pending = None }

-- whether a layer is pending and lies above the number
abbrev pub is_above : ℕ → Option ℕ → Bool
is_above least None = false
is_above least (Some n) = nat_lt least n

-- Look, where the number least was found
abbrev pub looks : ℕ → View → View
looks least v = if is_above least v.pending then skips v else v

-- Fail: the pending layer becomes failed
abbrev pub fails : View → View
fails v = record v { failed = v.failed ++ option_to_list v.pending; pending = None }

-- Finish: the pending layer becomes finished
abbrev pub finishes : View → View
finishes v = record v { finished = v.finished ++ option_to_list v.pending; pending = None }

-- Join: all that either pass has
abbrev pub joins : View → View → View
joins v w = record {
  count = v.count;
  given = v.given + w.given;
  members = v.members ++ w.members;
  drawn = v.drawn ++ w.drawn;
  pending = None;
  finished = v.finished ++ w.finished;
  failed = v.failed ++ w.failed;
  skipped = v.skipped ++ w.skipped;
  ended = v.ended || w.ended;
}
