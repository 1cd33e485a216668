-- Parts of a height by the places of their strands, and those of changes.
use Rattle.std.specs.Prelude.{List, [], ◌∷◌, ℕ, zero, suc, ◌+◌, ◌-◌}
use Rattle.slice_sweep.specs.declared.change.Change.{Change}
use Rattle.slice_outlines.specs.declared.run.Run.{Run}

abbrev pub first : Run
first = record { below = 0; below_to = 0; above = 0; above_to = 0 }

-- the strands of a change, behind a part up to which all are counted
abbrev pub after : Run → Change → Run
after done c = record {
  below = done.below_to + (c.from - done.above_to);
  below_to = done.below_to + (c.from - done.above_to) + c.gone;
  above = c.from;
  above_to = c.from + c.come;
}

-- the strands of the last of the first so many changes
abbrev pub run_of : Run → ℕ → List Change → Run
run_of done zero cs = done
run_of done (suc n) [] = done
run_of done (suc n) (c ∷ cs) = run_of (after done c) n cs
