use Rattle.std.proofs.Common.{◌≡◌}
use Rattle.toml.specs.View.{members_view}
use Rattle.scad_words.specs.Settings.{first_fault}
use Rattle.scad_words.proofs.settings.first_fault.Given as goal

abbrev pub invariant-members : goal.invariant-members
invariant-members l =
    (goal.iterator-members).can_next l.key-iterator × (goal.iterator-members).is_finite l.key-iterator
    × (first_fault (members_view l.key-iterator) ≡ first_fault (members_view l.table.entries))
