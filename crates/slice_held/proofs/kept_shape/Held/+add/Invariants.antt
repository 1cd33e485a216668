use Rattle.std.proofs.Common.{drop}
use Rattle.slice_held.proofs.Adding.{IsAdding}
use Rattle.slice_held.proofs.kept_shape.Held.+add.Given as goal

abbrev pub invariant-add_all-members : goal.invariant-add_all-members
invariant-add_all-members l = IsAdding l.parent l.raises l.members (drop l.member-index l.members) l.fn.self l.self
