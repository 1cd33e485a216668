use Rattle.std.proofs.Common.{ap, sym, ◌∙◌}
use Rattle.std.specs.Prelude.{not}
use Rattle.scad_tree.proofs.Rows.{some_members}
use Rattle.scad_tree.proofs.inside.has_any.Goals as goal

pub returns : goal.returns
returns c = ap not c.is_empty.ensures ∙ sym (some_members c.args.nodes.now)
