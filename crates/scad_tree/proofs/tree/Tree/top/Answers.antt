use Rattle.std.proofs.Common.{ap, ◌∙◌}
use Rattle.std.specs.Prelude.{is_none}
use Rattle.scad_tree.specs.Height.{top_of}
use Rattle.scad_tree.specs.View.{solid_of}
use Rattle.scad_tree.proofs.Tops.{none_of_nothing}
use Rattle.scad_tree.proofs.tree.Tree.top.Goals as goal

pub returns-clause-none : goal.returns-clause-none
returns-clause-none c =
    ap is_none (c.top.ensures ∙ ap (λ n. top_of (solid_of n)) c.as_node.ensures.same) ∙ none_of_nothing
    (solid_of c.args.self.now) c.as_node.ensures.normal
