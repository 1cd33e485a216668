use Rattle.std.proofs.Common.{sym, ap, ◌∙◌, option_map}
use Rattle.scad_scope.specs.FrameNames.{named_in, placed_in}
use Rattle.scad_scope.specs.Listing.{place_of}
use Rattle.scad_scope.specs.Names.{value_of_name}
use Rattle.scad_scope.specs.View.{names_in}
use Rattle.scad_scope.proofs.HeldNames.{alone, held-alone, held-listing}
use Rattle.scad_scope.proofs.frame_names.FrameNames.at.Goals as goal

pub returns : goal.returns
unfolding names_in
returns c =
    λ name listing told is.
    let n = c.args.self.now in
    let names = option_map (λ l. l.now) n.placed.names in
    let placed = placed_in n.placed in
    let none = held-alone names placed (named_in n.named) listing n.other told in
    let held = held-listing names _ listing told in
    c.at.ensures name (ap (place_of name) held.0 ∙ is)
    ∙ ap (value_of_name name) (sym (alone placed (named_in n.named) none))
