use Rattle.std.proofs.Common.{arith}
use Rattle.std.proofs.lemmas.List.{length-map}
use Rattle.scad_scope.specs.FrameNames.{listing_of}
use Rattle.scad_scope.specs.ListedValues.{name_placed}
use Rattle.scad_scope.proofs.Few.{few-value}
use Rattle.scad_scope.proofs.placed_values.PlacedValues.value.Goals as goal

pub returns : goal.returns
returns c =
    λ name more at.
    let v = c.args.self.now in
    let listing = listing_of v in
    let many = length-map v.entries.items (name_placed listing) in
    few-value (name_placed listing) name v.entries.items more c.args.number c.index.result.now at
    (omega (arith, many, c.requires)) c.index.ensures
