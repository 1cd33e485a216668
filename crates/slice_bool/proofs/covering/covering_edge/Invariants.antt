use Rattle.std.proofs.Common.{◌≡◌, drop}
use Rattle.std.specs.List.{position}
use Rattle.slice_border.specs.Pieces.{covers}
use Rattle.slice_border.specs.Flats.{first_cover}
use Rattle.slice_bool.proofs.covering.covering_edge.Given as goal

abbrev pub invariant-flats : goal.invariant-flats
invariant-flats l = first_cover l.edges l.s.spot l.t.spot (drop l.k-index l.flats)
    ≡ position (covers l.s.spot l.t.spot)
    l.edges
