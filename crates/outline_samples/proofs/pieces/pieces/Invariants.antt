use Rattle.std.specs.Prelude.{◌≡◌, pos, All}
use Rattle.scad_geom.specs.Limits.{coordinate_limit}
use Rattle.slice_pieces.specs.Pieces.{IsPieceWithin}
use Rattle.outline_samples.proofs.pieces.pieces.Given as goal

abbrev pub invariant-parts : goal.invariant-parts
invariant-parts l = record {
  can_next : (goal.iterator-parts).can_next l.part-iterator;
  finite : (goal.iterator-parts).is_finite l.part-iterator;
  within : All (IsPieceWithin coordinate_limit) l.pieces.items;
  starts : All (λ q. q.from.at.d ≡ pos 1) l.pieces.items;
  ends : All (λ q. q.to.at.d ≡ pos 1) l.pieces.items;
}
