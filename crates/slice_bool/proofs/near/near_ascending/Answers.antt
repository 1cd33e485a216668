-- The edges that meet the level say all of it.
use Rattle.std.proofs.Common.{◌≡◌, ◌<◌, ◌∙◌, All, sym, ap, subst, length, filter}
use Rattle.scad_geom.specs.Limits.{coordinate_limit}
use Rattle.scad_geom.specs.Within.{IsEdgeWithin}
use Rattle.slice_bundles.specs.Bundles.{edge_at}
use Rattle.slice_slab.proofs.Standing.{all_there}
use Rattle.slice_border.specs.Pieces.{is_flat_at}
use Rattle.slice_bool.specs.Near.{picked, touching_at}
use Rattle.slice_border.specs.Flats.{flats_from}
use Rattle.slice_bool.proofs.LevelEdges.{picked_touching, flats_touching, flats_there, all_touching}
use Rattle.slice_bool.proofs.near.near_ascending.Goals as goal

pub flats-requires-clause-there : goal.flats-requires-clause-there
flats-requires-clause-there c =
    subst (All (λ k. k < length c.args.edges.now)) (sym c.requires.numbers) (all_there c.args.edges.now c.args.at.now)

pub edges_of-requires : goal.edges_of-requires
edges_of-requires c = record {
  there = subst (All (λ k. k < length c.args.edges.now)) (sym c.requires.numbers)
      (all_there c.args.edges.now c.args.at.now);
}

pub returns : goal.returns
returns c =
    let es = c.args.edges.now in
    let at = c.args.at.now in
    let flats : c.in_ok-flats.flats.items ≡ flats_from 0 es at =
    c.in_ok-flats.ensures ∙ ap (filter (λ k. is_flat_at (edge_at es k) at)) c.requires.numbers ∙ flats_touching es at in
    let touching : c.in_ok-touching.touching.items ≡ touching_at es at =
    c.in_ok-touching.ensures ∙ ap (picked es) c.requires.numbers ∙ picked_touching es at in
    record {
      flats = record { are = flats; there = subst (All (λ k. k < length es)) (sym flats) (flats_there es at) };
      touching = λ h. touching;
      within = λ h. subst (All (λ e. IsEdgeWithin coordinate_limit e.edge)) (sym touching)
          (all_touching (λ e. IsEdgeWithin coordinate_limit e.edge) es at c.requires.within);
    }
