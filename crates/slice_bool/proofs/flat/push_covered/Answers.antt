-- The stops of the edges that meet the level are those of all edges, and lie on it.
use Rattle.std.proofs.Common.{◌∙◌, ◌++◌, refl, sym, ap, subst, ℕ, Bool, List, true, false}
use Rattle.std.specs.List.{All}
use Rattle.std.proofs.lemmas.Result.{on_ok_weaker}
use Rattle.scad_geom.specs.Limits.{coordinate_limit}
use Rattle.scad_geom.specs.Within.{IsEdgeWithin}
use Rattle.slice_pieces.specs.declared.piece.Spot.{Spot}
use Rattle.slice_border.specs.declared.stop.Stop.{Stop}
use Rattle.slice_bool.specs.Along.{GoAlong, AreAlong, AreBeside}
use Rattle.slice_bool.specs.Near.{AreFlats}
use Rattle.slice_border.specs.Pieces.{AreStops, flat_pieces}
use Rattle.slice_border.specs.Stops.{spots_in}
use Rattle.slice_bool.proofs.Along.{go_along, along_beside}
use Rattle.slice_bool.proofs.NearLevel.{all_at}
use Rattle.slice_bool.proofs.LevelEdges.{stops_touching}
use Rattle.slice_border.proofs.Winding.{stops_at}
use Rattle.slice_bool.proofs.flat.push_covered.Goals as goal

pub stops-requires-clause-within : goal.stops-requires-clause-within
stops-requires-clause-within c =
    subst (All (λ e. IsEdgeWithin coordinate_limit e.edge)) (sym c.deref.ensures.value)
    (c.requires.near.within c.requires.flats)

pub values_beside-requires-clause-stops : goal.values_beside-requires-clause-stops
values_beside-requires-clause-stops c =
    let es = c.args.sweep.now.edges.now in
    let at = c.args.at.now in
    let spots : List Spot = spots_in c.in_ok-stops.stops.items in
    let are : AreStops es at spots = stops_touching es c.deref.result.now at spots
    (c.deref.ensures.value ∙ c.requires.near.touching c.requires.flats) c.in_ok-stops.ensures in
    subst (λ (ss : List Stop). GoAlong (spots_in ss)) (sym c.deref-2.ensures.value)
    (go_along at spots (stops_at es at spots are) are.rightwards)

pub values_beside-requires-2-clause-stops : goal.values_beside-requires-2-clause-stops
values_beside-requires-2-clause-stops c =
    let es = c.args.sweep.now.edges.now in
    let at = c.args.at.now in
    let spots : List Spot = spots_in c.in_ok-stops.stops.items in
    let are : AreStops es at spots = stops_touching es c.deref.result.now at spots
    (c.deref.ensures.value ∙ c.requires.near.touching c.requires.flats) c.in_ok-stops.ensures in
    subst (λ (ss : List Stop). GoAlong (spots_in ss)) (sym c.deref-3.ensures.value)
    (go_along at spots (stops_at es at spots are) are.rightwards)

pub push_stretches-requires-clause-flats : goal.push_stretches-requires-clause-flats
push_stretches-requires-clause-flats c =
    let es = c.args.sweep.now.edges.now in
    let at = c.args.at.now in
    let ss : List Stop = c.in_ok-stops.stops.items in
    let are : AreStops es at (spots_in ss) = stops_touching es c.deref.result.now at (spots_in ss)
    (c.deref.ensures.value ∙ c.requires.near.touching c.requires.flats) c.in_ok-stops.ensures in
    subst (λ (ss : List Stop). All (λ s. AreFlats es s.spot.at c.deref-4.result.now) ss) (sym c.deref-5.ensures.value)
    (subst (λ (fs : List ℕ). All (λ s. AreFlats es s.spot.at fs) ss) (sym c.deref-4.ensures.value)
    (all_at (λ l. AreFlats es l c.args.near.now.flats.items) es at ss are c.requires.near.flats))

pub push_stretches-requires-clause-above : goal.push_stretches-requires-clause-above
push_stretches-requires-clause-above c =
    let es = c.args.sweep.now.edges.now in
    let shape = c.args.sweep.now.shape.now in
    let at = c.args.at.now in
    let ss : List Stop = c.in_ok-stops.stops.items in
    let vs : List Bool = c.in_ok-above.above.items in
    let are : AreStops es at (spots_in ss) = stops_touching es c.deref.result.now at (spots_in ss)
    (c.deref.ensures.value ∙ c.requires.near.touching c.requires.flats) c.in_ok-stops.ensures in
    let sides = c.requires.sides.above in
    let bs : List (List ℕ) = c.args.sides.now.above.now.bundles.items in
    let beside : AreBeside es shape bs ss vs = subst (λ (ss : List Stop). AreBeside es shape bs ss vs) c.deref-2.ensures.value
    c.in_ok-above.ensures in
    subst (λ (ss : List Stop). AreAlong true es shape ss c.deref-6.result.now) (sym c.deref-5.ensures.value)
    (subst (AreAlong true es shape ss) (sym c.deref-6.ensures.value)
    (along_beside true es shape at bs ss vs (stops_at es at (spots_in ss) are) sides.tell beside))

pub push_stretches-requires-clause-below : goal.push_stretches-requires-clause-below
push_stretches-requires-clause-below c =
    let es = c.args.sweep.now.edges.now in
    let shape = c.args.sweep.now.shape.now in
    let at = c.args.at.now in
    let ss : List Stop = c.in_ok-stops.stops.items in
    let vs : List Bool = c.in_ok-below.below.items in
    let are : AreStops es at (spots_in ss) = stops_touching es c.deref.result.now at (spots_in ss)
    (c.deref.ensures.value ∙ c.requires.near.touching c.requires.flats) c.in_ok-stops.ensures in
    let sides = c.requires.sides.below in
    let bs : List (List ℕ) = c.args.sides.now.below.now.bundles.items in
    let beside : AreBeside es shape bs ss vs = subst (λ (ss : List Stop). AreBeside es shape bs ss vs) c.deref-3.ensures.value
    c.in_ok-below.ensures in
    subst (λ (ss : List Stop). AreAlong false es shape ss c.deref-7.result.now) (sym c.deref-5.ensures.value)
    (subst (AreAlong false es shape ss) (sym c.deref-7.ensures.value)
    (along_beside false es shape at bs ss vs (stops_at es at (spots_in ss) are) sides.tell beside))

pub returns : goal.returns
returns c =
    let es = c.args.sweep.now.edges.now in
    let shape = c.args.sweep.now.shape.now in
    let at = c.args.at.now in
    let spots : List Spot = spots_in c.in_ok-stops.stops.items in
    let are : AreStops es at spots = stops_touching es c.deref.result.now at spots
    (c.deref.ensures.value ∙ c.requires.near.touching c.requires.flats) c.in_ok-stops.ensures in
    on_ok_weaker c.push_stretches.result
    (λ e. (
      flat_pieces es shape spots,
      (spots, are, refl),
      e ∙ ap (λ (ss : List Stop). c.args.out.now.items ++ flat_pieces es shape (spots_in ss))
          c.deref-5.ensures.value,
    ))
    c.push_stretches.ensures
