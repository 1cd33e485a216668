-- Bundles are no more than the edges.
use Rattle.std.proofs.Common.{ℕ, ◌^◌, ◌<◌, ◌≤◌, List, [], ◌∷◌, length, arith, length-append}
use Rattle.std.specs.List.{concat}
use Rattle.scad_geom.specs.declared.level.Level.{Level}
use Rattle.scad_geom.specs.declared.level.LeafEdge.{LeafEdge}
use Rattle.slice_bundles.specs.Bundles.{AreBundles, AreRanked}
use Rattle.slice_border.specs.Beside.{AreMembers}
use Rattle.slice_border.proofs.BundleValues.{are_members}

ranked_few : (es : List LeafEdge) (l : Level) (bs : List (List ℕ)) → AreRanked es l bs → length bs ≤ length (concat bs)
ranked_few es l [] r = omega arith
ranked_few es l ([] ∷ bs) r = absurd r.0
ranked_few es l ((k ∷ ks) ∷ bs) r =
    let rest = ranked_few es l bs r.2 in
    omega (arith, rest, length-append ks (concat bs))

pub bundles_few : (es : List LeafEdge) (l u : Level) (bs : List (List ℕ)) → AreBundles es l u bs
    → length es < 2 ^ 32 → length bs < 2 ^ 32
bundles_few es l u bs b o =
    let members : AreMembers es bs = are_members es l u bs b in
    let few = members.few in
    let ranked = ranked_few es l bs b.ranked in
    omega (arith, o, few, ranked)
