-- What the members that are left hold decides what all hold.
use Rattle.std.proofs.Common.{◌≡◌, slice_index_or, false, drop}
use Rattle.scad_geom.specs.Shape.{any_holds, all_holds}
use Rattle.scad_geom.proofs.membership.+holds.Given as goal

abbrev pub invariant-all_hold-members : goal.invariant-all_hold-members
invariant-all_hold-members l = all_holds (λ leaf. slice_index_or l.inside leaf false) l.members
    ≡ all_holds (λ leaf. slice_index_or l.inside leaf false) (drop l.member-index l.members)

abbrev pub invariant-any_holds-members : goal.invariant-any_holds-members
invariant-any_holds-members l = any_holds (λ leaf. slice_index_or l.inside leaf false) l.members
    ≡ any_holds (λ leaf. slice_index_or l.inside leaf false) (drop l.member-index l.members)
