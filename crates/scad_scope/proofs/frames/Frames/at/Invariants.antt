use Rattle.std.proofs.Common.{◌≡◌, ℕ, ◌+◌, ◌≤◌, List}
use Rattle.scad_scope.specs.Chain.{HoldNames}
use Rattle.scad_scope.specs.Listing.{Listing}
use Rattle.scad_scope.specs.Slots.{slots_of}
use Rattle.scad_scope.specs.View.{listed, stored}
use Rattle.scad_scope.proofs.Finding.{Left}
use Rattle.scad_scope.proofs.frames.Frames.at.Given as goal

abbrev pub invariant-outwards : goal.invariant-outwards
invariant-outwards l = record {
  near : l.here + l.up ≤ l.from;
  left : (name : List ℕ) (listings : List Listing) → l.slots ≡ slots_of name listings
      → HoldNames listings (listed l.self) (stored l.self) l.from
      → Left name (listed l.self) (stored l.self) l.slots l.from l.here l.up l.next;
}

abbrev pub decreases-outwards : goal.decreases-outwards
decreases-outwards l = l.here
