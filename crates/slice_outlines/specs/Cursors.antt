-- Cursors, each with a stretch of the front of its own.
use Rattle.std.specs.Prelude.{◌≡◌, ◌<◌, ℕ, List, length, get_or, All}
use Rattle.scad_geom.specs.declared.level.Level.{Level}
use Rattle.scad_geom.specs.declared.level.LeafEdge.{LeafEdge}
use Rattle.scad_geom.specs.declared.shape.Shape.{Shape}
use Rattle.slice_sweep.specs.declared.change.Change.{Change}
use Rattle.slice_sweep.specs.Changes.{Group}
use Rattle.slice_outlines.specs.declared.mark.Mark.{Mark}
use Rattle.slice_outlines.specs.declared.flat.Flat.{Flat}
use Rattle.slice_outlines.specs.declared.cursor.Cursor.{Cursor}
use Rattle.slice_outlines.specs.declared.cursors.Cursors.{Cursors}
use Rattle.slice_outlines.specs.Cursor.{StandsOn, IsClearAt, IsShifted, CanShift}

-- some cursors on these bundles
pub record StandOn (es : List LeafEdge) (shape : Shape) (bundles : List (List ℕ)) (cs : Cursors) : Type 0 where
  pub some : 0 < length cs.all.items
  pub each : All (StandsOn es shape bundles) cs.all.items

-- they are those of some shape
pub record StandForSome (es : List LeafEdge) (bundles : List (List ℕ)) (cs : Cursors) : Type 0 where
  pub shape : Shape
  pub on : StandOn es shape bundles cs

-- where these stood on these bundles, so do the others
abbrev pub StayOn : List LeafEdge → List (List ℕ) → Cursors → Cursors → Type 0
StayOn es bundles cs ds = (shape : Shape) → StandOn es shape bundles cs → StandOn es shape bundles ds

-- each is clear of a height and its flat edges
abbrev pub AreClearAt : List LeafEdge → Level → List Mark → List Flat → Cursors → Type 0
AreClearAt es l ms fs cs = All (λ c. IsClearAt es l ms fs c.at) cs.all.items

abbrev pub CanBeShifted : List Change → Cursors → Type 0
CanBeShifted changes cs = All (λ c. CanShift changes c.at) cs.all.items

-- one is the other at its place above a height
pub record IsAbove (gs : List Group) (c d : Cursor) : Type 0 where
  pub tally : d.tally ≡ c.tally
  pub place : IsShifted gs c.at d.at

pub record AreAbove (gs : List Group) (cs ds : Cursors) : Type 0 where
  pub count : length ds.all.items ≡ length cs.all.items
  pub each : (i : ℕ) (c d : Cursor) → i < length cs.all.items
      → IsAbove gs (get_or cs.all.items i c) (get_or ds.all.items i d)
