-- The outlines of a layer lie near to the border of the tree's section.
use Rattle.std.specs.Prelude.{◌≡◌, ℕ, Bool, true, false, not, List, flat_map, pos, ◌<ℤ◌, All}
use Rattle.scad_geom.specs.declared.point.Pt.{Pt}
use Rattle.scad_geom.specs.declared.point.Edge.{Edge}
use Rattle.scad_geom.specs.Point.{Point, whole}
use Rattle.scad_geom.specs.Segment.{segments}
use Rattle.scad_geom.specs.Winding.{wind_by}
use Rattle.scad_geom.specs.Loop.{sides}
use Rattle.scad_geom.specs.Sign.{is_zero}
use Rattle.winding_laws.specs.Points.{IsOn, IsWithinOne}
use Rattle.slice_section.specs.Section.{section_of}
use Rattle.scad_tree.specs.Solid.{Solid}
use Rattle.scad_tree.specs.Member.{holds}

-- whether a tree holds what lies hard by a point of a layer's plane, each surface holding what its section winds round
abbrev pub section_holds : Bool → Bool → ℕ → ℕ → Solid → Point → Bool
section_holds above right layer h s p = holds (λ ts. not (is_zero (wind_by above right p (segments (section_of ts layer h))))) s

-- a point hard by which the tree's section holds on one of the four sides and not on another
pub record IsSectionBorder (layer h : ℕ) (s : Solid) (p : Point) : Type 0 where
  pub held_above : Bool
  pub held_right : Bool
  pub held : section_holds held_above held_right layer h s p ≡ true
  pub missed_above : Bool
  pub missed_right : Bool
  pub missed : section_holds missed_above missed_right layer h s p ≡ false

-- such a point lies less than one micrometre from q along both axes
pub record HasSectionBorderNear (layer h : ℕ) (s : Solid) (q : Point) : Type 0 where
  pub border : Point
  pub positive : pos 0 <ℤ border.d
  pub is_border : IsSectionBorder layer h s border
  pub near : IsWithinOne q border

-- each point of an edge has one near
abbrev pub IsNearSectionBorder : ℕ → ℕ → Solid → Edge → Type 0
IsNearSectionBorder layer h s e = (p : Point) → pos 0 <ℤ p.d → IsOn (whole e.a) (whole e.b) p → HasSectionBorderNear layer h s p

-- so has each point of each side of outlines
abbrev pub AreNearSectionBorder : ℕ → ℕ → Solid → List (List Pt) → Type 0
AreNearSectionBorder layer h s outlines = All (IsNearSectionBorder layer h s) (flat_map sides outlines)
