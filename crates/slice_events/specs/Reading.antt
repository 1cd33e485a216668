-- What is found of an edge once.
use Rattle.std.specs.Prelude.{◌≡◌, ℤ}
use Rattle.scad_geom.specs.declared.point.Pt.{Pt}
use Rattle.scad_geom.specs.declared.point.Edge.{Edge}
use Rattle.scad_geom.specs.Line.{low, high, rise, run, offset}

-- an edge's ends read upwards, and its line
pub record IsRead (e : Edge) (from to : Pt) (up right start : ℤ) : Type 0 where
  pub low_is : from ≡ low e
  pub high_is : to ≡ high e
  pub rise_is : up ≡ rise e
  pub run_is : right ≡ run e
  pub offset_is : start ≡ offset e
