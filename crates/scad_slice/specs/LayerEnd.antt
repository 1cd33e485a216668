-- How the work on a layer ends.
use Rattle.std.specs.Prelude.{ℕ, List, Result}
use Rattle.scad_fault.specs.declared.budget.Budget.{Budget}
use Rattle.scad_geom.specs.declared.point.Pt.{Pt}
use Rattle.scad_tree.specs.Solid.{Solid}
use Rattle.scad_words.specs.declared.settings.Settings.{Settings}
use Rattle.slice_work.specs.declared.want.Want.{Want}
use Rattle.slice_work.specs.declared.layer.LayerEnd.{LayerEnd}
use Rattle.slice_work.specs.Part.{Layout, Ends}
use Rattle.scad_slice.specs.Layer.{IsLaidOut, IsLayer}

-- with layer i of the tree
abbrev pub DrawsLayer : Want → Settings → Solid → ℕ → LayerEnd → Type 0
DrawsLayer want s tree i end = (layout : Result Layout Budget) × IsLayer want s tree i layout × Ends layout end

-- with what is wanted of it over its outlines
abbrev pub LaysOut : Want → Settings → Solid → ℕ → List (List Pt) → LayerEnd → Type 0
LaysOut want s tree i outlines end =
    (layout : Result Layout Budget) × IsLaidOut want s tree i outlines layout × Ends layout end
