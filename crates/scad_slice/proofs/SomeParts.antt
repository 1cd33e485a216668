-- A tree of solids has a part.
use Rattle.std.proofs.Common.{◌⊎◌, inl, inr, refl, ℕ, List, [], Option, Some, None, Result, Ok, Err}
use Rattle.scad_fault.specs.declared.budget.Budget.{Budget}
use Rattle.scad_geom.specs.declared.point.Pt.{Pt}
use Rattle.scad_tree.specs.Solid.{Solid}
use Rattle.scad_tree.specs.Solids.{AreSolids}
use Rattle.scad_words.specs.declared.settings.Settings.{Settings}
use Rattle.outline_laws.proofs.SomeLayer.{layers_have_outlines}
use Rattle.plan_layer.specs.declared.fault.PlanFault.{PlanFault}
use Rattle.plan_layer.specs.declared.fault.PlanFault.TheVariants.{Memory, Edges, Crossings, Moves}
use Rattle.plan_layer.specs.There.{HasAccepted, HasRefusal}
use Rattle.plan_layer.specs.Refusal.{IsRefused}
use Rattle.plan_layer.proofs.PlanDecision.{plans_are_decided}
use Rattle.slice_work.specs.declared.want.Want.{Want}
use Rattle.slice_work.specs.declared.want.Want.TheVariants.{Outlines, Plan}
use Rattle.slice_work.specs.Part.{Layout}
use Rattle.scad_slice.specs.Budgets.{edges_passed, crossings_passed, moves_passed}
use Rattle.scad_slice.specs.Supports.{AreSupportsOf}
use Rattle.scad_slice.specs.Layer.{IsLaidOut, IsLayerUnless, IsLayer}
use Rattle.scad_slice.specs.Laws.{PartsAreThere}
use Rattle.scad_slice.proofs.SomeSupports.{supports_are, before_is_there}

-- ---- a layer

module _ (s : Settings) (tree : Solid) (i : ℕ) (outlines supports : List (List Pt)) where
  refused_out : (fault : PlanFault) → AreSupportsOf s tree i outlines supports
      → IsRefused outlines i s supports fault → (layer : Result Layout Budget) × IsLaidOut Plan s tree i outlines layer
  refused_out Memory are refused = absurd (refused.known refl)
  refused_out (Edges n) are refused = (
    Err (edges_passed i n),
    record { supports = supports; are_supports = are; fault = Edges n; refused = refused; passed = refl },
  )
  refused_out (Crossings n) are refused = (
    Err (crossings_passed i n),
    record { supports = supports; are_supports = are; fault = Crossings n; refused = refused; passed = refl },
  )
  refused_out (Moves n) are refused = (
    Err (moves_passed i n),
    record { supports = supports; are_supports = are; fault = Moves n; refused = refused; passed = refl },
  )

  planned_out : AreSupportsOf s tree i outlines supports
      → HasAccepted outlines i s supports ⊎ HasRefusal outlines i s supports
      → (layer : Result Layout Budget) × IsLaidOut Plan s tree i outlines layer
  planned_out are (inl has) = (
    Ok (record { outlines = outlines; paths = has.paths; runs = has.runs; supports = supports }),
    record { outlines_are = refl; supports = are; accepted = has.accepted },
  )
  planned_out are (inr has) = refused_out has.fault are has.refused

laid_out : (want : Want) (s : Settings) (tree : Solid) (i : ℕ) (outlines : List (List Pt)) → AreSolids tree
    → (layer : Result Layout Budget) × IsLaidOut want s tree i outlines layer
laid_out Outlines s tree i outlines solids =
    (Ok (record { outlines = outlines; paths = []; runs = 0; supports = [] }), refl)
laid_out Plan s tree i outlines solids =
    let has = supports_are s tree i solids outlines in
    planned_out s tree i outlines has.0 has.1 (plans_are_decided outlines i s has.0)

layer_unless : (before : Option Budget) (want : Want) (s : Settings) (tree : Solid) (i : ℕ) → AreSolids tree
    → (layer : Result Layout Budget) × IsLayerUnless before want s tree i layer
layer_unless (Some budget) want s tree i solids = (Err budget, refl)
layer_unless None want s tree i solids =
    let has = layers_have_outlines i s.layer_height tree solids in
    let laid = laid_out want s tree i has.outlines solids in
    (laid.0, (has.outlines, has.are_outlines, laid.1))

some_layer : (want : Want) (s : Settings) (tree : Solid) → AreSolids tree → (i : ℕ) → (layer : Result Layout Budget)
    × IsLayer want s tree i layer
some_layer want s tree solids i =
    let before = before_is_there s tree i solids want in
    let found = layer_unless before.0 want s tree i solids in
    (found.0, record { before = before.0; passed = before.1; is = found.1 })

-- ---- a part

pub parts_are_there : PartsAreThere
parts_are_there want s tree solids =
    ((λ i. (some_layer want s tree solids i).0), (λ i. (some_layer want s tree solids i).1))
