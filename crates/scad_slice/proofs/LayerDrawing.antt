-- A layer that the code has drawn is the part's.
use Rattle.std.proofs.Common.{◌≡◌, ◌≢◌, inl, inr, ◌<◌, ◌≤◌, ◌++◌, List, [], ◌∷◌, ℕ, true, false, Vec, Option, Some, None, Result, Ok, Err}
use Rattle.std.proofs.Common.{refl, sym, ap, ◌∙◌, subst, length, nat_lt, arith}
use Rattle.std.specs.Prelude.{if◌then◌else◌}
use Rattle.std.proofs.lemmas.Bool.Decides.{nat_tests}
use Rattle.std.specs.Global.{Global}
use Rattle.scad_fault.specs.declared.budget.Budget.{Budget}
use Rattle.scad_geom.specs.declared.loops.Loop.{Loop}
use Rattle.scad_geom.specs.declared.point.Pt.{Pt}
use Rattle.scad_tree.specs.Solid.{Solid}
use Rattle.scad_tree.specs.Solids.{AreSolids}
use Rattle.scad_tree.specs.Sections.{tree_section}
use Rattle.scad_words.specs.declared.settings.Settings.{Settings}
use Rattle.scad_words.specs.Settings.{AreInRange}
use Rattle.slice_border.specs.declared.fault.BoolFault.TheVariants.{Edges, Crossings}
use Rattle.slice_layer.specs.Refusal.{IsRefusal}
use Rattle.slice_layer.specs.Outlines.{AreLayerOutlines}
use Rattle.slice_events.specs.Limits.{crossing_limit}
use Rattle.slice_events.specs.Levels.{crossings}
use Rattle.plan_layer.specs.declared.fault.PlanFault.{PlanFault}
use Rattle.plan_layer.specs.declared.fault.PlanFault.TheVariants.{Memory}
use Rattle.plan_layer.specs.Moves.{all_moves, move_limit}
use Rattle.plan_layer.specs.Plan.{IsPlan}
use Rattle.plan_layer.specs.Refusal.{AreAccepted, IsRefusal as IsPlanRefusal, IsAccepted}
use Rattle.plan_support.specs.Covers.{run_count}
use Rattle.plan_support.specs.Rows.{Row}
use Rattle.slice_work.specs.declared.want.Want.{Want}
use Rattle.slice_work.specs.declared.want.Want.TheVariants.{Outlines, Plan}
use Rattle.plan_layer.specs.declared.layer_plan.LayerPlan.{LayerPlan}
use Rattle.slice_work.specs.declared.layer.LayerEnd.{LayerEnd}
use Rattle.slice_work.specs.declared.layer.LayerEnd.TheVariants.{Made, Over}
use Rattle.slice_work.specs.Part.{Layout, Part, Ends}
use Rattle.scad_slice.specs.Budgets.{edge_limit, edges_passed, crossings_passed, budget_passed, layer_budget}
use Rattle.scad_slice.specs.Budgets.{plan_budget}
use Rattle.scad_slice.specs.Parts.{IsPart}
use Rattle.scad_slice.specs.Supports.{AreSupportsOf, first_of, IsBudgetUnless, IsPassedBefore}
use Rattle.scad_slice.specs.Covers.{CoversFit}
use Rattle.scad_slice.specs.LayerEnd.{DrawsLayer, LaysOut}
use Rattle.scad_slice.specs.Layer.{IsLaidOut, IsLayerUnless, IsLayer}
use Rattle.scad_slice.proofs.FirstOf.{first_alone}
use Rattle.scad_slice.proofs.Stretches.{few_stretches}
use Rattle.scad_slice.proofs.OneLayer.{layer_is_one}

-- ---- the budget of outlines, by what is counted

no_budget : (i edges crossed : ℕ) → edges ≤ edge_limit → crossed ≤ crossing_limit → budget_passed i edges crossed ≡ None
no_budget i edges crossed few fewer =
    let a : nat_lt edge_limit edges ≡ false = grind (arith, nat_tests) in
    let b : nat_lt crossing_limit crossed ≡ false = grind (arith, nat_tests) in
    (λ k. if a k then Some (edges_passed i edges) else if b k then Some (crossings_passed i crossed) else None)

edges_budget : (i edges crossed : ℕ) → edge_limit < edges → budget_passed i edges crossed ≡ Some (edges_passed i edges)
edges_budget i edges crossed many =
    let a : nat_lt edge_limit edges ≡ true = grind (arith, nat_tests) in
    (λ k. if a k then Some (edges_passed i edges) else if nat_lt crossing_limit crossed then Some
    (crossings_passed i crossed) else None)

crossings_budget : (i edges crossed : ℕ) → edges ≤ edge_limit → crossing_limit < crossed
    → budget_passed i edges crossed ≡ Some (crossings_passed i crossed)
crossings_budget i edges crossed few many =
    let a : nat_lt edge_limit edges ≡ false = grind (arith, nat_tests) in
    let b : nat_lt crossing_limit crossed ≡ true = grind (arith, nat_tests) in
    (λ k. if a k then Some (edges_passed i edges) else if b k then Some (crossings_passed i crossed) else None)

-- ---- the budget that is passed before what is wanted of a layer

-- with covers that fit, it is that of its own outlines
pub before_fits : (want : Want) (s : Settings) (tree : Solid) (i : ℕ) (covers : Option (List (List Row)))
    → CoversFit want s tree covers → IsPassedBefore want s tree i (layer_budget s.layer_height tree i)
before_fits Outlines s tree i covers fits = refl
before_fits Plan s tree i None spacing = inl (record { spacing = spacing; is = refl })
before_fits Plan s tree i (Some covers) fits =
    let own = layer_budget s.layer_height tree i in
    inr (record {
      spacing = fits.spacing;
      is =
          subst (λ (found : Option Budget). IsBudgetUnless found s tree i own) (sym fits.none_passed)
          (record {
            all = fits.all;
            are_all = fits.are_all;
            covers = covers;
            overhung = fits.overhung;
            is =
                first_alone own
                ∙ ap (λ (found : Option Budget). first_of (found ∷ own ∷ []))
                (sym (few_stretches (run_count covers) fits.few));
          });
    })

-- ---- how the work on a layer ends

module _ (want : Want) (s : Settings) (tree : Solid) (i : ℕ)
    (before : IsPassedBefore want s tree i (layer_budget s.layer_height tree i)) where
  by_budget : (passed : Option Budget) (layout : Result Layout Budget) → layer_budget s.layer_height tree i ≡ passed
      → IsLayerUnless passed want s tree i layout → IsLayer want s tree i layout
  by_budget passed layout is layer =
      record { before = passed; passed = subst (IsPassedBefore want s tree i) is before; is = layer }

  -- within the limits, what is wanted is laid out over the outlines
  pub draws_within : (outlines : List (List Pt)) (end : LayerEnd)
      → AreLayerOutlines i s.layer_height tree outlines → length (tree_section i s.layer_height tree) ≤ edge_limit
      → crossings (tree_section i s.layer_height tree) ≤ crossing_limit
      → ((layout : Result Layout Budget) × IsLaidOut want s tree i outlines layout × Ends layout end)
      → DrawsLayer want s tree i end
  unfolding layer_budget
  draws_within outlines end of_tree few fewer (layout, laid, ends) = (
    layout,
    by_budget None layout
        (no_budget i (length (tree_section i s.layer_height tree)) (crossings (tree_section i s.layer_height tree)) few
        fewer) (outlines, of_tree, laid),
    ends,
  )

  -- the outlines have too many edges or crossings
  pub draws_edges : (count : ℕ) (end : LayerEnd)
      → IsRefusal (length (tree_section i s.layer_height tree)) edge_limit
      (crossings (tree_section i s.layer_height tree)) (Edges count) → end ≡ Over (edges_passed i count)
      → DrawsLayer want s tree i end
  unfolding layer_budget
  draws_edges count end (same, many) is = (
    Err (edges_passed i count),
    by_budget (Some (edges_passed i (length (tree_section i s.layer_height tree)))) (Err (edges_passed i count))
        (edges_budget i (length (tree_section i s.layer_height tree)) (crossings (tree_section i s.layer_height tree))
        many) (λ k. Err (edges_passed i (same k))),
    subst (Ends (Err (edges_passed i count))) (sym is) refl,
  )

  pub draws_crossings : (count : ℕ) (end : LayerEnd)
      → IsRefusal (length (tree_section i s.layer_height tree)) edge_limit
      (crossings (tree_section i s.layer_height tree)) (Crossings count) → end ≡ Over (crossings_passed i count)
      → DrawsLayer want s tree i end
  unfolding layer_budget
  draws_crossings count end (few, same, many) is = (
    Err (crossings_passed i count),
    by_budget (Some (crossings_passed i (crossings (tree_section i s.layer_height tree))))
        (Err (crossings_passed i count))
        (crossings_budget i (length (tree_section i s.layer_height tree))
        (crossings (tree_section i s.layer_height tree)) few many) (λ k. Err (crossings_passed i (same k))),
    subst (Ends (Err (crossings_passed i count))) (sym is) refl,
  )

-- ---- a plan

-- no plan is wanted
pub lays_none : (want : Want) (s : Settings) (tree : Solid) (i : ℕ) (loops : Vec Loop Global) (plan : LayerPlan)
    → want ≡ Outlines → plan.paths.items ≡ [] → plan.runs ≡ 0 → plan.supports.items ≡ []
    → LaysOut want s tree i loops.items (Made loops plan)
lays_none want s tree i loops plan is none no_runs no_supports =
    let layout : Layout = record { outlines = loops.items; paths = []; runs = 0; supports = [] } in (
      Ok layout,
      subst (λ (w : Want). IsLaidOut w s tree i loops.items (Ok layout)) (sym is) refl,
      (refl, none, no_runs, no_supports),
    )

module _ (s : Settings) (tree : Solid) (i : ℕ) (given supports : List (List Pt)) where
  pub lays_plan : (loops : Vec Loop Global) (plan : LayerPlan) → given ≡ loops.items
      → AreSupportsOf s tree i loops.items supports → plan.supports.items ≡ supports
      → IsPlan given i s plan.paths.items plan.runs → AreAccepted given s.line_width s.walls
      → length (all_moves (plan.paths.items ++ supports)) ≤ move_limit
      → LaysOut Plan s tree i loops.items (Made loops plan)
  lays_plan loops plan same are back is_plan accepted few = (
    Ok (record { outlines = loops.items; paths = plan.paths.items; runs = plan.runs; supports = supports }),
    record {
      outlines_are = refl;
      supports = are;
      accepted =
          subst (λ (outlines : List (List Pt)). IsAccepted outlines i s supports plan.paths.items plan.runs) same
          (record { plan = is_plan; walls = accepted; moves = few });
    },
    (refl, refl, refl, back),
  )

  -- the plan is refused
  pub lays_refused : (outlines : List (List Pt)) (found fault : PlanFault) (budget : Budget) (end : LayerEnd)
      → given ≡ outlines → AreSupportsOf s tree i outlines supports → IsPlanRefusal given i s supports found
      → found ≡ fault → fault ≢ Memory → plan_budget i fault ≡ Some budget → end ≡ Over budget
      → LaysOut Plan s tree i outlines end
  lays_refused outlines found fault budget end same are refused is known passed over =
      let refusal : IsPlanRefusal outlines i s supports fault =
      subst (IsPlanRefusal outlines i s supports) is
      (subst (λ (os : List (List Pt)). IsPlanRefusal os i s supports found) same refused)
      in (
        Err budget,
        record {
          supports = supports;
          are_supports = are;
          fault = fault;
          refused = record { known = known; refusal = refusal };
          passed = passed;
        },
        subst (Ends (Err budget)) (sym over) refl,
      )

-- ---- a tree has one part
pub ends_so : (want : Want) (s : Settings) (tree : Solid) (i : ℕ) (part : Part) (end : LayerEnd) → AreSolids tree
    → AreInRange s → IsPart want s tree part → DrawsLayer want s tree i end → Ends (part i) end
ends_so want s tree i part end solids range of_part (layout, layer, ends) =
    subst (λ (l : Result Layout Budget). Ends l end)
    (layer_is_one want s tree i solids range layout (part i) layer (of_part i)) ends
