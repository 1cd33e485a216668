-- How the script of a command goes: it is refused for the tree's number of layers, or a layer ends it, or it goes to
-- its end.
use Rattle.std.proofs.Common.{◌≡◌, ◌⊎◌, inl, inr, ◌<◌, ◌≤◌, List, [], ◌∷◌, ℕ, zero, suc, Bool, true, false, Option, Some}
use Rattle.std.proofs.Common.{None, Result, Ok, Err, refl, sym, ap, ◌∙◌, subst, nat_lt, rules, arith}
use Rattle.std.proofs.lemmas.Bool.Decides.{nat_tests}
use Rattle.std.specs.Prelude.{unwrap_or, if◌then◌else◌}
use Rattle.scad_fault.specs.declared.budget.Budget.{Budget}
use Rattle.scad_fault.specs.declared.budget.BudgetKind.{BudgetKind}
use Rattle.scad_fault.specs.declared.budget.BudgetKind.TheVariants.{LayerEdges, LayerCrossings, LayerMoves, SupportRuns}
use Rattle.scad_io.specs.declared.desk.Out.TheVariants.{Cli, Gcode}
use Rattle.scad_script.specs.declared.refusal.Refusal.TheVariants.{Over}
use Rattle.scad_script.specs.Steps.{Step, Makes}
use Rattle.scad_script.specs.Script.{Script, Finishes, Refuses, first, ends, layers}
use Rattle.scad_geom.specs.declared.point.Pt.{Pt}
use Rattle.scad_tree.specs.Solid.{Solid}
use Rattle.scad_tree.specs.Solids.{AreSolids}
use Rattle.scad_words.specs.declared.settings.Settings.{Settings}
use Rattle.scad_words.specs.Settings.{AreInRange}
use Rattle.plan_support.specs.Covers.{run_count}
use Rattle.plan_layer.specs.declared.fault.PlanFault.{PlanFault}
use Rattle.plan_layer.specs.declared.fault.PlanFault.TheVariants.{Memory, Edges, Crossings, Moves}
use Rattle.slice_work.specs.declared.want.Want.{Want}
use Rattle.slice_work.specs.declared.want.Want.TheVariants.{Outlines, Plan}
use Rattle.slice_work.specs.Part.{Layout, Part, layer_limit}
use Rattle.slice_work.specs.Script.{layer_steps}
use Rattle.slice_work.specs.Rates.{rates_of}
use Rattle.slice_work.specs.Sums.{loop_count, moves_below}
use Rattle.scad_slice.specs.Budgets.{layer_count, layers_passed, edges_passed, crossings_passed, moves_passed}
use Rattle.scad_slice.specs.Budgets.{layer_budget, plan_budget}
use Rattle.scad_slice.specs.Parts.{IsPart, AreMade}
use Rattle.scad_slice.specs.Layer.{IsLaidOut, IsLayerUnless, IsLayer}
use Rattle.scad_slice.specs.Supports.{first_of, outlines_budget, stretches_passed, stretch_budget, IsStretchBudget, IsBudgetUnless, IsPassedBefore}
use Rattle.scad_slice.specs.Script.{heads, tails, files, unless_many, done_line, plan_line, amount_below, slice_end}
use Rattle.scad_slice.specs.Script.{plan_end, slice_script, plan_script}
use Rattle.scad_slice.specs.Laws.{IsWhole}
use Rattle.scad_slice.proofs.FirstOf.{first_alone, found_in}
use Rattle.scad_slice.proofs.OneLayer.{layer_is_one}
use Rattle.scad_slice.proofs.Layers.{written_from, Goes, goes, made_all, all_go, made_from}

-- the outputs are created, and the heads and n layers written
abbrev pub begun : Want → Settings → List Step → Part → Solid → ℕ → Script → Script
begun want s creates part tree n rest =
    first creates
    (first (heads want s (layer_count s.layer_height tree)) (first (written_from want (rates_of s) part 0 n) rest))

-- the script that creates these outputs and ends with this line
abbrev pub command_script : Want → Settings → List Step → List ℕ → Part → Solid → Script
command_script want s creates line part tree =
    let count = layer_count s.layer_height tree in
    unless_many count (first creates (files want s part count (ends (Finishes line))))

-- not too many layers are not refused
pub unless_few : (count : ℕ) (script : Script) → count ≤ layer_limit → unless_many count script ≡ script
unless_few count script few =
    let within : nat_lt layer_limit count ≡ false = grind (arith, nat_tests) in
    ap (λ b. if b then ends (Refuses (Over (layers_passed count))) else script) within

module _ (want : Want) (s : Settings) (creates : List Step) (line : List ℕ) (part : Part) (tree : Solid) where
  -- the tree has too many layers
  pub record HasMany : Type 0 where
    pub many : layer_limit < layer_count s.layer_height tree
    pub script : command_script want s creates line part tree
        ≡ ends (Refuses (Over (layers_passed (layer_count s.layer_height tree))))

  -- all layers are written
  pub record IsDone : Type 0 where
    pub whole : IsWhole s part tree
    pub script : command_script want s creates line part tree
        ≡ begun want s creates part tree (layer_count s.layer_height tree) (first (tails want) (ends (Finishes line)))

  -- a layer passes a budget
  pub record IsCut : Type 0 where
    pub few : layer_count s.layer_height tree ≤ layer_limit
    pub layer : ℕ
    pub inside : layer < layer_count s.layer_height tree
    pub made : AreMade part layer
    pub budget : Budget
    pub passed : part layer ≡ Err budget
    pub script : command_script want s creates line part tree
        ≡ begun want s creates part tree layer (ends (Refuses (Over budget)))

  -- where there are not too many layers they are written
  within_limit : nat_lt layer_limit (layer_count s.layer_height tree) ≡ false
      → command_script want s creates line part tree ≡ first creates
      (files want s part (layer_count s.layer_height tree) (ends (Finishes line)))
  within_limit is =
      ap (λ b. if b then ends (Refuses (Over (layers_passed (layer_count s.layer_height tree)))) else first creates
      (files want s part (layer_count s.layer_height tree) (ends (Finishes line)))) is

  then_layers : (n : ℕ) (steps : List Step) (end : Script)
      → layers (layer_steps want (rates_of s) part) 0 n (first (tails want) (ends (Finishes line))) ≡ first steps end
      → first creates (files want s part n (ends (Finishes line)))
      ≡ first creates (first (heads want s n) (first steps end))
  then_layers n steps end same = ap (λ rest. first creates (first (heads want s n) rest)) same

  script_by : (many : Bool) → nat_lt layer_limit (layer_count s.layer_height tree) ≡ many
      → Goes want (rates_of s) part 0 (layer_count s.layer_height tree) (first (tails want) (ends (Finishes line)))
      → HasMany ⊎ (IsDone ⊎ IsCut)
  script_by true is go =
      inl (record {
        many = search (rules, arith);
        script =
            ap (λ b. if b then ends (Refuses (Over (layers_passed (layer_count s.layer_height tree)))) else first
            creates (files want s part (layer_count s.layer_height tree) (ends (Finishes line)))) is;
      })
  script_by false is (inl (made, same)) =
      inr (inl (record {
        whole = record { few = search (rules, arith); made = made_all part (layer_count s.layer_height tree) made };
        script =
            within_limit is ∙ then_layers (layer_count s.layer_height tree)
            (written_from want (rates_of s) part 0 (layer_count s.layer_height tree))
            (first (tails want) (ends (Finishes line))) same;
      }))
  script_by false is (inr (p, same)) =
      inr (inr (record {
        few = search (rules, arith);
        layer = p.count;
        inside = p.inside;
        made = made_all part p.count p.made;
        budget = p.budget;
        passed = ap part (omega arith) ∙ p.passed;
        script =
            within_limit is ∙ then_layers (layer_count s.layer_height tree)
            (written_from want (rates_of s) part 0 p.count) (ends (Refuses (Over p.budget))) same;
      }))

  pub script_goes : HasMany ⊎ (IsDone ⊎ IsCut)
  script_goes =
      script_by (nat_lt layer_limit (layer_count s.layer_height tree)) refl
      (goes want (rates_of s) part 0 (layer_count s.layer_height tree) (first (tails want) (ends (Finishes line))))

  pub whole_goes : IsWhole s part tree → command_script want s creates line part tree
      ≡ begun want s creates part tree (layer_count s.layer_height tree) (first (tails want) (ends (Finishes line)))
  whole_goes whole =
      let n = layer_count s.layer_height tree in
      unless_few n (first creates (files want s part n (ends (Finishes line)))) whole.few
      ∙ then_layers n (written_from want (rates_of s) part 0 n) (first (tails want) (ends (Finishes line)))
      (all_go want (rates_of s) part 0 n (first (tails want) (ends (Finishes line))) (made_from part n whole.made))

-- ---- the two commands

abbrev pub slice_creates : List ℕ → List Step
slice_creates cli = Makes Cli cli ∷ []

abbrev pub plan_creates : List ℕ → List ℕ → List Step
plan_creates cli gcode = Makes Cli cli ∷ Makes Gcode gcode ∷ []

abbrev pub slice_line : Settings → Part → Solid → List ℕ
slice_line s part tree = let n = layer_count s.layer_height tree in done_line n (loop_count part n)

abbrev pub line_of_plan : Settings → Part → Solid → List ℕ
line_of_plan s part tree =
    let n =
    layer_count s.layer_height tree in plan_line n (loop_count part n) (moves_below Plan part n)
    (amount_below s part n)

pub slice_is : (s : Settings) (cli : List ℕ) (part : Part) (tree : Solid)
    → slice_script s cli part tree ≡ command_script Outlines s (slice_creates cli) (slice_line s part tree) part tree
slice_is s cli part tree = refl

pub plan_is : (s : Settings) (cli gcode : List ℕ) (part : Part) (tree : Solid)
    → plan_script s cli gcode part tree ≡ command_script Plan s (plan_creates cli gcode) (line_of_plan s part tree) part
    tree
plan_is s cli gcode part tree = refl

pub slice_few : (s : Settings) (cli : List ℕ) (part : Part) (tree : Solid)
    → layer_count s.layer_height tree ≤ layer_limit
    → slice_script s cli part tree ≡ first (Makes Cli cli ∷ [])
    (files Outlines s part (layer_count s.layer_height tree) (slice_end part (layer_count s.layer_height tree)))
slice_few s cli part tree few = unless_few (layer_count s.layer_height tree) _ few

pub plan_few : (s : Settings) (cli gcode : List ℕ) (part : Part) (tree : Solid)
    → layer_count s.layer_height tree ≤ layer_limit
    → plan_script s cli gcode part tree
    ≡ first (Makes Cli cli ∷ [])
    (first (Makes Gcode gcode ∷ [])
    (files Plan s part (layer_count s.layer_height tree) (plan_end s part (layer_count s.layer_height tree))))
plan_few s cli gcode part tree few = unless_few (layer_count s.layer_height tree) _ few

-- ---- the budget that a layer passes

-- with a plan the moves may be too many too
abbrev pub IsKind : Want → BudgetKind → Type 0
IsKind Outlines kind = (kind ≡ LayerEdges) ⊎ (kind ≡ LayerCrossings)
IsKind Plan kind = (kind ≡ LayerEdges) ⊎ ((kind ≡ LayerCrossings) ⊎ (kind ≡ LayerMoves))

-- it is of one layer, and of this one
pub record IsOfLayer (want : Want) (i : ℕ) (budget : Budget) : Type 0 where
  pub kind : IsKind want budget.kind
  pub layer : budget.layer ≡ i

-- of outlines, or of the stretches below higher layers
abbrev pub IsKindOfAll : BudgetKind → Type 0
IsKindOfAll kind = (kind ≡ LayerEdges) ⊎ ((kind ≡ LayerCrossings) ⊎ (kind ≡ SupportRuns))

-- with supports it may be passed by every layer
pub record IsOfAll (want : Want) (s : Settings) (tree : Solid) (budget : Budget) : Type 0 where
  pub plan : want ≡ Plan
  pub spacing : 0 < s.support_spacing
  pub kind : IsKindOfAll budget.kind
  pub passed : (i : ℕ) → IsPassedBefore want s tree i (Some budget)

of_edges : (want : Want) (i edges : ℕ) → IsOfLayer want i (edges_passed i edges)
of_edges Outlines i edges = record { kind = inl refl; layer = refl }
of_edges Plan i edges = record { kind = inl refl; layer = refl }

of_crossings : (want : Want) (i crossed : ℕ) → IsOfLayer want i (crossings_passed i crossed)
of_crossings Outlines i crossed = record { kind = inr refl; layer = refl }
of_crossings Plan i crossed = record { kind = inr (inl refl); layer = refl }

-- what an option holds
one_held : (a b : Budget) → Some a ≡ Some b → a ≡ b
one_held a b same = ap (λ o. unwrap_or o a) same

held : (want : Want) (i : ℕ) (found budget : Budget) → Some found ≡ Some budget → IsOfLayer want i found
    → IsOfLayer want i budget
held want i found budget same is = subst (IsOfLayer want i) (one_held found budget same) is

outlines_by : (want : Want) (i edges crossed : ℕ) (a b : Bool) (budget : Budget)
    → (if a then Some (edges_passed i edges) else if b then Some (crossings_passed i crossed) else None) ≡ Some budget
    → IsOfLayer want i budget
outlines_by want i edges crossed true b budget same =
    held want i (edges_passed i edges) budget same (of_edges want i edges)
outlines_by want i edges crossed false true budget same =
    held want i (crossings_passed i crossed) budget same (of_crossings want i crossed)
outlines_by want i edges crossed false false budget same = let never : ⊥ = cc in absurd never

of_outlines : (want : Want) (h : ℕ) (tree : Solid) (i : ℕ) (budget : Budget) → layer_budget h tree i ≡ Some budget
    → IsOfLayer want i budget
unfolding layer_budget
of_outlines want h tree i budget passed = outlines_by want i _ _ _ _ budget passed

of_plan : (i : ℕ) (fault : PlanFault) (budget : Budget) → plan_budget i fault ≡ Some budget → IsOfLayer Plan i budget
of_plan i Memory budget passed = let never : ⊥ = cc in absurd never
of_plan i (Edges n) budget passed = held Plan i (edges_passed i n) budget passed (of_edges Plan i n)
of_plan i (Crossings n) budget passed = held Plan i (crossings_passed i n) budget passed (of_crossings Plan i n)
of_plan i (Moves n) budget passed =
    held Plan i (moves_passed i n) budget passed (record { kind = inr (inr refl); layer = refl })

laid_out_by : (want : Want) (s : Settings) (tree : Solid) (i : ℕ) (outlines : List (List Pt)) (budget : Budget)
    → IsLaidOut want s tree i outlines (Err budget) → IsOfLayer want i budget
laid_out_by Outlines s tree i outlines budget same = let never : ⊥ = cc in absurd never
laid_out_by Plan s tree i outlines budget refused = of_plan i refused.fault budget refused.passed

-- ---- with supports
module _ (s : Settings) (tree : Solid) (budget : Budget) (spaced : 0 < s.support_spacing) where
  kind_of_outlines : (kind : BudgetKind) → IsKind Outlines kind → IsKindOfAll kind
  kind_of_outlines kind (inl edges) = inl edges
  kind_of_outlines kind (inr crossed) = inr (inl crossed)

  -- the budget of the least layer whose outlines pass one
  all_outlines : outlines_budget s.layer_height tree ≡ Some budget → IsOfAll Plan s tree budget
  all_outlines is =
      let found =
      found_in (layer_budget s.layer_height tree) 0 (layer_count s.layer_height tree) budget is in
      record {
        plan = refl;
        spacing = spaced;
        kind =
            kind_of_outlines budget.kind (of_outlines Outlines s.layer_height tree found.0 budget found.1).kind;
        passed = λ i. inr (record {
          spacing = spaced;
          is = subst (λ (o : Option Budget). IsBudgetUnless o s tree i (Some budget)) (sym is) refl;
        });
      }

  kind_of_stretches : (many : Bool) (count : ℕ) → (if many then Some (stretches_passed count) else None) ≡ Some budget
      → budget.kind ≡ SupportRuns
  kind_of_stretches true count same = ap (λ (b : Budget). b.kind) (sym (one_held (stretches_passed count) budget same))
  kind_of_stretches false count same = let never : ⊥ = cc in absurd never

  -- the budget of the stretches, or that of the layer's own outlines
  by_stretches : (i : ℕ) → outlines_budget s.layer_height tree ≡ None → (by : IsStretchBudget s tree i (Some budget))
      → (found : Option Budget) → stretch_budget (run_count by.covers) ≡ found
      → IsOfLayer Plan i budget ⊎ IsOfAll Plan s tree budget
  by_stretches i none by None e =
      inl (of_outlines Plan s.layer_height tree i budget
      (first_alone (layer_budget s.layer_height tree i)
      ∙ ap (λ (o : Option Budget). first_of (o ∷ layer_budget s.layer_height tree i ∷ [])) (sym e)
      ∙ sym by.is))
  by_stretches i none by (Some other) e =
      let same : stretch_budget (run_count by.covers) ≡ Some budget =
      e ∙ sym (ap (λ (o : Option Budget). first_of (o ∷ layer_budget s.layer_height tree i ∷ [])) e) ∙ sym by.is in
      inr (record {
        plan = refl;
        spacing = spaced;
        kind = inr (inr (kind_of_stretches _ _ same));
        passed = λ j. inr (record {
          spacing = spaced;
          is =
              subst (λ (o : Option Budget). IsBudgetUnless o s tree j (Some budget)) (sym none)
              (record {
                all = by.all;
                are_all = by.are_all;
                covers = by.covers;
                overhung = by.overhung;
                is =
                    sym
                    (ap (λ (o : Option Budget). first_of (o ∷ layer_budget s.layer_height tree j ∷ [])) same);
              });
        });
      })

  by_all : (i : ℕ) (found : Option Budget) → outlines_budget s.layer_height tree ≡ found
      → IsBudgetUnless found s tree i (Some budget) → IsOfLayer Plan i budget ⊎ IsOfAll Plan s tree budget
  by_all i (Some other) e is = inr (all_outlines (e ∙ sym is))
  by_all i None e is = by_stretches i e is (stretch_budget (run_count is.covers)) refl

-- ---- a layer

before_by : (want : Want) (s : Settings) (tree : Solid) (i : ℕ) (budget : Budget)
    → IsPassedBefore want s tree i (Some budget) → IsOfLayer want i budget ⊎ IsOfAll want s tree budget
before_by Outlines s tree i budget is = inl (of_outlines Outlines s.layer_height tree i budget (sym is))
before_by Plan s tree i budget (inl own) = inl (of_outlines Plan s.layer_height tree i budget (sym own.is))
before_by Plan s tree i budget (inr of_all) =
    by_all s tree budget of_all.spacing i (outlines_budget s.layer_height tree) refl
    (subst (λ (o : Option Budget). IsBudgetUnless o s tree i (Some budget)) refl of_all.is)

layer_by : (want : Want) (s : Settings) (tree : Solid) (i : ℕ) (budget : Budget) (before : Option Budget)
    → IsPassedBefore want s tree i before → IsLayerUnless before want s tree i (Err budget)
    → IsOfLayer want i budget ⊎ IsOfAll want s tree budget
layer_by want s tree i budget (Some other) passed same =
    let one : other ≡ budget =
    sym (ap (λ (l : Result Layout Budget). elim l [ Ok layout ↦ budget | Err b ↦ b ]) same) in
    before_by want s tree i budget (subst (λ (b : Budget). IsPassedBefore want s tree i (Some b)) one passed)
layer_by want s tree i budget None passed (outlines, of_tree, laid) =
    inl (laid_out_by want s tree i outlines budget laid)

-- it is the layer's own, or that of all layers, so that none is written
pub budget_of_layer : (want : Want) (s : Settings) (tree : Solid) (part : Part) (i : ℕ) (budget : Budget)
    → IsPart want s tree part → part i ≡ Err budget → IsOfLayer want i budget ⊎ IsOfAll want s tree budget
budget_of_layer want s tree part i budget of_part passed =
    let layer : IsLayer want s tree i (Err budget) = subst (IsLayer want s tree i) passed (of_part i) in
    layer_by want s tree i budget layer.before layer.passed layer.is

-- what is passed by every layer is passed by each layer of a part
pub passed_by_all : (want : Want) (s : Settings) (tree : Solid) (part : Part) (budget : Budget) → AreSolids tree
    → AreInRange s → IsPart want s tree part → ((i : ℕ) → IsPassedBefore want s tree i (Some budget))
    → (i : ℕ) → part i ≡ Err budget
passed_by_all want s tree part budget solids range of_part passed i =
    layer_is_one want s tree i solids range (part i) (Err budget) (of_part i)
    (record { before = Some budget; passed = passed i; is = refl })

-- so none is made
pub none_made : (part : Part) (layer : ℕ) (budget : Budget) → part 0 ≡ Err budget → AreMade part layer → layer ≡ 0
none_made part zero budget passed made = refl
none_made part (suc n) budget passed made =
    let found = made 0 (omega arith) in
    let same : Ok found.0 ≡ Err budget = sym found.1 ∙ passed in
    let never : ⊥ = cc in
    absurd never
