-- The outlines of the section's edges are those of the layer.
use Rattle.std.proofs.Common.{◌≤◌, ℕ, All, List, length, Result, Ok, Err, IfOk, sym, ◌∙◌, subst}
use Rattle.std.specs.Prelude.{IfErr}
use Rattle.std.proofs.lemmas.Result.{IfOk-weaker}
use Rattle.scad_geom.specs.Limits.{coordinate_limit, point_limit}
use Rattle.scad_geom.specs.declared.level.LeafEdge.{LeafEdge}
use Rattle.scad_geom.specs.Leaves.{AreLeavesBalanced}
use Rattle.scad_geom.specs.Within.{IsWithin, IsEdgeWithin}
use Rattle.scad_tree.specs.View.{solid_of}
use Rattle.scad_tree.proofs.Numbering.{numbering_holds}
use Rattle.slice_border.specs.declared.fault.BoolFault.{BoolFault}
use Rattle.slice_border.specs.declared.fault.BoolFault.TheVariants.{Memory, Edges, Crossings}
use Rattle.slice_border.specs.Fault.{IsRefusal as IsBorderRefusal}
use Rattle.slice_border.specs.Outlines.{AreOutlinesOf}
use Rattle.slice_events.specs.Levels.{crossings}
use Rattle.slice_events.specs.Limits.{crossing_limit}
use Rattle.slice_layer.specs.Refusal.{IsRefusal}
use Rattle.slice_layer.specs.Outlines.{AreLayerOutlines}
use Rattle.slice_layer.specs.Membership.{HoldCentres}
use Rattle.slice_layer.specs.Border.{AreNearSectionBorder}
use Rattle.slice_layer.proofs.Surfaces.{solids_closed, section_in_range, section_within}
use Rattle.slice_layer.proofs.Within.{shapes_within}
use Rattle.slice_layer.proofs.Membership.{outlines_hold_centres}
use Rattle.slice_layer.proofs.Border.{outlines_are_near_border}
use Rattle.slice_layer.proofs.layer.layer_outlines.Goals as goal

-- a refusal of the border is one of the layer
refusal-of : {A : Type 0} (count limit n : ℕ) (answer : Result A BoolFault)
    → IfErr answer (IsBorderRefusal count limit n) → IfErr answer (IsRefusal count limit n)
refusal-of count limit n (Ok a) refused = refused
refusal-of count limit n (Err Memory) refused = tt
refusal-of count limit n (Err (Edges c)) refused = refused
refusal-of count limit n (Err (Crossings c)) refused = refused

pub outlines-requires-clause-within : goal.outlines-requires-clause-within
outlines-requires-clause-within c =
    subst (All (λ e. IsEdgeWithin coordinate_limit e.edge)) (sym (c.deref.ensures.value ∙ c.in-Ok.ensures.edges))
    (section_within c.args.layer c.args.h (solid_of c.args.tree.now) c.are_solids.ensures)

pub returns-clause-centres : goal.returns-clause-centres
returns-clause-centres c =
    let layer = c.args.layer in
    let h = c.args.h in
    let solid = solid_of c.args.tree.now in
    let solids = c.are_solids.ensures in
    IfOk-weaker c.outlines.result (λ v. AreOutlinesOf c.deref.result.now c.in-Ok-shape.shape v.items)
    (λ v. HoldCentres layer h solid v.items)
    (λ v made. outlines_hold_centres layer h solid v.items (solids_closed solid solids)
    (record {
      shape = c.in-Ok-shape.shape;
      stands = λ inside. numbering_holds.shapes inside solid c.in-Ok-shape.shape
          c.in-Ok-shape.ensures;
      are_outlines = subst (λ es. AreOutlinesOf es c.in-Ok-shape.shape v.items)
          (c.deref.ensures.value ∙ c.in-Ok.ensures.edges) made;
    }))
    c.outlines.ensures.outlines

pub returns-clause-near : goal.returns-clause-near
returns-clause-near c =
    let layer = c.args.layer in
    let h = c.args.h in
    let solid = solid_of c.args.tree.now in
    IfOk-weaker c.outlines.result (λ v. AreOutlinesOf c.deref.result.now c.in-Ok-shape.shape v.items)
    (λ v. AreNearSectionBorder layer h solid v.items)
    (λ v made. outlines_are_near_border layer h solid v.items
    (record {
      shape = c.in-Ok-shape.shape;
      stands = λ inside. numbering_holds.shapes inside solid c.in-Ok-shape.shape
          c.in-Ok-shape.ensures;
      are_outlines = subst (λ es. AreOutlinesOf es c.in-Ok-shape.shape v.items)
          (c.deref.ensures.value ∙ c.in-Ok.ensures.edges) made;
    }))
    c.outlines.ensures.outlines

pub returns-clause-outlines : goal.returns-clause-outlines
returns-clause-outlines c =
    let layer = c.args.layer in
    let h = c.args.h in
    let solid = solid_of c.args.tree.now in
    IfOk-weaker c.outlines.result (λ v. AreOutlinesOf c.deref.result.now c.in-Ok-shape.shape v.items)
    (λ v. AreLayerOutlines layer h solid v.items)
    (λ v made. record {
      shape = c.in-Ok-shape.shape;
      stands = λ inside. numbering_holds.shapes inside solid
          c.in-Ok-shape.shape c.in-Ok-shape.ensures;
      are_outlines = subst (λ es. AreOutlinesOf es c.in-Ok-shape.shape
          v.items) (c.deref.ensures.value ∙ c.in-Ok.ensures.edges) made;
    })
    c.outlines.ensures.outlines

pub returns-clause-within : goal.returns-clause-within
returns-clause-within c =
    let solid = solid_of c.args.tree.now in
    IfOk-weaker c.outlines.result (λ v. AreOutlinesOf c.deref.result.now c.in-Ok-shape.shape v.items)
    (λ v. All (λ l. All (IsWithin point_limit) l) v.items)
    (λ v made. shapes_within c.deref.result.now
    (subst (All (λ e. IsEdgeWithin point_limit e.edge)) (sym (c.deref.ensures.value ∙ c.in-Ok.ensures.edges))
    (section_in_range c.args.layer c.args.h solid c.are_solids.ensures))
    c.in-Ok-shape.shape v.items made)
    c.outlines.ensures.outlines

pub outlines-requires-clause-balanced : goal.outlines-requires-clause-balanced
outlines-requires-clause-balanced c = subst AreLeavesBalanced (sym c.deref.ensures.value) c.in-Ok.ensures.balanced

pub returns-clause-few : goal.returns-clause-few
returns-clause-few c =
    subst (λ (es : List LeafEdge). IfOk c.outlines.result (λ v. length es ≤ c.args.limit))
    (c.deref.ensures.value ∙ c.in-Ok.ensures.edges) c.outlines.ensures.few

pub returns-clause-accepted : goal.returns-clause-accepted
returns-clause-accepted c =
    subst (λ (es : List LeafEdge). IfOk c.outlines.result (λ v. crossings es ≤ crossing_limit))
    (c.deref.ensures.value ∙ c.in-Ok.ensures.edges) c.outlines.ensures.accepted

pub returns-clause-refused : goal.returns-clause-refused
returns-clause-refused c =
    subst (λ (es : List LeafEdge). IfErr c.outlines.result (IsRefusal (length es) c.args.limit (crossings es)))
    (c.deref.ensures.value ∙ c.in-Ok.ensures.edges)
    (refusal-of (length c.deref.result.now) c.args.limit (crossings c.deref.result.now) c.outlines.result
    c.outlines.ensures.refused)
