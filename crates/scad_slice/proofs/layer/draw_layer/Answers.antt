use Rattle.std.proofs.Common.{length, ap, ◌∙◌, subst}
use Rattle.std.specs.Option.{option_copied}
use Rattle.std.proofs.lemmas.Result.{IfOk-weaker}
use Rattle.slice_events.specs.Levels.{crossings}
use Rattle.scad_tree.specs.Sections.{tree_section}
use Rattle.scad_tree.specs.View.{solid_of}
use Rattle.slice_layer.specs.Refusal.{IsRefusal}
use Rattle.slice_work.specs.declared.layer.LayerEnd.TheVariants.{Over}
use Rattle.scad_slice.specs.Budgets.{edge_limit, edges_passed, crossings_passed}
use Rattle.scad_slice.specs.Covers.{CoversFit}
use Rattle.scad_slice.specs.LayerEnd.{DrawsLayer, LaysOut}
use Rattle.scad_slice.proofs.LayerDrawing.{before_fits, draws_within, draws_edges, draws_crossings}
use Rattle.scad_slice.proofs.layer.draw_layer.Goals as goal

pub returns-in-Ok-clause-end : goal.returns-in-Ok-clause-end
returns-in-Ok-clause-end g c =
    let want = c.args.work.now.print.want in
    let s = c.args.work.now.print.settings in
    let tree = solid_of c.args.work.now.tree.now in
    let covers = option_copied c.args.work.now.covers in
    IfOk-weaker c.lay_out.result
    (λ end. CoversFit want s tree covers → LaysOut want s tree c.args.layer c.in-Ok.loops.items end)
    (λ end. CoversFit want s tree covers → DrawsLayer want s tree c.args.layer end)
    (λ end lays fits.
    draws_within want s tree c.args.layer (before_fits want s tree c.args.layer covers fits) c.in-Ok.loops.items end
    c.in-Ok.ensures.outlines c.in-Ok.ensures.few c.in-Ok.ensures.accepted (lays fits))
    c.lay_out.ensures.end

pub returns-in-Err-Edges-clause-end : goal.returns-in-Err-Edges-clause-end
returns-in-Err-Edges-clause-end g c fits =
    let want = c.args.work.now.print.want in
    let s = c.args.work.now.print.settings in
    let tree = solid_of c.args.work.now.tree.now in
    let section = tree_section c.args.layer s.layer_height tree in
    draws_edges want s tree c.args.layer
    (before_fits want s tree c.args.layer (option_copied c.args.work.now.covers) fits) c.in-Err-Edges.count
    c.over.result
    (subst (IsRefusal (length section) edge_limit (crossings section)) c.in-Err-Edges.field-0-is
    c.in-Err-Edges.ensures.refused)
    (c.over.ensures ∙ ap (λ n. Over (edges_passed c.args.layer n)) c.in-Err-Edges.count-is)

pub returns-in-Err-Crossings-clause-end : goal.returns-in-Err-Crossings-clause-end
returns-in-Err-Crossings-clause-end g c fits =
    let want = c.args.work.now.print.want in
    let s = c.args.work.now.print.settings in
    let tree = solid_of c.args.work.now.tree.now in
    let section = tree_section c.args.layer s.layer_height tree in
    draws_crossings want s tree c.args.layer
    (before_fits want s tree c.args.layer (option_copied c.args.work.now.covers) fits) c.in-Err-Crossings.count
    c.over-in-Err-Crossings.result
    (subst (IsRefusal (length section) edge_limit (crossings section)) c.in-Err-Crossings.field-0-is
    c.in-Err-Crossings.ensures.refused)
    (c.over-in-Err-Crossings.ensures ∙ ap (λ n. Over (crossings_passed c.args.layer n)) c.in-Err-Crossings.count-is)
