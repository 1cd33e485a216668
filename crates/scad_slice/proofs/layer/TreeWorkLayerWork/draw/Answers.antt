use Rattle.std.specs.Option.{option_copied}
use Rattle.std.proofs.lemmas.Result.{IfOk-weaker}
use Rattle.scad_tree.specs.View.{solid_of}
use Rattle.slice_work.specs.Part.{Part, Ends}
use Rattle.scad_slice.specs.Covers.{CoversFit}
use Rattle.scad_slice.specs.LayerEnd.{DrawsLayer}
use Rattle.scad_slice.specs.Parts.{IsPart}
use Rattle.scad_slice.proofs.LayerDrawing.{ends_so}
use Rattle.scad_slice.proofs.layer.TreeWorkLayerWork.draw.Goals as goal

pub returns-clause-end : goal.returns-clause-end
returns-clause-end g c =
    let want = c.args.self.now.print.want in
    let s = c.args.self.now.print.settings in
    let tree = solid_of c.args.self.now.tree.now in
    let covers = option_copied c.args.self.now.covers in
    IfOk-weaker c.draw_layer-end.result
    (λ end. CoversFit want s tree covers → DrawsLayer want s tree c.args.layer end)
    (λ end. (part : Part) → CoversFit want s tree covers × IsPart want s tree part → Ends (part c.args.layer) end)
    (λ end draws part given.
    ends_so want s tree c.args.layer part end c.are_solids.ensures c.args.self.now.print.in_range given.1
    (draws given.0))
    c.draw_layer-end.ensures.end
