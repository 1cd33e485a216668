use Rattle.std.proofs.Common.{List, sym, ap, subst, arith}
use Rattle.std.specs.Option.{option_copied}
use Rattle.std.proofs.lemmas.Result.{IfOk-weaker}
use Rattle.scad_geom.specs.declared.point.Pt.{Pt}
use Rattle.scad_tree.specs.View.{solid_of}
use Rattle.plan_support.specs.Rows.{Row}
use Rattle.plan_support.specs.Supports.{AreSupports}
use Rattle.slice_work.specs.declared.want.Want.TheVariants.{Plan}
use Rattle.scad_slice.specs.Covers.{CoversFit}
use Rattle.scad_slice.specs.Supports.{AreSupportsOf}
use Rattle.scad_slice.proofs.Below.{above_all, over_cover}
use Rattle.scad_slice.proofs.layer.supports_of.Goals as goal

pub returns-then-layer-work : goal.returns-then-layer-work
returns-then-layer-work g c =
    let s = c.args.work.now.print.settings in
    let tree = solid_of c.args.work.now.tree.now in
    let covers = c.in-Some.covers.now in
    let given = c.args.work.now.given covers (ap option_copied c.in-Some.is) in
    let many = given.as_many in
    let past = c.if-layer-work.true in
    λ fits.
    subst (λ (paths : List (List Pt)). AreSupportsOf s tree c.args.layer c.args.outlines.now paths)
    (sym c.new-then-layer-work.ensures.items)
    (above_all s tree c.args.layer c.args.outlines.now covers
    (subst (CoversFit Plan s tree) (ap option_copied c.in-Some.is) fits) (omega (arith, many, past)))

pub returns : goal.returns
returns g c =
    let s = c.args.work.now.print.settings in
    let tree = solid_of c.args.work.now.tree.now in
    let outlines = c.args.outlines.now in
    let covers = c.in-Some.covers.now in
    let given = c.args.work.now.given covers (ap option_copied c.in-Some.is) in
    let many = given.as_many in
    let below = c.if-layer-work.false in
    IfOk-weaker c.supports.result
    (λ v. AreSupports outlines c.at-cover.result.now s.support_gap s.line_width v.items)
    (λ v. CoversFit Plan s tree (option_copied c.args.work.now.covers)
    → AreSupportsOf s tree c.args.layer outlines v.items)
    (λ v are fits.
    over_cover s tree c.args.layer outlines covers v.items c.requires.solids
    (subst (CoversFit Plan s tree) (ap option_copied c.in-Some.is) fits) (omega (arith, many, below))
    c.requires.outlines
    (subst (λ (row : List Row). AreSupports outlines row s.support_gap s.line_width v.items) c.at-cover.ensures are))
    c.supports.ensures
