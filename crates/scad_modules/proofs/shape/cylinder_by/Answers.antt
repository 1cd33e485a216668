-- A cylinder's height and radii are what its arguments say.
use Rattle.std.proofs.Common.{◌≡◌, Option, Some, None, Ok, codes, ℤ, sym, subst, ap, ap₂, ◌∙◌}
use Rattle.std.proofs.lemmas.Result.{err_from_is_err_and}
use Rattle.scad_base.specs.Results.{and_then}
use Rattle.scad_ast.specs.View.{arguments}
use Rattle.scad_value.specs.Datum.{Datum}
use Rattle.scad_value.specs.View.{data_of}
use Rattle.scad_modules.specs.Arguments.{taken}
use Rattle.scad_modules.specs.Primitive.{Primitive}
use Rattle.scad_modules.specs.Reading.{Read}
use Rattle.scad_modules.specs.Shapes.{Fineness, height_of, end_radius, cylinder_of}
use Rattle.scad_modules.specs.View.{fine_at, primitive, Reads}
use Rattle.scad_modules.proofs.shape.cylinder_by.Goals as goal

-- a cylinder of what its sizes are read as
abbrev of_sizes : Fineness → Option Datum → Read ℤ → Read ℤ → Read ℤ → Read Primitive
of_sizes fine center height bottom top =
    and_then height (λ h. and_then bottom (λ b. and_then top (λ t. cylinder_of fine h b t center)))

read-height : (given h : Option Datum) (read : Read ℤ) → given ≡ h → read ≡ height_of given → height_of h ≡ read
read-height given h read e is = sym (is ∙ ap height_of e)

read-radius : (given_d d2 given_r r2 given_both_d d given_both_r r : Option Datum) (read : Read ℤ) → given_d ≡ d2
    → given_r ≡ r2 → given_both_d ≡ d → given_both_r ≡ r → read ≡ end_radius given_d given_r given_both_d given_both_r
    → end_radius d2 r2 d r ≡ read
read-radius given_d d2 given_r r2 given_both_d d given_both_r r read e f g h is =
    sym (is ∙ ap₂ (λ a b. end_radius a b given_both_d given_both_r) e f ∙ ap₂ (end_radius d2 r2) g h)

pub returns-in_err-height-clause-reads : goal.returns-in_err-height-clause-reads
returns-in_err-height-clause-reads c =
    let args = arguments c.args.args.now in
    let values = data_of c.args.values.now in
    let r = taken None (codes "r") args values in
    let d = taken None (codes "d") args values in
    let p = err_from_is_err_and c.from_residual.result c.from_residual.ensures.1 in
    rw (p.1, p.2) (λ _. ap (λ h. of_sizes (fine_at c.args.fine.now) (taken (Some 3) (codes "center") args values) h
    (end_radius (taken None (codes "d1") args values) (taken (Some 1) (codes "r1") args values) d r)
    (end_radius (taken None (codes "d2") args values) (taken (Some 2) (codes "r2") args values) d r))
    (read-height _ _ _ c.taken.ensures c.in_err-height.ensures))

pub returns-in_err-bottom-clause-reads : goal.returns-in_err-bottom-clause-reads
returns-in_err-bottom-clause-reads c =
    let args = arguments c.args.args.now in
    let values = data_of c.args.values.now in
    let r = taken None (codes "r") args values in
    let d = taken None (codes "d") args values in
    let p = err_from_is_err_and c.from_residual-in_err-bottom.result c.from_residual-in_err-bottom.ensures.1 in
    rw (p.1, p.2) (λ _. ap₂ (λ h b. of_sizes (fine_at c.args.fine.now) (taken (Some 3) (codes "center") args values) h b
    (end_radius (taken None (codes "d2") args values) (taken (Some 2) (codes "r2") args values) d r))
    (read-height _ _ _ c.taken.ensures c.in_ok-height.ensures)
    (read-radius _ _ _ _ _ _ _ _ _ c.taken-2.ensures c.taken-3.ensures c.taken-d.ensures c.taken-r.ensures
    c.in_err-bottom.ensures))

pub returns-in_err-top-clause-reads : goal.returns-in_err-top-clause-reads
returns-in_err-top-clause-reads c =
    let args = arguments c.args.args.now in
    let values = data_of c.args.values.now in
    let r = taken None (codes "r") args values in
    let d = taken None (codes "d") args values in
    let fine = fine_at c.args.fine.now in
    let center = taken (Some 3) (codes "center") args values in
    let p = err_from_is_err_and c.from_residual-in_err-top.result c.from_residual-in_err-top.ensures.1 in
    rw (p.1, p.2) (λ _. ap₂ (λ h b. of_sizes fine center h b
    (end_radius (taken None (codes "d2") args values) (taken (Some 2) (codes "r2") args values) d r))
    (read-height _ _ _ c.taken.ensures c.in_ok-height.ensures)
    (read-radius _ _ _ _ _ _ _ _ _ c.taken-2.ensures c.taken-3.ensures c.taken-d.ensures c.taken-r.ensures
    c.in_ok-bottom.ensures)
    ∙ ap (of_sizes fine center (Ok c.in_ok-height.height) (Ok c.in_ok-bottom.bottom))
    (read-radius _ _ _ _ _ _ _ _ _ c.taken-4.ensures c.taken-5.ensures c.taken-d.ensures c.taken-r.ensures
    c.in_err-top.ensures))

pub returns-clause-reads : goal.returns-clause-reads
returns-clause-reads c =
    let args = arguments c.args.args.now in
    let values = data_of c.args.values.now in
    let r = taken None (codes "r") args values in
    let d = taken None (codes "d") args values in
    let fine = fine_at c.args.fine.now in
    let center = taken (Some 3) (codes "center") args values in
    subst (λ (o : Read Primitive). Reads primitive o c.cylinder_of.result)
    (sym (ap₂ (λ h b. of_sizes fine center h b
    (end_radius (taken None (codes "d2") args values) (taken (Some 2) (codes "r2") args values) d r))
    (read-height _ _ _ c.taken.ensures c.in_ok-height.ensures)
    (read-radius _ _ _ _ _ _ _ _ _ c.taken-2.ensures c.taken-3.ensures c.taken-d.ensures c.taken-r.ensures
    c.in_ok-bottom.ensures)
    ∙ ap (of_sizes fine center (Ok c.in_ok-height.height) (Ok c.in_ok-bottom.bottom))
    (read-radius _ _ _ _ _ _ _ _ _ c.taken-4.ensures c.taken-5.ensures c.taken-d.ensures c.taken-r.ensures
    c.in_ok-top.ensures)
    ∙ ap (cylinder_of fine c.in_ok-height.height c.in_ok-bottom.bottom c.in_ok-top.top) (sym c.taken-6.ensures)))
    c.cylinder_of.ensures.reads

pub returns-clause-primitive : goal.returns-clause-primitive
returns-clause-primitive c = c.cylinder_of.ensures.primitive
