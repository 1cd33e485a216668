-- The product of two vectors of two or three numbers, up to the first fault.
use Rattle.std.proofs.Common.{◌≡◌, ℤ, List, Ok, ap, sym, ◌∙◌, arith}
use Rattle.std.proofs.lemmas.Result.{err_from_is_err_and, IfOk-weaker, IfErr-weaker}
use Rattle.scad_value.specs.View.{elements}
use Rattle.scad_builtin.specs.Arguments.{numbers}
use Rattle.scad_builtin.specs.Vectors.{cross_of, triple}
use Rattle.scad_builtin.proofs.Rows.{length_numbers}
use Rattle.scad_builtin.proofs.Crosses.{number_in, behind_y, behind_x, all_three, of_two, of_three, of_other, with_x}
use Rattle.scad_builtin.proofs.Crosses.{with_y, with_z}
use Rattle.scad_builtin.proofs.cross.cross.Goals as goal

pub returns-in_err-cross_entry-clause-err : goal.returns-in_err-cross_entry-clause-err
returns-in_err-cross_entry-clause-err c =
    let p = err_from_is_err_and c.from_residual.result c.from_residual.ensures.1 in
    rw (p.1, p.2) (λ some.
    of_two (numbers (elements c.args.a.now)) (numbers (elements c.args.b.now))
    (length_numbers c.args.a.now ∙ omega arith) (length_numbers c.args.b.now ∙ omega arith)
    ∙ ap number_in (sym c.in_err-cross_entry.ensures))

pub returns-then-b-eq2-clause-ok : goal.returns-then-b-eq2-clause-ok
returns-then-b-eq2-clause-ok c =
    of_two (numbers (elements c.args.a.now)) (numbers (elements c.args.b.now))
    (length_numbers c.args.a.now ∙ omega arith) (length_numbers c.args.b.now ∙ omega arith)
    ∙ ap number_in (sym c.in_ok-cross_entry.ensures)

pub returns-in_err-x-clause-err : goal.returns-in_err-x-clause-err
returns-in_err-x-clause-err c =
    let a : List ℤ = numbers (elements c.args.a.now) in
    let b : List ℤ = numbers (elements c.args.b.now) in
    let p = err_from_is_err_and c.from_residual-in_err-x.result c.from_residual-in_err-x.ensures.1 in
    rw (p.1, p.2) (λ some.
    of_three a b (length_numbers c.args.a.now ∙ omega arith) (length_numbers c.args.b.now ∙ omega arith)
    ∙ ap (all_three a b) (sym c.in_err-x.ensures))

pub returns-in_err-y-clause-err : goal.returns-in_err-y-clause-err
returns-in_err-y-clause-err c =
    let a : List ℤ = numbers (elements c.args.a.now) in
    let b : List ℤ = numbers (elements c.args.b.now) in
    let p = err_from_is_err_and c.from_residual-in_err-y.result c.from_residual-in_err-y.ensures.1 in
    rw (p.1, p.2) (λ some.
    with_x a b c.in_ok-x.x (length_numbers c.args.a.now ∙ omega arith) (length_numbers c.args.b.now ∙ omega arith)
    c.in_ok-x.ensures ∙ ap (behind_x a b c.in_ok-x.x) (sym c.in_err-y.ensures))

pub returns-in_err-z-clause-err : goal.returns-in_err-z-clause-err
returns-in_err-z-clause-err c =
    let a : List ℤ = numbers (elements c.args.a.now) in
    let b : List ℤ = numbers (elements c.args.b.now) in
    let p = err_from_is_err_and c.from_residual-in_err-z.result c.from_residual-in_err-z.ensures.1 in
    rw (p.1, p.2) (λ some.
    with_y a b c.in_ok-x.x c.in_ok-y.y
    (length_numbers c.args.a.now ∙ omega arith) (length_numbers c.args.b.now ∙ omega arith)
    c.in_ok-x.ensures c.in_ok-y.ensures ∙ ap (behind_y c.in_ok-x.x c.in_ok-y.y) (sym c.in_err-z.ensures))

pub returns-then-b-eq3-clause-ok : goal.returns-then-b-eq3-clause-ok
returns-then-b-eq3-clause-ok c =
    let a : List ℤ = numbers (elements c.args.a.now) in
    let b : List ℤ = numbers (elements c.args.b.now) in
    let all : cross_of a b ≡ Ok (triple c.in_ok-x.x c.in_ok-y.y c.in_ok-z.z) =
    with_z a b c.in_ok-x.x c.in_ok-y.y c.in_ok-z.z
    (length_numbers c.args.a.now ∙ omega arith) (length_numbers c.args.b.now ∙ omega arith)
    c.in_ok-x.ensures c.in_ok-y.ensures c.in_ok-z.ensures in
    IfOk-weaker c.triple.result _ _ (λ v same. all ∙ ap Ok (sym same)) c.triple.ensures.ok

pub returns-then-b-eq3-clause-err : goal.returns-then-b-eq3-clause-err
returns-then-b-eq3-clause-err c =
    IfErr-weaker c.triple.result _ _ (λ e memory some. absurd (some memory)) c.triple.ensures.err

pub returns-clause-err : goal.returns-clause-err
returns-clause-err c =
    λ some. of_other (numbers (elements c.args.a.now)) (numbers (elements c.args.b.now)) _ _
    (length_numbers c.args.a.now) (length_numbers c.args.b.now) c.else-a-eq2.either c.else-a-eq3.either
