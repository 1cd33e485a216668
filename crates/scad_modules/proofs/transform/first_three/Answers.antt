-- Each row is what the value at its place says.
use Rattle.std.proofs.Common.{◌≡◌, ℕ, ◌<◌, ◌≤◌, List, Ok, length, get_or, sym, ap, ap₂, ◌∙◌, arith}
use Rattle.std.proofs.lemmas.Result.{err_from_is_err_and}
use Rattle.scad_base.specs.Results.{and_then}
use Rattle.scad_matrix.specs.declared.matrix.Row.{Row}
use Rattle.scad_matrix.specs.declared.matrix.Matrix.{Matrix}
use Rattle.scad_value.specs.declared.value.Value.{Value}
use Rattle.scad_value.specs.Products.{nth}
use Rattle.scad_value.specs.View.{datum_of, elements}
use Rattle.scad_value.proofs.Access.{nth-at}
use Rattle.scad_modules.specs.Reading.{Read}
use Rattle.scad_modules.specs.Transforms.{first_three, row_of}
use Rattle.scad_modules.proofs.transform.first_three.Goals as goal

-- a matrix of what three rows are read as
abbrev three : Read Row → Read Row → Read Row → Read Matrix
three a b c =
    and_then a (λ x. and_then b (λ y. and_then c (λ z. Ok (record { x = x; y = y; z = z }))))

first : 0 < 3
first = omega arith

second : 1 < 3
second = omega arith

third : 2 < 3
third = omega arith

read-row : (all : List Value) (n : ℕ) (v : Value) (row : Read Row) → n < 3 → 3 ≤ length all → v ≡ get_or all n v
    → row ≡ row_of (datum_of v) → row ≡ row_of (nth (elements all) n)
read-row all n v row low long is read =
    read ∙ ap row_of (ap datum_of is ∙ sym (nth-at all n v (let below : n < length all = omega arith in below)))

pub returns-in_err-x : goal.returns-in_err-x
unfolding first_three
returns-in_err-x c =
    let all = c.args.all.now in
    let p = err_from_is_err_and c.from_residual.result c.from_residual.ensures.1 in
    rw (p.1, p.2) (ap (λ x. three x (row_of (nth (elements all) 1)) (row_of (nth (elements all) 2)))
    (read-row all 0 c.index-all-0.result _ first c.requires c.index-all-0.is c.in_err-x.ensures))

pub returns-in_err-y : goal.returns-in_err-y
unfolding first_three
returns-in_err-y c =
    let all = c.args.all.now in
    let p = err_from_is_err_and c.from_residual-in_err-y.result c.from_residual-in_err-y.ensures.1 in
    rw (p.1, p.2) (ap₂ (λ x y. three x y (row_of (nth (elements all) 2)))
    (read-row all 0 c.index-all-0.result _ first c.requires c.index-all-0.is c.in_ok-x.ensures)
    (read-row all 1 c.index-all-1.result _ second c.requires c.index-all-1.is c.in_err-y.ensures))

pub returns-in_err-z : goal.returns-in_err-z
unfolding first_three
returns-in_err-z c =
    let all = c.args.all.now in
    let p = err_from_is_err_and c.from_residual-in_err-z.result c.from_residual-in_err-z.ensures.1 in
    rw (p.1, p.2) (ap (three (Ok c.in_ok-x.x) (Ok c.in_ok-y.y))
    (read-row all 2 c.index-all-2.result _ third c.requires c.index-all-2.is c.in_err-z.ensures)
    ∙ ap₂ (λ x y. three x y (row_of (nth (elements all) 2)))
    (read-row all 0 c.index-all-0.result _ first c.requires c.index-all-0.is c.in_ok-x.ensures)
    (read-row all 1 c.index-all-1.result _ second c.requires c.index-all-1.is c.in_ok-y.ensures))

pub returns : goal.returns
unfolding first_three
returns c =
    let all = c.args.all.now in
    ap (three (Ok c.in_ok-x.x) (Ok c.in_ok-y.y))
    (read-row all 2 c.index-all-2.result _ third c.requires c.index-all-2.is c.in_ok-z.ensures)
    ∙ ap₂ (λ x y. three x y (row_of (nth (elements all) 2)))
    (read-row all 0 c.index-all-0.result _ first c.requires c.index-all-0.is c.in_ok-x.ensures)
    (read-row all 1 c.index-all-1.result _ second c.requires c.index-all-1.is c.in_ok-y.ensures)
