-- The copy of a value is the same datum.
use Rattle.std.proofs.Common.{Vec, Global, sym, ap, ◌∙◌}
use Rattle.std.proofs.lemmas.Result.{err_from_is_err_and}
use Rattle.scad_value.specs.Datum.{string, vector}
use Rattle.scad_value.specs.Memory.{is_list}
use Rattle.scad_value.specs.View.{datum_of, elements}
use Rattle.scad_value.specs.declared.value.Value.{Value}
use Rattle.scad_value.proofs.Rows.{at_vector, vector_view}
use Rattle.scad_value.proofs.duplicate.copy.Goals as goal

pub returns-in-Undef-clause-same : goal.returns-in-Undef-clause-same
returns-in-Undef-clause-same c = sym (ap datum_of c.in-Undef.is)

pub returns-in-Bool-clause-same : goal.returns-in-Bool-clause-same
returns-in-Bool-clause-same c = sym (ap datum_of c.in-Bool.is)

pub returns-in-Number-clause-same : goal.returns-in-Number-clause-same
returns-in-Number-clause-same c = sym (ap datum_of c.in-Number.is)

pub returns-in-Range-clause-same : goal.returns-in-Range-clause-same
returns-in-Range-clause-same c = sym (ap datum_of c.in-Range.is)

pub returns-in_ok-clone-in-Str-clause-same : goal.returns-in_ok-clone-in-Str-clause-same
returns-in_ok-clone-in-Str-clause-same c =
    ap string c.in_ok-clone-in-Str.ensures.cases ∙ sym (ap datum_of c.in-Str.is)

pub returns-in_ok-clone-in-List-clause-same : goal.returns-in_ok-clone-in-List-clause-same
returns-in_ok-clone-in-List-clause-same c =
    vector_view c.in_ok-clone-in-List.field-0
    ∙ ap (λ (v : Vec Value Global). vector (elements v.items)) c.in_ok-clone-in-List.ensures.cases
    ∙ sym (at_vector c.args.a.now c.in-List.all c.in-List.is)

pub returns-in_err-clone-in-Str-clause-same : goal.returns-in_err-clone-in-Str-clause-same
returns-in_err-clone-in-Str-clause-same c =
    let p = err_from_is_err_and c.from_residual.result c.from_residual.ensures.1 in
    rw p.1 tt

pub returns-in_err-clone-in-Str-clause-memory : goal.returns-in_err-clone-in-Str-clause-memory
returns-in_err-clone-in-Str-clause-memory c =
    let p = err_from_is_err_and c.from_residual.result c.from_residual.ensures.1 in
    rw p.1 (ap (λ v. is_list (datum_of v)) c.in-Str.is)

pub returns-in_err-clone-in-List-clause-same : goal.returns-in_err-clone-in-List-clause-same
returns-in_err-clone-in-List-clause-same c =
    let r = c.from_residual-in_err-clone-in-List.result in
    let p = err_from_is_err_and r c.from_residual-in_err-clone-in-List.ensures.1 in
    rw p.1 tt

pub returns-in_err-clone-in-List-clause-memory : goal.returns-in_err-clone-in-List-clause-memory
returns-in_err-clone-in-List-clause-memory c =
    let r = c.from_residual-in_err-clone-in-List.result in
    let p = err_from_is_err_and r c.from_residual-in_err-clone-in-List.ensures.1 in
    rw p.1 (ap is_list (at_vector c.args.a.now c.in-List.all c.in-List.is))

pub returns-in-Undef-clause-memory : goal.returns-in-Undef-clause-memory
returns-in-Undef-clause-memory c = tt

pub returns-in-Bool-clause-memory : goal.returns-in-Bool-clause-memory
returns-in-Bool-clause-memory c = tt

pub returns-in-Number-clause-memory : goal.returns-in-Number-clause-memory
returns-in-Number-clause-memory c = tt

pub returns-in-Range-clause-memory : goal.returns-in-Range-clause-memory
returns-in-Range-clause-memory c = tt

pub returns-in_ok-clone-in-Str-clause-memory : goal.returns-in_ok-clone-in-Str-clause-memory
returns-in_ok-clone-in-Str-clause-memory c = tt

pub returns-in_ok-clone-in-List-clause-memory : goal.returns-in_ok-clone-in-List-clause-memory
returns-in_ok-clone-in-List-clause-memory c = tt
