-- `$fn`, `$fa` and `$fs` one by one.
use Rattle.std.proofs.lemmas.Result.{err_from_is_err_and}
use Rattle.scad_value.specs.View.{datum_of}
use Rattle.scad_machine.specs.Machine.{held, env_in, along_in, state_of}
use Rattle.scad_leaves.proofs.Fine.{not-refused, fine-given}
use Rattle.scad_leaves.proofs.fineness.fineness.Goals as goal

pub returns-in_err-fn_ : goal.returns-in_err-fn_
returns-in_err-fn_ c =
    let p = err_from_is_err_and c.from_residual.result c.from_residual.ensures.1 in
    rw (p.1, p.2) (λ some. not-refused _ _ _ _ _ (c.in_err-fn_.ensures (state_of c.args.m.now) some))

pub returns-in_err-fa : goal.returns-in_err-fa
returns-in_err-fa c =
    let p = err_from_is_err_and c.from_residual-in_err-fa.result c.from_residual-in_err-fa.ensures.1 in
    rw (p.1, p.2) (λ some. not-refused _ _ _ _ _ (c.in_err-fa.ensures (state_of c.args.m.now) some))

pub returns-in_err-fs : goal.returns-in_err-fs
returns-in_err-fs c =
    let p = err_from_is_err_and c.from_residual-in_err-fs.result c.from_residual-in_err-fs.ensures.1 in
    rw (p.1, p.2) (λ some. not-refused _ _ _ _ _ (c.in_err-fs.ensures (state_of c.args.m.now) some))

pub returns : goal.returns
returns c =
    let s = state_of c.args.m.now in
    fine-given (env_in (held c.args.m.now)) (along_in (held c.args.m.now)) (datum_of c.in_ok-fn_.fn_)
    (datum_of c.in_ok-fa.fa) (datum_of c.in_ok-fs.fs) s (c.in_ok-fn_.ensures s) (c.in_ok-fa.ensures s)
    (c.in_ok-fs.ensures s)
