use Rattle.std.proofs.Common.{rules, sym, subst}
use Rattle.scad_script.specs.Script.{layers}
use Rattle.scad_script.proofs.Layers.{as_left}
use Rattle.slice_work.specs.Script.{layer_steps}
use Rattle.slice_work.specs.Rates.{rates_of}
use Rattle.scad_slice.specs.Script.{files, IsWritten}
use Rattle.scad_slice.proofs.Files.{carried_through, written_so}
use Rattle.scad_slice.proofs.Stopping.{stops_part}
use Rattle.scad_slice.proofs.tree_files.draw.Goals as goal

pub returns-in_err-heads-clause-carries : goal.returns-in_err-heads-clause-carries
returns-in_err-heads-clause-carries g c part of_part whole rest start left =
    stops_part whole rest _ _ start _ (search rules)
    (c.in_err-heads.ensures.carries whole _ start
    (as_left (λ k. files c.args.want c.args.workpiece.now.settings part (sym c.layers-count.ensures k) rest) left))

pub returns-in_err-told-clause-carries : goal.returns-in_err-told-clause-carries
returns-in_err-told-clause-carries g c part of_part whole rest start left =
    stops_part whole rest _ _ start _ (search rules)
    (c.in_err-told.ensures.carries part of_part whole _ start
    (c.in_ok-heads.ensures.carries whole _ start
    (as_left (λ k. files c.args.want c.args.workpiece.now.settings part (sym c.layers-count.ensures k) rest) left)))

pub returns-in_err-tails-clause-carries : goal.returns-in_err-tails-clause-carries
returns-in_err-tails-clause-carries g c part of_part whole rest start left =
    stops_part whole rest _ _ start _ (search rules)
    (c.in_err-tails.ensures.carries whole rest start
    (c.in_ok-told.ensures.carries part of_part whole _ start
    (c.in_ok-heads.ensures.carries whole _ start
    (as_left (λ k. files c.args.want c.args.workpiece.now.settings part (sym c.layers-count.ensures k) rest) left))))

pub returns-in-Some-clause-carries : goal.returns-in-Some-clause-carries
returns-in-Some-clause-carries g c part of_part whole rest start left =
    c.in_ok-tails.ensures.carries whole rest start
    (c.in_ok-told.ensures.carries part of_part whole _ start
    (c.in_ok-heads.ensures.carries whole _ start
    (as_left (λ k. files c.args.want c.args.workpiece.now.settings part (sym c.layers-count.ensures k) rest) left)))

pub returns-in-None-clause-carries : goal.returns-in-None-clause-carries
returns-in-None-clause-carries g c part of_part whole rest start left = (
  rest,
  c.in_ok-tails.ensures.carries whole rest start
      (c.in_ok-told.ensures.carries part of_part whole _ start
      (c.in_ok-heads.ensures.carries whole _ start
      (as_left (λ k. files c.args.want c.args.workpiece.now.settings part (sym c.layers-count.ensures k) rest) left))),
)

pub returns-in-Some-clause-written : goal.returns-in-Some-clause-written
returns-in-Some-clause-written g c part of_part =
    let want = c.args.want in
    let s = c.args.workpiece.now.settings in
    subst (λ n. IsWritten want s part n c.in-Some.written) c.layers-count.ensures
    (written_so want s part c.layers-count.result c.in_ok-told.told c.in_ok-heads.heads c.in_ok-tails.tails
    c.in-Some.written c.in_ok-heads.ensures.sizes c.in_ok-tails.ensures.sizes
    (carried_through (layers (layer_steps want (rates_of s) part) 0 c.layers-count.result) c.in_ok-told.told _ _
    (c.in_ok-told.ensures.carries part of_part))
    (c.in_ok-told.ensures.told part of_part) c.in-Some.ensures)
