use Rattle.std.proofs.Common.{◌≡◌, ◌∷◌, [], List, ℕ, sym, ap, rules}
use Rattle.scad_io.specs.declared.desk.Out.TheVariants.{Cli}
use Rattle.scad_script.specs.Steps.{Sends}
use Rattle.scad_script.specs.Script.{first}
use Rattle.scad_script.proofs.Layers.{as_left}
use Rattle.slice_work.specs.Script.{laid_out, layout_lines}
use Rattle.slice_work.proofs.Stopping.{stops_work}
use Rattle.slice_work.proofs.layer_lines.send_outlines.Goals as goal

pub returns-in_err-send-clause-carries : goal.returns-in_err-send-clause-carries
returns-in_err-send-clause-carries g c whole rest start left =
    let same : c.deref.result.now ≡ layout_lines c.args.rates.now c.args.layer.now.number
    (laid_out c.args.layer.now) = search rules in
    stops_work whole rest _ _ start _ (search rules)
    (c.in_err-send.ensures.carries whole rest start (as_left
    (ap (λ (p : List ℕ). first (Sends Cli p ∷ []) rest) (sym same)) left))
