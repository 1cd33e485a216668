-- A fault that goes up as it is.
use Rattle.std.proofs.Common.{◌≡◌, Result, Err, sym, subst}
use Rattle.scad_io.specs.Desk.{View}
use Rattle.scad_script.specs.Script.{Script}
use Rattle.scad_script.specs.Play.{Stops, Plays}
use Rattle.slice_work.specs.declared.fault.WorkFault.{WorkFault}
use Rattle.slice_work.specs.Script.{stop_of, stopped}

pub stops_work : {T : Type 0} (whole rest : Script) (result : Result T WorkFault) (fault : WorkFault)
    (old new : View) → result ≡ Err fault
    → Stops whole (stop_of fault) old new → Plays whole rest (stopped result) old new
stops_work {T = T} whole rest result fault old new is stops =
    subst (λ (r : Result T WorkFault). Plays whole rest (stopped r) old new) (sym is) stops
