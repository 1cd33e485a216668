-- An error that goes up as it is.
use Rattle.std.proofs.Common.{◌≡◌, List, ℕ, Result, Err, sym, subst}
use Rattle.scad_io.specs.Desk.{View}
use Rattle.scad_script.specs.declared.stop.Stop.{Stop}
use Rattle.scad_script.specs.Script.{Script}
use Rattle.scad_script.specs.Play.{Stops, Plays, EndsIn}

pub stops_part : {T : Type 0} (whole rest : Script) (result : Result T Stop) (stop : Stop) (old new : View)
    → result ≡ Err stop → Stops whole stop old new → Plays whole rest result old new
stops_part {T = T} whole rest result stop old new is stops =
    subst (λ (r : Result T Stop). Plays whole rest r old new) (sym is) stops

pub stops_all : (whole : Script) (result : Result (List ℕ) Stop) (stop : Stop) (old new : View) → result ≡ Err stop
    → Stops whole stop old new → EndsIn whole result old new
stops_all whole result stop old new is stops =
    subst (λ (r : Result (List ℕ) Stop). EndsIn whole r old new) (sym is) stops
