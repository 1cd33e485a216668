use Rattle.std.proofs.Common.{◌≡◌, ◌+◌, ◌-◌, ◌≤◌}
use Rattle.scad_io.specs.Desk.{View}
use Rattle.scad_script.specs.Script.{Script, layers}
use Rattle.scad_script.specs.Play.{Left}
use Rattle.scad_script.specs.Run.{Sound, CreatesNone}
use Rattle.slice_work.specs.Part.{Part}
use Rattle.slice_work.specs.Shares.{AreDrawnOf}
use Rattle.slice_work.specs.Script.{AreThere, layer_steps}
use Rattle.slice_work.specs.Sums.{AreSums}
use Rattle.slice_work.proofs.part.send_round.Given as goal

abbrev pub invariant-layers : goal.invariant-layers
invariant-layers g l = record {
  carries : (part : Part) → AreDrawnOf part l.round.done.items → AreSums l.want l.rates part l.round.first l.fn.sums
      → (whole rest : Script) (start : View)
      → Left whole (layers (layer_steps l.want l.rates part) l.round.first l.round.count rest) start
      (g.D.Desk.view l.fn.desk)
      → Left whole (layers (layer_steps l.want l.rates part) (l.round.first + l.n) (l.round.count - l.n) rest) start
      (g.D.Desk.view l.desk);
  sums : (part : Part) → AreDrawnOf part l.round.done.items → AreSums l.want l.rates part l.round.first l.fn.sums
      → AreSums l.want l.rates part (l.round.first + l.n) l.sums;
  sound : Sound (g.D.Desk.view l.desk);
  there : AreThere l.want (g.D.Desk.view l.desk);
  creates : CreatesNone (g.D.Desk.view l.fn.desk) (g.D.Desk.view l.desk);
  files : g.D.Desk.files l.desk ≡ g.D.Desk.files l.fn.desk;
  later : g.D.Desk.faults l.fn.desk ≤ g.D.Desk.faults l.desk;
}
