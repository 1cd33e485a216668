use Rattle.std.proofs.Common.{◌≡◌, ◌-◌, ◌≤◌}
use Rattle.scad_io.specs.Desk.{View}
use Rattle.scad_script.specs.Script.{Script, layers}
use Rattle.scad_script.specs.Play.{Left}
use Rattle.scad_script.specs.Run.{Sound, CreatesNone}
use Rattle.slice_work.specs.Part.{Part}
use Rattle.slice_work.specs.Script.{AreThere, layer_steps}
use Rattle.slice_work.specs.Rates.{rates_of}
use Rattle.slice_work.specs.Sums.{AreSums}
use Rattle.slice_work.proofs.part.work.Given as goal

abbrev pub invariant-rounds : goal.invariant-rounds
invariant-rounds g l = record {
  within : l.first ≤ l.count;
  rates : l.rates ≡ rates_of l.print.settings;
  carries : (part : Part) → g.W.LayerWork.draws l.work part → (whole rest : Script) (start : View)
      → Left whole (layers (layer_steps l.print.want (rates_of l.print.settings) part) 0 l.count rest) start
      (g.D.Desk.view l.fn.desk)
      → Left whole (layers (layer_steps l.print.want (rates_of l.print.settings) part) l.first (l.count - l.first) rest) start
      (g.D.Desk.view l.desk);
  sums : (part : Part) → g.W.LayerWork.draws l.work part → AreSums l.print.want (rates_of l.print.settings) part l.first l.sums;
  sound : Sound (g.D.Desk.view l.desk);
  there : AreThere l.print.want (g.D.Desk.view l.desk);
  creates : CreatesNone (g.D.Desk.view l.fn.desk) (g.D.Desk.view l.desk);
  files : g.D.Desk.files l.desk ≡ g.D.Desk.files l.fn.desk;
  later : g.D.Desk.faults l.fn.desk ≤ g.D.Desk.faults l.desk;
}

abbrev pub decreases-rounds : goal.decreases-rounds
decreases-rounds g l = l.count - l.first
