-- The program of planned layers prints them.
use Rattle.std.proofs.Common.{refl}
use Rattle.plan_layer.specs.Lengths.{PlansHaveLengths}
use Rattle.gcode_text.specs.Laws.{ProgramsMakeTheirMoves}
use Rattle.slice_work.specs.Rates.{rates_of}
use Rattle.print_laws.specs.Print.{all_printed, moves_of}
use Rattle.print_laws.specs.Laws.{PlansArePrintable, SidesAreExtruded, MovesKeepPlaces, MovesStayInside, PlansArePrinted}
use Rattle.print_laws.proofs.Lengths.{have_lengths}

pub plans_are_printed : PlansArePrintable → SidesAreExtruded → MovesKeepPlaces → MovesStayInside → PlansHaveLengths
    → ProgramsMakeTheirMoves
    → PlansArePrinted
plans_are_printed printable extruded kept inside long made s layers range p = record {
  text = refl;
  moves = moves_of s layers;
  made = made (rates_of s) s.hot_end s.bed (all_printed layers) (printable s layers range p);
  all = refl;
  extruded = extruded (rates_of s) (all_printed layers) (have_lengths long s layers range p);
  kept = kept s layers range p;
  inside = inside s layers range p;
}
