-- The measures and speeds of a printing program, as settings give them.
use Rattle.scad_words.specs.declared.settings.Settings.{Settings}
use Rattle.gcode_text.specs.declared.rates.Rates.{Rates}

-- the measures and speeds that settings give
abbrev pub rates_of : Settings → Rates
rates_of s = record {
  line_width = s.line_width;
  layer_height = s.layer_height;
  filament_area = s.filament_area;
  print_feed = s.print_feed;
  travel_feed = s.travel_feed;
}
