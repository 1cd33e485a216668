-- Lines in full: those that do not depend on what the run was given, and an example of each other form.
use Rattle.std.proofs.Common.{◌≡◌, [], codes, refl, pos, negsuc}
use Rattle.std.specs.Fmt.{digits}
use Rattle.scad_fault.specs.declared.fault.FaultKind.TheVariants.{LeftOut, NotClosed}
use Rattle.scad_fault.specs.declared.budget.BudgetKind.TheVariants.{SourceLong, Depth, Layers, LayerEdges, SupportRuns, FileLong}
use Rattle.scad_fault.specs.declared.settings.SetKind.TheVariants.{NotToml, OutOfRange}
use Rattle.scad_fault.specs.declared.verdict.BadKind.TheVariants.{CliLine, CliCount, GNumber}
use Rattle.scad_fault.specs.Place.{no_place, first_place}
use Rattle.scad_fault.specs.Line.{fault_line, settings_line, budget_line, outside_line, bad_line}

pub source_long_line :
    budget_line (record { kind = SourceLong; at = no_place; layer = 0; count = 0 }) ≡ codes "budget 1 SourceLong\n"
unfolding budget_line digits
source_long_line = refl

pub not_toml_line :
    settings_line (record { kind = NotToml; key = []; value = pos 0 }) ≡ codes "settings 1 NotToml\n"
unfolding settings_line digits
not_toml_line = refl

left_out_line :
    fault_line (record { kind = LeftOut; at = record { line = 1; col = 5 }; name = codes "function" })
    ≡ codes "fault 4 LeftOut at 1:5 function\n"
unfolding fault_line digits
left_out_line = refl

not_closed_line : fault_line (record { kind = NotClosed; at = first_place; name = [] })
    ≡ codes "fault 12 NotClosed at 1:1\n"
unfolding fault_line digits
not_closed_line = refl

out_of_range_line :
    settings_line (record { kind = OutOfRange; key = codes "layer_height"; value = pos 5 })
    ≡ codes "settings 4 OutOfRange layer_height 5\n"
unfolding settings_line digits
out_of_range_line = refl

below_range_line :
    settings_line (record { kind = OutOfRange; key = codes "bed"; value = negsuc 9 })
    ≡ codes "settings 4 OutOfRange bed -10\n"
unfolding settings_line digits
below_range_line = refl

depth_line :
    budget_line (record { kind = Depth; at = record { line = 1; col = 27 }; layer = 0; count = 0 })
    ≡ codes "budget 3 Depth at 1:27\n"
unfolding budget_line digits
depth_line = refl

layers_line :
    budget_line (record { kind = Layers; at = no_place; layer = 0; count = 50000 })
    ≡ codes "budget 6 Layers count 50000\n"
unfolding budget_line digits
layers_line = refl

layer_edges_line :
    budget_line (record { kind = LayerEdges; at = no_place; layer = 4; count = 20010 })
    ≡ codes "budget 7 LayerEdges layer 4 count 20010\n"
unfolding budget_line digits
layer_edges_line = refl

support_runs_line :
    budget_line (record { kind = SupportRuns; at = no_place; layer = 0; count = 10000001 })
    ≡ codes "budget 11 SupportRuns count 10000001\n"
unfolding budget_line digits
support_runs_line = refl

pub file_long_line :
    budget_line (record { kind = FileLong; at = no_place; layer = 0; count = 0 }) ≡ codes "budget 12 FileLong\n"
unfolding budget_line digits
file_long_line = refl

first_move_line : outside_line 1 15 ≡ codes "outside: move 1 line 15\n"
unfolding outside_line digits
first_move_line = refl

bad_outlines_line : bad_line CliLine 1 0 ≡ codes "cli 1 BadLine 1\n"
unfolding bad_line digits
bad_outlines_line = refl

count_line : bad_line CliCount 3 2 ≡ codes "cli 2 CountDiffers 3 2\n"
unfolding bad_line digits
count_line = refl

bad_number_line : bad_line GNumber 7 0 ≡ codes "gcode 2 BadNumber 7\n"
unfolding bad_line digits
bad_number_line = refl
