-- The steps of one layer, and what is counted of them.
use Rattle.std.proofs.Common.{◌≡◌, ◌+◌, ◌++◌, ℕ, List, [], ◌∷◌, length, refl, ap, ◌∙◌, arith}
use Rattle.std.proofs.lemmas.List.{append-nil}
use Rattle.scad_geom.specs.declared.point.Pt.{Pt}
use Rattle.scad_io.specs.Desk.{View}
use Rattle.scad_io.specs.declared.desk.Out.TheVariants.{Cli, Gcode}
use Rattle.scad_script.specs.Steps.{Sends}
use Rattle.scad_script.specs.Script.{Script, first}
use Rattle.scad_script.specs.Run.{CreatesNone}
use Rattle.gcode_text.specs.declared.rates.Rates.{Rates}
use Rattle.gcode_text.specs.Amount.{paths_volume}
use Rattle.slice_work.specs.declared.want.Want.{Want}
use Rattle.slice_work.specs.declared.want.Want.TheVariants.{Outlines, Plan}
use Rattle.slice_work.specs.declared.sums.Sums.{Sums}
use Rattle.slice_work.specs.Part.{Layout}
use Rattle.slice_work.specs.Script.{AreThere, layout_lines, move_lines, written}
use Rattle.slice_work.specs.Sums.{with_layer}

-- what comes behind a layer's outlines: its moves, where they are wanted, and then a script
abbrev pub behind : Want → Rates → ℕ → ℕ → Layout → Script → Script
behind Outlines rates volume i layout rest = rest
behind Plan rates volume i layout rest = first (Sends Gcode (move_lines rates volume i layout) ∷ []) rest

pub outlines_first : (want : Want) (rates : Rates) (volume i : ℕ) (layout : Layout) (rest : Script)
    → first (written want rates volume i layout) rest
    ≡ first (Sends Cli (layout_lines rates i layout) ∷ [])
    (behind want rates volume i layout rest)
outlines_first Outlines rates volume i layout rest = refl
outlines_first Plan rates volume i layout rest = refl

-- ---- the volume of two lists of paths

pub volume_both : (rates : Rates) (paths more : List (List Pt))
    → paths_volume rates (paths ++ more) ≡ paths_volume rates paths + paths_volume rates more
unfolding paths_volume
volume_both rates [] more = omega arith
volume_both rates (path ∷ paths) more = let rest = volume_both rates paths more in omega (arith, rest)

-- ---- the outputs that are wanted

pub still_there : (want : Want) (old new : View) → CreatesNone old new → AreThere want old → AreThere want new
still_there Outlines old new none there = none.cli ∙ there
still_there Plan old new none there = (none.cli ∙ there.0, none.gcode ∙ there.1)

-- ---- what is counted

none_more : (n : ℕ) → n + 0 ≡ n
none_more n = omega arith

pub counts_outlines : (rates : Rates) (i : ℕ) (layout : Layout) (s : Sums)
    → with_layer Outlines rates i layout s
    ≡ record s {
      loops = s.loops + length layout.outlines;
      cli = s.cli + length (layout_lines rates i layout);
    }
unfolding paths_volume
counts_outlines rates i layout s =
    let lines = layout_lines rates i layout in
    ap (λ (m : ℕ). record {
      loops = s.loops + length layout.outlines;
      moves = m;
      volume = s.volume + 0;
      cli = s.cli + length (lines ++ []);
      gcode = s.gcode + 0;
    })
    (none_more s.moves)
    ∙ ap (λ (v : ℕ). record {
      loops = s.loops + length layout.outlines;
      moves = s.moves;
      volume = v;
      cli = s.cli + length (lines ++ []);
      gcode = s.gcode + 0;
    })
    (none_more s.volume)
    ∙ ap (λ (c : List ℕ). record {
      loops = s.loops + length layout.outlines;
      moves = s.moves;
      volume = s.volume;
      cli = s.cli + length c;
      gcode = s.gcode + 0;
    })
    (append-nil lines)
    ∙ ap (λ (g : ℕ). record {
      loops = s.loops + length layout.outlines;
      moves = s.moves;
      volume = s.volume;
      cli = s.cli + length lines;
      gcode = g;
    })
    (none_more s.gcode)
