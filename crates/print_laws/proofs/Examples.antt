-- Worked examples of what is written of layers, and of the moves that extrude along them.
use Rattle.std.proofs.Common.{◌≡◌, [], ◌∷◌, ℕ, Bool, true, false, pos, refl}
use Rattle.scad_geom.specs.declared.point.Pt.{Pt}
use Rattle.cli_text.specs.Cli.{outlined}
use Rattle.slice_work.specs.Part.{Layout}
use Rattle.print_laws.specs.Print.{PathSide, sides_from, written, all_printed}

abbrev at : ℕ → ℕ → Pt
at x y = record { x = pos x; y = pos y }

-- two layers: a triangle with a path of two sides and a support, and nothing but a path of one
abbrev lower : Layout
lower = record {
  outlines = (at 0 0 ∷ at 9 0 ∷ at 0 9 ∷ []) ∷ [];
  paths = (at 1 1 ∷ at 5 1 ∷ at 1 5 ∷ []) ∷ [];
  runs = 0;
  supports = (at 20 3 ∷ at 29 3 ∷ []) ∷ [];
}

abbrev upper : Layout
upper = record { outlines = []; paths = (at 2 2 ∷ at 2 4 ∷ []) ∷ []; runs = 1; supports = [] }

-- each is written with the height of its upper surface, and its runs of infill as hatches
two_heights : written 200 (lower ∷ upper ∷ []) ≡ outlined 200 lower.outlines ∷ record {
  z = 400;
  loops = [];
  hatches = record { a = at 2 2; b = at 2 4 } ∷ [];
} ∷ []
two_heights = refl

-- the sides, layer after layer, those of supports behind the others
abbrev side : Bool → ℕ → Pt → Pt → PathSide
side support z a b = record { z = z; edge = record { a = a; b = b }; support = support }

four_sides : sides_from 200 0 (all_printed (lower ∷ upper ∷ []))
    ≡ side false 200 (at 1 1) (at 5 1) ∷ side false 200 (at 5 1) (at 1 5) ∷ side true 200 (at 20 3) (at 29 3)
    ∷ side false 400 (at 2 2) (at 2 4) ∷ []
four_sides = refl
