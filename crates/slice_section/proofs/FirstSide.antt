-- The first side that passes a test, among those that are left.
use Rattle.std.proofs.Common.{◌≡◌, ◌+◌, ◌<◌, ℕ, Bool, cond, Some, List, length, get_or, drop, pos, ap, ◌∙◌}
use Rattle.std.specs.Prelude.{find}
use Rattle.std.proofs.lemmas.List.{at_drop_more}
use Rattle.scad_geom.specs.declared.point3.Pt3.{Pt3}
use Rattle.scad_solid.specs.declared.side.Side.{Side}

abbrev origin : Pt3
origin = record { x = pos 0; y = pos 0; z = pos 0 }

abbrev pub no_side : Side
no_side = record { from = origin; to = origin }

pub first_more : (test : Side → Bool) (ss : List Side) (i : ℕ) (b : Bool) → i < length ss → test (get_or ss i no_side) ≡ b
    → find test (drop i ss) ≡ cond b (Some (get_or ss i no_side)) (find test (drop (i + 1) ss))
first_more test ss i b there is =
    at_drop_more (find test) ss i no_side there
    ∙ ap (λ (b : Bool). cond b (Some (get_or ss i no_side)) (find test (drop (i + 1) ss))) is
