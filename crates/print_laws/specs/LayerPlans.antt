-- Layers that are planned by settings, from the lowest upwards.
use Rattle.std.specs.Prelude.{◌≡◌, ℕ, ◌<◌, ◌≤◌, List, [], ◌++◌, length, slice_get, IsSomeAnd, All}
use Rattle.scad_geom.specs.Limits.{point_limit}
use Rattle.scad_geom.specs.Within.{IsWithin}
use Rattle.scad_words.specs.declared.settings.Settings.{Settings}
use Rattle.slice_loops.specs.Lengths.{HasLength}
use Rattle.plan_layer.specs.Moves.{all_moves, move_limit}
use Rattle.plan_layer.specs.Plan.{IsPlan}
use Rattle.support_laws.specs.Apart.{KeepsApart}
use Rattle.slice_work.specs.Part.{Layout, layer_limit}

-- supports of a layer: none without support lines; they lie within a metre, and each move along them has a length and
-- keeps apart from the outlines
pub record StandOutside (s : Settings) (layer : Layout) : Type 0 where
  pub none : s.support_spacing ≡ 0 → layer.supports ≡ []
  pub within : All (λ path. All (IsWithin point_limit) path) layer.supports
  pub long : All HasLength (all_moves layer.supports)
  pub apart : All (KeepsApart layer.outlines s.support_gap) (all_moves layer.supports)

-- layer i: outlines within a metre, a plan of them and supports, together without too many moves
pub record IsPlanned (s : Settings) (i : ℕ) (layer : Layout) : Type 0 where
  pub within : All (λ l. All (IsWithin point_limit) l) layer.outlines
  pub plan : IsPlan layer.outlines i s layer.paths layer.runs
  pub supports : StandOutside s layer
  pub moves : length (all_moves (layer.paths ++ layer.supports)) ≤ move_limit

-- each of the layers, and not too many of them
pub record ArePlanned (s : Settings) (layers : List Layout) : Type 0 where
  pub number : length layers ≤ layer_limit
  pub each : (i : ℕ) → i < length layers → IsSomeAnd (slice_get layers i) (IsPlanned s i)
