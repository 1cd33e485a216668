-- A layer has a plan that passes no limit, or it is refused: each number is compared with its limit.
use Rattle.std.proofs.Common.{◌≡◌, ◌⊎◌, inl, inr, ℕ, zero, suc, ◌+◌, ◌<◌, ◌≤◌, List, ◌++◌, length, refl, subst, arith}
use Rattle.std.proofs.lemmas.Bool.{cases_lt}
use Rattle.scad_geom.specs.declared.point.Pt.{Pt}
use Rattle.slice_events.specs.Limits.{crossing_limit}
use Rattle.slice_events.specs.Levels.{crossings}
use Rattle.plan_walls.specs.Walls.{wall_edges}
use Rattle.plan_walls.specs.Refusal.{wall_edge_limit}
use Rattle.scad_words.specs.declared.settings.Settings.{Settings}
use Rattle.plan_layer.specs.declared.fault.PlanFault.TheVariants.{Edges, Crossings, Moves}
use Rattle.plan_layer.specs.Moves.{all_moves, move_limit}
use Rattle.plan_layer.specs.Plan.{distance}
use Rattle.plan_layer.specs.Refusal.{IsWallAccepted, AreAccepted}
use Rattle.plan_layer.specs.There.{HasPlan, HasAccepted, HasRefusal, PlansAreDecided}
use Rattle.plan_layer.proofs.WallPaths.{accepted_more}
use Rattle.plan_layer.proofs.SomePlans.{plans_are_there}

module _ (outlines : List (List Pt)) where
  abbrev edges_at : ℕ → ℕ
  edges_at c = length (wall_edges c outlines)

  abbrev crossings_at : ℕ → ℕ
  crossings_at c = crossings (wall_edges c outlines)

  -- the walls at a distance pass a limit
  abbrev PassesLimit : ℕ → Type 0
  PassesLimit c = (wall_edge_limit < edges_at c) ⊎ ((edges_at c ≤ wall_edge_limit) × (crossing_limit < crossings_at c))

  wall_judged : (c : ℕ) → PassesLimit c ⊎ IsWallAccepted outlines c
  wall_judged c = by_cases (cases_lt wall_edge_limit (edges_at c)) (cases_lt crossing_limit (crossings_at c))
    where
      by_cases : (wall_edge_limit < edges_at c) ⊎ (edges_at c ≤ wall_edge_limit)
          → (crossing_limit < crossings_at c) ⊎ (crossings_at c ≤ crossing_limit)
          → PassesLimit c ⊎ IsWallAccepted outlines c
      by_cases (inl many) m = inl (inl many)
      by_cases (inr few) (inl many) = inl (inr (few, many))
      by_cases (inr few) (inr met) = inr (record { few_edges = few; few_crossings = met })

  -- the first of n walls that passes a limit
  record HasFirst (width n : ℕ) : Type 0 where
    wall : ℕ
    there : wall < n
    accepted : AreAccepted outlines width wall
    passes : PassesLimit (distance width wall)

  walls_judged : (width n : ℕ) → HasFirst width n ⊎ AreAccepted outlines width n
  walls_judged width zero = inr (λ k h. absurd (omega arith))
  walls_judged width (suc n) = by_cases (walls_judged width n) (wall_judged (distance width n))
    where
      by_cases : HasFirst width n ⊎ AreAccepted outlines width n
          → PassesLimit (distance width n) ⊎ IsWallAccepted outlines (distance width n)
          → HasFirst width (suc n) ⊎ AreAccepted outlines width (suc n)
      by_cases (inl f) w =
          let t = f.there in
          inl (record { wall = f.wall; there = omega (arith, t); accepted = f.accepted; passes = f.passes })
      by_cases (inr all) (inl p) = inl (record { wall = n; there = omega arith; accepted = all; passes = p })
      by_cases (inr all) (inr last) =
          let e : n + 1 ≡ suc n = omega arith in
          inr (subst (AreAccepted outlines width) e (accepted_more outlines width n all last))

  module _ (layer : ℕ) (s : Settings) (supports : List (List Pt)) where
    by_wall : HasFirst s.line_width s.walls → HasRefusal outlines layer s supports
    by_wall f = by_limit f.passes
      where
        by_limit : PassesLimit (distance s.line_width f.wall) → HasRefusal outlines layer s supports
        by_limit (inl many) = record {
          fault = Edges (edges_at (distance s.line_width f.wall));
          refused = record {
            known = λ e. cc;
            refusal = inl
                (record { wall = f.wall; there = f.there; accepted = f.accepted; refused = (refl, many) });
          };
        }
        by_limit (inr h) = record {
          fault = Crossings (crossings_at (distance s.line_width f.wall));
          refused = record {
            known = λ e. cc;
            refusal = inl
                (record { wall = f.wall; there = f.there; accepted = f.accepted; refused = (h.0, refl, h.1) });
          };
        }

    by_moves : AreAccepted outlines s.line_width s.walls → HasAccepted outlines layer s supports ⊎ HasRefusal outlines layer s supports
    by_moves walls = by_count (plans_are_there outlines layer s)
      where
        judged : (p : HasPlan outlines layer s)
            → (move_limit < length (all_moves (p.paths ++ supports))) ⊎ (length (all_moves (p.paths ++ supports)) ≤ move_limit)
            → HasAccepted outlines layer s supports ⊎ HasRefusal outlines layer s supports
        judged p (inl many) = inr (record {
          fault = Moves (length (all_moves (p.paths ++ supports)));
          refused = record {
            known = λ e. cc;
            refusal = inr (record { paths = p.paths; runs = p.runs; plan = p.is_plan; accepted = walls; many = (refl, many) });
          };
        })
        judged p (inr few) = inl
            (record { paths = p.paths; runs = p.runs; accepted = record { plan = p.is_plan; walls = walls; moves = few } })

        by_count : HasPlan outlines layer s → HasAccepted outlines layer s supports ⊎ HasRefusal outlines layer s supports
        by_count p = judged p (cases_lt move_limit (length (all_moves (p.paths ++ supports))))

    decided : HasAccepted outlines layer s supports ⊎ HasRefusal outlines layer s supports
    decided = by_cases (walls_judged s.line_width s.walls)
      where
        by_cases : HasFirst s.line_width s.walls ⊎ AreAccepted outlines s.line_width s.walls
            → HasAccepted outlines layer s supports ⊎ HasRefusal outlines layer s supports
        by_cases (inl f) = inr (by_wall f)
        by_cases (inr walls) = by_moves walls

pub plans_are_decided : PlansAreDecided
plans_are_decided outlines layer s supports = decided outlines layer s supports
