-- What walls and runs keep, the moves of a plan keep.
use Rattle.std.proofs.Common.{◌≤◌, ◌*◌, ◌/◌, ℕ, List, flat_map, arith, ℤ, pos, ◌-ℤ◌, ◌*ℤ◌, ◌<ℤ◌}
use lib.Signed.{◌≤ℤ◌}
use Rattle.std.specs.Prelude.{All}
use Rattle.std.proofs.lemmas.Int.{ints}
use Rattle.std.proofs.lemmas.List.Elements.{All-weaker}
use Rattle.scad_base.proofs.Products.{positive_product}
use Rattle.scad_geom.specs.declared.point.Pt.{Pt}
use Rattle.scad_geom.specs.declared.point.Edge.{Edge}
use Rattle.scad_geom.specs.Point.{Point, whole}
use Rattle.scad_geom.specs.Loop.{sides}
use Rattle.scad_geom.specs.Near.{mean}
use Rattle.scad_geom.proofs.Signs.{at_least_mul, sub_mul}
use Rattle.winding_laws.proofs.Parts.{on_turned}
use Rattle.scad_ring.specs.Octagon.{reach, octagon}
use Rattle.scad_ring.specs.Nearness.{Closed, IsWithinRegion, IsClear}
use Rattle.plan_infill.specs.declared.run.Run.{Run}
use Rattle.plan_infill.specs.Runs.{point_on}
use Rattle.plan_walls.specs.Walls.{AreWalls}
use Rattle.plan_walls.specs.Clearance.{clearance, KeepsWithin, KeepsClear}
use Rattle.plan_walls.specs.Laws.{WallsKeepClear}
use Rattle.scad_words.specs.declared.settings.Settings.{Settings}
use Rattle.scad_words.specs.Settings.{AreInRange}
use Rattle.plan_layer.specs.Plan.{distance}
use Rattle.plan_layer.specs.Infill.{line_at, depth, IsLayerRun}
use Rattle.plan_layer.specs.Clearance.{PlansKeepClear}
use Rattle.plan_layer.proofs.Runs.{runs_keep_clear}
use Rattle.plan_layer.proofs.Each.{plan_holds}

-- ---- the clearance of a smaller distance is kept too
wider_by : (v s k d : ℤ) → s ≤ℤ k → pos 0 ≤ℤ d → v ≤ℤ (s *ℤ d) → v ≤ℤ (k *ℤ d)
wider_by v s k d o hd h =
    let m = at_least_mul (k -ℤ s) d (omega (arith, ints, o)) hd in let e = sub_mul k s d in omega (arith, ints, m, e, h)

near_wider : (s u k v : ℤ) (q p : Point) → s ≤ℤ k → u ≤ℤ v → pos 0 ≤ℤ (p.d *ℤ q.d)
    → IsWithinRegion Closed (octagon s u) q p → IsWithinRegion Closed (octagon k v) q p
near_wider s u k v q p o r hd h =
    let d : ℤ = p.d *ℤ q.d in (
      wider_by _ s k d o hd h.0,
      (
        wider_by _ s k d o hd h.1.0,
        (
          wider_by _ s k d o hd h.1.1.0,
          (
            wider_by _ s k d o hd h.1.1.1.0,
            (
              wider_by _ u v d r hd h.1.1.1.1.0,
              (
                wider_by _ u v d r hd h.1.1.1.1.1.0,
                (wider_by _ u v d r hd h.1.1.1.1.1.1.0, (wider_by _ u v d r hd h.1.1.1.1.1.1.1.0, tt)),
              ),
            ),
          ),
        ),
      ),
    )

further : (b c : ℕ) → b ≤ c → reach b ≤ reach c
further b c o = omega (arith, o)

clear_nearer : (b c : ℕ) (q : Point) (e : Edge) → b ≤ c → pos 0 <ℤ q.d
    → IsClear Closed (clearance c) q (whole e.a) (whole e.b) → IsClear Closed (clearance b) q (whole e.a) (whole e.b)
clear_nearer b c q e o hd clear s t hs ht some near =
    let m : Point = mean s t (whole e.a) (whole e.b) in
    let hm : pos 0 <ℤ m.d = omega (arith, ints, some) in
    let hw = positive_product m.d q.d hm hd in
    let r = further b c o in
    clear s t hs ht some (near_wider (pos b -ℤ pos 1) (pos (reach b) -ℤ pos 2) (pos c -ℤ pos 1) (pos (reach c) -ℤ pos 2) q
    m (omega (arith, ints, o)) (omega (arith, ints, r)) (omega (arith, ints, hw)) near)

keeps_less : (outlines : List (List Pt)) (b c : ℕ) (q : Point) → b ≤ c → pos 0 <ℤ q.d → KeepsWithin outlines c q
    → KeepsWithin outlines b q
keeps_less outlines b c q o hd k = record {
  clear = All-weaker (λ e. IsClear Closed (clearance c) q (whole e.a) (whole e.b))
      (λ e. IsClear Closed (clearance b) q (whole e.a) (whole e.b))
      (λ e h. clear_nearer b c q e o hd h) (flat_map sides outlines) k.clear;
  inside = k.inside;
}

move_keeps_less : (outlines : List (List Pt)) (b c : ℕ) (e : Edge) → b ≤ c → KeepsClear outlines c e
    → KeepsClear outlines b e
move_keeps_less outlines b c e o k q hd on = keeps_less outlines b c q o hd (k q hd on)

module _ (outlines : List (List Pt)) (layer : ℕ) (s : Settings) (range : AreInRange s) where
  -- ---- walls
  walls_keep : WallsKeepClear → (k : ℕ) (loops : List (List Pt)) → AreWalls (distance s.line_width k) outlines loops
      → All (KeepsClear outlines (s.line_width / 2)) (flat_map sides loops)
  walls_keep law k loops are =
      let least = range.line_width.least in
      All-weaker (KeepsClear outlines (distance s.line_width k)) (KeepsClear outlines (s.line_width / 2))
      (λ e m. move_keeps_less outlines (s.line_width / 2) (distance s.line_width k) e (omega arith) m)
      (flat_map sides loops) (law (distance s.line_width k) outlines loops (omega arith) are)

  -- ---- infill
  -- infill lies at least one width of a line deep
  deep_enough : s.line_width ≤ depth s
  deep_enough = let w = range.walls.least in by_walls s.walls s.line_width w
    where
      by_walls : (n w : ℕ) → 1 ≤ n → w ≤ n * w
      by_walls n w h = grind arith

  forwards_keeps : (z : ℤ) (r : Run) → IsLayerRun outlines layer s z r
      → KeepsClear outlines (s.line_width / 2)
      (record { a = point_on (line_at layer z) r.from; b = point_on (line_at layer z) r.to })
  forwards_keeps z r is =
      let least = range.line_width.least in
      let deep = deep_enough in
      move_keeps_less outlines (s.line_width / 2) (depth s) (record {
        a =
            point_on (line_at layer z) r.from;
        b = point_on (line_at layer z) r.to;
      }) (omega (arith, deep))
      (runs_keep_clear outlines (depth s) s.line_width (line_at layer z) r (omega (arith, deep)) is)

  backwards_keeps : (z : ℤ) (r : Run) → IsLayerRun outlines layer s z r
      → KeepsClear outlines (s.line_width / 2)
      (record { a = point_on (line_at layer z) r.to; b = point_on (line_at layer z) r.from })
  backwards_keeps z r is q hd on =
      forwards_keeps z r is q hd (on_turned (whole (point_on (line_at layer z) r.to))
      (whole (point_on (line_at layer z) r.from)) q on)

pub plans_keep_clear : WallsKeepClear → PlansKeepClear
plans_keep_clear law outlines layer s paths runs range p =
    plan_holds (KeepsClear outlines (s.line_width / 2)) outlines layer s
    (record {
      walls = walls_keep outlines layer s range law;
      there = forwards_keeps outlines layer s range;
      back = backwards_keeps outlines layer s range;
    })
    paths runs p
