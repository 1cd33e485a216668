-- What is known of the layers of a tree, each by its number.
use Rattle.std.proofs.Common.{◌≡◌, ◌+◌, ◌≤◌, ℕ, suc, true, List, [], ◌∷◌, length, nat_le, map, flat_map, refl, sym, ap, subst, arith}
use Rattle.std.proofs.Common.{Option, Some, None, Ok, leb-true}
use Rattle.std.specs.Prelude.{All, cond, Bool, false}
use Rattle.std.specs.List.{filter, AllByRecursion}
use Rattle.std.proofs.lemmas.List.{length-append}
use Rattle.std.proofs.lemmas.List.Elements.{recursion_from_All}
use Rattle.scad_fault.specs.declared.budget.Budget.{Budget}
use Rattle.scad_geom.specs.declared.point.Pt.{Pt}
use Rattle.scad_geom.specs.declared.point.Edge.{Edge}
use Rattle.scad_geom.specs.Loop.{path, sides}
use Rattle.scad_geom.specs.Limits.{coordinate_limit, point_limit}
use Rattle.scad_geom.specs.Within.{IsWithin}
use Rattle.scad_words.specs.declared.settings.Settings.{Settings}
use Rattle.scad_words.specs.Settings.{AreInRange}
use Rattle.scad_tree.specs.Solid.{Solid}
use Rattle.scad_tree.specs.Solids.{AreSolids}
use Rattle.slice_loops.specs.Corners.{corners}
use Rattle.slice_layer.specs.Outlines.{AreLayerOutlines}
use Rattle.slice_layer.proofs.Within.{outlines_are_within}
use Rattle.plan_walls.specs.Walls.{of_leaf, rings_from}
use Rattle.plan_layer.specs.Plan.{distance}
use Rattle.plan_layer.specs.Refusal.{IsAccepted}
use Rattle.slice_work.specs.declared.want.Want.TheVariants.{Plan as WithPlan}
use Rattle.slice_work.specs.Part.{Layout}
use Rattle.scad_slice.specs.Layer.{IsLayerUnless, IsLayer}
use Rattle.scad_slice.specs.Supports.{AreSupportsOf}
use Rattle.cli_read.specs.Form.{IsShape}
use Rattle.print_laws.specs.LayerPlans.{IsPlanned}
use Rattle.print_laws.proofs.Supports.{SupportLaws, supports_stand}

-- ---- a layer that is laid out
pub record IsLaid (s : Settings) (tree : Solid) (i : ℕ) (layer : Layout) : Type 0 where
  pub outlines : AreLayerOutlines i s.layer_height tree layer.outlines
  pub supports : AreSupportsOf s tree i layer.outlines layer.supports
  pub accepted : IsAccepted layer.outlines i s layer.supports layer.paths layer.runs

laid_unless : (passed : Option Budget) (s : Settings) (tree : Solid) (i : ℕ) (layer : Layout)
    → IsLayerUnless passed WithPlan s tree i (Ok layer) → IsLaid s tree i layer
laid_unless (Some budget) s tree i layer is = let never : ⊥ = cc in absurd never
laid_unless None s tree i layer (outlines, are, over) =
    let same = sym over.outlines_are in
    record {
      outlines = subst (AreLayerOutlines i s.layer_height tree) same are;
      supports = subst (λ (o : List (List Pt)). AreSupportsOf s tree i o layer.supports) same over.supports;
      accepted = subst (λ (o : List (List Pt)). IsAccepted o i s layer.supports layer.paths layer.runs) same
          over.accepted;
    }

pub laid : (s : Settings) (tree : Solid) (i : ℕ) (layer : Layout) → IsLayer WithPlan s tree i (Ok layer)
    → IsLaid s tree i layer
laid s tree i layer is = laid_unless is.before s tree i layer is.is

-- it is planned
pub is_planned : SupportLaws → (s : Settings) (tree : Solid) (i : ℕ) (layer : Layout) → AreSolids tree → AreInRange s
    → IsLaid s tree i layer → IsPlanned s i layer
is_planned laws s tree i layer solids range l = record {
  within = outlines_are_within i s.layer_height tree layer.outlines solids l.outlines;
  plan = l.accepted.plan;
  supports = supports_stand s tree i layer laws solids range l.supports;
  moves = l.accepted.moves;
}

-- ---- its outlines can be read
-- each of them has three vertices or more
kept_long : (ls : List (List Pt)) → AllByRecursion (λ (l : List Pt). 3 ≤ length l)
    (filter (λ (l : List Pt). nat_le 3 (length l)) ls)
kept_long [] = tt
kept_long (l ∷ ls) = by_test (nat_le 3 (length l)) refl (kept_long ls)
  where
    by_test : (t : Bool) → nat_le 3 (length l) ≡ t → AllByRecursion (λ (l : List Pt). 3 ≤ length l)
        (filter (λ (l : List Pt). nat_le 3 (length l)) ls)
        → AllByRecursion (λ (l : List Pt). 3 ≤ length l) (cond t (l ∷ filter (λ (l : List Pt). nat_le 3 (length l)) ls)
        (filter (λ (l : List Pt). nat_le 3 (length l)) ls))
    by_test true h more = (leb-true 3 (length l) h, more)
    by_test false h more = more

long : (s : Settings) (tree : Solid) (i : ℕ) (layer : Layout) → IsLaid s tree i layer
    → AllByRecursion (λ (l : List Pt). 3 ≤ length l) layer.outlines
long s tree i layer l =
    let made = l.outlines.are_outlines.are_made.are_outlines in
    subst (λ (o : List (List Pt)). AllByRecursion (λ (l : List Pt). 3 ≤ length l) o) (sym made.kept)
    (kept_long (map corners made.loops))

-- and no more of them than the shape of a wall may have edges
path_length : (from : Pt) (ps : List Pt) (last : Pt) → length (path from ps last) ≡ length ps + 1
path_length from [] last = refl
path_length from (p ∷ ps) last = let more = path_length p ps last in omega (arith, more)

side_each : (l : List Pt) → length (sides l) ≡ length l
side_each [] = refl
side_each (p ∷ ps) = let more = path_length p ps p in omega (arith, more)

few_points : (limit : ℕ) (ls : List (List Pt)) → length (flat_map sides ls) ≤ limit
    → AllByRecursion (λ (l : List Pt). length l ≤ limit) ls
few_points limit [] h = tt
few_points limit (l ∷ ls) h =
    let both = length-append (sides l) (flat_map sides ls) in
    let each = side_each l in
    (omega (arith, h, both, each), few_points limit ls (omega (arith, h, both)))

leaf_length : (es : List Edge) → length (of_leaf 0 es) ≡ length es
leaf_length [] = refl
leaf_length (e ∷ es) = ap suc (leaf_length es)

short : (s : Settings) (tree : Solid) (i : ℕ) (layer : Layout) → AreInRange s → IsLaid s tree i layer
    → AllByRecursion (λ (l : List Pt). length l ≤ 220000) layer.outlines
short s tree i layer range l =
    let least = range.walls.least in
    let c = distance s.line_width 0 in
    let es : List Edge = flat_map sides layer.outlines in
    let edges = (l.accepted.walls 0 (omega (arith, least))).few_edges in
    let both = length-append (of_leaf 0 es) (rings_from c 1 es) in
    let all = leaf_length es in
    few_points 220000 layer.outlines (omega (arith, edges, both, all))

near : (ps : List Pt) → AllByRecursion (IsWithin point_limit) ps → AllByRecursion (IsWithin coordinate_limit) ps
near [] h = tt
near (p ∷ ps) h =
    let x = h.0.x in
    let y = h.0.y in
    (record { x = omega (arith, x); y = omega (arith, y) }, near ps h.1)

shapes : (ls : List (List Pt)) → AllByRecursion (λ (l : List Pt). 3 ≤ length l) ls
    → AllByRecursion (λ (l : List Pt). length l ≤ 220000) ls
    → AllByRecursion (All (IsWithin point_limit)) ls → AllByRecursion IsShape ls
shapes [] many few within = tt
shapes (l ∷ ls) many few within =
    let m = many.0 in
    let f = few.0 in (
      record {
        several = m;
        count = omega (arith, f);
        near = near l (recursion_from_All (IsWithin point_limit) l within.0);
      },
      shapes ls many.1 few.1 within.1,
    )

pub are_shapes : (s : Settings) (tree : Solid) (i : ℕ) (layer : Layout) → AreSolids tree → AreInRange s
    → IsLaid s tree i layer
    → AllByRecursion IsShape layer.outlines
are_shapes s tree i layer solids range l =
    shapes layer.outlines (long s tree i layer l) (short s tree i layer range l)
    (recursion_from_All (All (IsWithin point_limit)) layer.outlines
    (outlines_are_within i s.layer_height tree layer.outlines solids l.outlines))
