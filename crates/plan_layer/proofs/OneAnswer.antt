-- A layer is refused by one fault, and by none where a plan passes no limit.
use Rattle.std.proofs.Common.{◌≡◌, ◌≢◌, ◌⊎◌, inl, inr, ℕ, ◌<◌, ◌≤◌, List, ◌++◌, length, refl, sym, ap, ◌∙◌, subst, arith}
use Rattle.std.specs.Prelude.{All}
use Rattle.std.proofs.lemmas.Bool.{cases_lt}
use Rattle.scad_geom.specs.declared.point.Pt.{Pt}
use Rattle.scad_geom.specs.Limits.{point_limit}
use Rattle.scad_geom.specs.Within.{IsWithin}
use Rattle.slice_events.specs.Levels.{crossings}
use Rattle.slice_border.specs.declared.fault.BoolFault.{BoolFault}
use Rattle.slice_border.specs.declared.fault.BoolFault.TheVariants.{Memory as NoMemory, Edges as ManyEdges}
use Rattle.slice_border.specs.declared.fault.BoolFault.TheVariants.{Crossings as ManyCrossings}
use Rattle.plan_walls.specs.Walls.{wall_edges}
use Rattle.plan_walls.specs.Refusal as of_walls
use Rattle.plan_walls.specs.Refusal.{wall_edge_limit}
use Rattle.scad_words.specs.declared.settings.Settings.{Settings}
use Rattle.scad_words.specs.Settings.{AreInRange}
use Rattle.plan_layer.specs.declared.fault.PlanFault.{PlanFault}
use Rattle.plan_layer.specs.declared.fault.PlanFault.TheVariants.{Memory, Edges, Crossings, Moves}
use Rattle.plan_layer.specs.Moves.{all_moves, move_limit}
use Rattle.plan_layer.specs.Plan.{distance}
use Rattle.plan_layer.specs.Refusal.{fault_of, IsWallAccepted, AreAccepted, IsWallRefused, IsWallsRefusal, IsManyMoves}
use Rattle.plan_layer.specs.Refusal.{IsRefusal}
use Rattle.plan_layer.specs.Refusal.{IsAccepted}
use Rattle.plan_layer.specs.One.{RefusalsAreOne, AcceptedIsNotRefused}
use Rattle.plan_layer.proofs.OnePlan.{plans_are_one}

-- ---- one wall
-- its fault is told by its two numbers
same_fault : (count limit met : ℕ) (f g : BoolFault) → f ≢ NoMemory → g ≢ NoMemory
    → of_walls.IsRefusal count limit met f → of_walls.IsRefusal count limit met g → f ≡ g
same_fault count limit met NoMemory g a b h k = absurd (a refl)
same_fault count limit met (ManyEdges m) NoMemory a b h k = absurd (b refl)
same_fault count limit met (ManyEdges m) (ManyEdges n) a b h k = ap ManyEdges (h.0 ∙ sym k.0)
same_fault count limit met (ManyEdges m) (ManyCrossings n) a b h k =
    absurd (let i = h.1 in let j = k.0 in omega (arith, i, j))
same_fault count limit met (ManyCrossings m) NoMemory a b h k = absurd (b refl)
same_fault count limit met (ManyCrossings m) (ManyEdges n) a b h k =
    absurd (let i = h.0 in let j = k.1 in omega (arith, i, j))
same_fault count limit met (ManyCrossings m) (ManyCrossings n) a b h k = ap ManyCrossings (h.1 ∙ sym k.1)

module _ (outlines : List (List Pt)) where
  abbrev IsFault : ℕ → BoolFault → Type 0
  IsFault c f = of_walls.IsRefusal (length (wall_edges c outlines)) wall_edge_limit
      (crossings (wall_edges c outlines)) f

  -- walls that pass no limit have none
  no_fault : (c : ℕ) (f : BoolFault) → f ≢ NoMemory → IsWallAccepted outlines c → IsFault c f → ⊥
  no_fault c NoMemory n a h = n refl
  no_fault c (ManyEdges m) n a h = let few = a.few_edges in let many = h.1 in omega (arith, few, many)
  no_fault c (ManyCrossings m) n a h = let few = a.few_crossings in let many = h.2 in omega (arith, few, many)

  -- ---- the first wall
  one_wall : (s : Settings) (f g : BoolFault) → f ≢ NoMemory → g ≢ NoMemory → IsWallRefused outlines s f
      → IsWallRefused outlines s g → f ≡ g
  one_wall s f g a b h k = by_cases (cases_lt h.wall k.wall) (cases_lt k.wall h.wall)
    where
      by_cases : (h.wall < k.wall) ⊎ (k.wall ≤ h.wall) → (k.wall < h.wall) ⊎ (h.wall ≤ k.wall) → f ≡ g
      by_cases (inl o) p = absurd (no_fault (distance s.line_width h.wall) f a (k.accepted h.wall o) h.refused)
      by_cases (inr o) (inl p) = absurd (no_fault (distance s.line_width k.wall) g b (h.accepted k.wall p) k.refused)
      by_cases (inr o) (inr p) =
          let e : k.wall ≡ h.wall = omega (arith, o, p) in
          let c : ℕ = distance s.line_width h.wall in
          same_fault (length (wall_edges c outlines)) wall_edge_limit (crossings (wall_edges c outlines)) f g a b
          h.refused
          (subst (λ (w : ℕ). IsFault (distance s.line_width w) g) e k.refused)

  -- where all walls pass no limit none is refused
  none_refused : (s : Settings) (f : BoolFault) → f ≢ NoMemory → AreAccepted outlines s.line_width s.walls
      → IsWallRefused outlines s f → ⊥
  none_refused s f n all h =
      no_fault (distance s.line_width h.wall) f n (all h.wall h.there) h.refused

  module _ (layer : ℕ) (s : Settings) where
    -- ---- why a layer is refused
    record IsByWall (fault : PlanFault) : Type 0 where
      of : BoolFault
      known : of ≢ NoMemory
      refused : IsWallRefused outlines s of
      is : fault ≡ fault_of of

    by_wall : (fault : PlanFault) → fault ≢ Memory → IsWallsRefusal outlines s fault → IsByWall fault
    by_wall Memory n h = absurd (n refl)
    by_wall (Edges m) n h = record { of = ManyEdges m; known = λ e. cc; refused = h; is = refl }
    by_wall (Crossings m) n h = record { of = ManyCrossings m; known = λ e. cc; refused = h; is = refl }
    by_wall (Moves m) n h = absurd h

    -- too many moves are told by their number
    many_are : (paths : List (List Pt)) (fault : PlanFault) → fault ≢ Memory → IsManyMoves paths fault
        → (fault ≡ Moves (length (all_moves paths))) × (move_limit < length (all_moves paths))
    many_are paths Memory n h = absurd (n refl)
    many_are paths (Edges m) n h = absurd h
    many_are paths (Crossings m) n h = absurd h
    many_are paths (Moves m) n h = let e = h.0 in let o = h.1 in (ap Moves e, omega (arith, e, o))

    module _ (within : All (λ l. All (IsWithin point_limit) l) outlines) (range : AreInRange s)
        (supports : List (List Pt)) where
      one_refusal : (a b : PlanFault) → a ≢ Memory → b ≢ Memory → IsRefusal outlines layer s supports a
          → IsRefusal outlines layer s supports b → a ≡ b
      one_refusal a b m n (inl h) (inl k) =
          let v : IsByWall a = by_wall a m h in
          let w : IsByWall b = by_wall b n k in
          v.is ∙ ap fault_of (one_wall s v.of w.of v.known w.known v.refused w.refused) ∙ sym w.is
      one_refusal a b m n (inl h) (inr k) =
          let v : IsByWall a = by_wall a m h in absurd (none_refused s v.of v.known k.accepted v.refused)
      one_refusal a b m n (inr h) (inl k) =
          let w : IsByWall b = by_wall b n k in absurd (none_refused s w.of w.known h.accepted w.refused)
      one_refusal a b m n (inr h) (inr k) =
          let v = many_are (h.paths ++ supports) a m h.many in
          let w = many_are (k.paths ++ supports) b n k.many in
          let e : h.paths ≡ k.paths =
          (plans_are_one outlines within layer s range h.paths k.paths h.runs k.runs h.plan k.plan).0 in
          v.0 ∙ ap (λ (paths : List (List Pt)). Moves (length (all_moves (paths ++ supports)))) e ∙ sym w.0

      not_both : (paths : List (List Pt)) (runs : ℕ) (fault : PlanFault) → IsAccepted outlines layer s supports paths runs
          → fault ≢ Memory
          → IsRefusal outlines layer s supports fault → ⊥
      not_both paths runs fault a n (inl h) =
          let v : IsByWall fault = by_wall fault n h in none_refused s v.of v.known a.walls v.refused
      not_both paths runs fault a n (inr h) =
          let many = (many_are (h.paths ++ supports) fault n h.many).1 in
          let few = a.moves in
          let e : length (all_moves (paths ++ supports)) ≡ length (all_moves (h.paths ++ supports)) =
          ap (λ (ps : List (List Pt)). length (all_moves (ps ++ supports)))
          (plans_are_one outlines within layer s range paths h.paths runs h.runs a.plan h.plan).0 in
          omega (arith, few, many, e)

pub refusals_are_one : RefusalsAreOne
refusals_are_one outlines within layer s range supports a b h k =
    one_refusal outlines layer s within range supports a b h.known k.known h.refusal k.refusal

pub accepted_is_not_refused : AcceptedIsNotRefused
accepted_is_not_refused outlines within layer s range supports paths runs fault h k =
    not_both outlines layer s within range supports paths runs fault h k.known k.refusal
