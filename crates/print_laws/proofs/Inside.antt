-- The extruding moves along planned paths stay inside, and those along supports stand outside.
use Rattle.std.proofs.Common.{◌≡◌, ◌+◌, ◌*◌, ◌/◌, ℕ, suc, Bool, true, false, List, [], ◌∷◌, ◌++◌, map, cond, refl, ap, sym, subst}
use Rattle.std.proofs.Common.{◌∙◌, arith, Some}
use Rattle.std.specs.Prelude.{slice_get, IsSomeAnd, Option}
use Rattle.std.specs.List.{AllByRecursion}
use Rattle.std.proofs.lemmas.List.Elements.{All-from_recursion, recursion_from_All}
use Rattle.scad_base.proofs.Lists.{AllByRecursion-append}
use Rattle.scad_geom.specs.declared.point.Pt.{Pt}
use Rattle.scad_geom.specs.declared.point.Edge.{Edge}
use Rattle.scad_words.specs.declared.settings.Settings.{Settings}
use Rattle.scad_words.specs.Settings.{AreInRange}
use Rattle.plan_layer.specs.Clearance.{PlansKeepClear}
use Rattle.plan_layer.specs.Lengths.{PlansHaveLengths}
use Rattle.plan_walls.specs.Clearance.{KeepsClear}
use Rattle.plan_layer.specs.Moves.{all_moves}
use Rattle.support_laws.specs.Apart.{KeepsApart}
use Rattle.gcode_text.specs.declared.machine.Move.{Move}
use Rattle.gcode_text.specs.Amount.{move_volume}
use Rattle.slice_work.specs.Part.{Layout}
use Rattle.slice_work.specs.Rates.{rates_of}
use Rattle.print_laws.specs.LayerPlans.{IsPlanned}
use Rattle.print_laws.specs.Print.{all_outlines, all_printed, moves_of, extruding, PathSide, sides_at, sides_from}
use Rattle.print_laws.specs.Print.{move_along, moves_along, StaysInside, KeepsPlace, KeepPlaces}
use Rattle.print_laws.specs.Laws.{SidesAreExtruded, MovesKeepPlaces, MovesStayInside}
use Rattle.print_laws.proofs.Lengths.{have_lengths}
use Rattle.print_laws.proofs.LayerNumbers.{AreFrom, from_first}

-- a side of a path that is no support
abbrev IsNoSupport : PathSide → Type 0
IsNoSupport side = side.support ≡ false

module _ (s : Settings) (outlines : List (List (List Pt))) where
  -- the move along a side keeps its place, behind any volume
  abbrev SideKeeps : PathSide → Type 0
  SideKeeps side = (v : ℕ) → KeepsPlace side.support s outlines (move_along (rates_of s) v side)

  along : (v : ℕ) (sides : List PathSide) → AllByRecursion SideKeeps sides
      → KeepPlaces s outlines sides (moves_along (rates_of s) v sides)
  along v [] h = tt
  along v (side ∷ sides) h = (h.0 v, along (v + move_volume (rates_of s) side.edge.a side.edge.b) sides h.1)

  -- ---- sides of layer i with these outlines
  module _ (i : ℕ) (loops : List (List Pt)) (there : slice_get outlines i ≡ Some loops) where
    abbrev height : ℕ
    height = (i + 1) * s.layer_height

    plan_keeps : (es : List Edge) → AllByRecursion (KeepsClear loops (s.line_width / 2)) es
        → AllByRecursion SideKeeps (map (λ e. record { z = height; edge = e; support = false }) es)
    plan_keeps [] h = tt
    plan_keeps (e ∷ es) h = (
      λ v. record {
        layer = i;
        from = refl;
        to = refl;
        clear = subst (λ (o : Option (List (List Pt))). IsSomeAnd o (λ l. KeepsClear l (s.line_width / 2) e))
            (sym there) h.0;
      },
      plan_keeps es h.1,
    )

    supports_keep : (es : List Edge) → AllByRecursion (KeepsApart loops s.support_gap) es
        → AllByRecursion SideKeeps (map (λ e. record { z = height; edge = e; support = true }) es)
    supports_keep [] h = tt
    supports_keep (e ∷ es) h = (
      λ v. record {
        layer = i;
        from = refl;
        to = refl;
        apart = subst (λ (o : Option (List (List Pt))). IsSomeAnd o (λ l. KeepsApart l s.support_gap e)) (sym there) h.0;
      },
      supports_keep es h.1,
    )

  -- ---- of the layers from number i on
  layers_keep : PlansKeepClear → AreInRange s → (i : ℕ) (layers : List Layout)
      → ((k : ℕ) → slice_get outlines (i + k) ≡ slice_get (all_outlines layers) k) → AreFrom (IsPlanned s) i layers
      → AllByRecursion SideKeeps (sides_from s.layer_height i (all_printed layers))
  layers_keep law range i [] are h = tt
  layers_keep law range i (l ∷ ls) are h =
      let z : ℕ = (i + 1) * s.layer_height in
      let first : i + 0 ≡ i = omega arith in
      let there : slice_get outlines i ≡ Some l.outlines = ap (slice_get outlines) (sym first) ∙ are 0 in
      let clear = law l.outlines i s l.paths l.runs range h.0.plan in
      let apart = h.0.supports.apart in
      AllByRecursion-append SideKeeps (sides_at false z l.paths ++ sides_at true z l.supports)
      (sides_from s.layer_height (i + 1) (all_printed ls))
      (AllByRecursion-append SideKeeps (sides_at false z l.paths) (sides_at true z l.supports)
      (plan_keeps i l.outlines there (all_moves l.paths)
      (recursion_from_All (KeepsClear l.outlines (s.line_width / 2)) (all_moves l.paths) clear))
      (supports_keep i l.outlines there (all_moves l.supports)
      (recursion_from_All (KeepsApart l.outlines s.support_gap) (all_moves l.supports) apart)))
      (layers_keep law range (i + 1) ls (λ k.
      let e : (i + 1) + k ≡ i + suc k = omega arith in ap (slice_get outlines) e ∙ are (suc k)) h.1)

  -- ---- where no side is a support's
  all_stay : (sides : List PathSide) (moves : List Move) → AllByRecursion IsNoSupport sides
      → KeepPlaces s outlines sides moves → AllByRecursion (StaysInside s outlines) moves
  all_stay [] [] none kept = tt
  all_stay [] (m ∷ ms) none kept = absurd kept
  all_stay (side ∷ sides) [] none kept = absurd kept
  all_stay (side ∷ sides) (m ∷ ms) none kept = (
    subst (λ (b : Bool). KeepsPlace b s outlines m) none.0 kept.0,
    all_stay sides ms none.1 kept.1,
  )

  if_extruding : (moves : List Move) → AllByRecursion (StaysInside s outlines) (extruding moves)
      → AllByRecursion (λ m. m.extruding ≡ true → StaysInside s outlines m) moves
  if_extruding [] h = tt
  if_extruding (m ∷ ms) h = by_test m.extruding refl (if_extruding ms) h
    where
      by_test : (b : Bool) → m.extruding ≡ b
          → (AllByRecursion (StaysInside s outlines) (extruding ms)
          → AllByRecursion (λ m. m.extruding ≡ true → StaysInside s outlines m) ms)
          → AllByRecursion (StaysInside s outlines) (cond b (m ∷ extruding ms) (extruding ms))
          → AllByRecursion (λ m. m.extruding ≡ true → StaysInside s outlines m) (m ∷ ms)
      by_test true is rest all = (λ extrudes. all.0, rest all.1)
      by_test false is rest all =
          (λ extrudes. let never : false ≡ true = sym is ∙ extrudes in absurd (cc), rest all)

-- the sides of paths are no support's
no_supports_at : (z : ℕ) (es : List Edge)
    → AllByRecursion IsNoSupport (map (λ e. record { z = z; edge = e; support = false }) es)
no_supports_at z [] = tt
no_supports_at z (e ∷ es) = (refl, no_supports_at z es)

no_supports : (s : Settings) → s.support_spacing ≡ 0 → (i : ℕ) (layers : List Layout) → AreFrom (IsPlanned s) i layers
    → AllByRecursion IsNoSupport (sides_from s.layer_height i (all_printed layers))
no_supports s spacing i [] h = tt
no_supports s spacing i (l ∷ ls) h =
    let z : ℕ = (i + 1) * s.layer_height in
    let none = h.0.supports.none spacing in
    AllByRecursion-append IsNoSupport (sides_at false z l.paths ++ sides_at true z l.supports)
    (sides_from s.layer_height (i + 1) (all_printed ls))
    (AllByRecursion-append IsNoSupport (sides_at false z l.paths) (sides_at true z l.supports)
    (no_supports_at z (all_moves l.paths))
    (subst (λ (ps : List (List Pt)). AllByRecursion IsNoSupport (sides_at true z ps)) (sym none) tt))
    (no_supports s spacing (i + 1) ls h.1)

-- ---- the laws
pub moves_keep_places : PlansKeepClear → PlansHaveLengths → SidesAreExtruded → MovesKeepPlaces
moves_keep_places clear long extruded s layers range p =
    let sides = sides_from s.layer_height 0 (all_printed layers) in
    subst (λ (moves : List Move). KeepPlaces s (all_outlines layers) sides moves)
    (sym (extruded (rates_of s) (all_printed layers) (have_lengths long s layers range p)))
    (along s (all_outlines layers) 0 sides
    (layers_keep s (all_outlines layers) clear range 0 layers
    (λ k. let e : 0 + k ≡ k = omega arith in ap (slice_get (all_outlines layers)) e)
    (from_first (IsPlanned s) layers p.each)))

pub moves_stay_inside : MovesKeepPlaces → MovesStayInside
moves_stay_inside kept s layers range p spacing =
    All-from_recursion (λ (m : Move). m.extruding ≡ true → StaysInside s (all_outlines layers) m) (moves_of s layers)
    (if_extruding s (all_outlines layers) (moves_of s layers)
    (all_stay s (all_outlines layers) (sides_from s.layer_height 0 (all_printed layers)) (extruding (moves_of s layers))
    (no_supports s spacing 0 layers (from_first (IsPlanned s) layers p.each)) (kept s layers range p)))
