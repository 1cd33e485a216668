-- A layer has one plan: its walls, and its infill, are one.
use Rattle.std.proofs.Common.{◌≡◌, ◌≢◌, ◌≤◌, ◌+◌, ℕ, Bool, not, true, List, [], ◌∷◌, ◌++◌, length}
use Rattle.std.proofs.Common.{flat_map, refl, ap, ap₂, ◌∙◌, sym, subst, arith, ℤ, ◌<ℤ◌}
use Rattle.std.specs.Prelude.{All, Contains}
use Rattle.std.proofs.lemmas.Int.{ints}
use Rattle.std.proofs.lemmas.Nat.{mul-le}
use Rattle.std.proofs.lemmas.List.Elements.{All-head, All-tail, All-weaker, All-contains}
use Rattle.scad_geom.specs.declared.point.Pt.{Pt}
use Rattle.scad_geom.specs.declared.level.LeafEdge.{LeafEdge}
use Rattle.scad_geom.specs.declared.shape.Shape.{Shape}
use Rattle.scad_geom.specs.Leaves.{edges_of}
use Rattle.scad_geom.specs.Limits.{point_limit}
use Rattle.scad_geom.specs.Loop.{sides}
use Rattle.scad_geom.specs.Segment.{segments}
use Rattle.scad_geom.specs.Shape.{is_in_by}
use Rattle.scad_geom.specs.Sign.{is_zero}
use Rattle.scad_geom.specs.Winding.{wind_by}
use Rattle.scad_geom.specs.Within.{IsWithin}
use Rattle.scad_ring.specs.Limits.{distance_limit}
use Rattle.outline_laws.specs.Sameness.{HoldAlike}
use Rattle.outline_laws.proofs.OneOutlines.{alike_have_one_outlines}
use Rattle.plan_infill.specs.declared.line.Line.{Line}
use Rattle.plan_infill.specs.declared.run.Run.{Run}
use Rattle.plan_infill.specs.Runs.{IsRun, GoUp, AreRuns}
use Rattle.plan_walls.specs.Walls.{with_rings, IsFirstWithout, AreWalls}
use Rattle.plan_sides.proofs.Within.{outlines_within}
use Rattle.plan_walls.proofs.Limits.{edges_within}
use Rattle.scad_words.specs.declared.settings.Settings.{Settings}
use Rattle.scad_words.specs.Rows.{line_width}
use Rattle.plan_layer.specs.Plan.{distance, AreWallsFrom, wall_paths}
use Rattle.plan_layer.specs.Infill.{line_at, depth, LineRuns, IsFilled, AreUpwards, AreFilled, infill_paths}
use Rattle.plan_layer.specs.One.{PlansAreOne}
use Rattle.plan_layer.proofs.Ascending.{Ascends, one_list, made_of}

-- ---- walls
alike : (es : List LeafEdge) (n : ℕ) (s t : Shape) → IsFirstWithout n s → IsFirstWithout n t → HoldAlike es s t
unfolding is_in_by
alike es n s t h k above right p positive =
    let inside : ℕ → Bool = λ leaf. not (is_zero (wind_by above right p (segments (edges_of leaf es)))) in
    h inside ∙ sym (k inside)

one_wall : (c : ℕ) → c ≤ distance_limit → (outlines : List (List Pt)) → All (λ l. All (IsWithin point_limit) l) outlines
    → (a b : List (List Pt))
    → AreWalls c outlines a → AreWalls c outlines b → a ≡ b
one_wall c most outlines within a b h k =
    alike_have_one_outlines (with_rings c (flat_map sides outlines))
    (edges_within c most (flat_map sides outlines) (outlines_within point_limit outlines within))
    h.shape k.shape (alike (with_rings c (flat_map sides outlines)) (length (flat_map sides outlines)) h.shape k.shape
    h.first_without k.first_without)
    a b h.are_outlines k.are_outlines

-- a wall of few lies near
near : (width k : ℕ) → width ≤ line_width.most → k ≤ 9 → distance width k ≤ distance_limit
near width k h l = let m = mul-le k width 9 line_width.most l h in omega (arith, m)

one_walls : (outlines : List (List Pt)) → All (λ l. All (IsWithin point_limit) l) outlines → (width k : ℕ)
    → width ≤ line_width.most → (xs ys : List (List (List Pt))) → k + length xs ≤ 10
    → length xs ≡ length ys → AreWallsFrom width k outlines xs → AreWallsFrom width k outlines ys → xs ≡ ys
one_walls outlines within width k h [] [] few e p q = refl
one_walls outlines within width k h [] (b ∷ ys) few e p q = absurd (omega (arith, e))
one_walls outlines within width k h (a ∷ xs) [] few e p q = absurd (omega (arith, e))
one_walls outlines within width k h (a ∷ xs) (b ∷ ys) few e p q =
    ap₂ (λ (w : List (List Pt)) (ws : List (List (List Pt))). w ∷ ws)
    (one_wall (distance width k) (near width k h (omega (arith, few))) outlines within a b p.0 q.0)
    (one_walls outlines within width (k + 1) h xs ys (omega (arith, few)) (omega (arith, e)) p.1 q.1)

-- ---- runs
pub runs_turn : (r s : Run) → r.from <ℤ s.from → s.from <ℤ r.from → ⊥
runs_turn r s h k = omega (arith, ints)

module _ (outlines : List (List Pt)) (c : ℕ) (line : Line) (least : ℕ) where
  runs_ascend : (rs : List Run) → GoUp rs → All (IsRun outlines c line least) rs
      → Ascends (λ r s. r.from <ℤ s.from) runs_turn rs
  runs_ascend [] g h = tt
  runs_ascend (r ∷ rs) g h =
      let long = (All-head (IsRun outlines c line least) r rs h).long in (
        All-weaker (λ s. r.to <ℤ s.from) (λ s. r.from <ℤ s.from) (λ s k. omega (arith, ints)) rs g.0,
        runs_ascend rs g.1
            (All-tail (IsRun outlines c line least) r rs h),
      )

  one_runs : (xs ys : List Run) → AreRuns outlines c line least xs → AreRuns outlines c line least ys → xs ≡ ys
  one_runs xs ys a b =
      one_list (λ r s. r.from <ℤ s.from) runs_turn xs ys (runs_ascend xs a.upwards a.each)
      (runs_ascend ys b.upwards b.each)
      (λ r h. b.all r (All-contains (IsRun outlines c line least) xs r a.each h))
      (λ r h. a.all r (All-contains (IsRun outlines c line least) ys r b.each h))

-- ---- lines
lines_turn : (l m : LineRuns) → l.at <ℤ m.at → m.at <ℤ l.at → ⊥
lines_turn l m h k = omega (arith, ints)

lines_ascend : (ls : List LineRuns) → AreUpwards ls → Ascends (λ l m. l.at <ℤ m.at) lines_turn ls
lines_ascend [] u = tt
lines_ascend (l ∷ ls) u = (u.0, lines_ascend ls u.1)

module _ (outlines : List (List Pt)) (layer : ℕ) (s : Settings) where
  -- two lines with runs at one coordinate are one
  same_line : (l m : LineRuns) → l.at ≡ m.at → IsFilled outlines layer s l → IsFilled outlines layer s m → l ≡ m
  same_line l m e h k =
      let runs = one_runs outlines (depth s) (line_at layer m.at) s.line_width l.runs m.runs
      (subst (λ (z : ℤ). AreRuns outlines (depth s) (line_at layer z) s.line_width l.runs) e h.runs) k.runs in
      λ i. record { at = e i; runs = runs i }

  some_run : (l : LineRuns) → IsFilled outlines layer s l
      → (r : Run) × IsRun outlines (depth s) (line_at layer l.at) s.line_width r
  some_run l h = by_list l.runs h.some h.runs.each
    where
      by_list : (rs : List Run) → rs ≢ [] → All (IsRun outlines (depth s) (line_at layer l.at) s.line_width) rs
          → (r : Run) × IsRun outlines (depth s) (line_at layer l.at) s.line_width r
      by_list [] n a = absurd (n refl)
      by_list (r ∷ rs) n a = (r, All-head (IsRun outlines (depth s) (line_at layer l.at) s.line_width) r rs a)

  in_other : (xs ys : List LineRuns) → AreFilled outlines layer s xs → AreFilled outlines layer s ys → (l : LineRuns)
      → Contains xs l → Contains ys l
  in_other xs ys a b l c =
      let h = All-contains (IsFilled outlines layer s) xs l a.each c in
      let r = some_run l h in
      let m = made_of (λ (k : LineRuns). k.at) ys l.at (b.all l.at r.0 h.multiple r.1) in
      subst (λ (k : LineRuns). Contains ys k)
      (same_line m.from l m.is (All-contains (IsFilled outlines layer s) ys m.from b.each m.there) h) m.there

  one_lines : (xs ys : List LineRuns) → AreFilled outlines layer s xs → AreFilled outlines layer s ys → xs ≡ ys
  one_lines xs ys a b =
      one_list (λ l m. l.at <ℤ m.at) lines_turn xs ys (lines_ascend xs a.upwards) (lines_ascend ys b.upwards)
      (in_other xs ys a b) (in_other ys xs b a)

pub plans_are_one : PlansAreOne
plans_are_one outlines within layer s range a b m_runs n_runs h k =
    let v = h.are_walls in
    let w = k.are_walls in
    let width = range.line_width.most in
    let few = range.walls.most in
    let m = v.count in
    let n = w.count in
    let walls = one_walls outlines within s.line_width 0 width v.walls w.walls (omega (arith, m, few)) (m ∙ sym n)
    v.are_walls w.are_walls in
    let lines = one_lines outlines layer s h.lines k.lines h.are_filled k.are_filled in (
      h.paths_are
          ∙ ap₂ (λ (ps : List (List Pt)) (ls : List LineRuns). ps ++ infill_paths layer true ls)
          (v.paths_are ∙ ap wall_paths walls ∙ sym w.paths_are) lines
          ∙ sym k.paths_are,
      h.runs_are
          ∙ ap (λ (ls : List LineRuns). length (infill_paths layer true ls)) lines
          ∙ sym k.runs_are,
    )
