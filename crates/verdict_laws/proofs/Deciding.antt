-- Whether a move stays inside the outlines of a layer is decided, so there is an opinion on each program.
use Rattle.std.proofs.Common.{◌≡◌, ◌⊎◌, inl, inr, ℕ, zero, suc, ◌-◌, ◌*◌, ◌/◌, ◌≤◌, Bool, true, false, List, [], ◌∷◌, length, flat_map, nat_le, Result, Ok, Err, refl, sym, ap, ◌∙◌, subst, rules, arith, ℤ, pos, ◌-ℤ◌, ◌*ℤ◌}
use Rattle.std.specs.Prelude.{All}
use Rattle.std.specs.List.{Any}
use Rattle.std.proofs.lemmas.Int.{ints}
use Rattle.std.proofs.lemmas.Bool.{false≢true}
use Rattle.std.proofs.lemmas.List.Elements.{All-nil, All-cons}
use Rattle.scad_geom.specs.declared.point.Pt.{Pt}
use Rattle.scad_geom.specs.declared.point.Edge.{Edge}
use Rattle.scad_geom.specs.declared.half.Half.TheVariants.{Whole}
use Rattle.scad_geom.specs.Half.{meant}
use Rattle.scad_geom.specs.Line.{low, high}
use Rattle.scad_geom.specs.Loop.{sides}
use Rattle.scad_geom.specs.Point.{whole}
use Rattle.scad_geom.specs.Segment.{segments}
use Rattle.scad_geom.specs.Sign.{is_zero}
use Rattle.scad_geom.specs.Winding.{wind}
use Rattle.scad_geom.proofs.Signs.{zero_true}
use Rattle.plan_sides.proofs.Closure.{sides_balanced}
use Rattle.scad_ring.specs.Octagon.{reach, octagon}
use Rattle.scad_ring.specs.Nearness.{Closed, Meets, IsClear}
use Rattle.scad_ring.proofs.EdgeTests.{SeenPasses, edge_meets, edge_is_clear}
use Rattle.scad_near.specs.Edges.{ComeNear, AreApart}
use Rattle.scad_near.specs.Tests.{crosses}
use Rattle.scad_near.proofs.RegionTurns.{octagon_holds_origin}
use Rattle.scad_near.proofs.Apart.{apart}
use Rattle.scad_near.proofs.EdgeCrossing.{near_at_end, come_near_back, near_if_cross}
use Rattle.cli_text.specs.Cli.{Layer}
use Rattle.gcode_text.specs.declared.fault.GFault.{GFault}
use Rattle.gcode_text.specs.declared.fault.GFault.TheVariants.{UnknownWord}
use Rattle.gcode_text.specs.declared.machine.Move.{Move}
use Rattle.gcode_text.specs.Limits.{width_limit}
use Rattle.plan_verify.specs.declared.verdict.Verdict.TheVariants.{Inside, Outside}
use Rattle.plan_verify.specs.Stays.{KeepsClear, from_above, IsInLayer, Stays}
use Rattle.plan_verify.specs.Verdict.{Told, program_moves, extruding, AllDo, IsFirstOut}
use Rattle.plan_verify.proofs.Clearance.{kept_if, not_kept_near, not_kept_out}
use Rattle.verdict_laws.specs.Opinion.{Opinion, IsOpinion, Opinions, IsWidth, AreRight}

-- it holds, or it doesn't
abbrev IsDecided : Type 0 → Type 0
IsDecided P = P ⊎ (P → ⊥)

zero_or_not : (z : ℤ) → IsDecided (z ≡ pos 0)
zero_or_not z = by_test (is_zero z) refl
  where
    by_test : (t : Bool) → is_zero z ≡ t → IsDecided (z ≡ pos 0)
    by_test true q = inl (zero_true z q)
    by_test false q = inr (λ e. false≢true (sym q ∙ ap is_zero e))

same_or_not : (x y : ℤ) → IsDecided (x ≡ y)
same_or_not x y = by_cases (zero_or_not (x -ℤ y))
  where
    by_cases : IsDecided ((x -ℤ y) ≡ pos 0) → IsDecided (x ≡ y)
    by_cases (inl e) = inl (omega (arith, ints, e))
    by_cases (inr n) = inr (λ e. n (omega (arith, ints, e)))

-- ---- two edges
module _ (s u : ℕ) where
  abbrev IsHalf : ℤ → Type 0
  IsHalf S = ((S ≡ pos (2 * s)) × (s ≤ u)) ⊎ ((S ≡ pos (2 * u)) × (u ≤ s))

  abbrev IsSum : ℤ → Type 0
  IsSum U = ((U ≡ pos (2 * u)) × (u ≤ 2 * s)) ⊎ ((U ≡ pos (4 * s)) × (2 * s ≤ u))

  some_half : (S : ℤ) × IsHalf S
  some_half = by_test (nat_le s u) refl
    where
      by_test : (t : Bool) → nat_le s u ≡ t → (S : ℤ) × IsHalf S
      by_test true q = (pos (2 * s), inl (refl, search (rules, arith)))
      by_test false q = (pos (2 * u), inr (refl, search (rules, arith)))

  some_sum : (U : ℤ) × IsSum U
  some_sum = by_test (nat_le u (2 * s)) refl
    where
      by_test : (t : Bool) → nat_le u (2 * s) ≡ t → (U : ℤ) × IsSum U
      by_test true q = (pos (2 * u), inl (refl, search (rules, arith)))
      by_test false q = (pos (4 * s), inr (refl, search (rules, arith)))

  abbrev MeetsEnd : Pt → Edge → Type 0
  MeetsEnd p e = Meets Closed (octagon (pos s) (pos u)) (meant Whole p) (whole e.a) (whole e.b)

  abbrev ClearOfEnd : Pt → Edge → Type 0
  ClearOfEnd p e = IsClear Closed (octagon (pos s) (pos u)) (meant Whole p) (whole e.a) (whole e.b)

  at_end : (p : Pt) (e : Edge) → MeetsEnd p e ⊎ ClearOfEnd p e
  at_end p e = by_test (SeenPasses some_half.0 some_sum.0 (pos 2 *ℤ p.x) (pos 2 *ℤ p.y) (low e) (high e)) refl
    where
      by_test : (t : Bool)
          → SeenPasses some_half.0 some_sum.0 (pos 2 *ℤ p.x) (pos 2 *ℤ p.y) (low e) (high e) ≡ t
          → MeetsEnd p e ⊎ ClearOfEnd p e
      by_test true q = inl (edge_meets s u some_half.0 some_sum.0 some_half.1 some_sum.1 (pos 2 *ℤ p.x) (pos 2 *ℤ p.y) e q)
      by_test false q = inr (edge_is_clear s u some_half.0 some_sum.0 some_half.1 some_sum.1 (pos 2 *ℤ p.x)
          (pos 2 *ℤ p.y) e q)

  abbrev AreNear : Edge → Edge → Type 0
  AreNear e f = ComeNear Closed (octagon (pos s) (pos u)) (whole e.a) (whole e.b) (whole f.a) (whole f.b)

  abbrev IsApart : Edge → Edge → Type 0
  IsApart e f = AreApart Closed (octagon (pos s) (pos u)) (whole e.a) (whole e.b) (whole f.a) (whole f.b)

  near_at_this : (e f : Edge) → MeetsEnd e.a f ⊎ MeetsEnd e.b f → AreNear e f
  near_at_this e f m = near_at_end (pos s) (pos u) e.a e.b f.a f.b m

  near_at_other : (e f : Edge) → MeetsEnd f.a e ⊎ MeetsEnd f.b e → AreNear e f
  near_at_other e f m = come_near_back (pos s) (pos u) (whole e.a) (whole e.b) (whole f.a) (whole f.b)
      (near_at_end (pos s) (pos u) f.a f.b e.a e.b m)

  near_or_apart : (e f : Edge) → AreNear e f ⊎ IsApart e f
  near_or_apart e f = by_ends (at_end e.a f) (at_end e.b f) (at_end f.a e) (at_end f.b e)
    where
      by_lines : ClearOfEnd e.a f → ClearOfEnd e.b f → ClearOfEnd f.a e → ClearOfEnd f.b e → (t : Bool)
          → crosses e f ≡ t → AreNear e f ⊎ IsApart e f
      by_lines first second third fourth true q =
          inl (near_if_cross (pos s) (pos u)
          (octagon_holds_origin (pos s) (pos u) (omega (arith, ints)) (omega (arith, ints))) e f q)
      by_lines first second third fourth false q =
          inr (apart (pos s) (pos u)
          (octagon_holds_origin (pos s) (pos u) (omega (arith, ints)) (omega (arith, ints))) e f
          (record { first = first; second = second; third = third; fourth = fourth }) q)

      by_ends : MeetsEnd e.a f ⊎ ClearOfEnd e.a f → MeetsEnd e.b f ⊎ ClearOfEnd e.b f
          → MeetsEnd f.a e ⊎ ClearOfEnd f.a e → MeetsEnd f.b e ⊎ ClearOfEnd f.b e → AreNear e f ⊎ IsApart e f
      by_ends (inl m) second third fourth = inl (near_at_this e f (inl m))
      by_ends (inr a) (inl m) third fourth = inl (near_at_this e f (inr m))
      by_ends (inr a) (inr b) (inl m) fourth = inl (near_at_other e f (inl m))
      by_ends (inr a) (inr b) (inr c) (inl m) = inl (near_at_other e f (inr m))
      by_ends (inr a) (inr b) (inr c) (inr d) = by_lines a b c d (crosses e f) refl

-- ---- some item of a list
pub any_here : {X : Type 0} (P : X → Type 0) (x : X) (xs : List X) → P x → Any P (x ∷ xs)
any_here P x xs p = (0, x, omega arith, refl, p)

pub any_there : {X : Type 0} (P : X → Type 0) (x : X) (xs : List X) → Any P xs → Any P (x ∷ xs)
any_there P x xs (k, y, l, e, p) = (suc k, y, omega (arith, l), e, p)

none_any : {X : Type 0} (P : X → Type 0) → Any P [] → ⊥
none_any P (k, y, l, e, p) = absurd (omega (arith, l))

any_or_none : {X : Type 0} (P : X → Type 0) → ((x : X) → IsDecided (P x)) → (xs : List X) → IsDecided (Any P xs)
any_or_none P decided [] = inr (λ a. none_any P a)
any_or_none P decided (x ∷ xs) = by_cases (decided x) (any_or_none P decided xs)
  where
    by_cases : IsDecided (P x) → IsDecided (Any P xs) → IsDecided (Any P (x ∷ xs))
    by_cases (inl p) others = inl (any_here P x xs p)
    by_cases (inr n) (inl a) = inl (any_there P x xs a)
    by_cases (inr n) (inr none) = inr (λ a. neither a)
      where
        neither : Any P (x ∷ xs) → ⊥
        neither (zero, y, l, e, p) = n (subst P (sym e) p)
        neither (suc k, y, l, e, p) = none (k, y, omega (arith, l), e, p)

-- some item is of the one kind, or all are of the other
some_or_all : {X : Type 0} (P Q : X → Type 0) → ((x : X) → P x ⊎ Q x) → (xs : List X) → Any P xs ⊎ All Q xs
some_or_all P Q either [] = inr (All-nil Q)
some_or_all P Q either (x ∷ xs) = by_cases (either x) (some_or_all P Q either xs)
  where
    by_cases : P x ⊎ Q x → Any P xs ⊎ All Q xs → Any P (x ∷ xs) ⊎ All Q (x ∷ xs)
    by_cases (inl p) others = inl (any_here P x xs p)
    by_cases (inr q) (inl a) = inl (any_there P x xs a)
    by_cases (inr q) (inr all) = inr (All-cons Q x xs q all)

-- ---- a move
module _ (width : ℕ) (is_width : IsWidth width) where
  keeps_or_not : (outlines : List (List Pt)) (line : Edge)
      → IsDecided (KeepsClear (flat_map sides outlines) (width / 2) line)
  keeps_or_not outlines line =
      by_sides (some_or_all (AreNear h u line) (IsApart h u line) (near_or_apart h u line) es)
    where
      es : List Edge
      es = flat_map sides outlines

      c : ℕ
      c = width / 2

      h : ℕ
      h = c - 1

      u : ℕ
      u = reach c - 2

      one : 1 ≤ c
      one = let least = is_width.0 in omega (arith, least)

      two : 2 ≤ reach c
      two = let least = is_width.0 in omega (arith, least)

      by_wind : All (IsApart h u line) es → IsDecided (wind (meant Whole line.a) (segments es) ≡ pos 0)
          → IsDecided (KeepsClear es c line)
      by_wind all (inl none) = inr (not_kept_out es c line none)
      by_wind all (inr some) = inl (kept_if es c h u line one two refl refl (sides_balanced outlines) all some)

      by_sides : Any (AreNear h u line) es ⊎ All (IsApart h u line) es → IsDecided (KeepsClear es c line)
      by_sides (inl near) = inr (not_kept_near es c h u line one two refl refl near)
      by_sides (inr all) = by_wind all (zero_or_not (wind (meant Whole line.a) (segments es)))

  in_layer_or_not : (m : Move) (layer : Layer) → IsDecided (IsInLayer width m layer)
  in_layer_or_not m layer = by_height (same_or_not (pos layer.z) m.from.z)
    where
      by_clearance : pos layer.z ≡ m.from.z
          → IsDecided (KeepsClear (flat_map sides layer.loops) (width / 2) (from_above m))
          → IsDecided (IsInLayer width m layer)
      by_clearance height (inl clear) = inl (record { height = height; clear = clear })
      by_clearance height (inr n) = inr (λ i. n i.clear)

      by_height : IsDecided (pos layer.z ≡ m.from.z) → IsDecided (IsInLayer width m layer)
      by_height (inl height) = by_clearance height (keeps_or_not layer.loops (from_above m))
      by_height (inr n) = inr (λ i. n i.height)

  stays_or_not : (layers : List Layer) (m : Move) → IsDecided (Stays layers width m)
  stays_or_not layers m =
      by_cases (same_or_not m.from.z m.to.z) (any_or_none (IsInLayer width m) (in_layer_or_not m) layers)
    where
      by_cases : IsDecided (m.from.z ≡ m.to.z) → IsDecided (Any (IsInLayer width m) layers)
          → IsDecided (Stays layers width m)
      by_cases (inl level) (inl layer) = inl (record { level = level; layer = layer })
      by_cases (inl level) (inr n) = inr (λ s. n s.layer)
      by_cases (inr n) layer = inr (λ s. n s.level)

-- ---- a program
module _ (Does : Move → Type 0) (decided : (m : Move) → IsDecided (Does m)) where
  abbrev HasFirstOut : List Told → Type 0
  HasFirstOut moves = (n : ℕ) × (l : ℕ) × IsFirstOut Does moves n l

  first_out : (moves : List Told) → AllDo Does moves ⊎ HasFirstOut moves
  first_out [] = inl (All-nil (λ told. Does told.move))
  first_out (t ∷ moves) = by_cases (decided t.move) (first_out moves)
    where
      by_cases : IsDecided (Does t.move) → AllDo Does moves ⊎ HasFirstOut moves
          → AllDo Does (t ∷ moves) ⊎ HasFirstOut (t ∷ moves)
      by_cases (inr fails) behind = inr (
        1,
        t.line,
        record {
          before = [];
          out = t;
          behind = moves;
          are = refl;
          all = All-nil (λ told. Does told.move);
          fails = fails;
          number = refl;
          line = refl;
        },
      )
      by_cases (inl does) (inl all) = inl (All-cons (λ told. Does told.move) t moves does all)
      by_cases (inl does) (inr (n, l, f)) = inr (
        suc n,
        l,
        record {
          before = t ∷ f.before;
          out = f.out;
          behind = f.behind;
          are = ap (λ (ts : List Told). t ∷ ts) f.are;
          all = All-cons (λ told. Does told.move) t f.before does f.all;
          fails = f.fails;
          number = let n_is = f.number in omega (arith, n_is);
          line = f.line;
        },
      )

opinion_there : (layers : List Layer) (width : ℕ) (program : List ℕ) → IsWidth width
    → (opinion : Opinion) × IsOpinion layers width program opinion
opinion_there layers width program is_width = by_moves (program_moves program) refl
  where
    by_first : (moves : List Told) → program_moves program ≡ Ok moves
        → AllDo (Stays layers width) (extruding moves) ⊎ HasFirstOut (Stays layers width) (stays_or_not width is_width layers) (extruding moves)
        → (opinion : Opinion) × IsOpinion layers width program opinion
    by_first moves is (inl all) = (Ok (Inside (length (extruding moves))), (moves, is, (all, refl)))
    by_first moves is (inr (n, l, f)) = (Ok (Outside n l), (moves, is, f))

    by_moves : (r : Result (List Told) GFault) → program_moves program ≡ r
        → (opinion : Opinion) × IsOpinion layers width program opinion
    by_moves (Ok moves) is = by_first moves is
        (first_out (Stays layers width) (stays_or_not width is_width layers) (extruding moves))
    by_moves (Err fault) is = (Err fault, is)

-- by no width that settings can have nothing is said
opinion_if : (layers : List Layer) (width : ℕ) (program : List ℕ)
    → (opinion : Opinion) × (IsWidth width → IsOpinion layers width program opinion)
opinion_if layers width program = by_tests (nat_le 100 width) (nat_le width width_limit) refl refl
  where
    by_tests : (a b : Bool) → nat_le 100 width ≡ a → nat_le width width_limit ≡ b
        → (opinion : Opinion) × (IsWidth width → IsOpinion layers width program opinion)
    by_tests true true p q =
        let there = opinion_there layers width program (search (rules, arith), search (rules, arith)) in
        (there.0, λ is_width. there.1)
    by_tests true false p q = (Err (UnknownWord 0), λ is_width. let most = is_width.1 in absurd (search (rules, arith)))
    by_tests false b p q = (Err (UnknownWord 0), λ is_width. let least = is_width.0 in absurd (search (rules, arith)))

pub opinions_are_there : (opinions : Opinions) × AreRight opinions
opinions_are_there = (
  λ layers width program. (opinion_if layers width program).0,
  λ layers width program is_width. (opinion_if layers width program).1 is_width,
)
