-- The strands and flat edges of a stretch that are still to come, from stop to stop.
use Rattle.std.proofs.Common.{◌≡◌, ℕ, zero, suc, ◌+◌, ◌-◌, ◌<◌, ◌≤◌, Bool, true, false, cond, List, [], ◌∷◌, ◌++◌, length, get_or, take, drop, refl, sym, ap, ap₂, ◌∙◌, subst, inl, inr, arith}
use lib.IntN.{ℤ, pos}
use lib.Signed.{◌<ℤ◌}
use Rattle.std.specs.Prelude.{filter, nat_lt, if◌then◌else◌}
use Rattle.std.specs.List.{AllByRecursion, All}
use Rattle.std.proofs.lemmas.Int.{ints}
use Rattle.std.proofs.lemmas.List.{drop_more, map_more, get_or_default, length-take, length-drop, get_or-take, get_or-drop, take-map, drop-map, length-map}
use Rattle.std.proofs.lemmas.List.Elements.{filter-append, All-append, All-weaker, All-nil, All-from_recursion, recursion_from_All, All-get_or}
use Rattle.scad_geom.specs.declared.level.Level.{Level}
use Rattle.scad_geom.specs.declared.level.LeafEdge.{LeafEdge}
use Rattle.scad_geom.proofs.Heights.{lower_chain}
use Rattle.scad_geom.specs.Limits.{coordinate_limit}
use Rattle.scad_geom.proofs.Order.{front, back}
use Rattle.slice_pieces.specs.Spots.{IsSpotWithin}
use Rattle.slice_bundles.specs.Bundles.{edge_at}
use Rattle.slice_pieces.specs.declared.piece.Spot.{Spot}
use Rattle.slice_border.specs.Pieces.{spot_on, across, whole_spot, passes_at, IsLeft, IsSameAcross, GoRight, HasSpot}
use Rattle.slice_border.specs.Stops.{is_left}
use Rattle.slice_outlines.specs.declared.mark.Mark.{Mark}
use Rattle.slice_outlines.specs.declared.run.Run.{Run}
use Rattle.slice_border.specs.declared.stop.Stop.{Stop}
use Rattle.slice_outlines.specs.declared.flat.Flat.{Flat}
use Rattle.slice_outlines.specs.declared.height.Height.{Height}
use Rattle.slice_outlines.specs.declared.stretch.Along.{Along}
use Rattle.slice_outlines.specs.Marks.{spot_at, mark_at, names_in, left_of_first}
use Rattle.slice_border.specs.Stops.{spots_in}
use Rattle.slice_outlines.specs.Stops.{AllPass}
use Rattle.slice_outlines.specs.Heights.{AreInOrder, IsNotRightOf, IsRunOf, marks_of}
use Rattle.slice_outlines.specs.Stretch.{AreStopsAt, TellWays, Waits}
use Rattle.slice_outlines.specs.Along.{IsWithinRun, IsNameTo, value_over, least, BeginsBy, goes_on, HasLive, IsNextStop, IsBehindStop, LiesRightOf}
use Rattle.slice_outlines.proofs.Onward.{take_then}
use Rattle.slice_outlines.proofs.StrandSearch.{left_true, right_behind, by_places, runs_at}

abbrev Runs : Spot → Type 0
Runs s = pos 0 <ℤ pos s.run

runs_of : (s : Stop) → Runs s.spot
runs_of s = let r : 0 < s.spot.run = s.runs in omega (arith, ints)

whole_runs : (x : ℤ) (l : Level) → Runs (whole_spot x l)
whole_runs x l = omega (arith, ints)

pub left_is : (s t : Spot) → IsLeft s t → is_left s t ≡ true
left_is s t h = grind (arith, ints)

-- ---- flat edges
filter_filter : (p q : Flat → Bool) → ((f : Flat) → q f ≡ true → p f ≡ true) → (fs : List Flat)
    → filter q (filter p fs) ≡ filter q fs
filter_filter p q h [] = refl
filter_filter p q h (f ∷ fs) = by_tests (p f) (q f) refl refl (filter_filter p q h fs)
  where
    by_tests : (a b : Bool) → p f ≡ a → q f ≡ b → filter q (filter p fs) ≡ filter q fs
        → filter q (cond a (f ∷ filter p fs) (filter p fs)) ≡ cond b (f ∷ filter q fs) (filter q fs)
    by_tests true true e g r = ap (λ (t : Bool). cond t (f ∷ filter q (filter p fs)) (filter q (filter p fs))) g
        ∙ ap (λ (gs : List Flat). f ∷ gs) r
    by_tests true false e g r = ap (λ (t : Bool). cond t (f ∷ filter q (filter p fs)) (filter q (filter p fs))) g ∙ r
    by_tests false true e g r = let k : p f ≡ true = h f g in absurd cc
    by_tests false false e g r = r

goes_before : (s t : Stop) (f : Flat) → s.spot.at ≡ t.spot.at → IsLeft s.spot t.spot → goes_on t f ≡ true
    → goes_on s f ≡ true
goes_before s t f e o g =
    let w : Spot = whole_spot f.right t.spot.at in
    let a : IsLeft t.spot w = left_true t.spot w g in
    let b : IsLeft s.spot w = lower_chain (across s.spot) (across t.spot) (across w) (runs_of s) (runs_of t)
    (whole_runs f.right t.spot.at) o a in
    subst (λ (l : Level). is_left s.spot (whole_spot f.right l) ≡ true) (sym e) (left_is s.spot w b)

begins_later : (s t : Stop) (f : Flat) → s.spot.at ≡ t.spot.at → IsLeft s.spot t.spot → BeginsBy s f → BeginsBy t f
begins_later s t f e o b a =
    let w : Spot = whole_spot f.left t.spot.at in
    b (subst (λ (l : Level). IsLeft s.spot (whole_spot f.left l)) (sym e)
    (lower_chain (across s.spot) (across t.spot) (across w) (runs_of s) (runs_of t) (whole_runs f.left t.spot.at) o a))

-- after a stop those are kept that go on from it
pub live_now : (s : Stop) (fs : List Flat) (old new : Along) → HasLive s fs old new
    → filter (goes_on s) old.live.items ≡ filter (goes_on s) (take old.begun fs)
    → new.live.items ≡ filter (goes_on s) (take new.begun fs)
live_now s fs old new h e =
    let part : List Flat = take (new.begun - old.begun) (drop old.begun fs) in
    h.live ∙ filter-append (goes_on s) old.live.items part
    ∙ ap (λ (gs : List Flat). gs ++ filter (goes_on s) part) e
    ∙ sym (filter-append (goes_on s) (take old.begun fs) part)
    ∙ ap (filter (goes_on s)) (take_then fs old.begun new.begun h.from)

pub begun_now : (s : Stop) (fs : List Flat) (old new : Along) → HasLive s fs old new
    → All (BeginsBy s) (take old.begun fs) → All (BeginsBy s) (take new.begun fs)
begun_now s fs old new h a = subst (All (BeginsBy s)) (take_then fs old.begun new.begun h.from)
    (All-append (BeginsBy s) (take old.begun fs) (take (new.begun - old.begun) (drop old.begun fs)) a h.begun)

pub live_next : (s t : Stop) (fs : List Flat) (live : List Flat) (n : ℕ) → s.spot.at ≡ t.spot.at → IsLeft s.spot t.spot
    → live ≡ filter (goes_on s) (take n fs) → filter (goes_on t) live ≡ filter (goes_on t) (take n fs)
live_next s t fs live n e o h = ap (filter (goes_on t)) h
    ∙ filter_filter (goes_on s) (goes_on t) (λ f g. goes_before s t f e o g) (take n fs)

pub begun_next : (s t : Stop) (fs : List Flat) (n : ℕ) → s.spot.at ≡ t.spot.at → IsLeft s.spot t.spot
    → All (BeginsBy s) (take n fs) → All (BeginsBy t) (take n fs)
begun_next s t fs n e o a = All-weaker (BeginsBy s) (BeginsBy t) (λ f b. begins_later s t f e o b) (take n fs) a

-- ---- strands
-- what is at the first of some stops or at a later one doesn't lie to the left of the first
not_before : (t : Stop) (rest : List Stop) (x : Spot) → Runs x → GoRight (spots_in (t ∷ rest))
    → HasSpot (spots_in (t ∷ rest)) x → IsLeft x t.spot → ⊥
not_before t rest x r g (inl e) l = omega (arith, ints)
not_before t [] x r g (inr h) l = h
not_before t (u ∷ rest) x r g (inr h) l =
    not_before u rest x r g.1 h
    (lower_chain (across x) (across t.spot) (across u.spot) r (runs_of t) (runs_of u) l g.0)

not_same : (s : Stop) (x : Spot) → IsLeft s.spot x → IsSameAcross s.spot x → ⊥
not_same s x l e = omega (arith, ints)

pub none_before : (es : List LeafEdge) (l : Level) (t : Stop) (rest : List Stop) (ms : List Mark)
    → AllByRecursion (λ m. Runs (spot_at es l m)) ms → GoRight (spots_in (t ∷ rest))
    → AllByRecursion (λ m. HasSpot (spots_in (t ∷ rest)) (spot_at es l m)) ms
    → AllByRecursion (λ m. IsLeft (spot_at es l m) t.spot → ⊥) ms
none_before es l t rest [] r g h = tt
none_before es l t rest (m ∷ ms) r g h =
    (not_before t rest (spot_at es l m) r.0 g h.0, none_before es l t rest ms r.1 g h.1)

-- what lies to the right of a stop is at a later one
pub all_later : (es : List LeafEdge) (l : Level) (s : Stop) (rest : List Stop) (ms : List Mark)
    → AllByRecursion (λ m. IsLeft s.spot (spot_at es l m)) ms
    → AllByRecursion (λ m. HasSpot (spots_in (s ∷ rest)) (spot_at es l m)) ms
    → AllByRecursion (λ m. HasSpot (spots_in rest) (spot_at es l m)) ms
all_later es l s rest [] a h = tt
all_later es l s rest (m ∷ ms) a h = (later h.0, all_later es l s rest ms a.1 h.1)
  where
    later : HasSpot (spots_in (s ∷ rest)) (spot_at es l m) → HasSpot (spots_in rest) (spot_at es l m)
    later (inl e) = absurd (not_same s (spot_at es l m) a.0 e)
    later (inr k) = k

pub none_left : (es : List LeafEdge) (l : Level) (ms : List Mark)
    → AllByRecursion (λ m. HasSpot [] (spot_at es l m)) ms → length ms ≡ 0
none_left es l [] h = refl
none_left es l (m ∷ ms) h = absurd h.0

-- of those from a place on, if the first lies to the right of a stop, all do
pub all_behind : (h : Height) (s : Stop) (ms : List Mark) (i n : ℕ) → n ≤ length ms → AreInOrder h ms
    → AllPass h.edges.now h.at.now ms → (i < n → LiesRightOf h s (mark_at ms i))
    → AllByRecursion (λ m. IsLeft s.spot (spot_at h.edges.now h.at.now m)) (take (n - i) (drop i ms))
all_behind h s ms i n b o a first = by_places (λ m. IsLeft s.spot (spot_at h.edges.now h.at.now m)) (take (n - i)
    (drop i ms))
    (λ k d q.
    let low : k < n - i = omega (arith, q, length-take (n - i) (drop i ms)) in
    let there : i + k < length ms = omega (arith, low, b) in
    subst (λ m. IsLeft s.spot (spot_at h.edges.now h.at.now m))
    (sym (get_or-take (n - i) (drop i ms) k d low ∙ get_or-drop i ms k d))
    (right_behind h s.spot ms s.runs o a i (i + k) (mark_at ms i) d (omega arith) there
    (subst (λ m. IsLeft s.spot (spot_at h.edges.now h.at.now m)) (same_at_place ms i (mark_at ms i) (omega
    (arith, low, b)))
    (first (omega (arith, low))))))
  where
    same_at_place : (ms : List Mark) (i : ℕ) (d : Mark) → i < length ms → mark_at ms i ≡ get_or ms i d
    same_at_place ms i d l = get_or_default ms i _ d l

-- the rest of what is to come
pub shorter : (P : Mark → Type 0) (ms : List Mark) (i j n : ℕ) → i ≤ j → AllByRecursion P (take (n - i) (drop i ms))
    → AllByRecursion P (take (n - j) (drop j ms))
shorter P ms i j n h a = by_places P (take (n - j) (drop j ms)) (λ k d q.
    let low : k < n - j = omega (arith, q, length-take (n - j) (drop j ms)) in
    let near : (j - i) + k < n - i = omega (arith, low, h) in
    let size : (j - i) + k < length (take (n - i) (drop i ms)) =
    omega (
      arith,
      near,
      q,
      length-take (n - i) (drop i ms),
      length-take (n - j)
          (drop j ms),
      length-drop i ms,
      length-drop j ms,
    ) in
    let back : i + ((j - i) + k) ≡ j + k = omega (arith, h) in
    subst P (get_or-take (n - i) (drop i ms) ((j - i) + k) d near ∙ get_or-drop i ms ((j - i) + k) d
    ∙ ap (λ (x : ℕ). get_or ms x d) back ∙ sym (get_or-take (n - j) (drop j ms) k d low ∙ get_or-drop j ms k d))
    (All-get_or P (take (n - i) (drop i ms)) ((j - i) + k) d size (All-from_recursion P (take (n - i) (drop i ms)) a)))

-- ---- what is said of names alone
pub pass_by_names : (es : List LeafEdge) (l : Level) (ms ns : List Mark) → names_in ms ≡ names_in ns → AllPass es l ms
    → AllPass es l ns
pass_by_names es l ms ns e a = All-from_recursion (λ m. passes_at (edge_at es m.name) l ≡ true) ns
    (of_names ns (subst (λ (ks : List ℕ). AllByRecursion (λ k. passes_at (edge_at es k) l ≡ true) ks) e
    (to_names ms (recursion_from_All (λ m. passes_at (edge_at es m.name) l ≡ true) ms a))))
  where
    to_names : (ms : List Mark) → AllByRecursion (λ m. passes_at (edge_at es m.name) l ≡ true) ms
        → AllByRecursion (λ k. passes_at (edge_at es k) l ≡ true) (names_in ms)
    to_names [] h = tt
    to_names (m ∷ ms) h = (h.0, to_names ms h.1)

    of_names : (ms : List Mark) → AllByRecursion (λ k. passes_at (edge_at es k) l ≡ true) (names_in ms)
        → AllByRecursion (λ m. passes_at (edge_at es m.name) l ≡ true) ms
    of_names [] h = tt
    of_names (m ∷ ms) h = (h.0, of_names ms h.1)

pub order_by_names : (h : Height) (ms ns : List Mark) → names_in ms ≡ names_in ns → AreInOrder h ms → AreInOrder h ns
order_by_names h [] [] e o = tt
order_by_names h [] (n ∷ ns) e o = absurd cc
order_by_names h (m ∷ ms) [] e o = absurd cc
order_by_names h (m ∷ []) (n ∷ []) e o = tt
order_by_names h (m ∷ []) (n ∷ (k ∷ ns)) e o = absurd (omega (arith, ap length e))
order_by_names h (m ∷ (k ∷ ms)) (n ∷ []) e o = absurd (omega (arith, ap length e))
order_by_names h (m ∷ (k ∷ ms)) (n ∷ (j ∷ ns)) e o =
    let first : m.name ≡ n.name = cc in
    let rest : names_in (k ∷ ms) ≡ names_in (j ∷ ns) = cc in
    let second : k.name ≡ j.name = cc in (
      subst (λ (x : ℕ). IsNotRightOf (spot_on (edge_at h.edges.now x) h.at.now) (spot_on
          (edge_at h.edges.now j.name) h.at.now)) first
          (subst (λ (x : ℕ). IsNotRightOf (spot_on (edge_at h.edges.now m.name) h.at.now) (spot_on
          (edge_at h.edges.now x) h.at.now)) second o.0),
      order_by_names h (k ∷ ms) (j ∷ ns) rest o.1,
    )

all_by_names : (P : ℕ → Type 0) (ms ns : List Mark) → names_in ms ≡ names_in ns → AllByRecursion (λ m. P m.name) ms
    → AllByRecursion (λ m. P m.name) ns
all_by_names P [] [] e a = tt
all_by_names P [] (n ∷ ns) e a = absurd cc
all_by_names P (m ∷ ms) [] e a = absurd cc
all_by_names P (m ∷ ms) (n ∷ ns) e a =
    let first : m.name ≡ n.name = cc in
    let rest : names_in ms ≡ names_in ns = cc in
    (subst P first a.0, all_by_names P ms ns rest a.1)

pub part_names : (ms ns : List Mark) (i n : ℕ) → names_in ms ≡ names_in ns
    → names_in (take n (drop i ms)) ≡ names_in (take n (drop i ns))
part_names ms ns i n e =
    let f : Mark → ℕ = λ m. m.name in
    sym (take-map f n (drop i ms)) ∙ sym (ap (take n) (drop-map f i ms)) ∙ ap (λ (ks : List ℕ). take n (drop i ks)) e
    ∙ ap (take n) (drop-map f i ns) ∙ take-map f n (drop i ns)

same_length : (ms ns : List Mark) → names_in ms ≡ names_in ns → length ms ≡ length ns
same_length ms ns e = sym (length-map ms (λ (m : Mark). m.name)) ∙ ap length e ∙ length-map ns (λ (m : Mark). m.name)

-- ---- from stop to stop
part_runs : (h : Height) (ms : List Mark) (i n : ℕ) → n ≤ length ms → AllPass h.edges.now h.at.now ms
    → AllByRecursion (λ m. Runs (spot_at h.edges.now h.at.now m)) (take (n - i) (drop i ms))
part_runs h ms i n b a = by_places (λ m. Runs (spot_at h.edges.now h.at.now m)) (take (n - i) (drop i ms)) (λ k d q.
    let low : k < n - i = omega (arith, q, length-take (n - i) (drop i ms)) in
    subst (λ m. Runs (spot_at h.edges.now h.at.now m))
    (sym (get_or-take (n - i) (drop i ms) k d low ∙ get_or-drop i ms k d))
    (runs_at h.edges.now h.at.now ms (i + k) d (omega (arith, low, b)) a))

pub next_stop : (h : Height) (ms : List Mark) (run : Run) (fs : List Flat) (s : Stop) (rest : List Stop) (a : Along)
    → AllPass h.edges.now h.at.now h.below.now → GoRight (spots_in (s ∷ rest)) → Waits h ms run fs (s ∷ rest) a
    → IsNextStop h ms a s
next_stop h ms run fs s rest a pass g w = record {
  below = none_before h.edges.now h.at.now s rest (take (a.run.below_to - a.below) (drop a.below h.below.now))
      (part_runs h h.below.now a.below a.run.below_to w.within.run.below_to pass) g w.below;
  above = none_before h.edges.now h.at.now s rest (take (a.run.above_to - a.above) (drop a.above ms))
      (part_runs h ms a.above a.run.above_to w.within.run.above_to w.passing) g w.above;
}

-- what passing a stop gives
pub record IsStep (h : Height) (ms ns : List Mark) (fs : List Flat) (s : Stop) (a b : Along) : Type 0 where
  pub run : b.run ≡ a.run
  pub within : IsWithinRun h ns b
  pub names : names_in ns ≡ names_in ms
  pub behind : IsBehindStop h ms b s
  pub below : a.below ≤ b.below
  pub above : a.above ≤ b.above
  pub begun : b.begun ≤ length fs
  pub live : HasLive s fs a b

next_first : (s t : Stop) (rest more : List Stop) → t ∷ rest ≡ s ∷ more → t ≡ s
next_first s t rest more e = cc

pub wait_on : (h : Height) (ms ns : List Mark) (run : Run) (fs : List Flat) (s : Stop) (rest : List Stop) (a b : Along)
    → AreInOrder h h.below.now → AllPass h.edges.now h.at.now h.below.now
    → AllByRecursion (λ t. t.spot.at ≡ h.at.now) (s ∷ rest) → GoRight (spots_in (s ∷ rest)) → IsStep h ms ns fs s a b
    → Waits h ms run fs (s ∷ rest) a → Waits h ns run fs rest b
wait_on h ms ns run fs s rest a b order pass at g step w =
    let es : List LeafEdge = h.edges.now in
    let l : Level = h.at.now in
    let lower : List Mark = h.below.now in
    let first = w.live s rest refl in
    let live : b.live.items ≡ filter (goes_on s) (take b.begun fs) = live_now s fs a b step.live first.0 in
    let begun : All (BeginsBy s) (take b.begun fs) = begun_now s fs a b step.live first.1 in
    let size : length ms ≡ length ns = sym (same_length ns ms step.names) in
    let low_there : b.run.below_to ≤ length lower = step.within.run.below_to in
    let up_there : b.run.above_to ≤ length ms = omega (arith, step.within.run.above_to, size) in
    let H : Mark → Type 0 = λ m. HasSpot (spots_in (s ∷ rest)) (spot_at es l m) in
    let low_all : AllByRecursion H (take (b.run.below_to - b.below) (drop b.below lower)) =
    shorter H lower a.below b.below b.run.below_to step.below
    (subst (λ (r : Run). AllByRecursion H (take (r.below_to - a.below) (drop a.below lower))) (sym step.run) w.below) in
    let up_all : AllByRecursion H (take (b.run.above_to - b.above) (drop b.above ms)) =
    shorter H ms a.above b.above b.run.above_to step.above
    (subst (λ (r : Run). AllByRecursion H (take (r.above_to - a.above) (drop a.above ms))) (sym step.run) w.above) in
    record {
      run_is = step.run ∙ w.run_is;
      within = step.within;
      begun = step.begun;
      order = order_by_names h ms ns (sym step.names) w.order;
      passing = pass_by_names es l ms ns (sym step.names) w.passing;
      below = all_later es l s rest (take (b.run.below_to - b.below) (drop b.below lower))
          (all_behind h s lower b.below b.run.below_to low_there order pass step.behind.below) low_all;
      above = all_by_names (λ (k : ℕ). HasSpot (spots_in rest) (spot_on (edge_at es k) l))
          (take (b.run.above_to - b.above) (drop b.above ms)) (take (b.run.above_to - b.above) (drop b.above ns))
          (part_names ms ns b.above (b.run.above_to - b.above) (sym step.names))
          (all_later es l s rest (take (b.run.above_to - b.above) (drop b.above ms))
          (all_behind h s ms b.above b.run.above_to up_there w.order w.passing step.behind.above) up_all);
      live = λ t more e. next_live rest t more e at g live begun;
    }
  where
    next_live : (rest : List Stop) (t : Stop) (more : List Stop) → rest ≡ t ∷ more
        → AllByRecursion (λ t. t.spot.at ≡ h.at.now) (s ∷ rest) → GoRight (spots_in (s ∷ rest))
        → b.live.items ≡ filter (goes_on s) (take b.begun fs) → All (BeginsBy s) (take b.begun fs)
        → (filter (goes_on t) b.live.items ≡ filter (goes_on t) (take b.begun fs)) × All (BeginsBy t) (take b.begun fs)
    next_live [] t more e at g live begun = absurd cc
    next_live (u ∷ rest) t more e at g live begun =
        let same : u ≡ t = next_first t u rest more e in
        let level : s.spot.at ≡ u.spot.at = at.0 ∙ sym at.1.0 in
        subst (λ (t : Stop). (filter (goes_on t) b.live.items ≡ filter (goes_on t) (take b.begun fs))
        × All (BeginsBy t) (take b.begun fs)) same
        (live_next s u fs b.live.items b.begun level g.0 live, begun_next s u fs b.begun level g.0 begun)

-- where no stop is left, no strand is
none_more : (to n : ℕ) (ms : List Mark) → n ≤ to → to ≤ length ms → length (take (to - n) (drop n ms)) ≡ 0 → n ≡ to
none_more to n ms a b e = omega (arith, e, length-take (to - n) (drop n ms), length-drop n ms)

pub all_passed : (h : Height) (ms : List Mark) (run : Run) (fs : List Flat) (a : Along) → Waits h ms run fs [] a
    → (a.below ≡ run.below_to) × (a.above ≡ run.above_to)
all_passed h ms run fs a w =
    let es : List LeafEdge = h.edges.now in
    let l : Level = h.at.now in
    let low : length (take (a.run.below_to - a.below) (drop a.below h.below.now)) ≡ 0 = none_left es l (take
    (a.run.below_to - a.below) (drop a.below h.below.now)) w.below in
    let up : length (take (a.run.above_to - a.above) (drop a.above ms)) ≡ 0 = none_left es l (take
    (a.run.above_to - a.above) (drop a.above ms)) w.above in (
      none_more a.run.below_to a.below h.below.now w.within.below w.within.run.below_to low
          ∙ ap (λ (r : Run). r.below_to) w.run_is,
      none_more a.run.above_to a.above ms w.within.above w.within.run.above_to up
          ∙ ap (λ (r : Run). r.above_to) w.run_is,
    )

not_less : (n : ℕ) → nat_lt n n ≡ false
not_less n = grind arith

-- the name of what leads on
pub name_on : (h : Height) (ms ns : List Mark) (run : Run) (fs : List Flat) (s : Stop) (rest : List Stop) (a b : Along)
    → TellWays h.edges.now fs (s ∷ rest) → IsStep h ms ns fs s a b → Waits h ms run fs (s ∷ rest) a
    → Waits h ns run fs rest b
    → IsNameTo h.edges.now s.spot (spots_in rest) b.live.items (value_over h a.run ms b.above)
    (left_of_first (drop b.below h.below.now) false)
name_on h ms ns run fs s [] a b tell step w v =
    let all = all_passed h ns run fs b v in
    let same : nat_lt b.above a.run.above_to ≡ false = ap₂ nat_lt all.1 (ap (λ (r : Run). r.above_to) w.run_is)
    ∙ not_less run.above_to in
    ap (λ (t : Bool). if t then (mark_at ms b.above).left else left_of_first
    (drop a.run.below_to h.below.now) false) same
    ∙ ap (λ (k : ℕ). left_of_first (drop k h.below.now) false) (ap (λ (r : Run). r.below_to) w.run_is ∙ sym all.0)
name_on h ms ns run fs s (t ∷ rest) a b tell step w v =
    let first = w.live s (t ∷ rest) refl in
    ap least (live_now s fs a b step.live first.0)
    ∙ tell.0 b.begun (begun_now s fs a b step.live first.1) step.live.later

-- ---- the stops from one on
tell_drop : (es : List LeafEdge) (fs : List Flat) (n : ℕ) (ss : List Stop) → TellWays es fs ss
    → TellWays es fs (drop n ss)
tell_drop es fs zero ss h = h
tell_drop es fs (suc n) [] h = tt
tell_drop es fs (suc zero) (s ∷ []) h = tt
tell_drop es fs (suc (suc n)) (s ∷ []) h = tt
tell_drop es fs (suc n) (s ∷ (t ∷ ss)) h = tell_drop es fs n (t ∷ ss) h.1

right_drop : (n : ℕ) (ss : List Stop) → GoRight (spots_in ss) → GoRight (spots_in (drop n ss))
right_drop zero ss h = h
right_drop (suc n) [] h = tt
right_drop (suc zero) (s ∷ []) h = tt
right_drop (suc (suc n)) (s ∷ []) h = tt
right_drop (suc n) (s ∷ (t ∷ ss)) h = right_drop n (t ∷ ss) h.1

all_drop : (P : Stop → Type 0) (n : ℕ) (ss : List Stop) → AllByRecursion P ss → AllByRecursion P (drop n ss)
all_drop P zero ss h = h
all_drop P (suc n) [] h = tt
all_drop P (suc n) (s ∷ ss) h = all_drop P n ss h.1

-- a stop and those behind it
pub record AreFrom (h : Height) (fs : List Flat) (ss : List Stop) (i : ℕ) (s : Stop) : Type 0 where
  pub is : drop i ss ≡ s ∷ drop (i + 1) ss
  pub at : AllByRecursion (λ t. t.spot.at ≡ h.at.now) (s ∷ drop (i + 1) ss)
  pub within : IsSpotWithin coordinate_limit s.spot
  pub right : GoRight (spots_in (s ∷ drop (i + 1) ss))
  pub tell : TellWays h.edges.now fs ss → TellWays h.edges.now fs (s ∷ drop (i + 1) ss)
  pub more : spots_in (take (i + 1) ss) ≡ spots_in (take i ss) ++ (s.spot ∷ [])

pub stops_from : (h : Height) (fs : List Flat) (ss : List Stop) (i : ℕ) (s : Stop) → AreStopsAt h ss → i < length ss
    → s ≡ get_or ss i s → AreFrom h fs ss i s
stops_from h fs ss i s a l e =
    let split : drop i ss ≡ s ∷ drop (i + 1) ss = drop_more ss i s l ∙ ap (λ (t : Stop). t ∷ drop (i + 1) ss) (sym e) in
    record {
      is = split;
      at = subst (AllByRecursion (λ t. t.spot.at ≡ h.at.now)) split
          (all_drop (λ t. t.spot.at ≡ h.at.now) i ss (recursion_from_All (λ t. t.spot.at ≡ h.at.now) ss a.at));
      within = subst (λ (t : Stop). IsSpotWithin coordinate_limit t.spot) (sym e) (a.within i s l);
      right = subst (λ (ts : List Stop). GoRight (spots_in ts)) split (right_drop i ss a.rightwards);
      tell = λ t. subst (TellWays h.edges.now fs) split (tell_drop h.edges.now fs i ss t);
      more = map_more (λ (t : Stop). t.spot) ss i s l
          ∙ ap (λ (t : Stop). spots_in (take i ss) ++ (t.spot ∷ [])) (sym e);
    }

pub first_waits : (h : Height) (ms : List Mark) (run : Run) (fs : List Flat) (ss : List Stop) (a : Along)
    → IsRunOf h.below.now ms run → AreInOrder h ms → AllPass h.edges.now h.at.now ms
    → AllByRecursion (λ m. HasSpot (spots_in ss) (spot_at h.edges.now h.at.now m)) (marks_of h ms run)
    → a.run ≡ run → a.below ≡ run.below → a.above ≡ run.above → a.begun ≡ 0 → a.live.items ≡ []
    → Waits h ms run fs ss a
first_waits h ms run fs ss a r o p all er eb ea en el =
    let H : Mark → Type 0 = λ m. HasSpot (spots_in ss) (spot_at h.edges.now h.at.now m) in
    let lows : List Mark = take (run.below_to - run.below) (drop run.below h.below.now) in
    let ups : List Mark = take (run.above_to - run.above) (drop run.above ms) in
    record {
      run_is = er;
      within = record {
        run = subst (IsRunOf h.below.now ms) (sym er) r;
        below = subst (λ (k : ℕ). k ≤ a.run.below_to) (sym eb)
            (subst (λ (q : Run). run.below ≤ q.below_to) (sym er) r.below);
        above = subst (λ (k : ℕ). k ≤ a.run.above_to) (sym ea)
            (subst (λ (q : Run). run.above ≤ q.above_to) (sym er) r.above);
      };
      begun = subst (λ (n : ℕ). n ≤ length fs) (sym en) (omega arith);
      order = o;
      passing = p;
      below = subst (λ (q : Run). AllByRecursion H (take (q.below_to - a.below) (drop a.below h.below.now))) (sym er)
          (subst (λ (k : ℕ). AllByRecursion H (take (run.below_to - k) (drop k h.below.now))) (sym eb)
          (front H lows ups all));
      above = subst (λ (q : Run). AllByRecursion H (take (q.above_to - a.above) (drop a.above ms))) (sym er)
          (subst (λ (k : ℕ). AllByRecursion H (take (run.above_to - k) (drop k ms))) (sym ea) (back H lows ups all));
      live = λ s rest e. (
        ap (filter (goes_on s)) (el ∙ ap (λ (n : ℕ). take n fs) (sym en)),
        subst (λ (n : ℕ). All (BeginsBy s) (take n fs)) (sym en) (All-nil (BeginsBy s)),
      );
    }
