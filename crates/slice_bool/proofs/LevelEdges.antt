-- The edges that meet a level say all of it that all edges say.
use Rattle.std.proofs.Common.{◌≡◌, ℕ, ◌+◌, ◌<◌, Bool, true, false, List, [], ◌∷◌, ◌++◌, length, get_or, filter, refl, sym, ap, ap₂, ◌∙◌, arith, subst, true≢false, IsPermutation}
use lib.IntN.{ℤ, pos, ◌*ℤ◌, ◌-ℤ◌}
use Rattle.std.specs.Prelude.{int_lt, int_le, ◌&&◌, if◌then◌else◌}
use Rattle.std.specs.Cmp.{signed_Decides}
use Rattle.std.specs.List.{AllByRecursion, All}
use Rattle.std.proofs.lemmas.Bool.{and_parts}
use Rattle.std.proofs.lemmas.Int.{ints}
use Rattle.std.proofs.lemmas.List.Elements.{recursion_from_All, All-from_recursion}
use Rattle.std.proofs.lemmas.List.Sorted.{length_permutation}
use Rattle.scad_geom.specs.declared.point.Edge.{Edge}
use Rattle.scad_geom.specs.declared.level.Level.{Level}
use Rattle.scad_geom.specs.declared.level.LeafEdge.{LeafEdge}
use Rattle.scad_geom.specs.Line.{low, high, rise}
use Rattle.scad_geom.proofs.Signs.{zero_true}
use Rattle.slice_bundles.specs.Bundles.{no_edge, edge_at, Ascends}
use Rattle.slice_bundles.specs.Touching.{touches, touching}
use Rattle.slice_bundles.proofs.Times.{AreStrict, same_counts, times_permuted, filter_permuted}
use Rattle.slice_bundles.proofs.Choice.{numbers_where, touching_is, StandFrom, stand_from_first, next_from, first_from, filtered, all_where, strict_where}
use Rattle.slice_bundles.proofs.Touching.{touch_both}
use Rattle.slice_pieces.specs.declared.piece.Spot.{Spot}
use Rattle.slice_border.specs.Pieces.{is_flat_at, passes_at, edge_spots, spots_at, AreStops, IsOneOf, HasSpot, whole_spot, spot_on}
use Rattle.slice_bool.specs.Near.{picked, touching_at}
use Rattle.slice_border.specs.Flats.{flats_from}
use Rattle.slice_bool.proofs.SomeStops.{empty_list}

-- ---- edges that don't meet a level are neither flat on it nor pass it
passes_touches : (e : Edge) (at : Level) → passes_at e at ≡ true → touches e at ≡ true
passes_touches e at h =
    let p = and_parts (int_lt (pos 0) (rise e)) (int_le ((low e).y *ℤ at.d) at.n && int_le at.n ((high e).y *ℤ at.d)) h in
    let q = and_parts (int_le ((low e).y *ℤ at.d) at.n) (int_le at.n ((high e).y *ℤ at.d)) p.1 in
    touch_both e at q.0 q.1

flat_line : (x y d n : ℤ) → x ≡ y → x *ℤ d ≡ n → (int_le (x *ℤ d) n && int_le n (y *ℤ d)) ≡ true
flat_line x y d n e h =
    let k : y *ℤ d ≡ n = ap (λ (z : ℤ). z *ℤ d) (sym e) ∙ h in
    let a : int_le (x *ℤ d) n ≡ true = sym (omega (arith, ints)) in
    let b : int_le n (y *ℤ d) ≡ true = sym (omega (arith, ints)) in
    rw (a, b) refl

flat_touches : (e : Edge) (at : Level) → is_flat_at e at ≡ true → touches e at ≡ true
unfolding low high rise touches
flat_touches e at h = by_test (int_lt e.b.y e.a.y) refl h
  where
    by_test : (t : Bool) → int_lt e.b.y e.a.y ≡ t → is_flat_at e at ≡ true → touches e at ≡ true
    by_test true q h = absurd (let p = and_parts _ _ (rw q at h) in let z = zero_true (e.a.y -ℤ e.b.y) p.0 in omega (arith, ints))
    by_test false q h =
        let p = and_parts _ _ (rw q at h) in
        let z = zero_true (e.b.y -ℤ e.a.y) p.0 in
        let s : e.a.y ≡ e.b.y = omega (arith, ints) in
        rw q (flat_line e.a.y e.b.y at.d at.n s ((signed_Decides (e.a.y *ℤ at.d) at.n).0 p.1))

-- ---- the edges of the numbers
picked_from : (at : Level) (all : List LeafEdge) (k : ℕ) (es : List LeafEdge) → StandFrom all k es
    → picked all (touching k es at) ≡ touching_at es at
picked_from at all k [] f = refl
picked_from at all k (e ∷ es) f = by_test (touches e.edge at) (first_from all k e es f).1
    (picked_from at all (k + 1) es (next_from all k e es f))
  where
    by_test : (t : Bool) → get_or all k no_edge ≡ e → picked all (touching (k + 1) es at) ≡ touching_at es at
        → picked all (if t then k ∷ touching (k + 1) es at else touching (k + 1) es at)
        ≡ (if t then e ∷ touching_at es at else touching_at es at)
    by_test true a r = ap₂ (λ (e : LeafEdge) (es : List LeafEdge). e ∷ es) a r
    by_test false a r = r

pub picked_touching : (es : List LeafEdge) (at : Level) → picked es (touching 0 es at) ≡ touching_at es at
picked_touching es at = picked_from at es 0 es (stand_from_first es)

no_spots : (e : Edge) (at : Level) → touches e at ≡ false → edge_spots e at ≡ []
no_spots e at h = by_tests (is_flat_at e at) (passes_at e at) refl refl
  where
    by_tests : (f p : Bool) → is_flat_at e at ≡ f → passes_at e at ≡ p
        → (if f then whole_spot e.a.x at ∷ (whole_spot e.b.x at ∷ []) else if p then spot_on e at ∷ [] else [])
        ≡ []
    by_tests true p a b = absurd (true≢false (sym (flat_touches e at a) ∙ h))
    by_tests false true a b = absurd (true≢false (sym (passes_touches e at b) ∙ h))
    by_tests false false a b = refl

pub spots_touching : (es : List LeafEdge) (at : Level) → spots_at (touching_at es at) at ≡ spots_at es at
spots_touching [] at = refl
spots_touching (e ∷ es) at = by_test (touches e.edge at) refl (spots_touching es at)
  where
    by_test : (t : Bool) → touches e.edge at ≡ t → spots_at (touching_at es at) at ≡ spots_at es at
        → spots_at (if t then e ∷ touching_at es at else touching_at es at) at ≡ edge_spots e.edge at
        ++ spots_at es at
    by_test true a r = ap (λ (ss : List Spot). edge_spots e.edge at ++ ss) r
    by_test false a r = r ∙ sym (ap (λ (ss : List Spot). ss ++ spots_at es at) (no_spots e.edge at a))

pub stops_touching : (es now : List LeafEdge) (at : Level) (stops : List Spot) → now ≡ touching_at es at
    → AreStops now at stops → AreStops es at stops
stops_touching es now at stops q h =
    let e : spots_at now at ≡ spots_at es at = ap (λ (fs : List LeafEdge). spots_at fs at) q ∙ spots_touching es at in
    record {
      rightwards = h.rightwards;
      sound = subst (λ (ss : List Spot). AllByRecursion (IsOneOf ss) stops) e h.sound;
      complete = subst (AllByRecursion (HasSpot stops)) e h.complete;
    }

-- ---- flat edges
flats_are : (at : Level) (k : ℕ) (es : List LeafEdge)
    → flats_from k es at ≡ numbers_where (λ e. is_flat_at e at) k es
flats_are at k [] = refl
flats_are at k (e ∷ es) = ap (λ (ks : List ℕ). if is_flat_at e.edge at then k ∷ ks else ks)
    (flats_are at (k + 1) es)

pub flats_touching : (es : List LeafEdge) (at : Level)
    → filter (λ k. is_flat_at (edge_at es k) at) (touching 0 es at) ≡ flats_from 0 es at
flats_touching es at =
    ap (filter (λ k. is_flat_at (edge_at es k) at)) (touching_is at 0 es)
    ∙ filtered (λ e. is_flat_at e at) (λ e. touches e at) (λ e h. flat_touches e at h) es 0 es
    (stand_from_first es)
    ∙ sym (flats_are at 0 es)

pub flats_there : (es : List LeafEdge) (at : Level) → All (λ k. k < length es) (flats_from 0 es at)
flats_there es at = All-from_recursion (λ k. k < length es) (flats_from 0 es at)
    (subst (AllByRecursion (λ k. k < length es))
    (sym (flats_are at 0 es)) (weaker (numbers_where (λ e. is_flat_at e at) 0 es)
    (all_where (λ e. is_flat_at e at) es 0 es (stand_from_first es))))
  where
    weaker : (ks : List ℕ) → AllByRecursion (λ k. (k < length es) × (is_flat_at (edge_at es k) at ≡ true)) ks
        → AllByRecursion (λ k. k < length es) ks
    weaker [] h = tt
    weaker (k ∷ ks) h = (h.0.0, weaker ks h.1)

-- ---- what is true of all edges
pub all_touching : (P : LeafEdge → Type 0) (es : List LeafEdge) (at : Level) → All P es
    → All P (touching_at es at)
all_touching P es at h = All-from_recursion P (touching_at es at) (each es (recursion_from_All P es h))
  where
    each : (es : List LeafEdge) → AllByRecursion P es → AllByRecursion P (touching_at es at)
    each [] h = tt
    each (e ∷ es) h = by_test (touches e.edge at) h.0 (each es h.1)
      where
        by_test : (t : Bool) → P e → AllByRecursion P (touching_at es at)
            → AllByRecursion P (if t then e ∷ touching_at es at else touching_at es at)
        by_test true p r = (p, r)
        by_test false p r = r

-- ---- the numbers in another order
-- as they ascend they stand as in the list
pub in_ascending : (es : List LeafEdge) (at : Level) (numbers news : List ℕ) → IsPermutation (touching 0 es at) numbers
    → IsPermutation numbers news → Ascends news → news ≡ touching 0 es at
in_ascending es at numbers news m n a =
    same_counts (touching 0 es at) news
    (subst AreStrict (sym (touching_is at 0 es)) (strict_where (λ e. touches e at) 0 es)) a
    (λ k. sym (times_permuted k (touching 0 es at) numbers m) ∙ sym (times_permuted k numbers news n))

-- where none of them is flat, none is
pub no_flats : (es : List LeafEdge) (at : Level) (numbers : List ℕ) → IsPermutation (touching 0 es at) numbers
    → filter (λ k. is_flat_at (edge_at es k) at) numbers ≡ [] → flats_from 0 es at ≡ []
no_flats es at numbers m e =
    let p : ℕ → Bool = λ k. is_flat_at (edge_at es k) at in
    sym (flats_touching es at) ∙ empty_list (filter p (touching 0 es at))
    (sym (length_permutation (filter p (touching 0 es at)) (filter p numbers)
    (filter_permuted p (touching 0 es at) numbers m))
    ∙ ap (λ (ks : List ℕ). length ks) e)

pub none_stands : (ks : List ℕ) → ks ≡ [] → 0 < length ks → ⊥
none_stands ks e h = none (length ks) (ap (λ (js : List ℕ). length js) e) h
  where
    none : (n : ℕ) → n ≡ 0 → 0 < n → ⊥
    none n p q = omega arith
