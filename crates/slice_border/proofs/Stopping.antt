-- Sorted spots without repeats are the stops.
use Rattle.std.proofs.Common.{◌≡◌, ℕ, zero, suc, ◌+◌, ◌<◌, inl, inr, Bool, true, false, List, [], ◌∷◌, ◌++◌, length, get_or, refl, sym, ap, ◌∙◌, arith, add-one, append_assoc}
use lib.IntN.{pos}
use lib.Signed.{◌<ℤ◌}
use Rattle.std.specs.Prelude.{if◌then◌else◌}
use Rattle.std.specs.List.{AllByRecursion, All}
use Rattle.std.specs.List.Sorted.{IsPermutation, IsSortedBy}
use Rattle.std.specs.Cmp.{IsStrictWeakOrder}
use Rattle.std.proofs.lemmas.Int.{ints}
use Rattle.std.proofs.lemmas.List.Elements.{recursion_from_All, All-from_recursion}
use Rattle.std.proofs.lemmas.List.Sorted.{All-permutation, IsPermutation-map, IsPermutation-sym}
use Rattle.scad_geom.specs.Level.{IsAtMost}
use Rattle.scad_geom.proofs.Heights.{at_most_chain, lower_then_at_most}
use Rattle.slice_pieces.specs.declared.piece.Spot.{Spot}
use Rattle.slice_border.specs.Pieces.{IsLeft, IsSameAcross, GoRight, HasSpot, IsOneOf, across}
use Rattle.slice_border.specs.Stops.{is_left, AreSorted, spots_in, AreStopsOf}
use Rattle.slice_events.specs.Distinct.{distinct_by}
use Rattle.slice_events.proofs.Repeats.{distinct_all}
use Rattle.slice_border.specs.declared.stop.Stop.{Stop}

abbrev Runs : Spot → Type 0
Runs s = pos 0 <ℤ pos s.run

-- ---- the order of stops
abbrev pub comes_left : Stop → Stop → Bool
comes_left s t = is_left s.spot t.spot

runs_of : (s : Stop) → Runs s.spot
runs_of s = let r : 0 < s.spot.run = s.runs in omega (arith, ints)

pub stop_order : IsStrictWeakOrder comes_left
stop_order = record {
  one_way = λ x y h. sym (omega (arith, ints));
  chain = λ x y z h k.
      let a : IsAtMost (across y.spot) (across x.spot) = omega (arith, ints) in
      let b : IsAtMost (across z.spot) (across y.spot) = omega (arith, ints) in
      let c : IsAtMost (across z.spot) (across x.spot) = at_most_chain (across z.spot) (across y.spot) (across x.spot)
      (runs_of z) (runs_of y) (runs_of x) b a in
      sym (omega (arith, ints));
}

sorted_by : (ss : List Stop) → ((k : ℕ) (d : Stop) → suc k < length ss → comes_left (get_or ss (suc k) d)
    (get_or ss k d) ≡ false) → AreSorted (spots_in ss)
sorted_by [] h = tt
sorted_by (s ∷ []) h = tt
sorted_by (s ∷ (t ∷ ss)) h =
    let first : comes_left t s ≡ false = h zero s (omega arith) in
    (omega (arith, ints), sorted_by (t ∷ ss) (λ k d b. h (suc k) d (omega arith)))

pub sorted_from : (ss : List Stop) → IsSortedBy comes_left ss → AreSorted (spots_in ss)
sorted_from ss h = sorted_by ss (λ k d b. let t : comes_left (get_or ss (k + 1) d) (get_or ss k d) ≡ false = h k d
    (omega arith) (omega arith) in rw add-one at t)

-- ---- a sorted list without repeats
left_then : (s t u : Spot) → Runs s → Runs t → Runs u → IsLeft s t → IsAtMost (across t) (across u)
    → IsLeft s u
left_then s t u rs rt ru h k = lower_then_at_most (across s) (across t) (across u) rs rt ru h k

first_left : (s t : Spot) (ss : List Spot) → IsLeft s t → AllByRecursion (λ (s : Spot). pos 0 <ℤ pos s.run)
    (s ∷ (t ∷ ss)) → AreSorted (t ∷ ss) → GoRight (distinct_by is_left (t ∷ ss))
    → GoRight (s ∷ distinct_by is_left (t ∷ ss))
first_left s t [] o d c r = (o, tt)
first_left s t (x ∷ ss) o d c r = by_test (is_left t x) r
    (λ r'. first_left s x ss (left_then s t x d.0 d.1.0 d.1.1.0 o c.0) (d.0, d.1.1) c.1 r')
  where
    by_test : (b : Bool) → GoRight (if b then t
        ∷ distinct_by is_left (x ∷ ss) else distinct_by is_left (x ∷ ss))
        → (GoRight (distinct_by is_left (x ∷ ss)) → GoRight (s ∷ distinct_by is_left (x ∷ ss)))
        → GoRight (s ∷ (if b then t ∷ distinct_by is_left (x ∷ ss) else distinct_by is_left (x ∷ ss)))
    by_test true r f = (o, r)
    by_test false r f = f r

go_right : (ss : List Spot) → AllByRecursion (λ (s : Spot). pos 0 <ℤ pos s.run) ss → AreSorted ss
    → GoRight (distinct_by is_left ss)
go_right [] d c = tt
go_right (s ∷ []) d c = tt
go_right (s ∷ (t ∷ ss)) d c = by_test (is_left s t) refl (go_right (t ∷ ss) d.1 c.1)
  where
    by_test : (b : Bool) → is_left s t ≡ b → GoRight (distinct_by is_left (t ∷ ss))
        → GoRight (if b then s ∷ distinct_by is_left (t ∷ ss) else distinct_by is_left (t ∷ ss))
    by_test true e r = first_left s t ss (omega (arith, ints)) d c.1 r
    by_test false e r = r

same_then : (ts : List Spot) (s t : Spot) → Runs s → Runs t
    → AllByRecursion (λ (s : Spot). pos 0 <ℤ pos s.run) ts → IsSameAcross s t → HasSpot ts s → HasSpot ts t
same_then [] s t ds dt d e r = absurd r
same_then (u ∷ ts) s t ds dt d e (inl q) =
    let a : IsAtMost (across u) (across t) = at_most_chain (across u) (across s) (across t) d.0 ds dt
    (omega (arith, ints)) (omega (arith, ints)) in
    let b : IsAtMost (across t) (across u) = at_most_chain (across t) (across s) (across u) dt ds d.0
    (omega (arith, ints)) (omega (arith, ints)) in
    inl (omega (arith, ints))
same_then (u ∷ ts) s t ds dt d e (inr r) = inr (same_then ts s t ds dt d.1 e r)

-- each place is still there
all_there : (ss : List Spot) → AllByRecursion (λ (s : Spot). pos 0 <ℤ pos s.run) ss → AreSorted ss
    → AllByRecursion (HasSpot (distinct_by is_left ss)) ss
all_there [] d c = tt
all_there (s ∷ []) d c = (inl refl, tt)
all_there (s ∷ (t ∷ ss)) d c = by_test (is_left s t) refl (all_there (t ∷ ss) d.1 c.1)
  where
    later : (xs ts : List Spot) → AllByRecursion (HasSpot ts) xs → AllByRecursion (HasSpot (s ∷ ts)) xs
    later [] ts h = tt
    later (x ∷ xs) ts h = (inr h.0, later xs ts h.1)

    by_test : (b : Bool) → is_left s t ≡ b → AllByRecursion (HasSpot (distinct_by is_left (t ∷ ss))) (t ∷ ss)
        → AllByRecursion (HasSpot (if b then s
        ∷ distinct_by is_left (t ∷ ss) else distinct_by is_left (t ∷ ss)))
        (s ∷ (t ∷ ss))
    by_test true e r = (inl refl, later (t ∷ ss) (distinct_by is_left (t ∷ ss)) r)
    by_test false e r = let c0 = c.0 in (
      same_then (distinct_by is_left (t ∷ ss)) t s d.1.0 d.0
          (distinct_all is_left (λ (s : Spot). pos 0 <ℤ pos s.run) (t ∷ ss) d.1) (omega (arith, ints)) r.0,
      r,
    )

-- ---- which spots a list has doesn't depend on its order
one_at : (ts : List Spot) (k : ℕ) (d : Spot) → k < length ts → IsOneOf ts (get_or ts k d)
one_at [] k d l = absurd (omega arith)
one_at (t ∷ ts) zero d l = inl refl
one_at (t ∷ ts) (suc k) d l = inr (one_at ts k d (omega arith))

carry : (P : Spot → Type 0) (xs ys : List Spot) → IsPermutation xs ys → All P xs → AllByRecursion P ys
carry P xs ys p h = recursion_from_All P ys (All-permutation P xs ys p h)

all_run : (ss : List Stop) → AllByRecursion (λ (s : Spot). pos 0 <ℤ pos s.run) (spots_in ss)
all_run [] = tt
all_run (s ∷ ss) = (runs_of s, all_run ss)

pub sorted_stops : (all sorted : List Stop) → IsPermutation all sorted → AreSorted (spots_in sorted)
    → AreStopsOf (spots_in all) (distinct_by is_left (spots_in sorted))
sorted_stops all sorted p c =
    let q : IsPermutation (spots_in all) (spots_in sorted) = IsPermutation-map (λ (s : Stop). s.spot) all sorted p in
    let P : Spot → Type 0 = IsOneOf (spots_in all) in
    let H : Spot → Type 0 = HasSpot (distinct_by is_left (spots_in sorted)) in
    record {
      rightwards = go_right (spots_in sorted) (all_run sorted) c;
      sound = distinct_all is_left P (spots_in sorted)
          (carry P (spots_in all) (spots_in sorted) q (λ k d l. one_at (spots_in all) k d l));
      complete = carry H (spots_in sorted) (spots_in all) (IsPermutation-sym (spots_in all) (spots_in sorted) q)
          (All-from_recursion H (spots_in sorted) (all_there (spots_in sorted) (all_run sorted) c));
    }

-- ---- the loops' steps
pub spots-append : (ss ts : List Stop) → spots_in (ss ++ ts) ≡ spots_in ss ++ spots_in ts
spots-append [] ts = refl
spots-append (s ∷ ss) ts = ap (λ (us : List Spot). s.spot ∷ us) (spots-append ss ts)

pub kept_step : (out : List Stop) (s : Stop) (rest whole : List Spot) → spots_in out ++ (s.spot ∷ rest) ≡ whole
    → spots_in (out ++ (s ∷ [])) ++ rest ≡ whole
kept_step out s rest whole h = ap (λ (us : List Spot). us ++ rest) (spots-append out (s ∷ [])) ∙ append_assoc
    (spots_in out) (s.spot ∷ []) rest ∙ h
