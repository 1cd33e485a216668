-- Sorted heights without repeats are the levels.
use Rattle.std.proofs.Common.{◌≡◌, ℕ, zero, suc, ◌+◌, ◌<◌, inl, inr, Bool, true, false, ◌⊎◌, List, [], ◌∷◌, ◌++◌, length, get_or, refl, sym, arith, add-one}
use lib.IntN.{pos}
use lib.Signed.{◌<ℤ◌}
use Rattle.std.specs.Prelude.{if◌then◌else◌}
use Rattle.std.specs.List.{AllByRecursion, All}
use Rattle.std.specs.List.Sorted.{IsPermutation, IsSortedBy}
use Rattle.std.specs.Cmp.{IsStrictWeakOrder}
use Rattle.std.proofs.lemmas.Int.{ints}
use Rattle.std.proofs.lemmas.List.Elements.{recursion_from_All, All-from_recursion}
use Rattle.std.proofs.lemmas.List.Sorted.{All-permutation, IsPermutation-map, IsPermutation-sym}
use Rattle.scad_geom.specs.declared.level.Level.{Level}
use Rattle.scad_geom.specs.declared.level.LeafEdge.{LeafEdge}
use Rattle.scad_geom.specs.Level.{IsLower, IsAtMost, IsSameHeight}
use Rattle.scad_base.proofs.Lists.{AllByRecursion-append}
use Rattle.scad_geom.specs.Heights.{meetings, heights}
use Rattle.scad_geom.proofs.Heights.{at_most_chain, lower_then_at_most, heights_positive}
use Rattle.slice_events.specs.declared.height.Height.{Height}
use Rattle.slice_events.specs.Levels.{IsRising, HasHeight, AreLevels}
use Rattle.slice_events.specs.Collection.{levels_in, is_lower, IsClimbing, end_levels}
use Rattle.slice_events.specs.AllPairs.{AreOtherHeights}
use Rattle.slice_events.specs.Distinct.{distinct_by}
use Rattle.slice_events.proofs.Repeats.{distinct_all}

-- ---- the order of bounded levels
abbrev pub comes_lower : Height → Height → Bool
comes_lower p q = is_lower p.level q.level

pub lower_order : IsStrictWeakOrder comes_lower
lower_order = record {
  one_way = λ x y h. sym (omega (arith, ints));
  chain = λ x y z h k.
      let a : IsAtMost y.level x.level = omega (arith, ints) in
      let b : IsAtMost z.level y.level = omega (arith, ints) in
      let c : IsAtMost z.level x.level = at_most_chain z.level y.level x.level z.within.positive y.within.positive x.within.positive b a in
      sym (omega (arith, ints));
}

climbing_by : (hs : List Height) → ((k : ℕ) (d : Height) → suc k < length hs
    → comes_lower (get_or hs (suc k) d) (get_or hs k d) ≡ false) → IsClimbing (levels_in hs)
climbing_by [] h = tt
climbing_by (p ∷ []) h = tt
climbing_by (p ∷ (q ∷ hs)) h =
    let first : comes_lower q p ≡ false = h zero p (omega arith) in
    (omega (arith, ints), climbing_by (q ∷ hs) (λ k d b. h (suc k) d (omega arith)))

pub climbing_from : (hs : List Height) → IsSortedBy comes_lower hs → IsClimbing (levels_in hs)
climbing_from hs h = climbing_by hs (λ k d b. let t : comes_lower (get_or hs (k + 1) d) (get_or hs k d) ≡ false = h k d (omega arith) (omega arith) in rw add-one at t)

-- ---- a climbing list without repeats
Positive : Level → Type 0
Positive l = pos 0 <ℤ l.d

first_lower : (p q : Level) (hs : List Level) → IsLower p q
    → AllByRecursion (λ (l : Level). pos 0 <ℤ l.d) (p ∷ (q ∷ hs)) → IsClimbing (q ∷ hs)
    → IsRising (distinct_by is_lower (q ∷ hs)) → IsRising (p ∷ distinct_by is_lower (q ∷ hs))
first_lower p q [] o d c r = (o, tt)
first_lower p q (x ∷ hs) o d c r = by_test (is_lower q x) r
    (λ r'. first_lower p x hs (lower_then_at_most p q x d.0 d.1.0 d.1.1.0 o c.0) (d.0, d.1.1) c.1 r')
  where
    by_test : (t : Bool) → IsRising (if t then q
        ∷ distinct_by is_lower (x ∷ hs) else distinct_by is_lower (x ∷ hs))
        → (IsRising (distinct_by is_lower (x ∷ hs)) → IsRising (p ∷ distinct_by is_lower (x ∷ hs)))
        → IsRising (p ∷ (if t then q ∷ distinct_by is_lower (x ∷ hs) else distinct_by is_lower (x ∷ hs)))
    by_test true r f = (o, r)
    by_test false r f = f r

pub distinct_rises : (hs : List Level) → AllByRecursion (λ (l : Level). pos 0 <ℤ l.d) hs → IsClimbing hs
    → IsRising (distinct_by is_lower hs)
distinct_rises [] d c = tt
distinct_rises (p ∷ []) d c = tt
distinct_rises (p ∷ (q ∷ hs)) d c = by_test (is_lower p q) refl (distinct_rises (q ∷ hs) d.1 c.1)
  where
    by_test : (t : Bool) → is_lower p q ≡ t → IsRising (distinct_by is_lower (q ∷ hs))
        → IsRising (if t then p ∷ distinct_by is_lower (q ∷ hs) else distinct_by is_lower (q ∷ hs))
    by_test true e r = first_lower p q hs (omega (arith, ints)) d c.1 r
    by_test false e r = r

distinct_divisors : (hs : List Level) → AllByRecursion (λ (l : Level). pos 0 <ℤ l.d) hs
    → AllByRecursion (λ (l : Level). pos 0 <ℤ l.d) (distinct_by is_lower hs)
distinct_divisors hs d = distinct_all is_lower (λ (l : Level). pos 0 <ℤ l.d) hs d

same_then : (ls : List Level) (g h : Level) → pos 0 <ℤ h.d → pos 0 <ℤ g.d
    → AllByRecursion (λ (l : Level). pos 0 <ℤ l.d) ls → IsSameHeight g h → HasHeight ls g → HasHeight ls h
same_then [] g h dh dg d e r = absurd r
same_then (l ∷ ls) g h dh dg d e (inl s) =
    let a : IsAtMost l h = at_most_chain l g h d.0 dg dh (omega (arith, ints)) (omega (arith, ints)) in
    let b : IsAtMost h l = at_most_chain h g l dh dg d.0 (omega (arith, ints)) (omega (arith, ints)) in
    inl (omega (arith, ints))
same_then (l ∷ ls) g h dh dg d e (inr r) = inr (same_then ls g h dh dg d.1 e r)

-- each height is still there
pub distinct_complete : (hs : List Level) → AllByRecursion (λ (l : Level). pos 0 <ℤ l.d) hs → IsClimbing hs
    → AllByRecursion (HasHeight (distinct_by is_lower hs)) hs
distinct_complete [] d c = tt
distinct_complete (p ∷ []) d c = (inl refl, tt)
distinct_complete (p ∷ (q ∷ hs)) d c = by_test (is_lower p q) refl (distinct_complete (q ∷ hs) d.1 c.1)
  where
    later : (xs ls : List Level) → AllByRecursion (HasHeight ls) xs → AllByRecursion (HasHeight (p ∷ ls)) xs
    later [] ls h = tt
    later (x ∷ xs) ls h = (inr h.0, later xs ls h.1)

    by_test : (t : Bool) → is_lower p q ≡ t
        → AllByRecursion (HasHeight (distinct_by is_lower (q ∷ hs))) (q ∷ hs)
        → AllByRecursion (HasHeight (if t then p
        ∷ distinct_by is_lower (q ∷ hs) else distinct_by is_lower (q ∷ hs))) (p ∷ (q ∷ hs))
    by_test true e r = (inl refl, later (q ∷ hs) (distinct_by is_lower (q ∷ hs)) r)
    by_test false e r = let c0 = c.0 in (same_then (distinct_by is_lower (q ∷ hs)) q p d.0 d.1.0 (distinct_divisors (q ∷ hs) d.1) (omega (arith, ints)) r.0, r)

-- and nothing else
pub distinct_sound : (hs : List Level) → AllByRecursion (HasHeight hs) (distinct_by is_lower hs)
distinct_sound [] = tt
distinct_sound (p ∷ []) = (inl refl, tt)
distinct_sound (p ∷ (q ∷ hs)) = by_test (is_lower p q) (distinct_sound (q ∷ hs))
  where
    more : (ls : List Level) → AllByRecursion (HasHeight (q ∷ hs)) ls
        → AllByRecursion (HasHeight (p ∷ (q ∷ hs))) ls
    more [] h = tt
    more (l ∷ ls) h = (inr h.0, more ls h.1)

    by_test : (t : Bool) → AllByRecursion (HasHeight (q ∷ hs)) (distinct_by is_lower (q ∷ hs))
        → AllByRecursion (HasHeight (p ∷ (q ∷ hs)))
        (if t then p ∷ distinct_by is_lower (q ∷ hs) else distinct_by is_lower (q ∷ hs))
    by_test true r = (inl refl, more (distinct_by is_lower (q ∷ hs)) r)
    by_test false r = more (distinct_by is_lower (q ∷ hs)) r

-- ---- which heights a list has doesn't depend on its order
has_where : (xs : List Level) (h : Level) → HasHeight xs h
    → (k : ℕ) × (k < length xs) × ((d : Level) → IsSameHeight (get_or xs k d) h)
has_where [] h r = absurd r
has_where (x ∷ xs) h (inl e) = (zero, omega arith, λ d. e)
has_where (x ∷ xs) h (inr r) = let t = has_where xs h r in (suc t.0, omega arith, t.2)

has_at : (xs : List Level) (h : Level) (k : ℕ) (d : Level) → k < length xs → IsSameHeight (get_or xs k d) h
    → HasHeight xs h
has_at [] h k d l e = absurd (omega arith)
has_at (x ∷ xs) h zero d l e = inl e
has_at (x ∷ xs) h (suc k) d l e = inr (has_at xs h k d (omega arith) e)

itself : (xs : List Level) → All (HasHeight xs) xs
itself xs k d l = has_at xs (get_or xs k d) k d l refl

pub has_permuted : (xs ys : List Level) (h : Level) → IsPermutation xs ys → HasHeight xs h
    → AllByRecursion (λ (l : Level). pos 0 <ℤ l.d) ys → pos 0 <ℤ h.d
    → AllByRecursion (λ (l : Level). pos 0 <ℤ l.d) xs → HasHeight ys h
has_permuted xs ys h p r dy dh dx =
    let t = has_where xs h r in
    let all : All (HasHeight ys) xs = All-permutation (HasHeight ys) ys xs (IsPermutation-sym xs ys p) (itself ys) in
    let dg = All-from_recursion (λ (l : Level). pos 0 <ℤ l.d) xs dx in
    same_then ys (get_or xs t.0 h) h dh (dg t.0 h t.1) dy (t.2 h) (all t.0 h t.1)

all_positive : (hs : List Height) → AllByRecursion (λ (l : Level). pos 0 <ℤ l.d) (levels_in hs)
all_positive [] = tt
all_positive (h ∷ hs) = (h.within.positive, all_positive hs)

carry : (P : Level → Type 0) (xs ys : List Level) → IsPermutation ys xs → AllByRecursion P ys
    → AllByRecursion P xs
carry P xs ys p h = recursion_from_All P xs (All-permutation P ys xs p (All-from_recursion P ys h))

over : (xs ys ls : List Level) → IsPermutation xs ys → AllByRecursion (λ (l : Level). pos 0 <ℤ l.d) ys
    → AllByRecursion (λ (l : Level). pos 0 <ℤ l.d) xs → AllByRecursion (λ (l : Level). pos 0 <ℤ l.d) ls
    → AllByRecursion (HasHeight xs) ls → AllByRecursion (HasHeight ys) ls
over xs ys [] p dy dx dl h = tt
over xs ys (l ∷ ls) p dy dx dl h = (has_permuted xs ys l p h.0 dy dl.0 dx, over xs ys ls p dy dx dl.1 h.1)

-- what has a height of a list has a height of another that has all heights of the first
has_over : (xs ys : List Level) (h : Level) → AllByRecursion (HasHeight ys) xs
    → AllByRecursion (λ (l : Level). pos 0 <ℤ l.d) xs → AllByRecursion (λ (l : Level). pos 0 <ℤ l.d) ys
    → pos 0 <ℤ h.d → HasHeight xs h → HasHeight ys h
has_over [] ys h a dx dy dh k = absurd k
has_over (x ∷ xs) ys h a dx dy dh (inl k) = same_then ys x h dh dx.0 dy k a.0
has_over (x ∷ xs) ys h a dx dy dh (inr k) = has_over xs ys h a.1 dx.1 dy dh k

all_over : (xs ys ls : List Level) → AllByRecursion (HasHeight ys) xs
    → AllByRecursion (λ (l : Level). pos 0 <ℤ l.d) xs → AllByRecursion (λ (l : Level). pos 0 <ℤ l.d) ys
    → AllByRecursion (λ (l : Level). pos 0 <ℤ l.d) ls → AllByRecursion (HasHeight xs) ls
    → AllByRecursion (HasHeight ys) ls
all_over xs ys [] a dx dy dl h = tt
all_over xs ys (l ∷ ls) a dx dy dl h = (has_over xs ys l a dx dy dl.0 h.0, all_over xs ys ls a dx dy dl.1 h.1)

pub sorted_levels : (edges : List LeafEdge) (all sorted : List Height)
    → AllByRecursion (HasHeight (heights edges)) (levels_in all)
    → AllByRecursion (HasHeight (levels_in all)) (heights edges)
    → IsPermutation all sorted → IsClimbing (levels_in sorted)
    → AreLevels edges (distinct_by is_lower (levels_in sorted))
sorted_levels edges all sorted sound complete p c =
    let q : IsPermutation (levels_in all) (levels_in sorted) = IsPermutation-map (λ (h : Height). h.level) all sorted p in
    let ds = all_positive sorted in
    let da = all_positive all in
    let dh = heights_positive edges in
    let dd = distinct_divisors (levels_in sorted) ds in
    record {
      divisors = dd;
      rising = distinct_rises (levels_in sorted) ds c;
      sound = all_over (levels_in all) (heights edges) (distinct_by is_lower (levels_in sorted)) sound da dh dd
          (over (levels_in sorted) (levels_in all) (distinct_by is_lower (levels_in sorted))
          (IsPermutation-sym (levels_in all) (levels_in sorted) q) da ds dd (distinct_sound (levels_in sorted)));
      complete = all_over (levels_in all) (distinct_by is_lower (levels_in sorted)) (heights edges)
          (carry (HasHeight (distinct_by is_lower (levels_in sorted))) (levels_in all) (levels_in sorted)
          (IsPermutation-sym (levels_in all) (levels_in sorted) q) (distinct_complete (levels_in sorted) ds c))
          da dd dh complete;
    }

-- ---- the heights of ends and others
ends_sound : (es : List LeafEdge) → AllByRecursion (HasHeight (heights es)) (end_levels es)
ends_sound [] = tt
ends_sound (e ∷ es) = (inl refl, (inr (inl refl), further (end_levels es) (ends_sound es)))
  where
    behind : (ms hs : List Level) (h : Level) → HasHeight hs h → HasHeight (ms ++ hs) h
    behind [] hs h k = k
    behind (m ∷ ms) hs h k = inr (behind ms hs h k)

    further : (ls : List Level) → AllByRecursion (HasHeight (heights es)) ls
        → AllByRecursion (HasHeight (heights (e ∷ es))) ls
    further [] h = tt
    further (l ∷ ls) h = (inr (inr (behind (meetings e.edge es) (heights es) l h.0)), further ls h.1)

with_ends_sound : (es : List LeafEdge) (ls : List Level) → AreOtherHeights es ls
    → AllByRecursion (HasHeight (heights es)) (ls ++ end_levels es)
with_ends_sound es ls o = AllByRecursion-append (HasHeight (heights es)) ls (end_levels es) o.sound (ends_sound es)

with_ends_complete : (es : List LeafEdge) (ls : List Level) → AreOtherHeights es ls
    → AllByRecursion (HasHeight (ls ++ end_levels es)) (heights es)
with_ends_complete es ls o = each (heights es) o.complete
  where
    either : (xs ys : List Level) (h : Level) → HasHeight ys h ⊎ HasHeight xs h → HasHeight (xs ++ ys) h
    either [] ys h (inl k) = k
    either [] ys h (inr k) = absurd k
    either (x ∷ xs) ys h (inl k) = inr (either xs ys h (inl k))
    either (x ∷ xs) ys h (inr (inl k)) = inl k
    either (x ∷ xs) ys h (inr (inr k)) = inr (either xs ys h (inr k))

    each : (hs : List Level) → AllByRecursion (λ h. HasHeight (end_levels es) h ⊎ HasHeight ls h) hs
        → AllByRecursion (HasHeight (ls ++ end_levels es)) hs
    each [] h = tt
    each (x ∷ xs) h = (either ls (end_levels es) x h.0, each xs h.1)

-- the same in another order
pub arranged_sound : (es : List LeafEdge) (ls all : List Level) → AreOtherHeights es ls
    → IsPermutation (ls ++ end_levels es) all → AllByRecursion (HasHeight (heights es)) all
arranged_sound es ls all o p = carry (HasHeight (heights es)) all (ls ++ end_levels es) p (with_ends_sound es ls o)

each_there : (xs : List Level) → AllByRecursion (HasHeight xs) xs
each_there xs = recursion_from_All (HasHeight xs) xs (itself xs)

pub arranged_complete : (es : List LeafEdge) (ls : List Level) (all : List Height) → AreOtherHeights es ls
    → IsPermutation (ls ++ end_levels es) (levels_in all) → AllByRecursion (HasHeight (levels_in all)) (heights es)
arranged_complete es ls all o p =
    let mixed = ls ++ end_levels es in
    let here : AllByRecursion (HasHeight (levels_in all)) mixed = carry (HasHeight (levels_in all)) mixed (levels_in all) (IsPermutation-sym mixed (levels_in all) p) (each_there (levels_in all)) in
    let positive : AllByRecursion (λ (l : Level). pos 0 <ℤ l.d) mixed = carry (λ (l : Level). pos 0 <ℤ l.d) mixed (levels_in all) (IsPermutation-sym mixed (levels_in all) p) (all_positive all) in
    all_over mixed (levels_in all) (heights es) here positive (all_positive all) (heights_positive es)
    (with_ends_complete es ls o)
