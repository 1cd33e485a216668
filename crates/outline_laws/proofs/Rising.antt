-- Levels that rise are told by their heights: two rising lists with the same heights have them one by one.
use Rattle.std.proofs.Common.{inl, inr, List, [], ◌∷◌, sym, arith}
use lib.IntN.{pos}
use lib.Signed.{◌<ℤ◌}
use Rattle.std.specs.List.{AllByRecursion, AllZip}
use Rattle.std.proofs.lemmas.Int.{ints}
use Rattle.scad_geom.specs.declared.level.Level.{Level}
use Rattle.scad_geom.specs.declared.level.LeafEdge.{LeafEdge}
use Rattle.scad_geom.specs.Level.{IsLower, IsAtMost, IsSameHeight}
use Rattle.scad_geom.specs.Heights.{heights}
use Rattle.scad_geom.proofs.Heights.{at_most_chain, heights_positive}
use Rattle.slice_events.specs.Levels.{IsRising, HasHeight, AreLevels}
use Rattle.outline_laws.proofs.Distinct.{lifted}
use Rattle.scad_geom.proofs.Heights.{same_at_least, same_chain, lower_same}

abbrev pub HasDivisor : Level → Type 0
HasDivisor l = pos 0 <ℤ l.d

module _ (p q r : Level) (dp : HasDivisor p) (dq : HasDivisor q) (dr : HasDivisor r) where
  pub at_most_same : IsAtMost p q → IsSameHeight q r → IsAtMost p r
  at_most_same h k = at_most_chain p q r dp dq dr h (same_at_least q r k)

  pub same_then_at_most : IsSameHeight p q → IsAtMost q r → IsAtMost p r
  same_then_at_most h k = at_most_chain p q r dp dq dr (same_at_least p q h) k

-- ---- those after the first lie above it
above_first : (l : Level) (ls : List Level) → HasDivisor l → AllByRecursion HasDivisor ls → IsRising (l ∷ ls)
    → AllByRecursion (IsLower l) ls
above_first l [] dl ds r = tt
above_first l (m ∷ ls) dl ds r = (
  r.0,
  lifted (λ (l : Level). l) l m ls dl ds.0 ds.1 r.0
      (above_first m ls ds.0 ds.1 r.1),
)

rest_rises : (l : Level) (ls : List Level) → IsRising (l ∷ ls) → IsRising ls
rest_rises l [] r = tt
rest_rises l (m ∷ ls) r = r.1

-- ---- heights among levels
below_found : (q p : Level) (ms : List Level) → HasDivisor q → HasDivisor p → AllByRecursion HasDivisor ms
    → AllByRecursion (IsLower q) ms → HasHeight ms p → IsLower q p
below_found q p [] dq dp ds a h = absurd h
below_found q p (m ∷ ms) dq dp ds a (inl e) = lower_same q m p dq ds.0 dp a.0 e
below_found q p (m ∷ ms) dq dp ds a (inr h) = below_found q p ms dq dp ds.1 a.1 h

pub has_same : (ms : List Level) (p q : Level) → AllByRecursion HasDivisor ms → HasDivisor p → HasDivisor q
    → HasHeight ms p → IsSameHeight p q → HasHeight ms q
has_same [] p q ds dp dq h e = absurd h
has_same (m ∷ ms) p q ds dp dq (inl k) e = inl (same_chain m p q ds.0 dp dq k e)
has_same (m ∷ ms) p q ds dp dq (inr h) e = inr (has_same ms p q ds.1 dp dq h e)

first_same : (l m : Level) (ls ms : List Level) → HasDivisor l → HasDivisor m → AllByRecursion HasDivisor ls
    → AllByRecursion HasDivisor ms
    → AllByRecursion (IsLower l) ls → AllByRecursion (IsLower m) ms → HasHeight (m ∷ ms) l → HasHeight (l ∷ ls) m
    → IsSameHeight l m
first_same l m ls ms dl dm ds es a b (inl e) k = sym e
first_same l m ls ms dl dm ds es a b (inr h) (inl e) = e
first_same l m ls ms dl dm ds es a b (inr h) (inr k) =
    let up : IsLower m l = below_found m l ms dm dl es b h in
    let down : IsLower l m = below_found l m ls dl dm ds a k in
    absurd (omega (arith, ints))

without_first : (l m : Level) (ls ms : List Level) → IsSameHeight l m → AllByRecursion (IsLower l) ls → HasDivisor l
    → HasDivisor m → AllByRecursion HasDivisor ls → AllByRecursion (HasHeight (m ∷ ms)) ls
    → AllByRecursion (HasHeight ms) ls
without_first l m [] ms e a dl dm ds h = tt
without_first l m (u ∷ ls) ms e a dl dm ds h = (later h.0, without_first l m ls ms e a.1 dl dm ds.1 h.1)
  where
    later : HasHeight (m ∷ ms) u → HasHeight ms u
    later (inl k) =
        let same : IsSameHeight l u = same_chain l m u dl dm ds.0 e k in
        let low : IsLower l u = a.0 in
        absurd (omega (arith, ints))
    later (inr k) = k

pub one_by_one : (ls ms : List Level) → AllByRecursion HasDivisor ls → AllByRecursion HasDivisor ms → IsRising ls
    → IsRising ms
    → AllByRecursion (HasHeight ms) ls → AllByRecursion (HasHeight ls) ms → AllZip IsSameHeight ls ms
one_by_one [] [] dl dm r s h k = tt
one_by_one [] (m ∷ ms) dl dm r s h k = absurd k.0
one_by_one (l ∷ ls) [] dl dm r s h k = absurd h.0
one_by_one (l ∷ ls) (m ∷ ms) dl dm r s h k =
    let a : AllByRecursion (IsLower l) ls = above_first l ls dl.0 dl.1 r in
    let b : AllByRecursion (IsLower m) ms = above_first m ms dm.0 dm.1 s in
    let e : IsSameHeight l m = first_same l m ls ms dl.0 dm.0 dl.1 dm.1 a b h.0 k.0 in (
      e,
      one_by_one ls ms dl.1 dm.1 (rest_rises l ls r) (rest_rises m ms s)
          (without_first l m ls ms e a dl.0 dm.0 dl.1 h.1) (without_first m l ms ls (sym e) b dm.0 dl.0 dm.1 k.1),
    )

-- ---- levels of one list of edges
module _ (ms : List Level) (dm : AllByRecursion HasDivisor ms) where
  carried : (hs : List Level) (p : Level) → AllByRecursion HasDivisor hs → HasDivisor p → AllByRecursion (HasHeight ms)
      hs → HasHeight hs p → HasHeight ms p
  carried [] p dh dp c h = absurd h
  carried (u ∷ hs) p dh dp c (inl e) = has_same ms u p dm dh.0 dp c.0 e
  carried (u ∷ hs) p dh dp c (inr h) = carried hs p dh.1 dp c.1 h

  all_carried : (hs ls : List Level) → AllByRecursion HasDivisor hs → AllByRecursion HasDivisor ls
      → AllByRecursion (HasHeight ms) hs → AllByRecursion (HasHeight hs) ls → AllByRecursion (HasHeight ms) ls
  all_carried hs [] dh dl c h = tt
  all_carried hs (l ∷ ls) dh dl c h = (carried hs l dh dl.0 c h.0, all_carried hs ls dh dl.1 c h.1)

pub levels_same : (es : List LeafEdge) (ls ms : List Level) → AreLevels es ls → AreLevels es ms
    → AllZip IsSameHeight ls ms
levels_same es ls ms a b =
    one_by_one ls ms a.divisors b.divisors a.rising b.rising
    (all_carried ms b.divisors (heights es) ls (heights_positive es) a.divisors b.complete a.sound)
    (all_carried ls a.divisors (heights es) ms (heights_positive es) b.divisors a.complete b.sound)
