-- Below all levels.
use Rattle.std.proofs.Common.{◌≡◌, ℕ, inl, inr, List, [], ◌∷◌, get_or, take, drop, refl, sym, subst}
use lib.IntN.{ℤ, pos}
use lib.Signed.{◌<ℤ◌}
use Rattle.std.specs.List.{AllByRecursion}
use Rattle.scad_geom.specs.declared.level.Level.{Level}
use Rattle.scad_geom.specs.declared.level.LeafEdge.{LeafEdge}
use Rattle.scad_geom.specs.declared.shape.Shape.{Shape}
use Rattle.scad_geom.specs.Level.{level_of, IsLower, IsAtMost}
use Rattle.scad_geom.specs.Heights.{heights}
use Rattle.scad_geom.proofs.Heights.{at_most_chain, lower_weak, same_at_least, heights_positive}
use Rattle.scad_geom.proofs.Order.{all_ends}
use Rattle.slice_events.specs.Levels.{IsRising, HasHeight, AreLevels}
use Rattle.slice_sweep.specs.Front.{IsReadyFor, StartFrom, IsBegunTo}
use Rattle.slice_outlines.specs.declared.sweep.Sweep.{Sweep}
use Rattle.slice_outlines.specs.declared.flat.Flat.{Flat}
use Rattle.slice_outlines.specs.Flats.{IsFlatOf}
use Rattle.slice_outlines.specs.Sweep.{IsReadyForFirst, IsFrontBelow, ArePassedBelowFirst}
use Rattle.slice_bundles.specs.Bundles.{no_edge}
use Rattle.slice_bundles.proofs.Beginning.{of_lower}

-- ---- the first level is the lowest height
at_or_above : (l : Level) (ls : List Level) (h : Level) → AllByRecursion (λ (u : Level). pos 0 <ℤ u.d) (l ∷ ls)
    → pos 0 <ℤ h.d → IsRising (l ∷ ls) → HasHeight (l ∷ ls) h → IsAtMost l h
at_or_above l ls h p d r (inl e) = same_at_least l h e
at_or_above l [] h p d r (inr k) = absurd k
at_or_above l (u ∷ ls) h p d r (inr k) =
    at_most_chain l u h p.0 p.1.0 d (lower_weak l u r.0) (at_or_above u ls h p.1 d r.1 k)

pub all_above_first : (l : Level) (ls hs : List Level) → AllByRecursion (λ (u : Level). pos 0 <ℤ u.d) (l ∷ ls)
    → IsRising (l ∷ ls) → AllByRecursion (λ (h : Level). pos 0 <ℤ h.d) hs
    → AllByRecursion (HasHeight (l ∷ ls)) hs → AllByRecursion (IsAtMost l) hs
all_above_first l ls [] p r d k = tt
all_above_first l ls (h ∷ hs) p r d k =
    (at_or_above l ls h p d.0 r k.0, all_above_first l ls hs p r d.1 k.1)

pub start_from : (es : List LeafEdge) (l : Level) (ls : List Level) → AreLevels es (l ∷ ls) → StartFrom l es
start_from es l ls a k d o =
    let all = all_above_first l ls (heights es) a.divisors a.rising (heights_positive es) a.complete in
    let ends = all_ends (IsAtMost l) es k d all o in
    of_lower (IsAtMost l) (get_or es k d).edge ends.0 ends.1

flats_from : (es : List LeafEdge) (l : Level) (ls : List Level) (fs : List Flat) → AreLevels es (l ∷ ls)
    → AllByRecursion (IsFlatOf es) fs → AllByRecursion (λ f. IsAtMost l (level_of f.y)) fs
flats_from es l ls [] a h = tt
flats_from es l ls (f ∷ fs) a h =
    let all = all_above_first l ls (heights es) a.divisors a.rising (heights_positive es) a.complete in
    let ends = all_ends (IsAtMost l) es f.number no_edge all h.0.there in
    (subst (λ (y : ℤ). IsAtMost l (level_of y)) h.0.height ends.0, flats_from es l ls fs a h.1)

-- ---- a sweep that begins
pub flats_above : (es : List LeafEdge) (ls : List Level) (s : Sweep) → AreLevels es ls → s.passed ≡ 0
    → AllByRecursion (IsFlatOf es) s.flats.items → ArePassedBelowFirst ls s
flats_above es [] s a e h = tt
flats_above es (l ∷ ls) s a e h = record {
  passed = subst (λ (n : ℕ). AllByRecursion (λ f. IsLower (level_of f.y) l) (take n s.flats.items)) (sym e) tt;
  later = subst (λ (n : ℕ). AllByRecursion (λ f. IsAtMost l (level_of f.y)) (drop n s.flats.items)) (sym e)
      (flats_from es l ls s.flats.items a h);
}

pub ready_first : (es : List LeafEdge) (ls : List Level) (s : Sweep) → AreLevels es ls
    → ((at : Level) → IsReadyFor es at s.front) → ((at : Level) → StartFrom at es → IsBegunTo es at s.front)
    → IsReadyForFirst es ls s
ready_first es [] s a r b = tt
ready_first es (l ∷ ls) s a r b = (r l, b l (start_from es l ls a))

pub none_below : (es : List LeafEdge) (shape : Shape) (ls : List Level) → IsFrontBelow es shape ls ls []
none_below es shape [] = tt
none_below es shape (l ∷ ls) = inl (refl, refl)
