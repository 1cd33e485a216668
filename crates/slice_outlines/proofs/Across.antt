-- Spots of one height from left to right.
use Rattle.std.proofs.Common.{◌⊎◌, arith}
use lib.IntN.{ℤ, pos, ◌*ℤ◌}
use lib.Signed.{◌<ℤ◌, ◌≤ℤ◌}
use Rattle.std.proofs.lemmas.Int.{ints}
use Rattle.scad_geom.specs.declared.level.Level.{Level}
use Rattle.scad_geom.proofs.Heights.{lower_then_at_most, at_most_then_lower, at_most_chain, lower_chain, lower_weak, same_at_least, same_at_most}
use Rattle.slice_pieces.specs.declared.piece.Spot.{Spot}
use Rattle.slice_border.specs.Pieces.{across, IsLeft, IsSameAcross}
use Rattle.slice_border.proofs.Winding.{IsSpotAt}
use Rattle.slice_outlines.specs.Heights.{IsNotRightOf}

le_or_less : (a b : ℤ) → (a <ℤ b) ⊎ (b ≤ℤ a)
le_or_less a b = grind (arith, ints)

not_less : (a b : ℤ) → (a <ℤ b → ⊥) → b ≤ℤ a
not_less a b h = grind (arith, ints)

less_not : (a b : ℤ) → b ≤ℤ a → a <ℤ b → ⊥
less_not a b h k = omega (arith, ints)

pub left_or_not : (s t : Spot) → IsLeft s t ⊎ IsNotRightOf t s
left_or_not s t = le_or_less (s.x *ℤ pos t.run) (t.x *ℤ pos s.run)

pub not_left : (s t : Spot) → (IsLeft s t → ⊥) → IsNotRightOf t s
not_left s t h = not_less (s.x *ℤ pos t.run) (t.x *ℤ pos s.run) h

pub left_not : (s t : Spot) → IsNotRightOf t s → IsLeft s t → ⊥
left_not s t h k = less_not (s.x *ℤ pos t.run) (t.x *ℤ pos s.run) h k

pub weakly : (s t : Spot) → IsLeft s t → IsNotRightOf s t
weakly s t h = lower_weak (across s) (across t) h

module _ (l : Level) where
  pub left_chain : (s t u : Spot) → IsSpotAt l s → IsSpotAt l t → IsSpotAt l u → IsLeft s t → IsLeft t u → IsLeft s u
  left_chain s t u hs ht hu = lower_chain (across s) (across t) (across u) hs.runs ht.runs hu.runs

  pub by_then_left : (s t u : Spot) → IsSpotAt l s → IsSpotAt l t → IsSpotAt l u → IsNotRightOf s t → IsLeft t u
      → IsLeft s u
  by_then_left s t u hs ht hu = at_most_then_lower (across s) (across t) (across u) hs.runs ht.runs hu.runs

  pub left_then_by : (s t u : Spot) → IsSpotAt l s → IsSpotAt l t → IsSpotAt l u → IsLeft s t → IsNotRightOf t u
      → IsLeft s u
  left_then_by s t u hs ht hu = lower_then_at_most (across s) (across t) (across u) hs.runs ht.runs hu.runs

  pub by_chain : (s t u : Spot) → IsSpotAt l s → IsSpotAt l t → IsSpotAt l u → IsNotRightOf s t → IsNotRightOf t u
      → IsNotRightOf s u
  by_chain s t u hs ht hu = at_most_chain (across s) (across t) (across u) hs.runs ht.runs hu.runs

  pub same_not_right : (s t u : Spot) → IsSpotAt l s → IsSpotAt l t → IsSpotAt l u → IsSameAcross s t → IsSameAcross u t
      → IsNotRightOf s u
  same_not_right s t u hs ht hu e f =
      by_chain s t u hs ht hu (same_at_least (across s) (across t) e) (same_at_most (across u) (across t) f)

  pub same_then_left : (s t u : Spot) → IsSpotAt l s → IsSpotAt l t → IsSpotAt l u → IsSameAcross s t → IsLeft t u
      → IsLeft s u
  same_then_left s t u hs ht hu e o = by_then_left s t u hs ht hu (same_at_least (across s) (across t) e) o

  -- what is so at a spot is so at each other at the same place
  abbrev pub IsClosed : (Spot → Type 0) → Type 0
  IsClosed P = (s t : Spot) → IsSpotAt l s → IsSpotAt l t → IsSameAcross s t → P s → P t

  module _ (c : Spot) (hc : IsSpotAt l c) where
    pub closed_left : IsClosed (λ s. IsLeft s c)
    closed_left s t hs ht e o =
        by_then_left t s c ht hs hc (same_at_most (across s) (across t) e) o

    pub closed_right : IsClosed (λ s. IsLeft c s)
    closed_right s t hs ht e o = left_then_by c s t hc hs ht o (same_at_least (across s) (across t) e)

    pub closed_by : IsClosed (λ s. IsNotRightOf s c)
    closed_by s t hs ht e o = by_chain t s c ht hs hc (same_at_most (across s) (across t) e) o

    pub closed_from : IsClosed (λ s. IsNotRightOf c s)
    closed_from s t hs ht e o = by_chain c s t hc hs ht o (same_at_least (across s) (across t) e)
