-- Upwards through the levels: the winding theorem.
use Rattle.std.proofs.Common.{◌≡◌, ◌⊎◌, inl, inr, Bool, List, [], ◌∷◌, ◌++◌, sym, ap, ap₂, ◌∙◌}
use lib.IntN.{ℤ, pos, ◌+ℤ◌, +ℤ_idl, +ℤ_idr}
use lib.Signed.{◌<ℤ◌}
use Rattle.std.specs.List.{AllByRecursion}
use Rattle.std.proofs.lemmas.List.Elements.{All-from_recursion}
use Rattle.scad_geom.specs.declared.level.Level.{Level}
use Rattle.scad_geom.specs.declared.level.LeafEdge.{LeafEdge}
use Rattle.scad_geom.specs.declared.shape.Shape.{Shape}
use Rattle.scad_geom.specs.Point.{Point}
use Rattle.scad_geom.specs.Shape.{is_in_by}
use Rattle.scad_geom.specs.Level.{IsLower, IsAtMost}
use Rattle.scad_geom.specs.Heights.{AreNeighbours}
use Rattle.scad_geom.proofs.Heights.{lower_weak, same_at_most, same_at_least}
use Rattle.scad_geom.proofs.Turns.{level_at}
use Rattle.scad_geom.specs.Winding.{counted}
use Rattle.scad_geom.specs.Heights.{heights}
use Rattle.scad_geom.proofs.Heights.{at_most_chain, heights_positive}
use Rattle.scad_geom.proofs.Turns.{Over, NotOver, over_up, not_over_down}
use Rattle.slice_events.specs.Levels.{IsRising, HasHeight, AreLevels}
use Rattle.slice_pieces.specs.declared.piece.Piece.{Piece}
use Rattle.slice_pieces.specs.Pieces.{wind_pieces}
use Rattle.slice_border.specs.Pieces.{slab_pieces, flat_pieces, AreLevelPieces, ArePieces}
use Rattle.slice_pieces.proofs.Ways.{wind_pieces-append}
use Rattle.slice_border.proofs.Slabs.{slab_winding}
use Rattle.slice_border.proofs.Winding.{outside_below, outside_above, either_over, stops_still, slab_over, slab_under, two_zeros}

-- ---- the heights, seen from a level
Positive : Level → Type 0
Positive h = pos 0 <ℤ h.d

-- what a rising list has lies at its first level or above it
pub from_first : (l : Level) (ls : List Level) (h : Level)
    → AllByRecursion (λ (l : Level). pos 0 <ℤ l.d) (l ∷ ls)
    → pos 0 <ℤ h.d → IsRising (l ∷ ls) → HasHeight (l ∷ ls) h → IsAtMost l h
from_first l [] h dl dh r (inl e) = same_at_least l h e
from_first l [] h dl dh r (inr e) = absurd e
from_first l (u ∷ ls) h dl dh r (inl e) = same_at_least l h e
from_first l (u ∷ ls) h dl dh r (inr e) = at_most_chain l u h dl.0 dl.1.0 dh (lower_weak l u r.0)
    (from_first u ls h dl.1 dh r.1 e)

-- each height lies at the level or below it, or is one of the levels above it
abbrev pub UpTo : Level → List Level → Level → Type 0
UpTo l ls h = IsAtMost h l ⊎ HasHeight ls h

pub at_first : (l : Level) (ls hs : List Level) → AllByRecursion (HasHeight (l ∷ ls)) hs
    → AllByRecursion (UpTo l ls) hs
at_first l ls [] h = tt
at_first l ls (g ∷ hs) h = (first g h.0, at_first l ls hs h.1)
  where
    first : (g : Level) → HasHeight (l ∷ ls) g → UpTo l ls g
    first g (inl e) = inl (same_at_most l g e)
    first g (inr r) = inr r

pub at_next : (l u : Level) (ls hs : List Level) → pos 0 <ℤ l.d → pos 0 <ℤ u.d
    → AllByRecursion (λ (h : Level). pos 0 <ℤ h.d) hs → IsLower l u → AllByRecursion (UpTo l (u ∷ ls)) hs
    → AllByRecursion (UpTo u ls) hs
at_next l u ls [] dl du dh o h = tt
at_next l u ls (g ∷ hs) dl du dh o h = (next g dh.0 h.0, at_next l u ls hs dl du dh.1 o h.1)
  where
    next : (g : Level) → pos 0 <ℤ g.d → UpTo l (u ∷ ls) g → UpTo u ls g
    next g dg (inl e) = inl (at_most_chain g l u dg dl du e (lower_weak l u o))
    next g dg (inr (inl e)) = inl (same_at_most u g e)
    next g dg (inr (inr r)) = inr r

between_next : (l u : Level) (ls hs : List Level) → AllByRecursion (λ (l : Level). pos 0 <ℤ l.d) (u ∷ ls)
    → AllByRecursion (λ (h : Level). pos 0 <ℤ h.d) hs → IsRising (u ∷ ls)
    → AllByRecursion (UpTo l (u ∷ ls)) hs → AllByRecursion (λ h. IsAtMost h l ⊎ IsAtMost u h) hs
between_next l u ls [] du dh r h = tt
between_next l u ls (g ∷ hs) du dh r h = (next g dh.0 h.0, between_next l u ls hs du dh.1 r h.1)
  where
    next : (g : Level) → pos 0 <ℤ g.d → UpTo l (u ∷ ls) g → IsAtMost g l ⊎ IsAtMost u g
    next g dg (inl e) = inl e
    next g dg (inr e) = inr (from_first u ls g du dg r e)

pub neighbours_next : (es : List LeafEdge) (l u : Level) (ls : List Level)
    → AllByRecursion (λ (l : Level). pos 0 <ℤ l.d) (l ∷ (u ∷ ls)) → IsRising (l ∷ (u ∷ ls))
    → AllByRecursion (UpTo l (u ∷ ls)) (heights es) → AreNeighbours es l u
neighbours_next es l u ls d r h = record {
  lower_divisor = d.0;
  upper_divisor = d.1.0;
  in_order = r.0;
  between = All-from_recursion (λ h. IsAtMost h l ⊎ IsAtMost u h) (heights es) (between_next l u ls (heights es) d.1
      (heights_positive es) r.1 h);
}

-- ---- the sum over the levels
module _ (es : List LeafEdge) (shape : Shape) (above right : Bool) (p : Point) (dp : pos 0 <ℤ p.d) where
  below_all : (l : Level) (ls : List Level) (pieces : List Piece) → AllByRecursion (λ (l : Level). pos 0 <ℤ l.d)
      (l ∷ ls) → IsRising (l ∷ ls) → Over above (level_at p) l
      → AreLevelPieces es shape (l ∷ ls) pieces → wind_pieces above right p pieces ≡ pos 0
  below_all l [] pieces d r o a = ap (wind_pieces above right p) a.2 ∙ stops_still es shape above right p l a.0 a.1
  below_all l (u ∷ ls) pieces d r o a =
      let ou : Over above (level_at p) u = over_up above (level_at p) l u dp d.0 d.1.0 o (lower_weak l u r.0) in
      ap (wind_pieces above right p) a.6
      ∙ wind_pieces-append above right p (flat_pieces es shape a.0 ++ slab_pieces es shape l u a.1) a.2
      ∙ two_zeros _ _
      (wind_pieces-append above right p (flat_pieces es shape a.0) (slab_pieces es shape l u a.1)
      ∙ two_zeros _ _ (stops_still es shape above right p l a.0 a.3) (slab_over es shape above right p l u a.1 a.4 o
      ou))
      (below_all u ls a.2 d.1 r.1 ou a.5)

  pub ended : (l : Level) (hs : List Level) → pos 0 <ℤ l.d → AllByRecursion (λ (h : Level). pos 0 <ℤ h.d) hs
      → NotOver above (level_at p) l → AllByRecursion (UpTo l []) hs
      → AllByRecursion (NotOver above (level_at p)) hs
  ended l [] dl dh o h = tt
  ended l (g ∷ hs) dl dh o h = (one h.0, ended l hs dl dh.1 o h.1)
    where
      one : UpTo l [] g → NotOver above (level_at p) g
      one (inl e) = not_over_down above (level_at p) l g dp dl dh.0 o e
      one (inr e) = absurd e

  above_first : (l : Level) (ls : List Level) (pieces : List Piece) → AllByRecursion (λ (l : Level). pos 0 <ℤ l.d)
      (l ∷ ls) → IsRising (l ∷ ls) → NotOver above (level_at p) l
      → AllByRecursion (UpTo l ls) (heights es) → AreLevelPieces es shape (l ∷ ls) pieces
      → wind_pieces above right p pieces ≡ counted (is_in_by above right es shape p)
  above_first l [] pieces d r o h a =
      ap (wind_pieces above right p) a.2 ∙ stops_still es shape above right p l a.0 a.1
      ∙ sym (ap counted (outside_above es shape above right p (ended l (heights es) d.0 (heights_positive es) o h)))
  above_first l (u ∷ ls) pieces d r o h a =
      ap (wind_pieces above right p) a.6
      ∙ wind_pieces-append above right p (flat_pieces es shape a.0 ++ slab_pieces es shape l u a.1) a.2
      ∙ ap (λ (z : ℤ). z +ℤ wind_pieces above right p a.2)
      (wind_pieces-append above right p (flat_pieces es shape a.0) (slab_pieces es shape l u a.1)
      ∙ ap (λ (z : ℤ). z +ℤ wind_pieces above right p (slab_pieces es shape l u a.1))
      (stops_still es shape above right
      p l a.0 a.3)
      ∙ +ℤ_idl (wind_pieces above right p (slab_pieces es shape l u a.1)))
      ∙ elim (either_over above (level_at p) u) [
        | inl ou ↦
            ap₂ (λ (y z : ℤ). y +ℤ z)
            (slab_winding es shape above right p l u (record {
              neighbours = neighbours_next es l u ls d r h;
              divisor =
                  dp;
              spans = (o, ou);
            }) a.1 a.4)
            (below_all u ls a.2 d.1 r.1 ou a.5)
            ∙ +ℤ_idr (counted (is_in_by above right es shape p))
        | inr ou ↦
            ap₂ (λ (y z : ℤ). y +ℤ z)
            (slab_under es shape above right p l u a.1 a.4 o ou)
            (above_first u ls a.2 d.1 r.1 ou (at_next l u ls (heights es) d.0 d.1.0 (heights_positive es) r.0 h) a.5)
            ∙ +ℤ_idl (counted (is_in_by above right es shape p))
      ]

  pub over_all : (l : Level) (ls hs : List Level) → AllByRecursion (λ (l : Level). pos 0 <ℤ l.d) (l ∷ ls)
      → AllByRecursion (λ (h : Level). pos 0 <ℤ h.d) hs → IsRising (l ∷ ls) → Over above (level_at p) l
      → AllByRecursion (HasHeight (l ∷ ls)) hs → AllByRecursion (Over above (level_at p)) hs
  over_all l ls [] d dh r o h = tt
  over_all l ls (g ∷ hs) d dh r o h = (
    over_up above (level_at p) l g dp d.0 dh.0 o (from_first l ls g d dh.0 r h.0),
    over_all l ls hs d dh.1 r o h.1,
  )

  no_heights : (hs : List Level) → AllByRecursion (HasHeight []) hs → AllByRecursion (Over above (level_at p)) hs
  no_heights [] h = tt
  no_heights (g ∷ hs) h = absurd h.0

  by_levels : (ls : List Level) (pieces : List Piece) → AreLevels es ls → AreLevelPieces es shape ls pieces
      → wind_pieces above right p pieces ≡ counted (is_in_by above right es shape p)
  by_levels [] pieces v a = ap (wind_pieces above right p) a ∙ sym
      (ap counted (outside_below es shape above right p (no_heights (heights es) v.complete)))
  by_levels (l ∷ ls) pieces v a = elim (either_over above (level_at p) l) [
    | inl o ↦ below_all l ls pieces v.divisors v.rising o a ∙ sym
        (ap counted (outside_below es shape above right p (over_all l ls (heights es) v.divisors (heights_positive es)
        v.rising o v.complete)))
    | inr o ↦ above_first l ls pieces v.divisors v.rising o (at_first l ls (heights es) v.complete) a
  ]

-- hard by every point, on every side, the pieces wind once where the shape holds it and not elsewhere
pub pieces_wind : (es : List LeafEdge) (shape : Shape) (pieces : List Piece) → ArePieces es shape pieces
    → (above right : Bool) (p : Point) → pos 0 <ℤ p.d
    → wind_pieces above right p pieces ≡ counted (is_in_by above right es shape p)
pieces_wind es shape pieces a above right p dp = by_levels es shape above right p dp a.levels pieces a.are_levels
    a.are_pieces
