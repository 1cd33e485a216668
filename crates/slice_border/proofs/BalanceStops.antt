-- The flat pieces of a height make up for what changes there: walked over its stops from left to right.
use Rattle.std.proofs.Common.{◌≡◌, ℕ, ◌⊎◌, inl, inr, Bool, true, false, List, [], ◌∷◌, ◌++◌, refl, sym, ap, ◌∙◌, arith}
use lib.IntN.{ℤ, pos, ◌+ℤ◌, ◌-ℤ◌, ◌*ℤ◌, +ℤ_idl}
use lib.Signed.{◌<ℤ◌, ◌≤ℤ◌}
use Rattle.std.specs.Prelude.{Option, Some, None}
use Rattle.std.specs.List.{AllByRecursion, position}
use Rattle.std.proofs.lemmas.Int.{ints}
use Rattle.scad_geom.specs.declared.level.Level.{Level}
use Rattle.scad_geom.specs.declared.level.LeafEdge.{LeafEdge}
use Rattle.scad_geom.specs.declared.shape.Shape.{Shape}
use Rattle.scad_geom.specs.Winding.{counted}
use Rattle.scad_geom.specs.Point.{Point}
use Rattle.scad_geom.specs.Shape.{is_in_by}
use Rattle.scad_geom.specs.Level.{IsAtMost}
use Rattle.scad_geom.proofs.Ring.{ring, ◌⊕◌, ◌⊖◌, ◌⊗◌, v0, v1, v2, v3, v4, v5, v6}
use Rattle.scad_geom.proofs.Signs.{at_least_mul}
use Rattle.scad_geom.proofs.Heights.{at_most_chain, lower_weak, same_at_least, same_at_most}
use Rattle.scad_geom.proofs.Turns.{beyond_mul}
use Rattle.scad_base.proofs.Integers.{at_most_of_less, gap_of_at_most}
use Rattle.slice_pieces.specs.declared.piece.Spot.{Spot}
use Rattle.slice_pieces.specs.declared.piece.Piece.{Piece}
use Rattle.slice_pieces.specs.Spots.{point_of}
use Rattle.slice_border.specs.Pieces.{piece_between, IsLeft, GoRight, HasSpot, covers, stretch_piece, flat_pieces, across}
use Rattle.slice_border.proofs.Winding.{IsSpotAt}
use Rattle.slice_border.proofs.BalanceTurns.{gap, is_right, ahead}
use Rattle.slice_border.proofs.Passing.{beyond_more}

-- ---- what lies ahead of a point, of the ends of pieces: starts less ends
abbrev pub aheads : Bool → Point → List Piece → ℤ
aheads right p [] = pos 0
aheads right p (q ∷ qs) = (ahead right p (point_of q.from) -ℤ ahead right p (point_of q.to)) +ℤ aheads right p qs

pub aheads-append : (right : Bool) (p : Point) (qs rs : List Piece)
    → aheads right p (qs ++ rs) ≡ aheads right p qs +ℤ
    aheads right p rs
aheads-append right p [] rs = sym (+ℤ_idl (aheads right p rs))
aheads-append right p (q ∷ qs) rs = more (ahead right p (point_of q.from)) (ahead right p (point_of q.to))
    (aheads right p (qs ++ rs)) (aheads right p qs) (aheads right p rs) (aheads-append right p qs rs)
  where
    more : (x y a b c : ℤ) → a ≡ b +ℤ c → (x -ℤ y) +ℤ a ≡ ((x -ℤ y) +ℤ b) +ℤ c
    more x y a b c h = omega (arith, ints)

cancels : (x y : ℤ) → x ≡ y → (x -ℤ y) +ℤ pos 0 ≡ pos 0
cancels x y h = omega (arith, ints)

between_alike : (right : Bool) (p : Point) (v w : Bool) (s t : Spot) (name : ℕ) → ahead right p (point_of s)
    ≡ ahead right p (point_of t) → aheads right p (piece_between v w s t name) ≡ pos 0
between_alike right p true true s t name h = refl
between_alike right p true false s t name h = cancels (ahead right p (point_of s)) (ahead right p (point_of t)) h
between_alike right p false true s t name h = cancels (ahead right p (point_of t)) (ahead right p (point_of s)) (sym h)
between_alike right p false false s t name h = refl

pub between_apart : (right : Bool) (p : Point) (v w : Bool) (s t : Spot) (name : ℕ)
    → ahead right p (point_of s) ≡ pos 0 → ahead right p (point_of t) ≡ pos 1
    → aheads right p (piece_between v w s t name) ≡ counted w -ℤ counted v
between_apart right p true true s t name h k = refl
between_apart right p true false s t name h k = rw (h, k) refl
between_apart right p false true s t name h k = rw (h, k) refl
between_apart right p false false s t name h k = refl

pub stretch_alike : (right : Bool) (p : Point) (es : List LeafEdge) (shape : Shape) (s t : Spot) (name : Option ℕ)
    → ahead right p (point_of s) ≡ ahead right p (point_of t)
    → aheads right p (stretch_piece es shape s t name) ≡ pos 0
stretch_alike right p es shape s t None h = refl
stretch_alike right p es shape s t (Some name) h = between_alike right p (is_in_by true true es shape (point_of s))
    (is_in_by false true es shape (point_of s)) s t name h

two_nothings : (x a b : ℤ) → x ≡ a +ℤ b → a ≡ pos 0 → b ≡ pos 0 → x ≡ pos 0
two_nothings x a b h k m = omega (arith, ints)

-- where all stops lie alike, no flat piece counts
pub flat_alike : (right : Bool) (p : Point) (es : List LeafEdge) (shape : Shape) (c : ℤ) (stops : List Spot)
    → AllByRecursion (λ s. ahead right p (point_of s) ≡ c) stops
    → aheads right p (flat_pieces es shape stops) ≡ pos 0
flat_alike right p es shape c [] h = refl
flat_alike right p es shape c (s ∷ []) h = refl
flat_alike right p es shape c (s ∷ (t ∷ ss)) h =
    two_nothings (aheads right p (flat_pieces es shape (s ∷ (t ∷ ss))))
    (aheads right p (stretch_piece es shape s t (position (covers s t) es)))
    (aheads right p (flat_pieces es shape (t ∷ ss)))
    (aheads-append right p (stretch_piece es shape s t (position (covers s t) es)) (flat_pieces es shape (t ∷ ss)))
    (stretch_alike right p es shape s t (position (covers s t) es) (h.0 ∙ sym h.1.0))
    (flat_alike right p es shape c (t ∷ ss) h.1)

-- ---- spots of one height from left to right
-- a spot doesn't lie after one stop or is one of the later stops
abbrev pub IsUpTo : Spot → List Spot → Spot → Type 0
IsUpTo s ss w = IsAtMost (across w) (across s) ⊎ HasSpot ss w

pub from_stop : (t : Spot) (ss : List Spot) (l : Level) (w : Spot) → AllByRecursion (IsSpotAt l) (t ∷ ss)
    → pos 0 <ℤ pos w.run → GoRight (t ∷ ss) → HasSpot (t ∷ ss) w → IsAtMost (across t) (across w)
from_stop t [] l w at dw r (inl e) = same_at_least (across t) (across w) e
from_stop t [] l w at dw r (inr e) = absurd e
from_stop t (u ∷ ss) l w at dw r (inl e) = same_at_least (across t) (across w) e
from_stop t (u ∷ ss) l w at dw r (inr e) = at_most_chain (across t) (across u) (across w) at.0.runs at.1.0.runs dw
    (lower_weak (across t) (across u) r.0) (from_stop u ss l w at.1 dw r.1 e)

pub first_up_to : (s : Spot) (ss ws : List Spot) → AllByRecursion (HasSpot (s ∷ ss)) ws
    → AllByRecursion (IsUpTo s ss) ws
first_up_to s ss [] h = tt
first_up_to s ss (w ∷ ws) h = (one w h.0, first_up_to s ss ws h.1)
  where
    one : (w : Spot) → HasSpot (s ∷ ss) w → IsUpTo s ss w
    one w (inl e) = inl (same_at_most (across s) (across w) e)
    one w (inr r) = inr r

pub next_up_to : (l : Level) (s t : Spot) (ss ws : List Spot) → IsSpotAt l s → IsSpotAt l t
    → AllByRecursion (IsSpotAt l) ws → IsLeft s t → AllByRecursion (IsUpTo s (t ∷ ss)) ws
    → AllByRecursion (IsUpTo t ss) ws
next_up_to l s t ss [] hs ht hw o h = tt
next_up_to l s t ss (w ∷ ws) hs ht hw o h = (one w hw.0 h.0, next_up_to l s t ss ws hs ht hw.1 o h.1)
  where
    one : (w : Spot) → IsSpotAt l w → IsUpTo s (t ∷ ss) w → IsUpTo t ss w
    one w hw (inl e) = inl (at_most_chain (across w) (across s) (across t) hw.runs hs.runs ht.runs e
        (lower_weak (across s) (across t) o))
    one w hw (inr (inl e)) = inl (same_at_most (across t) (across w) e)
    one w hw (inr (inr r)) = inr r

-- no spot lies between two neighbouring stops
abbrev pub IsBeside : Spot → Spot → Spot → Type 0
IsBeside s t w = IsAtMost (across w) (across s) ⊎ IsAtMost (across t) (across w)

pub beside : (l : Level) (s t : Spot) (ss ws : List Spot) → AllByRecursion (IsSpotAt l) (t ∷ ss)
    → AllByRecursion (IsSpotAt l) ws → GoRight (t ∷ ss) → AllByRecursion (IsUpTo s (t ∷ ss)) ws
    → AllByRecursion (IsBeside s t) ws
beside l s t ss [] at aw r h = tt
beside l s t ss (w ∷ ws) at aw r h = (one w aw.0 h.0, beside l s t ss ws at aw.1 r h.1)
  where
    one : (w : Spot) → IsSpotAt l w → IsUpTo s (t ∷ ss) w → IsBeside s t w
    one w aw (inl e) = inl e
    one w aw (inr e) = inr (from_stop t ss l w at aw.runs r e)

-- ---- a spot further to the right lies on the right where the first does
further_identity : (sx sr wx wr px pd k : ℤ)
    → (wx *ℤ pd -ℤ px *ℤ (k *ℤ wr)) *ℤ sr ≡ (sx *ℤ pd -ℤ px *ℤ (k *ℤ sr)) *ℤ wr
    +ℤ (wx *ℤ sr -ℤ sx *ℤ wr) *ℤ pd
further_identity sx sr wx wr px pd k = ring (sx ∷ sr ∷ wx ∷ wr ∷ px ∷ pd ∷ k ∷ [])
    ((v2 ⊗ v5 ⊖ v4 ⊗ (v6 ⊗ v3)) ⊗ v1)
    ((v0 ⊗ v5 ⊖ v4 ⊗ (v6 ⊗ v1)) ⊗ v3 ⊕ (v2 ⊗ v1 ⊖ v0 ⊗ v3) ⊗ v5) refl

more_of : (a b c : ℤ) → a ≡ b +ℤ c → pos 0 ≤ℤ c → b ≤ℤ a
more_of a b c h k = omega (arith, ints)

module _ (l : Level) (right : Bool) (p : Point) (dp : pos 0 <ℤ p.d) where
  pub further : (s w : Spot) → IsSpotAt l s → IsSpotAt l w → IsAtMost (across s) (across w)
      → is_right right p (point_of s) ≡ true → is_right right p (point_of w) ≡ true
  further s w hs hw o h =
      let at : s.at ≡ w.at = hs.at ∙ sym hw.at in
      let i : gap p (point_of w) *ℤ pos s.run ≡ (s.x *ℤ p.d -ℤ p.x *ℤ (w.at.d *ℤ pos s.run)) *ℤ pos w.run +ℤ
      (w.x *ℤ pos s.run -ℤ s.x *ℤ pos w.run) *ℤ p.d = further_identity s.x (pos s.run) w.x (pos w.run) p.x p.d
      w.at.d in
      let j : gap p (point_of w) *ℤ pos s.run ≡ gap p (point_of s) *ℤ pos w.run +ℤ (w.x *ℤ pos s.run -ℤ s.x *ℤ pos
      w.run) *ℤ p.d = i ∙ ap (λ (m : Level). (s.x *ℤ p.d -ℤ p.x *ℤ (m.d *ℤ pos s.run)) *ℤ pos w.run +ℤ
      (w.x *ℤ pos s.run -ℤ s.x *ℤ pos w.run) *ℤ p.d) (sym at) in
      let m : pos 0 ≤ℤ ((w.x *ℤ pos s.run -ℤ s.x *ℤ pos w.run) *ℤ p.d) = at_least_mul (w.x *ℤ pos s.run -ℤ s.x *ℤ pos
      w.run) p.d (gap_of_at_most (s.x *ℤ pos w.run) (w.x *ℤ pos s.run) o) (at_most_of_less (pos 0) p.d dp) in
      sym (beyond_mul right (pos s.run) (gap p (point_of w)) hs.runs)
      ∙ beyond_more right (gap p (point_of s) *ℤ pos w.run) (gap p (point_of w) *ℤ pos s.run)
      (more_of (gap p (point_of w) *ℤ pos s.run) (gap p (point_of s) *ℤ pos w.run)
      ((w.x *ℤ pos s.run -ℤ s.x *ℤ pos w.run) *ℤ p.d) j m)
      (beyond_mul right (pos w.run) (gap p (point_of s)) hw.runs ∙ h)

  pub nearer : (s w : Spot) → IsSpotAt l s → IsSpotAt l w → IsAtMost (across w) (across s)
      → is_right right p (point_of s) ≡ false → is_right right p (point_of w) ≡ false
  nearer s w hs hw o h = by_test (is_right right p (point_of w)) refl
    where
      differ : (b : Bool) → b ≡ true → b ≡ false → false ≡ true
      differ b x y = sym y ∙ x

      by_test : (t : Bool) → is_right right p (point_of w) ≡ t → is_right right p (point_of w) ≡ false
      by_test false e = e
      by_test true e = e ∙ sym (differ (is_right right p (point_of s)) (further w s hw hs o e) h)

  pub all_further : (s : Spot) (ws : List Spot) → IsSpotAt l s → AllByRecursion (IsSpotAt l) ws
      → AllByRecursion (λ w. IsAtMost (across s) (across w)) ws → is_right right p (point_of s) ≡ true
      → AllByRecursion (λ w. is_right right p (point_of w) ≡ true) ws
  all_further s [] hs hw o h = tt
  all_further s (w ∷ ws) hs hw o h = (further s w hs hw.0 o.0 h, all_further s ws hs hw.1 o.1 h)

  pub all_nearer : (s : Spot) (ws : List Spot) → IsSpotAt l s → AllByRecursion (IsSpotAt l) ws
      → AllByRecursion (λ w. IsAtMost (across w) (across s)) ws → is_right right p (point_of s) ≡ false
      → AllByRecursion (λ w. is_right right p (point_of w) ≡ false) ws
  all_nearer s [] hs hw o h = tt
  all_nearer s (w ∷ ws) hs hw o h = (nearer s w hs hw.0 o.0 h, all_nearer s ws hs hw.1 o.1 h)
