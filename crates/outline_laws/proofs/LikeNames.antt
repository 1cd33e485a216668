-- Pieces that are the same one by one are named alike.
use Rattle.std.proofs.Common.{◌≡◌, ℕ, ◌<◌, ◌⊎◌, inl, inr, List, [], ◌∷◌, All, refl, sym, ap, ap₂, ◌∙◌, subst}
use lib.IntN.{ℤ, pos, ◌+ℤ◌, ◌-ℤ◌, ◌*ℤ◌}
use lib.Signed.{◌<ℤ◌}
use Rattle.std.specs.List.{AllByRecursion}
use Rattle.std.proofs.lemmas.List.Elements.{recursion_from_All, All-from_recursion}
use Rattle.scad_base.proofs.Products.{zero_factor, positive_product}
use Rattle.scad_geom.specs.declared.point.Edge.{Edge}
use Rattle.scad_geom.specs.declared.level.Level.{Level}
use Rattle.scad_geom.specs.Point.{Point}
use Rattle.scad_geom.specs.Line.{rise, run, offset, x_at, left_of}
use Rattle.scad_geom.specs.Winding.{side_by}
use Rattle.scad_geom.proofs.Ring.{ring, ◌⊕◌, ◌⊖◌, ◌⊗◌, v0, v1, v2, v3, v4, v5, v6}
use Rattle.winding_laws.proofs.Sameness.{AreSame, are_same, one_axis}
use Rattle.slice_pieces.specs.declared.piece.Spot.{Spot}
use Rattle.slice_pieces.specs.declared.piece.Piece.{Piece}
use Rattle.slice_pieces.specs.Spots.{point_of}
use Rattle.winding_laws.specs.Approach.{AreLevel}
use Rattle.slice_pieces.specs.Inside.{IsBelow, IsLeftOf, IsBetween, IsInside}
use Rattle.slice_pieces.specs.Naming.{IsOnLine, LiesAlong, HasLength, AreApartByName, AllPairs, AreNamed}
use Rattle.outline_laws.specs.Sameness.{AreSameSpot, AreSamePiece, ArePiecesSame}
use Rattle.outline_laws.proofs.Same.{pieces_turned}
use Rattle.outline_laws.proofs.LikePieces.{test_same}
use Rattle.scad_geom.proofs.Heights.{same_chain, lower_same, same_lower}
use Rattle.std.proofs.Math.IntN.{zero-*ℤ}

-- what is 0 over one divisor is so over the other
still_zero : (x y d f : ℤ) → pos 0 <ℤ d → x *ℤ f ≡ y *ℤ d → x ≡ pos 0 → y ≡ pos 0
still_zero x y d f h e z = zero_factor y d h (sym e ∙ ap (λ (w : ℤ). w *ℤ f) z ∙ zero-*ℤ f)

-- ---- points on a line
module _ (a c : Point) (da : pos 0 <ℤ a.d) (e : AreSame a c) where
  left_same : (f : Edge) → left_of f a.x a.y a.d *ℤ c.d ≡ left_of f c.x c.y c.d *ℤ a.d
  unfolding left_of x_at
  left_same f =
      ring (run f ∷ a.y ∷ offset f ∷ a.d ∷ rise f ∷ a.x ∷ c.d ∷ []) ((v0 ⊗ v1 ⊕ v2 ⊗ v3 ⊖ v4 ⊗ v5) ⊗ v6)
      (v0 ⊗ (v1 ⊗ v6) ⊕ (v2 ⊗ v6) ⊗ v3 ⊖ v4 ⊗ (v5 ⊗ v6)) refl
      ∙ ap₂ (λ (y x : ℤ). run f *ℤ y +ℤ (offset f *ℤ c.d) *ℤ a.d -ℤ rise f *ℤ x) e.y e.x
      ∙ ring (run f ∷ c.y ∷ offset f ∷ c.d ∷ rise f ∷ c.x ∷ a.d ∷ []) (v0 ⊗ (v1 ⊗ v6) ⊕ (v2 ⊗ v3) ⊗ v6 ⊖ v4 ⊗ (v5 ⊗ v6))
      ((v0 ⊗ v1 ⊕ v2 ⊗ v3 ⊖ v4 ⊗ v5) ⊗ v6) refl

  line_same : (f : Edge) → IsOnLine f a → IsOnLine f c
  line_same f h = still_zero (left_of f a.x a.y a.d) (left_of f c.x c.y c.d) a.d c.d da (left_same f) h

-- ---- points inside a segment
-- the difference of two coordinates, one of them over another divisor
first_carried : (b k x d y f : ℤ) → x *ℤ f ≡ y *ℤ d → (b *ℤ d -ℤ x *ℤ k) *ℤ f ≡ (b *ℤ f -ℤ y *ℤ k) *ℤ d
first_carried b k x d y f h =
    ring (b ∷ k ∷ x ∷ d ∷ f ∷ []) ((v0 ⊗ v3 ⊖ v2 ⊗ v1) ⊗ v4) ((v0 ⊗ v4) ⊗ v3 ⊖ (v2 ⊗ v4) ⊗ v1) refl
    ∙ ap (λ (z : ℤ). (b *ℤ f) *ℤ d -ℤ z *ℤ k) h
    ∙ ring (b ∷ k ∷ y ∷ d ∷ f ∷ []) ((v0 ⊗ v4) ⊗ v3 ⊖ (v2 ⊗ v3) ⊗ v1) ((v0 ⊗ v4 ⊖ v2 ⊗ v1) ⊗ v3) refl

both_carried : (s t u v s' t' u' v' d f : ℤ) → s *ℤ f ≡ s' *ℤ d → t *ℤ f ≡ t' *ℤ d → u *ℤ f ≡ u' *ℤ d → v *ℤ f ≡ v' *ℤ d
    → (s *ℤ t -ℤ u *ℤ v) *ℤ (f *ℤ f) ≡ (s' *ℤ t' -ℤ u' *ℤ v') *ℤ (d *ℤ d)
both_carried s t u v s' t' u' v' d f hs ht hu hv =
    ring (s ∷ t ∷ u ∷ v ∷ f ∷ []) ((v0 ⊗ v1 ⊖ v2 ⊗ v3) ⊗ (v4 ⊗ v4)) ((v0 ⊗ v4) ⊗ (v1 ⊗ v4) ⊖ (v2 ⊗ v4) ⊗ (v3 ⊗ v4)) refl
    ∙ ap₂ (λ (x y : ℤ). x -ℤ y) (ap₂ (λ (x y : ℤ). x *ℤ y) hs ht) (ap₂ (λ (x y : ℤ). x *ℤ y) hu hv)
    ∙ ring (s' ∷ t' ∷ u' ∷ v' ∷ d ∷ []) ((v0 ⊗ v4) ⊗ (v1 ⊗ v4) ⊖ (v2 ⊗ v4) ⊗ (v3 ⊗ v4))
    ((v0 ⊗ v1 ⊖ v2 ⊗ v3) ⊗ (v4 ⊗ v4)) refl

once_carried : (s t u v s' u' d f : ℤ) → s *ℤ f ≡ s' *ℤ d → u *ℤ f ≡ u' *ℤ d → (s *ℤ t -ℤ u *ℤ v) *ℤ f
    ≡ (s' *ℤ t -ℤ u' *ℤ v) *ℤ d
once_carried s t u v s' u' d f hs hu =
    ring (s ∷ t ∷ u ∷ v ∷ f ∷ []) ((v0 ⊗ v1 ⊖ v2 ⊗ v3) ⊗ v4) ((v0 ⊗ v4) ⊗ v1 ⊖ (v2 ⊗ v4) ⊗ v3) refl
    ∙ ap₂ (λ (x y : ℤ). x *ℤ t -ℤ y *ℤ v) hs hu
    ∙ ring (s' ∷ t ∷ u' ∷ v ∷ d ∷ []) ((v0 ⊗ v4) ⊗ v1 ⊖ (v2 ⊗ v4) ⊗ v3) ((v0 ⊗ v1 ⊖ v2 ⊗ v3) ⊗ v4) refl

start_moved : (a b c p : Point) → AreSame a c → side_by p a b *ℤ (c.d *ℤ c.d) ≡ side_by p c b *ℤ (a.d *ℤ a.d)
unfolding side_by
start_moved a b c p e =
    both_carried (b.x *ℤ a.d -ℤ a.x *ℤ b.d) (p.y *ℤ a.d -ℤ a.y *ℤ p.d) (b.y *ℤ a.d -ℤ a.y *ℤ b.d)
    (p.x *ℤ a.d -ℤ a.x *ℤ p.d)
    (b.x *ℤ c.d -ℤ c.x *ℤ b.d) (p.y *ℤ c.d -ℤ c.y *ℤ p.d) (b.y *ℤ c.d -ℤ c.y *ℤ b.d) (p.x *ℤ c.d -ℤ c.x *ℤ p.d) a.d c.d
    (first_carried b.x b.d a.x a.d c.x c.d e.x) (first_carried p.y p.d a.y a.d c.y c.d e.y)
    (first_carried b.y b.d a.y a.d c.y c.d e.y) (first_carried p.x p.d a.x a.d c.x c.d e.x)

end_moved : (c b d p : Point) → AreSame b d → side_by p c b *ℤ d.d ≡ side_by p c d *ℤ b.d
unfolding side_by
end_moved c b d p e =
    once_carried (b.x *ℤ c.d -ℤ c.x *ℤ b.d) (p.y *ℤ c.d -ℤ c.y *ℤ p.d) (b.y *ℤ c.d -ℤ c.y *ℤ b.d)
    (p.x *ℤ c.d -ℤ c.x *ℤ p.d)
    (d.x *ℤ c.d -ℤ c.x *ℤ d.d) (d.y *ℤ c.d -ℤ c.y *ℤ d.d) b.d d.d (one_axis b.x b.d d.x d.d c.x c.d e.x)
    (one_axis b.y b.d d.y d.d c.y c.d e.y)

abbrev height : Point → Level
height p = record { n = p.y; d = p.d }

abbrev across : Point → Level
across p = record { n = p.x; d = p.d }

module _ (a b c d p : Point) (da : pos 0 <ℤ a.d) (db : pos 0 <ℤ b.d) (dc : pos 0 <ℤ c.d) (dd : pos 0 <ℤ d.d) (dp : pos 0 <ℤ p.d) (e : AreSame a c) (g : AreSame b d) where
  line_moved : side_by p a b ≡ pos 0 → side_by p c d ≡ pos 0
  line_moved h =
      still_zero (side_by p c b) (side_by p c d) b.d d.d db (end_moved c b d p g)
      (still_zero (side_by p a b) (side_by p c b) (a.d *ℤ a.d) (c.d *ℤ c.d) (positive_product a.d a.d da da)
      (start_moved a b c p e) h)

  below_moved : IsBetween IsBelow a p b → IsBetween IsBelow c p d
  below_moved (inl h) = inl (
    same_lower (height c) (height a) (height p) dc da dp (sym e.y) h.0,
    lower_same (height p)
        (height b) (height d) dp db dd h.1 g.y,
  )
  below_moved (inr h) = inr (
    same_lower (height d) (height b) (height p) dd db dp (sym g.y) h.0,
    lower_same (height p)
        (height a) (height c) dp da dc h.1 e.y,
  )

  left_moved : IsBetween IsLeftOf a p b → IsBetween IsLeftOf c p d
  left_moved (inl h) = inl (
    same_lower (across c) (across a) (across p) dc da dp (sym e.x) h.0,
    lower_same (across p)
        (across b) (across d) dp db dd h.1 g.x,
  )
  left_moved (inr h) = inr (
    same_lower (across d) (across b) (across p) dd db dp (sym g.x) h.0,
    lower_same (across p)
        (across a) (across c) dp da dc h.1 e.x,
  )

  between_moved : IsBetween IsBelow a p b ⊎ (AreLevel a p × AreLevel p b × IsBetween IsLeftOf a p b)
      → IsBetween IsBelow c p d ⊎ (AreLevel c p × AreLevel p d × IsBetween IsLeftOf c p d)
  between_moved (inl h) = inl (below_moved h)
  between_moved (inr h) = inr (
    same_chain (height c) (height a) (height p) dc da dp (sym e.y) h.0,
    same_chain (height p)
        (height b) (height d) dp db dd h.1 g.y,
    left_moved h.2,
  )

  inside_moved : IsInside a b p → IsInside c d p
  inside_moved h = record { on_line = line_moved h.on_line; between = between_moved h.between }

-- ---- names
spots_same : (s t : Spot) → AreSameSpot s t → AreSame (point_of s) (point_of t)
spots_same s t h = are_same (point_of s) (point_of t) h.same

inside_same : (q r : Piece) → AreSamePiece q r → (p : Point) → pos 0 <ℤ p.d → IsInside (point_of q.from) (point_of q.to)
    p → IsInside (point_of r.from) (point_of r.to) p
inside_same q r h p dp i =
    inside_moved (point_of q.from) (point_of q.to) (point_of r.from) (point_of r.to) p h.from.first h.to.first
    h.from.second h.to.second dp
    (spots_same q.from r.from h.from) (spots_same q.to r.to h.to) i

apart_same : (q r q' r' : Piece) → AreSamePiece q' q → AreSamePiece r' r → AreApartByName q r → AreApartByName q' r'
apart_same q r q' r' h k a n p dp i j = a (sym h.name ∙ n ∙ k.name) p dp (inside_same q' q h p dp i)
    (inside_same r' r k p dp j)

all_apart : (q q' : Piece) → AreSamePiece q' q → (rs rs' : List Piece) → ArePiecesSame rs' rs
    → AllByRecursion (AreApartByName q) rs → AllByRecursion (AreApartByName q') rs'
all_apart q q' h [] [] k a = tt
all_apart q q' h [] (r' ∷ rs') k a = absurd k
all_apart q q' h (r ∷ rs) [] k a = tt
all_apart q q' h (r ∷ rs) (r' ∷ rs') k a = (apart_same q r q' r' h k.0 a.0, all_apart q q' h rs rs' k.1 a.1)

pairs_apart : (qs rs : List Piece) → ArePiecesSame rs qs → AllPairs AreApartByName qs → AllPairs AreApartByName rs
pairs_apart [] [] k a = tt
pairs_apart [] (r ∷ rs) k a = absurd k
pairs_apart (q ∷ qs) [] k a = tt
pairs_apart (q ∷ qs) (r ∷ rs) k a = (all_apart q r k.0 qs rs k.1 a.0, pairs_apart qs rs k.1 a.1)

all_same : (P : Piece → Type 0) → ((q r : Piece) → AreSamePiece q r → P q → P r) → (qs rs : List Piece)
    → ArePiecesSame qs rs → AllByRecursion P qs → AllByRecursion P rs
all_same P f [] [] h a = tt
all_same P f [] (r ∷ rs) h a = absurd h
all_same P f (q ∷ qs) [] h a = tt
all_same P f (q ∷ qs) (r ∷ rs) h a = (f q r h.0 a.0, all_same P f qs rs h.1 a.1)

all_too : (P : Piece → Type 0) → ((q r : Piece) → AreSamePiece q r → P q → P r) → (qs rs : List Piece)
    → ArePiecesSame qs rs → All P qs → All P rs
all_too P f qs rs h a = All-from_recursion P rs (all_same P f qs rs h (recursion_from_All P qs a))

along_same : (e : Edge) (q r : Piece) → AreSamePiece q r → LiesAlong e q → LiesAlong e r
along_same e q r h a = record {
  length = a.length;
  from = line_same (point_of q.from) (point_of r.from) h.from.first (spots_same q.from r.from h.from) e a.from;
  to = line_same (point_of q.to) (point_of r.to) h.to.first (spots_same q.to r.to h.to) e a.to;
}

pub named_same : (count : ℕ) (edge : ℕ → Edge) (qs rs : List Piece) → ArePiecesSame qs rs → AreNamed count edge qs
    → AreNamed count edge rs
named_same count edge qs rs h a = record {
  there = all_too (λ q. q.edge < count) (λ q r k b. subst (λ (n : ℕ). n < count) k.name b) qs rs h a.there;
  lengths = all_too HasLength (λ q r k b. sym (test_same q.from r.from q.to r.to k.from k.to) ∙ b) qs rs h a.lengths;
  lines = all_too (λ q. LiesAlong (edge q.edge) q) (λ q r k b. subst (λ (n : ℕ). LiesAlong (edge n) r) k.name
      (along_same (edge q.edge) q r k b)) qs rs h a.lines;
  apart = pairs_apart qs rs (pieces_turned qs rs h) a.apart;
}
