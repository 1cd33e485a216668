-- Upwards through the levels: as many pieces start at a point as end there.
use Rattle.std.proofs.Common.{◌≡◌, ℕ, ◌+◌, ◌⊎◌, inl, inr, Bool, true, false, List, [], ◌∷◌, ◌++◌, refl, sym, ap, ap₂, ◌∙◌, arith, subst}
use lib.IntN.{ℤ, pos, ◌+ℤ◌, ◌-ℤ◌, ◌*ℤ◌}
use lib.Signed.{◌<ℤ◌}
use Rattle.std.specs.Prelude.{unsigned_abs}
use Rattle.std.specs.List.{AllByRecursion, concat}
use Rattle.std.proofs.lemmas.Int.{ints}
use Rattle.slice_pieces.specs.Pieces.{way_of, ways_of}
use Rattle.scad_geom.proofs.Balance.{once, starts-cons, ends-cons}
use Rattle.scad_geom.specs.declared.level.Level.{Level}
use Rattle.scad_geom.specs.declared.level.LeafEdge.{LeafEdge}
use Rattle.scad_geom.specs.declared.shape.Shape.{Shape}
use Rattle.scad_geom.specs.Line.{rise}
use Rattle.scad_geom.specs.Winding.{counted}
use Rattle.scad_geom.specs.Point.{Point, whole}
use Rattle.scad_geom.specs.Winding.{turn}
use Rattle.scad_geom.specs.Shape.{is_in_by}
use Rattle.scad_geom.specs.Level.{level_of, IsLower}
use Rattle.scad_geom.specs.Heights.{heights, meetings}
use Rattle.scad_base.proofs.Products.{positive_product}
use Rattle.scad_geom.proofs.Heights.{lower_then_at_most, at_most_then_lower, lower_weak, same_at_least, same_at_most}
use Rattle.scad_geom.proofs.Order.{back}
use Rattle.scad_geom.proofs.Turns.{level_at}
use Rattle.slice_events.specs.Levels.{IsRising, HasHeight}
use Rattle.slice_bundles.specs.Bundles.{edge_at, AreRanked, AreBundles}
use Rattle.slice_pieces.specs.declared.piece.Spot.{Spot}
use Rattle.slice_pieces.specs.declared.piece.Piece.{Piece}
use Rattle.slice_border.specs.Pieces.{spot_on, piece_between, bundle_piece, slab_pieces, flat_pieces, AreStops, AreLevelPieces, ArePieces}
use Rattle.slice_pieces.specs.Spots.{point_of}
use Rattle.slice_pieces.specs.Pieces.{wind_pieces}
use Rattle.scad_geom.specs.Leaves.{AreLeavesBalanced}
use Rattle.scad_geom.specs.Point.{is_same_point}
use Rattle.scad_geom.specs.Balance.{starts_at, ends_at}
use Rattle.slice_pieces.specs.Pieces.{ArePiecesBalanced}
use Rattle.slice_border.proofs.Passing.{IsLive, live_bundles}
use Rattle.slice_border.proofs.Middle.{size_of, half_point, lower_scaled, scaled_below}
use Rattle.slice_pieces.proofs.Ways.{wind_pieces-append}
use Rattle.slice_border.proofs.Winding.{stops_still, with_zero}
use Rattle.slice_border.proofs.Walk.{pieces_wind}
use Rattle.slice_border.proofs.BalanceTurns.{ahead, three_ways, ahead_over, ahead_under, ahead_both, step_up, step_down}
use Rattle.slice_border.proofs.BalanceEdges.{IsAside, level_values}
use Rattle.slice_border.proofs.BalanceStops.{aheads, aheads-append}
use Rattle.slice_border.proofs.BalanceFlat.{flat_change, flat_over, flat_under}

-- how the winding of pieces hard above a point differs from that hard below it
abbrev steps : Bool → Point → List Piece → ℤ
steps right p qs = wind_pieces true right p qs -ℤ wind_pieces false right p qs

steps-append : (right : Bool) (p : Point) (qs rs : List Piece)
    → steps right p (qs ++ rs) ≡ steps right p qs +ℤ steps
    right p rs
steps-append right p qs rs =
    more (wind_pieces true right p (qs ++ rs)) (wind_pieces false right p (qs ++ rs)) (wind_pieces true right p qs)
    (wind_pieces true right p rs) (wind_pieces false right p qs) (wind_pieces false right p rs)
    (wind_pieces-append true right p qs rs) (wind_pieces-append false right p qs rs)
  where
    more : (t f a b c d : ℤ) → t ≡ a +ℤ b → f ≡ c +ℤ d → t -ℤ f ≡ (a -ℤ c) +ℤ (b -ℤ d)
    more t f a b c d h k = omega (arith, ints)

-- ---- the pieces of a slab
one_step : (t f x y : ℤ) → t -ℤ f ≡ x -ℤ y → (x -ℤ y) +ℤ pos 0 ≡ (t +ℤ pos 0) -ℤ (f +ℤ pos 0)
one_step t f x y h = omega (arith, ints)

between_steps : (right : Bool) (p : Point) (v w : Bool) (s t : Spot) (name : ℕ)
    → turn true right p (point_of s) (point_of t) -ℤ turn false right p (point_of s) (point_of t) ≡ ahead right p
    (point_of s) -ℤ ahead right p (point_of t)
    → turn true right p (point_of t) (point_of s) -ℤ turn false right p (point_of t) (point_of s) ≡ ahead right p
    (point_of t) -ℤ ahead right p (point_of s)
    → aheads right p (piece_between v w s t name) ≡ steps right p (piece_between v w s t name)
between_steps right p true true s t name h k = refl
between_steps right p true false s t name h k = one_step (turn true right p (point_of s) (point_of t))
    (turn false right p (point_of s) (point_of t)) (ahead right p (point_of s)) (ahead right p (point_of t)) h
between_steps right p false true s t name h k = one_step (turn true right p (point_of t) (point_of s))
    (turn false right p (point_of t) (point_of s)) (ahead right p (point_of t)) (ahead right p (point_of s)) k
between_steps right p false false s t name h k = refl

sums : (x y a b c d : ℤ) → x ≡ a +ℤ b → y ≡ c +ℤ d → a ≡ c → b ≡ d → x ≡ y
sums x y a b c d h k m n = omega (arith, ints)

module _ (es : List LeafEdge) (shape : Shape) (right : Bool) (p : Point) (dp : pos 0 <ℤ p.d) (l u : Level) (dl : pos 0 <ℤ l.d) (du : pos 0 <ℤ u.d) (o : IsLower l u) where
  bundle_steps : (k : ℕ) (ks : List ℕ) → IsLive es l u k → aheads right p (bundle_piece es shape l u (k ∷ ks))
      ≡ steps right p (bundle_piece es shape l u (k ∷ ks))
  bundle_steps k ks lk =
      let rises = lk.reaches.rises in
      let r : ℤ = pos (unsigned_abs (rise (edge_at es k))) in
      let pr : pos 0 <ℤ r = subst (λ (z : ℤ). pos 0 <ℤ z) (sym (size_of (rise (edge_at es k)) rises)) rises in
      let s : Spot = spot_on (edge_at es k) l in
      let t : Spot = spot_on (edge_at es k) u in
      let ds : pos 0 <ℤ (point_of s).d = positive_product l.d r dl pr in
      let dt : pos 0 <ℤ (point_of t).d = positive_product u.d r du pr in
      let up : IsLower (level_at (point_of s)) (level_at (point_of t)) = scaled_below (level_at (point_of t)) l r pr
      (lower_scaled l u r pr o) in
      between_steps right p (is_in_by true false es shape (half_point es l u k))
      (is_in_by true true es shape (half_point es l u k)) s t k
      (step_up right p (point_of s) (point_of t) dp ds dt up) (step_down right p (point_of t) (point_of s) dp dt ds up)

  slab_steps : (bs : List (List ℕ)) → AreRanked es l bs → AllByRecursion (IsLive es l u) (concat bs)
      → aheads right p (slab_pieces es shape l u bs) ≡ steps right p (slab_pieces es shape l u bs)
  slab_steps [] r ls = refl
  slab_steps ([] ∷ bs) r ls = absurd r.0
  slab_steps ((k ∷ ks) ∷ bs) r ls =
      sums _ _ _ _ _ _
      (aheads-append right p (bundle_piece es shape l u (k ∷ ks)) (slab_pieces es shape l u bs))
      (steps-append right p (bundle_piece es shape l u (k ∷ ks)) (slab_pieces es shape l u bs))
      (bundle_steps k ks ls.0)
      (slab_steps bs r.2 (back (IsLive es l u) (k ∷ ks) (concat bs) ls))

-- ---- level by level
nothing_less : (y z : ℤ) → y ≡ pos 0 → z ≡ pos 0 → y -ℤ z ≡ pos 0
nothing_less y z h k = omega (arith, ints)

flat_steps : (es : List LeafEdge) (shape : Shape) (right : Bool) (p : Point) (l : Level) (stops : List Spot)
    → AreStops es l stops → steps right p (flat_pieces es shape stops) ≡ pos 0
flat_steps es shape right p l stops a =
    nothing_less (wind_pieces true right p (flat_pieces es shape stops))
    (wind_pieces false right p (flat_pieces es shape stops)) (stops_still es shape true right p l stops a)
    (stops_still es shape false right p l stops a)

-- a level that doesn't have the height of p
abbrev IsElsewhere : Point → Level → Type 0
IsElsewhere p l = IsLower (level_at p) l ⊎ IsLower l (level_at p)

module _ (es : List LeafEdge) (shape : Shape) (balanced : AreLeavesBalanced es) (right : Bool) (p : Point) (dp : pos 0 <ℤ p.d) where
  three : (f : List Piece → ℤ) → ((qs rs : List Piece) → f (qs ++ rs) ≡ f qs +ℤ f rs)
      → (pieces a b c : List Piece) → pieces ≡ (a ++ b) ++ c → f pieces ≡ (f a +ℤ f b) +ℤ f c
  three f add pieces a b c h = ap f h ∙ add (a ++ b) c ∙ ap (λ (z : ℤ). z +ℤ f c) (add a b)

  -- a slab with the level below it, and what comes above
  one_level : (l u : Level) (stops : List Spot) (bundles : List (List ℕ)) (rest pieces : List Piece) (k m : ℤ)
      → pos 0 <ℤ l.d → pos 0 <ℤ u.d → IsLower l u → AreStops es l stops → AreBundles es l u bundles
      → pieces ≡ (flat_pieces es shape stops ++ slab_pieces es shape l u bundles) ++ rest
      → aheads right p (flat_pieces es shape stops) ≡ k → aheads right p rest ≡ steps right p rest +ℤ m
      → aheads right p pieces ≡ steps right p pieces +ℤ (k +ℤ m)
  one_level l u stops bundles rest pieces k m dl du o st b is hk hm =
      total (aheads right p pieces) (steps right p pieces) _ _ _ _ _ _ k m
      (three (aheads right p) (aheads-append right p) pieces (flat_pieces es shape stops)
      (slab_pieces es shape l u bundles) rest is)
      (three (steps right p) (steps-append right p) pieces (flat_pieces es shape stops)
      (slab_pieces es shape l u bundles) rest is)
      hk (flat_steps es shape right p l stops st)
      (slab_steps es shape right p dp l u dl du o bundles b.ranked (live_bundles es l u bundles b)) hm
    where
      total : (x y f g a c b d k m : ℤ) → x ≡ (f +ℤ a) +ℤ b → y ≡ (g +ℤ c) +ℤ d → f ≡ k
          → g ≡ pos 0 → a ≡ c → b ≡ d +ℤ m → x ≡ y +ℤ (k +ℤ m)
      total x y f g a c b d k m hx hy hf hg ha hb = omega (arith, ints)

  last_level : (l : Level) (stops : List Spot) (pieces : List Piece) (k : ℤ) → AreStops es l stops
      → pieces ≡ flat_pieces es shape stops → aheads right p (flat_pieces es shape stops) ≡ k
      → aheads right p pieces ≡ steps right p pieces +ℤ k
  last_level l stops pieces k st is hk =
      with_zero (aheads right p pieces) (steps right p pieces) k (ap (aheads right p) is ∙ hk)
      (ap (steps right p) is ∙ flat_steps es shape right p l stops st)

  no_more : (x y : ℤ) → x ≡ y +ℤ (pos 0 +ℤ pos 0) → x ≡ y +ℤ pos 0
  no_more x y h = omega (arith, ints)

  only_first : (x y k : ℤ) → x ≡ y +ℤ (k +ℤ pos 0) → x ≡ y +ℤ k
  only_first x y k h = omega (arith, ints)

  only_later : (x y k : ℤ) → x ≡ y +ℤ (pos 0 +ℤ k) → x ≡ y +ℤ k
  only_later x y k h = omega (arith, ints)

  -- where the point lies below all levels, none counts
  below : (l : Level) (ls : List Level) (pieces : List Piece)
      → AllByRecursion (λ (l : Level). pos 0 <ℤ l.d) (l ∷ ls)
      → IsRising (l ∷ ls) → IsLower (level_at p) l → AreLevelPieces es shape (l ∷ ls) pieces
      → (aheads right p pieces ≡ steps right p pieces +ℤ pos 0) × AllByRecursion (IsElsewhere p) (l ∷ ls)
  below l [] pieces d r o a = (
    last_level l a.0 pieces (pos 0) a.1 a.2 (flat_over es shape l right p o a.0 a.1),
    (inl o, tt),
  )
  below l (u ∷ ls) pieces d r o a =
      let ou : IsLower (level_at p) u = lower_then_at_most (level_at p) l u dp d.0 d.1.0 o (lower_weak l u r.0) in
      let rest = below u ls a.2 d.1 r.1 ou a.5 in (
        no_more (aheads right p pieces) (steps right p pieces) (one_level l u a.0 a.1 a.2 pieces (pos 0) (pos 0) d.0
            d.1.0 r.0 a.3 a.4 a.6 (flat_over es shape l right p o a.0 a.3) rest.0),
        (inl o, rest.1),
      )

  -- either one level has the point's height and makes up for the change there, or none has
  abbrev Reached : List Level → List Piece → Type 0
  Reached ls pieces =
      (aheads right p pieces ≡ steps right p pieces +ℤ (counted (is_in_by false right es shape p) -ℤ counted
      (is_in_by true right es shape p)))
      ⊎ ((aheads right p pieces ≡ steps right p pieces +ℤ pos 0) × AllByRecursion (IsElsewhere p) ls)

  by_levels : (ls : List Level) (pieces : List Piece) → AllByRecursion (λ (l : Level). pos 0 <ℤ l.d) ls
      → IsRising ls → AreLevelPieces es shape ls pieces → Reached ls pieces
  by_levels [] pieces d r a = inr (
    ap (aheads right p) a ∙ sym (ap (λ (qs : List Piece). steps right p qs +ℤ pos 0) a),
    tt,
  )
  by_levels (l ∷ []) pieces d r a =
      three_ways (p.y *ℤ l.d) (l.n *ℤ p.d)
      (λ o. inr (below l [] pieces d r o a))
      (λ at. inl (last_level l a.0 pieces _ a.1 a.2 (flat_change es shape balanced l d.0 right p dp at a.0 a.1)))
      (λ o. inr (last_level l a.0 pieces (pos 0) a.1 a.2 (flat_under es shape l right p o a.0 a.1), (inr o, tt)))
  by_levels (l ∷ (u ∷ ls)) pieces d r a =
      let later = by_levels (u ∷ ls) a.2 d.1 r.1 a.5 in
      three_ways (p.y *ℤ l.d) (l.n *ℤ p.d)
      (λ o. inr (below l (u ∷ ls) pieces d r o a))
      (λ at.
      let ou : IsLower (level_at p) u = at_most_then_lower (level_at p) l u dp d.0 d.1.0
      (same_at_least (level_at p) l at) r.0 in
      inl (only_first (aheads right p pieces) (steps right p pieces) _
      (one_level l u a.0 a.1 a.2 pieces _ (pos 0) d.0 d.1.0 r.0 a.3 a.4 a.6 (flat_change es shape balanced l d.0 right p
      dp at a.0 a.3) (below u ls a.2 d.1 r.1 ou a.5).0)))
      (λ o.
      let under = flat_under es shape l right p o a.0 a.3 in
      elim later [
        | inl h ↦ inl (only_later (aheads right p pieces) (steps right p pieces) _ (one_level l u a.0 a.1 a.2 pieces
            (pos 0) _ d.0 d.1.0 r.0 a.3 a.4 a.6 under h))
        | inr h ↦ inr (
          no_more (aheads right p pieces) (steps right p pieces) (one_level l u a.0 a.1 a.2 pieces (pos 0)
              (pos 0) d.0 d.1.0 r.0 a.3 a.4 a.6 under h.0),
          (inr o, h.1),
        )
      ])

  -- ---- where no level has the point's height, no edge ends there
  elsewhere : (ls : List Level) (h : Level) → pos 0 <ℤ h.d → AllByRecursion (λ (l : Level). pos 0 <ℤ l.d) ls
      → AllByRecursion (IsElsewhere p) ls → HasHeight ls h → IsElsewhere p h
  elsewhere [] h dh d a k = absurd k
  elsewhere (l ∷ ls) h dh d (inl o, a) (inl e) =
      inl (lower_then_at_most (level_at p) l h dp d.0 dh o (same_at_least l h e))
  elsewhere (l ∷ ls) h dh d (inr o, a) (inl e) =
      inr (at_most_then_lower h l (level_at p) dh d.0 dp (same_at_most l h e) o)
  elsewhere (l ∷ ls) h dh d a (inr k) = elsewhere ls h dh d.1 a.1 k

  aside : (e : LeafEdge) → IsElsewhere p (level_of e.edge.a.y) → IsAside right p e
  aside e (inl o) flat = ahead_over right p (whole e.edge.a) o ∙ sym (ahead_over right p (whole e.edge.b)
      (subst (λ (y : ℤ). IsLower (level_at p) (level_of y)) flat o))
  aside e (inr o) flat = ahead_under right p (whole e.edge.a) o ∙ sym (ahead_under right p (whole e.edge.b)
      (subst (λ (y : ℤ). IsLower (level_of y) (level_at p)) flat o))

  all_aside : (fs : List LeafEdge) (ls : List Level) → AllByRecursion (λ (l : Level). pos 0 <ℤ l.d) ls
      → AllByRecursion (IsElsewhere p) ls → AllByRecursion (HasHeight ls) (heights fs)
      → AllByRecursion (IsAside right p) fs
  all_aside [] ls d a h = tt
  all_aside (e ∷ fs) ls d a h =
      let one : pos 0 <ℤ pos 1 = omega (arith, ints) in (
        aside e (elsewhere ls (level_of e.edge.a.y) one d a h.0),
        all_aside fs ls d a
            (back (HasHeight ls) (meetings e.edge fs) (heights fs) h.1.1),
      )

  -- ---- all pieces
  winding_steps : (pieces : List Piece) → ArePieces es shape pieces → steps right p pieces
      ≡ counted (is_in_by true right es shape p) -ℤ counted (is_in_by false right es shape p)
  winding_steps pieces a = ap₂ (λ (y z : ℤ). y -ℤ z) (pieces_wind es shape pieces a true right p dp)
      (pieces_wind es shape pieces a false right p dp)

  pub none_ahead : (pieces : List Piece) → ArePieces es shape pieces → aheads right p pieces ≡ pos 0
  none_ahead pieces a = elim (by_levels a.levels pieces a.are_levels.divisors a.are_levels.rising a.are_pieces) [
    | inl h ↦ made_up (aheads right p pieces) (steps right p pieces) (counted (is_in_by true right es shape p))
        (counted (is_in_by false right es shape p)) h (winding_steps pieces a)
    | inr h ↦ unchanged (aheads right p pieces) (steps right p pieces) (counted (is_in_by true right es shape p))
        (counted (is_in_by false right es shape p)) h.0 (winding_steps pieces a)
        (ap counted (level_values right p dp es shape balanced (all_aside es a.levels a.are_levels.divisors h.1
        a.are_levels.complete)))
  ]
    where
      made_up : (x y t f : ℤ) → x ≡ y +ℤ (f -ℤ t) → y ≡ t -ℤ f → x ≡ pos 0
      made_up x y t f h k = omega (arith, ints)

      unchanged : (x y t f : ℤ) → x ≡ y +ℤ pos 0 → y ≡ t -ℤ f → t ≡ f → x ≡ pos 0
      unchanged x y t f h k m = omega (arith, ints)

-- ---- what starts and ends at a point lies ahead of it on the left and not on the right
counted-once : (b : Bool) → counted b ≡ pos (once b)
counted-once true = refl
counted-once false = refl

at_point : (p : Point) (qs : List Piece) → aheads false p qs -ℤ aheads true p qs
    ≡ pos (starts_at p (ways_of qs)) -ℤ pos
    (ends_at p (ways_of qs))
at_point p [] = refl
at_point p (q ∷ qs) =
    total (ahead false p (point_of q.from)) (ahead true p (point_of q.from)) (ahead false p (point_of q.to))
    (ahead true p (point_of q.to)) (aheads false p qs) (aheads true p qs)
    (once (is_same_point p (point_of q.from))) (once (is_same_point p (point_of q.to))) (starts_at p (ways_of qs))
    (ends_at p (ways_of qs)) (starts_at p (ways_of (q ∷ qs))) (ends_at p (ways_of (q ∷ qs)))
    (ahead_both p (point_of q.from) ∙ counted-once (is_same_point p (point_of q.from)))
    (ahead_both p (point_of q.to) ∙ counted-once (is_same_point p (point_of q.to)))
    (at_point p qs)
    (starts-cons p (way_of q) (ways_of qs))
    (ends-cons p (way_of q) (ways_of qs))
  where
    total : (a b c d x y : ℤ) (s e ss ee sa ea : ℕ) → a -ℤ b ≡ pos s → c -ℤ d ≡ pos e
        → x -ℤ y ≡ pos ss -ℤ pos ee
        → sa ≡ s + ss → ea ≡ e + ee → ((a -ℤ c) +ℤ x) -ℤ ((b -ℤ d) +ℤ y) ≡ pos sa -ℤ pos ea
    total a b c d x y s e ss ee sa ea h k m n o = omega (arith, ints)

pub pieces_are_balanced : (es : List LeafEdge) (shape : Shape) (pieces : List Piece) → AreLeavesBalanced es
    → ArePieces es shape pieces → ArePiecesBalanced pieces
pieces_are_balanced es shape pieces b a = record {
  each = λ p dp. equal (aheads false p pieces) (aheads true p pieces) (starts_at p (ways_of pieces))
      (ends_at p (ways_of pieces)) (at_point p pieces) (none_ahead es shape b false p dp pieces a)
      (none_ahead es shape b true p dp pieces a);
}
  where
    equal : (x y : ℤ) (m n : ℕ) → x -ℤ y ≡ pos m -ℤ pos n → x ≡ pos 0 → y ≡ pos 0 → m ≡ n
    equal x y m n h k j = omega (arith, ints)
