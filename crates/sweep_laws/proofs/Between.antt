-- Between two places of a sweep: open ways, pieces that have ended, and what one visit does where all that come in end.
use Rattle.std.proofs.Common.{◌⊎◌, inl, inr, List, [], ◌∷◌, ◌++◌, All, sym, ◌∙◌, subst}
use Rattle.std.specs.List.{AllByRecursion}
use Rattle.std.specs.List.Sorted.{IsPermutation}
use Rattle.std.proofs.lemmas.List.{map-append}
use Rattle.std.proofs.lemmas.List.Elements.{All-from_recursion, recursion_from_All}
use Rattle.std.proofs.lemmas.List.Sorted.{All-permutation, IsPermutation-sym, IsPermutation-trans, IsPermutation-map, IsPermutation-append_left, IsPermutation-append_right}
use Rattle.scad_base.proofs.Lists.{AllByRecursion-append}
use Rattle.scad_geom.specs.Point.{Point}
use Rattle.scad_geom.proofs.Order.{front, back}
use Rattle.winding_laws.specs.Nearness.{IsPoint}
use Rattle.slice_pieces.specs.declared.piece.Piece.{Piece}
use Rattle.slice_pieces.specs.Spots.{point_of}
use Rattle.slice_pieces.specs.Joining.{GoesOn, IsStuck}
use Rattle.slice_pieces.proofs.ChainEnds.{starts_permuted, ends_permuted}
use Rattle.sweep_laws.specs.Ways.{Way, piece_of, pieces_of, IsAt, IsAway, AreOfDifferentNames}
use Rattle.sweep_laws.specs.Visits.{OneGoesOn, Visit, outs_of, IsAtOne, Leads, AreInSweepOrder}
use Rattle.sweep_laws.proofs.Touches.{ComesIn, GoesOut, LiesAway}
use Rattle.sweep_laws.proofs.OnePlace.{stuck_here}
use Rattle.sweep_laws.proofs.Meeting.{by_end}
use Rattle.sweep_laws.proofs.Order.{parted, parted_ended}
use Rattle.sweep_laws.proofs.Away.{AwayFromAll, AreElsewhere, all_away, points, away_at_one, not_first, outs_away, pieces_away}

-- ---- between two places
-- the pieces that have ended, those of open ways, and those to come
abbrev pub state : List Piece → List Way → List Visit → List Piece
state done opens vs = done ++ (pieces_of opens ++ pieces_of (outs_of vs))

pub record IsOpen (vs : List Visit) (w : Way) : Type 0 where
  pub near_point : IsPoint (point_of w.near)
  pub far_point : IsPoint (point_of w.far)
  pub near : AwayFromAll vs w.near
  pub far : IsAtOne vs w.far

pub record IsGone (vs : List Visit) (q : Piece) : Type 0 where
  pub from : AwayFromAll vs q.from
  pub to : AwayFromAll vs q.to

-- a piece ends at a later place, or it's stuck
pub record IsQuiet (vs : List Visit) (all : List Piece) (q : Piece) : Type 0 where
  pub point : IsPoint (point_of q.to)
  pub later : IsAtOne vs q.to ⊎ IsStuck all q

pub record IsBetween (done : List Piece) (opens : List Way) (vs : List Visit) : Type 0 where
  pub order : AreInSweepOrder vs
  pub opened : AllByRecursion (IsOpen vs) opens
  pub gone : AllByRecursion (IsGone vs) done
  pub quiet : All (IsQuiet vs (state done opens vs)) (state done opens vs)

-- ---- stuck pieces in another order
stuck_permuted : (qs rs : List Piece) (q : Piece) → IsPermutation qs rs → IsStuck qs q → IsStuck rs q
stuck_permuted qs rs q p stuck passed =
    All-permutation (λ r. GoesOn q r → ⊥) qs rs p (stuck (record {
      one_ends = ends_permuted (point_of q.to) qs rs p ∙ passed.one_ends;
      one_starts = starts_permuted (point_of q.to) qs rs p ∙ passed.one_starts;
    }))

quiet_permuted : (vs : List Visit) (qs rs : List Piece) (q : Piece) → IsPermutation qs rs → IsQuiet vs qs q
    → IsQuiet vs rs q
quiet_permuted vs qs rs q p h = record { point = h.point; later = by_case h.later }
  where
    by_case : IsAtOne vs q.to ⊎ IsStuck qs q → IsAtOne vs q.to ⊎ IsStuck rs q
    by_case (inl a) = inl a
    by_case (inr s) = inr (stuck_permuted qs rs q p s)

pub all_weaker : {X : Type 0} (P Q : X → Type 0) (xs : List X) → ((x : X) → P x → Q x) → AllByRecursion P xs
    → AllByRecursion Q xs
all_weaker P Q [] f h = tt
all_weaker P Q (x ∷ xs) f h = (f x h.0, all_weaker P Q xs f h.1)

pub all_two : {X : Type 0} (P Q R : X → Type 0) (xs : List X) → ((x : X) → P x → Q x → R x) → AllByRecursion P xs
    → AllByRecursion Q xs → AllByRecursion R xs
all_two P Q R [] f h k = tt
all_two P Q R (x ∷ xs) f h k = (f x h.0 k.0, all_two P Q R xs f h.1 k.1)

-- ---- one visit
module _ (done : List Piece) (opens ins kept : List Way) (v : Visit) (vs : List Visit)
    (is : IsPermutation opens (ins ++ kept))
    (at : AllByRecursion (λ w. IsAt (point_of v.at) w.far) ins)
    (away : AllByRecursion (λ w. IsAway (point_of v.at) w.far) kept)
    (different : AreOfDifferentNames ins) (now : IsBetween done opens (v ∷ vs)) where
  abbrev p : Point
  p = point_of v.at

  dp : IsPoint p
  dp = now.order.0

  elsewhere : AreElsewhere p vs
  elsewhere = now.order.1

  abbrev all : List Piece
  all = state done opens (v ∷ vs)

  abbrev others : List Piece
  others = done ++ (pieces_of kept ++ pieces_of (outs_of vs))

  pub all_are : IsPermutation all (pieces_of ins ++ (pieces_of v.outs ++ others))
  all_are =
      IsPermutation-trans all
      (done ++ ((pieces_of ins ++ pieces_of kept) ++ (pieces_of v.outs ++ pieces_of (outs_of vs))))
      (pieces_of ins ++ (pieces_of v.outs ++ others))
      (IsPermutation-append_right done (pieces_of opens ++ pieces_of (v.outs ++ outs_of vs))
      ((pieces_of ins ++ pieces_of kept) ++ (pieces_of v.outs ++ pieces_of (outs_of vs)))
      (subst (λ (qs : List Piece). IsPermutation (pieces_of opens ++ pieces_of (v.outs ++ outs_of vs))
      ((pieces_of ins ++ pieces_of kept) ++ qs)) (map-append piece_of v.outs (outs_of vs))
      (IsPermutation-append_left (pieces_of (v.outs ++ outs_of vs)) (pieces_of opens) (pieces_of ins ++ pieces_of kept)
      (subst (IsPermutation (pieces_of opens)) (map-append piece_of ins kept)
      (IsPermutation-map piece_of opens (ins ++ kept) is)))))
      (parted done (pieces_of ins) (pieces_of kept) (pieces_of v.outs) (pieces_of (outs_of vs)))

  pub opened : AllByRecursion (IsOpen (v ∷ vs)) (ins ++ kept)
  opened = recursion_from_All (IsOpen (v ∷ vs)) (ins ++ kept)
      (All-permutation (IsOpen (v ∷ vs)) opens (ins ++ kept) is (All-from_recursion (IsOpen (v ∷ vs)) opens now.opened))

  pub opened_in : AllByRecursion (IsOpen (v ∷ vs)) ins
  opened_in = front (IsOpen (v ∷ vs)) ins kept opened

  opened_kept : AllByRecursion (IsOpen (v ∷ vs)) kept
  opened_kept = back (IsOpen (v ∷ vs)) ins kept opened

  pub come_in : AllByRecursion (ComesIn p) ins
  come_in = all_two (IsOpen (v ∷ vs)) (λ w. IsAt p w.far) (ComesIn p) ins
      (λ w o a. (a, o.near.0, o.far_point, o.near_point)) opened_in at

  pub go_out : AllByRecursion (GoesOut p) v.outs
  go_out = all_weaker (Leads v.at vs) (GoesOut p) v.outs
      (λ w l. (
        l.near,
        away_at_one p w.far l.far_point vs (points vs now.order.4) elsewhere l.far,
        l.near_point,
        l.far_point,
      ))
      now.order.2

  pub lie_away : AllByRecursion (LiesAway p) others
  lie_away = AllByRecursion-append (LiesAway p) done (pieces_of kept ++ pieces_of (outs_of vs))
      (all_weaker (IsGone (v ∷ vs)) (LiesAway p) done (λ q g. (g.from.0, g.to.0)) now.gone)
      (AllByRecursion-append (LiesAway p) (pieces_of kept) (pieces_of (outs_of vs))
      (pieces_away p kept (all_two (IsOpen (v ∷ vs)) (λ w. IsAway p w.far) (λ w. IsAway p w.near × IsAway p w.far) kept
      (λ w o a. (o.near.0, a)) opened_kept away))
      (pieces_away p (outs_of vs) (outs_away p vs now.order.4 elsewhere)))

  pub still_open : AllByRecursion (IsOpen vs) kept
  still_open = all_two (IsOpen (v ∷ vs)) (λ w. IsAway p w.far) (IsOpen vs) kept
      (λ w o a. record {
        near_point = o.near_point;
        far_point = o.far_point;
        near = o.near.1;
        far =
            not_first v vs w.far a o.far;
      })
      opened_kept away

  pub still_gone : AllByRecursion (IsGone vs) done
  still_gone = all_weaker (IsGone (v ∷ vs)) (IsGone vs) done (λ q g. record { from = g.from.1; to = g.to.1 }) now.gone

  gone_now : (w : Way) → IsOpen (v ∷ vs) w → IsAt p w.far → IsGone vs (piece_of w)
  gone_now w o a =
      let near : AwayFromAll vs w.near = o.near.1 in
      let far : AwayFromAll vs w.far = all_away p w.far dp o.far_point a vs elsewhere in
      record {
        from = by_end (AwayFromAll vs) w.forward w.near w.far near far;
        to = by_end (AwayFromAll vs) w.forward w.far w.near far near;
      }

  now_gone : (ws : List Way) → AllByRecursion (IsOpen (v ∷ vs)) ws → AllByRecursion (λ w. IsAt p w.far) ws
      → AllByRecursion (IsGone vs) (pieces_of ws)
  now_gone [] o a = tt
  now_gone (w ∷ ws) o a = (gone_now w o.0 a.0, now_gone ws o.1 a.1)

  opening : (w : Way) → Leads v.at vs w → IsOpen vs w
  opening w l = record {
    near_point = l.near_point;
    far_point = l.far_point;
    near = all_away p w.near dp l.near_point l.near vs elsewhere;
    far = l.far;
  }

  -- ---- all end
  abbrev ended : List Piece
  ended = state (done ++ pieces_of ins) (v.outs ++ kept) vs

  pub ended_are : IsPermutation all ended
  ended_are =
      IsPermutation-trans all (pieces_of ins ++ (pieces_of v.outs ++ others)) ended all_are
      (subst (λ (qs : List Piece). IsPermutation (pieces_of ins ++ (pieces_of v.outs ++ others))
      ((done ++ pieces_of ins) ++ (qs ++ pieces_of (outs_of vs)))) (sym (map-append piece_of v.outs kept))
      (IsPermutation-sym ((done ++ pieces_of ins) ++ ((pieces_of v.outs ++ pieces_of kept) ++ pieces_of (outs_of vs)))
      (pieces_of ins ++ (pieces_of v.outs ++ others))
      (parted_ended done (pieces_of ins) (pieces_of kept) (pieces_of v.outs) (pieces_of (outs_of vs)))))

  stuck_or_later : (q : Piece) → IsQuiet (v ∷ vs) all q → (IsAt p q.to → IsPoint (point_of q.to) → IsStuck all q)
      → IsQuiet vs all q
  stuck_or_later q h stuck = record { point = h.point; later = by_case h.later }
    where
      by_case : IsAtOne (v ∷ vs) q.to ⊎ IsStuck all q → IsAtOne vs q.to ⊎ IsStuck all q
      by_case (inl (inl a)) = inr (stuck a h.point)
      by_case (inl (inr a)) = inl a
      by_case (inr s) = inr s

  pub after_ended : (OneGoesOn ins v.outs → ⊥) → IsBetween (done ++ pieces_of ins) (v.outs ++ kept) vs
  after_ended none =
      let stuck = stuck_here p dp all ins v.outs others all_are come_in go_out lie_away different now.order.3 none in
      record {
        order = now.order.4;
        opened = AllByRecursion-append (IsOpen vs) v.outs kept
            (all_weaker (Leads v.at vs) (IsOpen vs) v.outs opening now.order.2) still_open;
        gone = AllByRecursion-append (IsGone vs) done (pieces_of ins) still_gone (now_gone ins opened_in at);
        quiet = All-permutation (IsQuiet vs ended) all ended ended_are
            (λ k d l. quiet_permuted vs all ended _ ended_are (stuck_or_later _ (now.quiet k d l) (stuck k d l)));
      }
