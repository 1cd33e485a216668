-- One height: passing its places is a walk.
use Rattle.std.proofs.Common.{◌≡◌, ℕ, zero, suc, true, false, List, [], ◌∷◌, ◌++◌, refl, sym, ◌∙◌, subst, arith, append_assoc}
use lib.IntN.{ℤ, pos, negsuc, ◌*ℤ◌}
use lib.Signed.{◌<ℤ◌}
use Rattle.std.specs.Prelude.{Some, slice_index_or}
use Rattle.std.specs.Ordering.{int_eq}
use Rattle.std.specs.List.{AllByRecursion, position}
use Rattle.std.specs.List.Sorted.{IsPermutation}
use Rattle.std.proofs.lemmas.Int.{ints}
use Rattle.std.proofs.lemmas.Bool.{and_parts}
use Rattle.std.proofs.lemmas.List.Sorted.{IsPermutation-trans, length_permutation}
use Rattle.scad_base.proofs.Lists.{AllByRecursion-append}
use Rattle.scad_geom.specs.declared.level.Level.{Level}
use Rattle.scad_geom.specs.declared.level.LeafEdge.{LeafEdge}
use Rattle.scad_geom.specs.Line.{rise}
use Rattle.scad_geom.specs.Level.{IsLower}
use Rattle.scad_geom.specs.Sign.{is_zero}
use Rattle.scad_geom.proofs.Order.{front, back}
use Rattle.winding_laws.specs.Nearness.{IsPoint}
use Rattle.winding_laws.proofs.Sameness.{same_itself, same_through}
use Rattle.slice_bundles.specs.Bundles.{no_edge, edge_at}
use Rattle.slice_pieces.specs.declared.piece.Spot.{Spot}
use Rattle.slice_pieces.specs.Spots.{point_of}
use Rattle.slice_border.specs.Pieces.{spot_on, is_flat_at, covers}
use Rattle.slice_border.specs.Beside.{RisesFirst}
use Rattle.slice_border.proofs.Winding.{IsSpotAt}
use Rattle.slice_border.proofs.BalanceFlat.{spot_divisor}
use Rattle.slice_border.proofs.PieceNames.{found}
use Rattle.sweep_laws.specs.Ways.{Way, IsAt, IsAway, AreOfDifferentNames}
use Rattle.sweep_laws.specs.Visits.{Visit, Walk, over, visit}
use Rattle.sweep_laws.specs.Fronts.{value_before, ways_up}
use Rattle.sweep_laws.specs.Crossing.{Place, spots_of, all_below, all_above, all_closed, flat_way, outs_from, visits_at, ArePassed, MeetsAt}
use Rattle.sweep_laws.proofs.Spots.{spot_at, same_place, lower_away}
use Rattle.sweep_laws.proofs.Order.{second_first, crossed_lists, turned_lists}
use Rattle.sweep_laws.proofs.Between.{all_weaker, all_two}
use Rattle.sweep_laws.proofs.Strands.{UpHas, of_ways_up, FromHas, AlongHas, of_flat_way, ups_append, HeadsDiffer, differ_front, differ_back, names_up, IsRisingWay, IsFlatWay, with_flat, flat_names}

-- ---- walks over the same ways in another order
nothing_permuted : (ws : List Way) → IsPermutation ws [] → ws ≡ []
nothing_permuted [] h = refl
nothing_permuted (w ∷ ws) h = let l = length_permutation (w ∷ ws) [] h in absurd (omega arith)

pub walk_permuted : (opens others : List Way) (vs : List Visit) (closed : List Way) → IsPermutation others opens
    → Walk opens vs closed → Walk others vs closed
walk_permuted _ others _ _ p over = subst (λ (ws : List Way). Walk ws [] []) (sym (nothing_permuted others p)) over
walk_permuted _ others _ _ p (visit opens ins kept news closed more v vs is at away different pass walk) =
    visit others ins kept news closed more v vs (IsPermutation-trans others opens
    (ins ++ kept) p is) at away different pass
    walk

-- ---- a height
-- the first edge of a bundle meets a height at a spot
abbrev pub LiesAt : List LeafEdge → Level → Spot → List ℕ → Type 0
LiesAt es l s [] = Unit {0}
LiesAt es l s (k ∷ ks) = IsAt (point_of s) (spot_on (edge_at es k) l)

pub lies_at : (es : List LeafEdge) (l : Level) (s : Spot) (b : List ℕ) → IsSpotAt l s → RisesFirst es b
    → MeetsAt es l s b
    → LiesAt es l s b
lies_at es l s [] hs r m = absurd m
lies_at es l s (k ∷ ks) hs r m = same_place l s (spot_on (edge_at es k) l) hs (spot_at (edge_at es k) l r.1) m

-- a spot above a height
pub record IsHigher (l : Level) (s : Spot) : Type 0 where
  pub level : Level
  pub at : IsSpotAt level s
  pub over : IsLower l level

abbrev pub ArePlacesApart : List Place → Type 0
ArePlacesApart [] = Unit {0}
ArePlacesApart (p ∷ ps) = AllByRecursion (λ q. IsAway (point_of p.at) q.at) ps × ArePlacesApart ps

-- the places of a height, with strands below and above it up to another height
pub record IsLevel (es : List LeafEdge) (l u : Level) (places : List Place) : Type 0 where
  pub divisor : pos 0 <ℤ l.d
  pub spots : AllByRecursion (IsSpotAt l) (spots_of places)
  pub apart : ArePlacesApart places
  pub below : AllByRecursion (λ p. AllByRecursion (λ s. LiesAt es l p.at s.bundle) p.below) places
  pub above : AllByRecursion (λ p. AllByRecursion (λ s. LiesAt es l p.at s.bundle) p.above) places
  pub heads_below : HeadsDiffer (all_below places)
  pub heads_above : HeadsDiffer (all_above places)
  pub rise_below : AllByRecursion (λ s. RisesFirst es s.bundle) (all_below places)
  pub rise_above : AllByRecursion (λ s. RisesFirst es s.bundle) (all_above places)
  pub climb : AllByRecursion (λ s. IsLower l u × (pos 0 <ℤ u.d)) (all_above places)

not_above_zero : (z : ℤ) → is_zero z ≡ true → pos 0 <ℤ z → ⊥
not_above_zero z h k = absurd (by_zero z h k)
  where
    by_zero : (z : ℤ) → is_zero z ≡ true → pos 0 <ℤ z → ⊥
    by_zero (pos zero) h k = omega (arith, ints)
    by_zero (pos (suc n)) h k = cc
    by_zero (negsuc n) h k = cc

-- what covers a stretch is flat
flat_name : (es : List LeafEdge) (s t : Spot) (k : ℕ) → position (covers s t) es ≡ Some k → pos 0 <ℤ rise (edge_at es k)
    → ⊥
flat_name es s t k h r =
    let f = found (covers s t) es k h in
    let e : LeafEdge = slice_index_or es k no_edge in
    let flat = (and_parts (is_flat_at e.edge s.at) _ f.1).0 in
    not_above_zero (rise e.edge) (and_parts (is_zero (rise e.edge)) (int_eq (e.edge.a.y *ℤ s.at.d) s.at.n) flat).0 r

module _ (es : List LeafEdge) (l u : Level) where
  pub next_level : (p : Place) (ps : List Place) → IsLevel es l u (p ∷ ps) → IsLevel es l u ps
  next_level p ps h = record {
    divisor = h.divisor;
    spots = h.spots.1;
    apart = h.apart.1;
    below = h.below.1;
    above = h.above.1;
    heads_below = differ_back p.below (all_below ps) h.heads_below;
    heads_above = differ_back p.above (all_above ps) h.heads_above;
    rise_below = back (λ s. RisesFirst es s.bundle) p.below (all_below ps) h.rise_below;
    rise_above = back (λ s. RisesFirst es s.bundle) p.above (all_above ps) h.rise_above;
    climb = back (λ s. IsLower l u × (pos 0 <ℤ u.d)) p.above (all_above ps) h.climb;
  }

  pub place_point : (s : Spot) → pos 0 <ℤ l.d → IsSpotAt l s → IsPoint (point_of s)
  place_point s d h = spot_divisor l s d h

  -- ---- what comes to a place
  strand_comes : (s : Spot) (start : Spot) (b : List ℕ) → LiesAt es l s b
      → UpHas (λ w. IsAt (point_of s) w.far) es l start b
  strand_comes s start [] h = tt
  strand_comes s start (k ∷ ks) h = λ b. h

  rising : (start : Spot) (m : Level) (b : List ℕ) → RisesFirst es b → UpHas (IsRisingWay es) es m start b
  rising start m [] h = tt
  rising start m (k ∷ ks) h = λ b. h.1

  pub rising_from : (b : List ℕ) → RisesFirst es b → FromHas (IsRisingWay es) es l u b
  rising_from [] h = tt
  rising_from (k ∷ ks) h = λ b. h.1

  strand_away : (p q start : Spot) (b : List ℕ) → pos 0 <ℤ l.d → IsSpotAt l q → IsAway (point_of p) q → RisesFirst es b
      → LiesAt es l q b → UpHas (λ w. IsAway (point_of p) w.far) es l start b
  strand_away p q start [] d hq a r h = tt
  strand_away p q start (k ∷ ks) d hq a r h = λ b.
      sym (same_through (point_of p) (point_of q) (point_of (spot_on (edge_at es k) l)) (place_point q d hq)
      (place_point (spot_on (edge_at es k) l) d (spot_at (edge_at es k) l r.1)) h) ∙ a

  later_away : (p : Spot) (ps : List Place) → AllByRecursion (λ q. IsAway (point_of p) q.at) ps → IsLevel es l u ps
      → AllByRecursion (λ s. UpHas (λ w. IsAway (point_of p) w.far) es l s.start s.bundle) (all_below ps)
  later_away p [] a h = tt
  later_away p (q ∷ ps) a h =
      AllByRecursion-append (λ s. UpHas (λ w. IsAway (point_of p) w.far) es l s.start s.bundle) q.below (all_below ps)
      (all_two (λ s. RisesFirst es s.bundle) (λ s. LiesAt es l q.at s.bundle)
      (λ s. UpHas (λ w. IsAway (point_of p) w.far) es l s.start s.bundle) q.below
      (λ s r o. strand_away p q.at s.start s.bundle h.divisor h.spots.0 a.0 r o)
      (front (λ s. RisesFirst es s.bundle) q.below (all_below ps) h.rise_below) h.below.0)
      (later_away p ps a.1 (next_level q ps h))

  strand_higher : (start : Spot) (b : List ℕ) → IsLower l u → RisesFirst es b
      → UpHas (λ w. IsHigher l w.far) es u start b
  strand_higher start [] o r = tt
  strand_higher start (k ∷ ks) o r = λ b. record { level = u; at = spot_at (edge_at es k) u r.1; over = o }

  -- the way along the height that comes to the first of some places
  abbrev ComesAlong : List Way → List Place → Type 0
  ComesAlong flat [] = Unit {0}
  ComesAlong flat (p ∷ ps) = AllByRecursion (λ w. IsAt (point_of p.at) w.far) flat

  pub record IsAlong (flat : List Way) (ps : List Place) : Type 0 where
    pub comes : ComesAlong flat ps
    pub flats : AllByRecursion (IsFlatWay es) flat
    pub names : AreOfDifferentNames flat

  pub flat_ways : (start : Spot) (p : Place) (ps : List Place) → AllByRecursion (IsFlatWay es) (flat_way es start p ps)
  flat_ways start p ps = of_flat_way (IsFlatWay es) es start p ps (by_places ps)
    where
      by_places : (ps : List Place) → AlongHas (IsFlatWay es) es start p ps
      by_places [] = tt
      by_places (q ∷ ps) = λ k e b. flat_name es p.at q.at k e

  along_next : (p : Place) (ps : List Place) → IsAlong (flat_way es p.start p ps) ps
  along_next p ps = record {
    comes = by_places ps;
    flats = flat_ways p.start p ps;
    names = flat_names es p.start p ps;
  }
    where
      by_places : (ps : List Place) → ComesAlong (flat_way es p.start p ps) ps
      by_places [] = tt
      by_places (q ∷ ps) = of_flat_way (λ w. IsAt (point_of q.at) w.far) es p.start p (q ∷ ps)
          (λ k e b. same_itself (point_of q.at))

  -- ---- one place
  module _ (p : Place) (ps : List Place) (flat up : List Way) (h : IsLevel es l u (p ∷ ps)) (a : IsAlong flat (p ∷ ps))
      (o : AllByRecursion (λ w. IsHigher l w.far) up) where
    abbrev ins : List Way
    ins = ways_up es l (value_before (all_below ps) false) p.below

    abbrev later : List Way
    later = ways_up es l false (all_below ps)

    abbrev news : List Way
    news = ways_up es u (value_before (all_above ps) false) p.above

    abbrev next : List Way
    next = flat_way es p.start p ps

    rest : IsLevel es l u ps
    rest = next_level p ps h

    opens_are : IsPermutation (ways_up es l false (all_below (p ∷ ps)) ++ (flat ++ up)) ((ins ++ flat) ++ (later ++ up))
    opens_are = subst (λ (ws : List Way). IsPermutation (ws ++ (flat ++ up)) ((ins ++ flat) ++ (later ++ up)))
        (sym (ups_append es l false p.below (all_below ps))) (crossed_lists ins later flat up)

    above_are : IsPermutation (ways_up es u false (all_above ps) ++ (news ++ up))
        (ways_up es u false (all_above (p ∷ ps)) ++ up)
    above_are = subst (λ (ws : List Way). IsPermutation (ways_up es u false (all_above ps) ++ (news ++ up)) (ws ++ up))
        (sym (ups_append es u false p.above (all_above ps)))
        (subst (IsPermutation (ways_up es u false (all_above ps) ++ (news ++ up)))
        (sym (append_assoc news (ways_up es u false (all_above ps)) up))
        (second_first (ways_up es u false (all_above ps)) news up))

    comes_here : AllByRecursion (λ w. IsAt (point_of p.at) w.far) (ins ++ flat)
    comes_here = AllByRecursion-append (λ w. IsAt (point_of p.at) w.far) ins flat
        (of_ways_up (λ w. IsAt (point_of p.at) w.far) es l (value_before (all_below ps) false) p.below
        (all_weaker (λ s. LiesAt es l p.at s.bundle)
        (λ s. UpHas (λ w. IsAt (point_of p.at) w.far) es l s.start s.bundle)
        p.below (λ s k. strand_comes p.at s.start s.bundle k) h.below.0)) a.comes

    away_here : AllByRecursion (λ w. IsAway (point_of p.at) w.far) (later ++ up)
    away_here = AllByRecursion-append (λ w. IsAway (point_of p.at) w.far) later up
        (of_ways_up (λ w. IsAway (point_of p.at) w.far) es l false (all_below ps) (later_away p.at ps h.apart.0 rest))
        (all_weaker (λ w. IsHigher l w.far) (λ w. IsAway (point_of p.at) w.far) up
        (λ w k. lower_away l k.level p.at w.far h.spots.0 k.at k.over) o)

    different_here : AreOfDifferentNames (ins ++ flat)
    different_here = with_flat es ins flat
        (names_up es l (value_before (all_below ps) false) p.below (differ_front p.below (all_below ps) h.heads_below))
        a.names
        (of_ways_up (IsRisingWay es) es l (value_before (all_below ps) false) p.below
        (all_weaker (λ s. RisesFirst es s.bundle) (λ s. UpHas (IsRisingWay es) es l s.start s.bundle) p.below
        (λ s r. rising s.start l s.bundle r)
        (front (λ s. RisesFirst es s.bundle) p.below (all_below ps) h.rise_below))) a.flats

    higher_here : AllByRecursion (λ w. IsHigher l w.far) (news ++ up)
    higher_here = AllByRecursion-append (λ w. IsHigher l w.far) news up
        (of_ways_up (λ w. IsHigher l w.far) es u (value_before (all_above ps) false) p.above
        (all_two (λ s. IsLower l u × (pos 0 <ℤ u.d)) (λ s. RisesFirst es s.bundle)
        (λ s. UpHas (λ w. IsHigher l w.far) es u s.start s.bundle) p.above
        (λ s k r. strand_higher s.start s.bundle k.0 r)
        (front (λ s. IsLower l u × (pos 0 <ℤ u.d)) p.above (all_above ps) h.climb)
        (front (λ s. RisesFirst es s.bundle) p.above (all_above ps) h.rise_above))) o

  -- ---- all places
  pub level_walk : (places : List Place) (flat up : List Way) (vs : List Visit) (more : List Way)
      → IsLevel es l u places
      → IsAlong flat places → AllByRecursion (λ w. IsHigher l w.far) up → ArePassed es l u flat places
      → Walk (ways_up es u false (all_above places) ++ up) vs more
      → Walk (ways_up es l false (all_below places) ++ (flat ++ up)) (visits_at es l u places ++ vs)
      (all_closed places ++ more)
  level_walk [] flat up vs more h a o passed walk = subst (λ (f : List Way). Walk (f ++ up) vs more) (sym passed) walk
  level_walk (p ∷ ps) flat up vs more h a o passed walk =
      let is : List Way = ins p ps flat up h a o in
      let ls : List Way = later p ps flat up h a o in
      let ns : List Way = news p ps flat up h a o in
      let ts : List Way = next p ps flat up h a o in
      subst (Walk (ways_up es l false (all_below (p ∷ ps)) ++ (flat ++ up)) (visits_at es l u (p ∷ ps) ++ vs))
      (sym (append_assoc p.closed (all_closed ps) more))
      (visit (ways_up es l false (all_below (p ∷ ps)) ++ (flat ++ up)) (is ++ flat) (ls ++ up) (ns ++ ts) p.closed
      (all_closed ps ++ more) (record { at = p.at; outs = outs_from es l u p ps }) (visits_at es l u ps ++ vs)
      (opens_are p ps flat up h a o) (comes_here p ps flat up h a o) (away_here p ps flat up h a o)
      (different_here p ps flat up h a o) passed.0
      (walk_permuted (ls ++ (ts ++ (ns ++ up))) ((ns ++ ts) ++ (ls ++ up)) (visits_at es l u ps ++ vs)
      (all_closed ps ++ more) (turned_lists ns ls ts up)
      (level_walk ps ts (ns ++ up) vs more (rest p ps flat up h a o) (along_next p ps) (higher_here p ps flat up h a o)
      passed.1
      (walk_permuted (ways_up es u false (all_above (p ∷ ps)) ++ up)
      (ways_up es u false (all_above ps) ++ (ns ++ up)) vs more (above_are p ps flat up h a o) walk))))
