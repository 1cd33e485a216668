-- The stops of one height, over two divisors, are the same one by one.
use Rattle.std.proofs.Common.{◌≡◌, inl, inr, Bool, true, false, List, [], ◌∷◌, map, refl, sym, ap, ◌∙◌, subst, arith}
use lib.IntN.{ℤ, pos, ◌-ℤ◌, ◌*ℤ◌}
use lib.Signed.{◌<ℤ◌}
use Rattle.std.specs.Prelude.{int_lt, int_le, if◌then◌else◌, unsigned_abs, ◌&&◌}
use Rattle.std.specs.List.{AllByRecursion, AllZip}
use Rattle.std.proofs.lemmas.Int.{ints}
use Rattle.std.proofs.lemmas.Bool.{and_parts}
use Rattle.scad_base.proofs.Products.{positive_product}
use Rattle.scad_geom.specs.declared.point.Edge.{Edge}
use Rattle.scad_geom.specs.declared.level.Level.{Level}
use Rattle.scad_geom.specs.declared.level.LeafEdge.{LeafEdge}
use Rattle.scad_geom.specs.Line.{low, high, rise, x_at}
use Rattle.scad_geom.specs.Level.{IsLower, IsSameHeight}
use Rattle.scad_geom.proofs.Ring.{ring, ◌⊖◌, ◌⊗◌, v0, v1, v2, v3, crossed}
use Rattle.winding_laws.proofs.Sameness.{are_same, same_by}
use Rattle.slice_events.specs.Levels.{IsRising, HasHeight}
use Rattle.slice_pieces.specs.declared.piece.Spot.{Spot}
use Rattle.slice_pieces.specs.Spots.{point_of}
use Rattle.slice_border.specs.Pieces.{spot_on, whole_spot, is_flat_at, passes_at, spots_at, GoRight, HasSpot, IsOneOf, AreStops, across}
use Rattle.slice_border.proofs.Winding.{of_stops, IsSpotAt, spots_are_at}
use Rattle.outline_laws.specs.Sameness.{AreSameSpot}
use Rattle.outline_laws.proofs.Zips.{zip_append, zip_turned}
use Rattle.outline_laws.proofs.Same.{spot_turned}
use Rattle.outline_laws.proofs.Rising.{HasDivisor, one_by_one, has_same}
use Rattle.outline_laws.proofs.Lines.{flat_test, passes_test, x_same}
use Rattle.slice_pieces.proofs.SameSpots.{run_above, crossed_back, mul_beside}
use Rattle.scad_geom.proofs.Integers.{mul_assoc}
use Rattle.slice_border.proofs.Within.{size_above}

-- ---- spots at one height

-- where a spot lies along its height
abbrev pub place : Spot → Level
place s = record { n = s.x; d = s.at.d *ℤ pos s.run }

-- two spots of one height at one place along it are one point
pub same_placed : (s t : Spot) → pos 0 <ℤ s.at.d → pos 0 <ℤ pos s.run → pos 0 <ℤ t.at.d → pos 0 <ℤ pos t.run
    → IsSameHeight s.at t.at → IsSameHeight (place s) (place t) → AreSameSpot s t
same_placed s t ds rs dt rt e k = record {
  first = positive_product s.at.d (pos s.run) ds rs;
  second = positive_product t.at.d (pos t.run) dt rt;
  same = same_by (point_of s) (point_of t) (record {
    x = k;
    y = crossed s.at.n (pos s.run) t.at.d (pos t.run) ∙ ap (λ (z : ℤ). z *ℤ (pos s.run *ℤ pos t.run)) e ∙ sym
        (crossed_back t.at.n s.at.d (pos s.run) (pos t.run));
  });
}

pub place_divisor : (l : Level) (s : Spot) → HasDivisor l → IsSpotAt l s → HasDivisor (place s)
place_divisor l s d h = positive_product s.at.d (pos s.run) (subst HasDivisor (sym h.at) d) h.runs

-- ---- where the edges meet the height
module _ (p q : Level) (dp : HasDivisor p) (dq : HasDivisor q) (e : IsSameHeight p q) where
  pub whole_same : (x : ℤ) → AreSameSpot (whole_spot x p) (whole_spot x q)
  whole_same x =
      same_placed (whole_spot x p) (whole_spot x q) dp (omega (arith, ints)) dq (omega (arith, ints)) e
      (ring (x ∷ p.d ∷ q.d ∷ pos 1 ∷ []) ((v0 ⊗ v1) ⊗ (v2 ⊗ v3)) ((v0 ⊗ v2) ⊗ (v1 ⊗ v3)) refl)

  pub passing_same : (f : Edge) → pos 0 <ℤ rise f → AreSameSpot (spot_on f p) (spot_on f q)
  passing_same f r =
      let n : ℤ = pos (unsigned_abs (rise f)) in
      let rises = run_above (unsigned_abs (rise f)) (size_above (rise f) r) in
      same_placed (spot_on f p) (spot_on f q) dp rises dq rises e
      (sym (mul_assoc (x_at f p.n p.d) q.d n) ∙ ap (λ (z : ℤ). z *ℤ n) (x_same p q dp dq e f) ∙ mul_assoc
      (x_at f q.n q.d) p.d n)

  abbrev own : Edge → Level → Bool → Bool → List Spot
  own f at flat passing = if flat then whole_spot f.a.x at ∷ (whole_spot f.b.x at ∷ []) else if passing then spot_on f
      at ∷ [] else []

  own_same : (f : Edge) (flat passing : Bool) → (passing ≡ true → pos 0 <ℤ rise f)
      → AllZip AreSameSpot (own f p flat passing) (own f q flat passing)
  own_same f true b r = (whole_same f.a.x, (whole_same f.b.x, tt))
  own_same f false true r = (passing_same f (r refl), tt)
  own_same f false false r = tt

  pub rises_passing : (f : Edge) (at : Level) → passes_at f at ≡ true → pos 0 <ℤ rise f
  rises_passing f at h =
      let t = (and_parts (int_lt (pos 0) (rise f)) (int_le ((low f).y *ℤ at.d) at.n && int_le at.n ((high f).y *ℤ at.d))
      h).0 in
      omega (arith, ints)

  pub spots_same : (es : List LeafEdge) → AllZip AreSameSpot (spots_at es p) (spots_at es q)
  spots_same [] = tt
  spots_same (f ∷ es) =
      zip_append AreSameSpot (own f.edge p (is_flat_at f.edge p) (passes_at f.edge p)) (spots_at es p)
      (own f.edge q (is_flat_at f.edge q) (passes_at f.edge q)) (spots_at es q)
      (subst (λ (b : Bool). AllZip AreSameSpot (own f.edge p (is_flat_at f.edge p) (passes_at f.edge p))
      (own f.edge q b (passes_at f.edge q))) (flat_test p q dp dq e f.edge)
      (subst (λ (b : Bool). AllZip AreSameSpot (own f.edge p (is_flat_at f.edge p) (passes_at f.edge p))
      (own f.edge q (is_flat_at f.edge p) b)) (passes_test p q dp dq e f.edge)
      (own_same f.edge (is_flat_at f.edge p) (passes_at f.edge p) (rises_passing f.edge p))))
      (spots_same es)

-- ---- places of stops
module _ (l : Level) (dl : HasDivisor l) where
  places_divided : (ss : List Spot) → AllByRecursion (IsSpotAt l) ss → AllByRecursion HasDivisor (map place ss)
  places_divided [] h = tt
  places_divided (s ∷ ss) h = (place_divisor l s dl h.0, places_divided ss h.1)

  lower_places : (s t : Spot) → IsSpotAt l s → IsSpotAt l t → IsLower (across s) (across t)
      → IsLower (place s) (place t)
  lower_places s t h k o =
      let a : s.x *ℤ (t.at.d *ℤ pos t.run) ≡ (s.x *ℤ pos t.run) *ℤ l.d = mul_beside s.x t.at.d (pos t.run) ∙ ap
      (λ (at : Level). (s.x *ℤ pos t.run) *ℤ at.d) k.at in
      let b : t.x *ℤ (s.at.d *ℤ pos s.run) ≡ (t.x *ℤ pos s.run) *ℤ l.d = mul_beside t.x s.at.d (pos s.run) ∙ ap
      (λ (at : Level). (t.x *ℤ pos s.run) *ℤ at.d) h.at in
      subst (λ (z : ℤ). z <ℤ (t.x *ℤ (s.at.d *ℤ pos s.run))) (sym a)
      (subst (λ (z : ℤ). ((s.x *ℤ pos t.run) *ℤ l.d) <ℤ z) (sym b) (lower_mul (s.x *ℤ pos t.run) (t.x *ℤ pos s.run)
      l.d dl o))
    where
      lower_mul : (u v d : ℤ) → pos 0 <ℤ d → u <ℤ v → (u *ℤ d) <ℤ (v *ℤ d)
      lower_mul u v d h k =
          let g = positive_product (v -ℤ u) d (omega (arith, ints)) h in
          let e : (v -ℤ u) *ℤ d ≡ v *ℤ d -ℤ u *ℤ d = ring (u ∷ v ∷ d ∷ []) ((v1 ⊖ v0) ⊗ v2) (v1 ⊗ v2 ⊖ v0 ⊗ v2) refl in
          omega (arith, ints)

  places_rise : (ss : List Spot) → AllByRecursion (IsSpotAt l) ss → GoRight ss → IsRising (map place ss)
  places_rise [] h r = tt
  places_rise (s ∷ []) h r = tt
  places_rise (s ∷ (t ∷ ss)) h r = (lower_places s t h.0 h.1.0 r.0, places_rise (t ∷ ss) h.1 r.1)

  same_places : (s t : Spot) → IsSpotAt l s → IsSpotAt l t → IsSameHeight (across s) (across t)
      → IsSameHeight (place s) (place t)
  same_places s t h k e =
      mul_beside s.x t.at.d (pos t.run) ∙ ap (λ (at : Level). (s.x *ℤ pos t.run) *ℤ at.d) k.at ∙ ap
      (λ (z : ℤ). z *ℤ l.d) e
      ∙ sym (mul_beside t.x s.at.d (pos s.run) ∙ ap (λ (at : Level). (t.x *ℤ pos s.run) *ℤ at.d) h.at)

  has_place : (ss : List Spot) (t : Spot) → AllByRecursion (IsSpotAt l) ss → IsSpotAt l t → HasSpot ss t
      → HasHeight (map place ss) (place t)
  has_place [] t h k c = absurd c
  has_place (s ∷ ss) t h k (inl e) = inl (same_places s t h.0 k e)
  has_place (s ∷ ss) t h k (inr c) = inr (has_place ss t h.1 k c)

  all_places : (ss ts : List Spot) → AllByRecursion (IsSpotAt l) ss → AllByRecursion (IsSpotAt l) ts
      → AllByRecursion (HasSpot ss) ts → AllByRecursion (λ t. HasHeight (map place ss) (place t)) ts
  all_places ss [] h k c = tt
  all_places ss (t ∷ ts) h k c = (has_place ss t h k.0 c.0, all_places ss ts h k.1 c.1)

-- ---- from the spots of one divisor to those of the other
module _ (ps : List Level) (dp : AllByRecursion HasDivisor ps) where
  carried : (us vs : List Spot) (s : Spot) → AllZip AreSameSpot us vs → AllByRecursion (λ v. HasHeight ps (place v)) vs
      → IsOneOf us s → HasHeight ps (place s)
  carried [] vs s z h c = absurd c
  carried (u ∷ us) [] s z h c = absurd z
  carried (u ∷ us) (v ∷ vs) s z h (inl e) =
      subst (λ (w : Spot). HasHeight ps (place w)) e
      (has_same ps (place v) (place u) dp z.0.second z.0.first h.0
      (sym (are_same (point_of u) (point_of v) z.0.same).x))
  carried (u ∷ us) (v ∷ vs) s z h (inr c) = carried us vs s z.1 h.1 c

  all_carried : (us vs ss : List Spot) → AllZip AreSameSpot us vs → AllByRecursion (λ v. HasHeight ps (place v)) vs
      → AllByRecursion (IsOneOf us) ss → AllByRecursion (HasHeight ps) (map place ss)
  all_carried us vs [] z h c = tt
  all_carried us vs (s ∷ ss) z h c = (carried us vs s z h c.0, all_carried us vs ss z h c.1)

module _ (p q : Level) (dp : HasDivisor p) (dq : HasDivisor q) (e : IsSameHeight p q) where
  from_places : (ss ts : List Spot) → AllByRecursion (IsSpotAt p) ss → AllByRecursion (IsSpotAt q) ts
      → AllZip IsSameHeight (map place ss) (map place ts) → AllZip AreSameSpot ss ts
  from_places [] [] h k z = tt
  from_places [] (t ∷ ts) h k z = absurd z
  from_places (s ∷ ss) [] h k z = absurd z
  from_places (s ∷ ss) (t ∷ ts) h k z = (
    same_placed s t (subst HasDivisor (sym h.0.at) dp) h.0.runs (subst HasDivisor (sym k.0.at) dq) k.0.runs
        (subst (λ (l : Level). IsSameHeight l t.at) (sym h.0.at) (subst (IsSameHeight p) (sym k.0.at) e)) z.0,
    from_places ss ts h.1 k.1 z.1,
  )

  pub stops_same : (es : List LeafEdge) (ss ts : List Spot) → AreStops es p ss → AreStops es q ts
      → AllZip AreSameSpot ss ts
  stops_same es ss ts a b =
      let us : List Spot = spots_at es p in
      let vs : List Spot = spots_at es q in
      let hu : AllByRecursion (IsSpotAt p) us = spots_are_at es p in
      let hv : AllByRecursion (IsSpotAt q) vs = spots_are_at es q in
      let hs : AllByRecursion (IsSpotAt p) ss = of_stops (IsSpotAt p) us ss hu a.sound in
      let ht : AllByRecursion (IsSpotAt q) ts = of_stops (IsSpotAt q) vs ts hv b.sound in
      let z : AllZip AreSameSpot us vs = spots_same p q dp dq e es in
      let ds = places_divided p dp ss hs in
      let dt = places_divided q dq ts ht in
      from_places ss ts hs ht
      (one_by_one (map place ss) (map place ts) ds dt (places_rise p dp ss hs a.rightwards)
      (places_rise q dq ts ht b.rightwards)
      (all_carried (map place ts) dt us vs ss z (all_places q dq ts vs ht hv b.complete) a.sound)
      (all_carried (map place ss) ds vs us ts (zip_turned AreSameSpot AreSameSpot spot_turned us vs z)
      (all_places p dp ss us hs hu a.complete) b.sound))
