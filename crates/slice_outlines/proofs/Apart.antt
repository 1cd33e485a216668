-- The groups of a height from left to right, by the spots of their strands.
use Rattle.std.proofs.Common.{◌≡◌, ℕ, true, List, [], ◌∷◌, ◌++◌, refl, sym, ap, ◌∙◌, subst, append_assoc}
use lib.IntN.{ℤ, pos, ◌*ℤ◌}
use lib.Signed.{◌<ℤ◌}
use Rattle.std.specs.List.{AllByRecursion}
use Rattle.scad_geom.specs.declared.point.Edge.{Edge}
use Rattle.scad_geom.specs.declared.level.Level.{Level}
use Rattle.scad_geom.specs.declared.level.LeafEdge.{LeafEdge}
use Rattle.scad_geom.specs.Line.{rise, x_at}
use Rattle.scad_geom.proofs.Order.{front, back}
use Rattle.slice_bundles.specs.Bundles.{edge_at}
use Rattle.slice_bundles.specs.KeptOrder.{IsLeftAt}
use Rattle.slice_pieces.specs.declared.piece.Spot.{Spot}
use Rattle.slice_border.specs.Pieces.{spot_on, passes_at, spots_at, IsLeft, IsSameAcross, IsOneOf, GoRight}
use Rattle.slice_border.proofs.Middle.{size_of}
use Rattle.slice_border.proofs.Winding.{IsSpotAt}
use Rattle.slice_sweep.specs.Chains.{Chain}
use Rattle.slice_sweep.specs.Changes.{Group, all_below, all_above, all_at, Stand, LiesLeftAt, AreGroups}
use Rattle.sweep_laws.specs.Staying.{spot_of}
use Rattle.sweep_laws.proofs.Spots.{spot_at as edge_spot}
use Rattle.sweep_laws.proofs.Stops.{spots_are_there}
use Rattle.slice_outlines.specs.declared.mark.Mark.{Mark}
use Rattle.slice_outlines.specs.declared.height.Height.{Height}
use Rattle.slice_outlines.specs.Marks.{spot_at}
use Rattle.slice_outlines.specs.Heights.{IsNotRightOf, AreInOrder}
use Rattle.slice_outlines.specs.Ahead.{first_spot, group_spots, IsSameSpot}
use Rattle.slice_outlines.proofs.EndPoints.{passes_then_rises, passes_there}
use Rattle.slice_outlines.proofs.Placing.{AreNamed, all_append}
use Rattle.slice_outlines.proofs.LevelAhead.{IsMet, mark_spot}
use Rattle.slice_outlines.proofs.GroupHeights.{HeadPasses, groups_met}
use Rattle.slice_outlines.proofs.Across.{IsClosed, left_chain, weakly, same_not_right, same_then_left, closed_right}

-- ---- lists of groups
pub below-append : (gs hs : List Group) → all_below (gs ++ hs) ≡ all_below gs ++ all_below hs
below-append [] hs = refl
below-append (g ∷ gs) hs = ap (λ (bs : List (List ℕ)). g.below ++ bs) (below-append gs hs)
    ∙ sym (append_assoc g.below (all_below gs) (all_below hs))

pub above-append : (gs hs : List Group) → all_above (gs ++ hs) ≡ all_above gs ++ all_above hs
above-append [] hs = refl
above-append (g ∷ gs) hs = ap (λ (bs : List (List ℕ)). g.above ++ bs) (above-append gs hs)
    ∙ sym (append_assoc g.above (all_above gs) (all_above hs))

-- ---- spots of bundles
pub bundle_spot : (es : List LeafEdge) (l : Level) (b : List ℕ) → HeadPasses es l b → IsSpotAt l (spot_of es l b)
bundle_spot es l [] p = absurd p
bundle_spot es l (k ∷ ks) p = edge_spot (edge_at es k) l (passes_then_rises (edge_at es k) l p)

bundle_spots : (es : List LeafEdge) (l : Level) (bs : List (List ℕ)) → AllByRecursion (HeadPasses es l) bs
    → AllByRecursion (λ b. IsSpotAt l (spot_of es l b)) bs
bundle_spots es l [] p = tt
bundle_spots es l (b ∷ bs) p = (bundle_spot es l b p.0, bundle_spots es l bs p.1)

first_is_at : (es : List LeafEdge) (l : Level) (bs : List (List ℕ)) → (bs ≡ [] → ⊥)
    → AllByRecursion (HeadPasses es l) bs → IsSpotAt l (first_spot es l bs)
first_is_at es l [] n p = absurd (n refl)
first_is_at es l (b ∷ bs) n p = bundle_spot es l b p.0

-- a group at one spot, where an edge meets the height
pub record IsPlaced (h : Height) (g : Group) : Type 0 where
  pub met : IsMet h g
  pub passes : AllByRecursion (HeadPasses h.edges.now h.at.now) (all_at g)
  pub at : IsSpotAt h.at.now (first_spot h.edges.now h.at.now (all_at g))
  pub spots : AllByRecursion (λ b. IsSpotAt h.at.now (spot_of h.edges.now h.at.now b)) (all_at g)

abbrev pub at_group : Height → Group → Spot
at_group h g = first_spot h.edges.now h.at.now (all_at g)

-- each lies to the left of all later ones
abbrev pub AreApart : Height → List Group → Type 0
AreApart h [] = Unit {0}
AreApart h (g ∷ gs) = AllByRecursion (λ k. IsLeft (at_group h g) (at_group h k)) gs × AreApart h gs

edges_left : (e f : Edge) (l : Level) → passes_at e l ≡ true → passes_at f l ≡ true → IsLeftAt l e f
    → IsLeft (spot_on e l) (spot_on f l)
edges_left e f l p q o =
    subst (λ (r : ℤ). (x_at e l.n l.d *ℤ r) <ℤ (x_at f l.n l.d *ℤ pos (spot_on e l).run))
    (sym (size_of (rise f) (passes_then_rises f l q)))
    (subst (λ (r : ℤ). (x_at e l.n l.d *ℤ rise f) <ℤ (x_at f l.n l.d *ℤ r))
    (sym (size_of (rise e) (passes_then_rises e l p))) o)

bundles_left : (es : List LeafEdge) (l : Level) (b c : List ℕ) → HeadPasses es l b → HeadPasses es l c
    → LiesLeftAt es l b c → IsLeft (spot_of es l b) (spot_of es l c)
bundles_left es l [] c p q o = absurd p
bundles_left es l (k ∷ ks) [] p q o = absurd q
bundles_left es l (k ∷ ks) (j ∷ js) p q o = edges_left (edge_at es k) (edge_at es j) l p q o

firsts_left : (es : List LeafEdge) (l : Level) (bs cs : List (List ℕ)) → (bs ≡ [] → ⊥) → (cs ≡ [] → ⊥)
    → AllByRecursion (HeadPasses es l) bs → AllByRecursion (HeadPasses es l) cs
    → AllByRecursion (λ b. AllByRecursion (LiesLeftAt es l b) cs) bs
    → IsLeft (first_spot es l bs) (first_spot es l cs)
firsts_left es l [] cs n m p q a = absurd (n refl)
firsts_left es l (b ∷ bs) [] n m p q a = absurd (m refl)
firsts_left es l (b ∷ bs) (c ∷ cs) n m p q a = bundles_left es l b c p.0 q.0 a.0.0

module _ (h : Height) where
  abbrev es : List LeafEdge
  es = h.edges.now

  abbrev l : Level
  l = h.at.now

  placed_by : (gs : List Group) → AllByRecursion (IsMet h) gs → AllByRecursion (HeadPasses es l) (all_below gs)
      → AllByRecursion (HeadPasses es l) (all_above gs) → AllByRecursion (IsPlaced h) gs
  placed_by [] m p q = tt
  placed_by (g ∷ gs) m p q =
      let P : List ℕ → Type 0 = HeadPasses es l in
      let here : AllByRecursion P (all_at g) =
      all_append P g.below g.above (front P g.below (all_below gs) p) (front P g.above (all_above gs) q) in (
        record {
          met = m.0;
          passes = here;
          at = first_is_at es l (all_at g) m.0.some here;
          spots = bundle_spots es l (all_at g) here;
        },
        placed_by gs m.1 (back P g.below (all_below gs) p) (back P g.above (all_above gs) q),
      )

  pub groups_placed : (gs : List Group) → AreGroups es l gs → AllByRecursion (HeadPasses es l) (all_below gs)
      → AllByRecursion (HeadPasses es l) (all_above gs) → AllByRecursion (IsPlaced h) gs
  groups_placed gs g p q = placed_by gs (groups_met h gs h.at_within.positive g p q) p q

  pub are_met : (gs : List Group) → AllByRecursion (IsPlaced h) gs → AllByRecursion (IsMet h) gs
  are_met [] p = tt
  are_met (g ∷ gs) p = (p.0.met, are_met gs p.1)

  pub groups_apart : (gs : List Group) → AllByRecursion (IsPlaced h) gs → Chain (Stand (LiesLeftAt es l)) gs
      → AreApart h gs
  groups_apart [] p c = tt
  groups_apart (g ∷ []) p c = (tt, tt)
  groups_apart (g ∷ (k ∷ gs)) p c =
      let rest : AreApart h (k ∷ gs) = groups_apart (k ∷ gs) p.1 c.1 in
      let o : IsLeft (at_group h g) (at_group h k) = firsts_left es l (all_at g) (all_at k) p.0.met.some p.1.0.met.some
      p.0.passes p.1.0.passes c.0 in
      ((o, further gs p.1.1 o rest.0), rest)
    where
      further : (js : List Group) → AllByRecursion (IsPlaced h) js → IsLeft (at_group h g) (at_group h k)
          → AllByRecursion (λ j. IsLeft (at_group h k) (at_group h j)) js
          → AllByRecursion (λ j. IsLeft (at_group h g) (at_group h j)) js
      further [] q o a = tt
      further (j ∷ js) q o a = (
        left_chain l (at_group h g) (at_group h k) (at_group h j) p.0.at p.1.0.at q.0.at o a.0,
        further js q.1 o a.1,
      )

  -- ---- what is so at the spots of groups is so at all their bundles
  module _ (P : Spot → Type 0) (closed : IsClosed l P) where
    pub each_bundle : (s : Spot) → IsSpotAt l s → P s → (bs : List (List ℕ))
        → AllByRecursion (λ b. IsSpotAt l (spot_of es l b)) bs
        → AllByRecursion (λ b. IsSameSpot (spot_of es l b) s) bs → AllByRecursion (λ b. P (spot_of es l b)) bs
    each_bundle s hs p [] a m = tt
    each_bundle s hs p (b ∷ bs) a m =
        (closed s (spot_of es l b) hs a.0 (sym m.0.across) p, each_bundle s hs p bs a.1 m.1)

    pub in_group : (g : Group) → IsPlaced h g → P (at_group h g) → AllByRecursion (λ b. P (spot_of es l b)) (all_at g)
    in_group g p a = each_bundle (at_group h g) p.at a (all_at g) p.spots p.met.at

    pub all_under : (gs : List Group) → AllByRecursion (IsPlaced h) gs → AllByRecursion (λ g. P (at_group h g)) gs
        → AllByRecursion (λ b. P (spot_of es l b)) (all_below gs)
    all_under [] p a = tt
    all_under (g ∷ gs) p a = all_append (λ b. P (spot_of es l b)) g.below (all_below gs)
        (front (λ b. P (spot_of es l b)) g.below g.above (in_group g p.0 a.0)) (all_under gs p.1 a.1)

    pub all_over : (gs : List Group) → AllByRecursion (IsPlaced h) gs → AllByRecursion (λ g. P (at_group h g)) gs
        → AllByRecursion (λ b. P (spot_of es l b)) (all_above gs)
    all_over [] p a = tt
    all_over (g ∷ gs) p a = all_append (λ b. P (spot_of es l b)) g.above (all_above gs)
        (back (λ b. P (spot_of es l b)) g.below g.above (in_group g p.0 a.0)) (all_over gs p.1 a.1)

  pub of_bundles : (P : Spot → Type 0) (ms : List Mark) (bs : List (List ℕ)) → AreNamed ms bs
      → AllByRecursion (λ b. P (spot_of es l b)) bs → AllByRecursion (λ m. P (spot_at es l m)) ms
  of_bundles P [] bs z a = tt
  of_bundles P (m ∷ ms) [] z a = absurd z
  of_bundles P (m ∷ ms) (b ∷ bs) z a = (subst P (mark_spot es l m b z.0) a.0, of_bundles P ms bs z.1 a.1)

  -- ---- the order of marks
  abbrev pub AreOrdered : List (List ℕ) → Type 0
  AreOrdered [] = Unit {0}
  AreOrdered (b ∷ bs) = AllByRecursion (λ c. IsNotRightOf (spot_of es l b) (spot_of es l c)) bs × AreOrdered bs

  ordered_by : (s : Spot) → IsSpotAt l s → (bs rest : List (List ℕ))
      → AllByRecursion (λ b. IsSpotAt l (spot_of es l b)) bs → AllByRecursion (λ b. IsSameAcross (spot_of es l b) s) bs
      → AllByRecursion (λ b. IsSpotAt l (spot_of es l b)) rest → AllByRecursion (λ b. IsLeft s (spot_of es l b)) rest
      → AreOrdered rest → AreOrdered (bs ++ rest)
  ordered_by s hs [] rest a m b o r = r
  ordered_by s hs (x ∷ bs) rest a m b o r =
      let P : List ℕ → Type 0 = λ c. IsNotRightOf (spot_of es l x) (spot_of es l c) in (
        all_append P bs rest (beside bs a.1 m.1) (behind rest b o),
        ordered_by s hs bs rest a.1 m.1 b o r,
      )
    where
      beside : (cs : List (List ℕ)) → AllByRecursion (λ b. IsSpotAt l (spot_of es l b)) cs
          → AllByRecursion (λ b. IsSameAcross (spot_of es l b) s) cs
          → AllByRecursion (λ c. IsNotRightOf (spot_of es l x) (spot_of es l c)) cs
      beside [] a' m' = tt
      beside (c ∷ cs) a' m' =
          (same_not_right l (spot_of es l x) s (spot_of es l c) a.0 hs a'.0 m.0 m'.0, beside cs a'.1 m'.1)

      behind : (cs : List (List ℕ)) → AllByRecursion (λ b. IsSpotAt l (spot_of es l b)) cs
          → AllByRecursion (λ b. IsLeft s (spot_of es l b)) cs
          → AllByRecursion (λ c. IsNotRightOf (spot_of es l x) (spot_of es l c)) cs
      behind [] a' o' = tt
      behind (c ∷ cs) a' o' = (
        weakly (spot_of es l x) (spot_of es l c)
            (same_then_left l (spot_of es l x) s (spot_of es l c) a.0 hs a'.0 m.0 o'.0),
        behind cs a'.1 o'.1,
      )

  across_all : (s : Spot) (bs : List (List ℕ)) → AllByRecursion (λ b. IsSameSpot (spot_of es l b) s) bs
      → AllByRecursion (λ b. IsSameAcross (spot_of es l b) s) bs
  across_all s [] a = tt
  across_all s (b ∷ bs) a = (a.0.across, across_all s bs a.1)

  pub under_spots : (gs : List Group) → AllByRecursion (IsPlaced h) gs
      → AllByRecursion (λ b. IsSpotAt l (spot_of es l b)) (all_below gs)
  under_spots [] p = tt
  under_spots (g ∷ gs) p = all_append (λ b. IsSpotAt l (spot_of es l b)) g.below (all_below gs)
      (front (λ b. IsSpotAt l (spot_of es l b)) g.below g.above p.0.spots) (under_spots gs p.1)

  pub over_spots : (gs : List Group) → AllByRecursion (IsPlaced h) gs
      → AllByRecursion (λ b. IsSpotAt l (spot_of es l b)) (all_above gs)
  over_spots [] p = tt
  over_spots (g ∷ gs) p = all_append (λ b. IsSpotAt l (spot_of es l b)) g.above (all_above gs)
      (back (λ b. IsSpotAt l (spot_of es l b)) g.below g.above p.0.spots) (over_spots gs p.1)

  ordered_under : (gs : List Group) → AllByRecursion (IsPlaced h) gs → AreApart h gs → AreOrdered (all_below gs)
  ordered_under [] p a = tt
  ordered_under (g ∷ gs) p a =
      let s : Spot = at_group h g in
      ordered_by s p.0.at g.below (all_below gs)
      (front (λ b. IsSpotAt l (spot_of es l b)) g.below g.above p.0.spots)
      (across_all s g.below (front (λ b. IsSameSpot (spot_of es l b) s) g.below g.above p.0.met.at))
      (under_spots gs p.1) (all_under (λ t. IsLeft s t) (closed_right l s p.0.at) gs p.1 a.0)
      (ordered_under gs p.1 a.1)

  ordered_over : (gs : List Group) → AllByRecursion (IsPlaced h) gs → AreApart h gs → AreOrdered (all_above gs)
  ordered_over [] p a = tt
  ordered_over (g ∷ gs) p a =
      let s : Spot = at_group h g in
      ordered_by s p.0.at g.above (all_above gs)
      (back (λ b. IsSpotAt l (spot_of es l b)) g.below g.above p.0.spots)
      (across_all s g.above (back (λ b. IsSameSpot (spot_of es l b) s) g.below g.above p.0.met.at))
      (over_spots gs p.1) (all_over (λ t. IsLeft s t) (closed_right l s p.0.at) gs p.1 a.0)
      (ordered_over gs p.1 a.1)

  pub in_order : (ms : List Mark) (bs : List (List ℕ)) → AreNamed ms bs → AreOrdered bs → AreInOrder h ms
  in_order [] bs z o = tt
  in_order (m ∷ []) bs z o = tt
  in_order (m ∷ (n ∷ ms)) [] z o = absurd z
  in_order (m ∷ (n ∷ ms)) (b ∷ []) z o = absurd z.1
  in_order (m ∷ (n ∷ ms)) (b ∷ (c ∷ bs)) z o = (
    subst (λ (s : Spot). IsNotRightOf s (spot_at es l n)) (mark_spot es l m b z.0)
        (subst (IsNotRightOf (spot_of es l b)) (mark_spot es l n c z.1.0) o.0.0),
    in_order (n ∷ ms) (c ∷ bs) z.1 o.1,
  )

  pub below_in_order : (ms : List Mark) (gs : List Group) → AreNamed ms (all_below gs)
      → AllByRecursion (IsPlaced h) gs → AreApart h gs → AreInOrder h ms
  below_in_order ms gs z p a = in_order ms (all_below gs) z (ordered_under gs p a)

  pub above_in_order : (ms : List Mark) (gs : List Group) → AreNamed ms (all_above gs)
      → AllByRecursion (IsPlaced h) gs → AreApart h gs → AreInOrder h ms
  above_in_order ms gs z p a = in_order ms (all_above gs) z (ordered_over gs p a)

  -- ---- their spots
  pub groups_go_right : (gs : List Group) → AreApart h gs → GoRight (group_spots es l gs)
  groups_go_right [] a = tt
  groups_go_right (g ∷ []) a = tt
  groups_go_right (g ∷ (k ∷ gs)) a = (a.0.0, groups_go_right (k ∷ gs) a.1)

  first_sound : (bs : List (List ℕ)) → (bs ≡ [] → ⊥) → AllByRecursion (HeadPasses es l) bs
      → IsOneOf (spots_at es l) (first_spot es l bs)
  first_sound [] n p = absurd (n refl)
  first_sound ([] ∷ bs) n p = absurd p.0
  first_sound ((k ∷ ks) ∷ bs) n p = spots_are_there es l k (passes_there es k l p.0) p.0

  pub groups_sound : (gs : List Group) → AllByRecursion (IsPlaced h) gs
      → AllByRecursion (IsOneOf (spots_at es l)) (group_spots es l gs)
  groups_sound [] p = tt
  groups_sound (g ∷ gs) p = (first_sound (all_at g) p.0.met.some p.0.passes, groups_sound gs p.1)
