-- The groups and flat edges of a height on both sides of a cut.
use Rattle.std.proofs.Common.{◌≡◌, ◌⊎◌, inl, inr, ℕ, zero, suc, ◌+◌, ◌<◌, ◌≤◌, Bool, true, false, List, [], ◌∷◌, ◌++◌, length, get_or, take, drop, refl, sym, ap, ◌∙◌, subst, arith, append_assoc, length-append}
use lib.IntN.{ℤ, pos, ◌*ℤ◌}
use lib.Signed.{◌<ℤ◌, ◌≤ℤ◌}
use Rattle.std.specs.Prelude.{int_lt, if◌then◌else◌}
use Rattle.std.specs.Ordering.{int_eq}
use Rattle.std.specs.Cmp.{signed_Decides}
use Rattle.std.specs.List.{AllByRecursion}
use Rattle.std.proofs.lemmas.Int.{ints}
use Rattle.std.proofs.lemmas.Bool.{and_from}
use Rattle.std.proofs.lemmas.List.{append-nil, drop-map, drop_at, get_or_default}
use Rattle.scad_base.proofs.Products.{positive_product}
use Rattle.scad_geom.specs.declared.level.Level.{Level}
use Rattle.scad_geom.specs.declared.level.LeafEdge.{LeafEdge}
use Rattle.scad_geom.specs.Line.{rise}
use Rattle.scad_geom.specs.Sign.{is_zero}
use Rattle.scad_geom.specs.Point.{Point}
use Rattle.scad_geom.proofs.Integers.{mul_assoc}
use Rattle.scad_geom.proofs.Order.{front, back}
use Rattle.winding_laws.proofs.Sameness.{cancel_mul}
use Rattle.slice_bundles.specs.Bundles.{no_edge, edge_at}
use Rattle.slice_pieces.specs.declared.piece.Spot.{Spot}
use Rattle.slice_pieces.specs.Spots.{point_of}
use Rattle.slice_border.specs.Pieces.{spot_on, whole_spot, is_flat_at, IsLeft}
use Rattle.slice_border.specs.Beside.{left_value, passing, lies_left, is_right_of}
use Rattle.slice_border.proofs.Winding.{IsSpotAt}
use Rattle.slice_sweep.specs.Changes.{Group, all_below, all_above}
use Rattle.slice_sweep.specs.Front.{bundles_in}
use Rattle.sweep_laws.specs.Fronts.{Strand, bundles_of}
use Rattle.sweep_laws.specs.Staying.{spot_of}
use Rattle.sweep_laws.specs.Balance.{StaysAside}
use Rattle.sweep_laws.proofs.LevelPieces.{pass_strands, stop_places}
use Rattle.slice_outlines.specs.declared.mark.Mark.{Mark}
use Rattle.slice_outlines.specs.declared.flat.Flat.{Flat}
use Rattle.slice_outlines.specs.declared.height.Height.{Height}
use Rattle.slice_outlines.specs.Marks.{spot_at, AreKept}
use Rattle.slice_outlines.specs.Flats.{IsFlatOf}
use Rattle.slice_outlines.specs.Heights.{Onwards, IsNotRightOf, IsBalancedBefore}
use Rattle.slice_outlines.specs.Ahead.{between, AreBalancedFrom}
use Rattle.slice_outlines.specs.Level.{HasNumber, AreFlatsOn, IsValuedAt}
use Rattle.slice_outlines.proofs.EndPoints.{passes_then_rises, passes_there}
use Rattle.slice_outlines.proofs.Placing.{AreNamed, all_append}
use Rattle.slice_outlines.proofs.LevelAhead.{mark_spot}
use Rattle.slice_outlines.proofs.GroupHeights.{HeadPasses}
use Rattle.slice_outlines.proofs.Balancing.{balanced_by, IsFirstRight, right_part}
use Rattle.slice_outlines.proofs.StrandSearch.{by_places, scaled_order}
use Rattle.slice_outlines.proofs.WayCovers.{flat_rise, by_spot, past_spot, number_split}
use Rattle.slice_outlines.proofs.Across.{IsClosed, left_not, weakly, by_then_left, closed_by, closed_right}
use Rattle.slice_outlines.proofs.Apart.{IsPlaced, AreApart, at_group, in_group, all_under, all_over, of_bundles, below-append, above-append, bundle_spot}

-- ---- a part of a height and all others
-- of these marks the first so many are of one kind, all others of another
pub record AreCut (h : Height) (Q N : Spot → Type 0) (ms : List Mark) (i : ℕ) : Type 0 where
  pub size : i ≤ length ms
  pub are : AllByRecursion (λ m. Q (spot_at h.edges.now h.at.now m)) (take i ms)
  pub others : AllByRecursion (λ m. N (spot_at h.edges.now h.at.now m)) (drop i ms)

-- so it is with groups, as many as these marks
pub record AreSplit (h : Height) (Q N : Spot → Type 0) (gs : List Group) (i j : ℕ) : Type 0 where
  pub xs : List Group
  pub ys : List Group
  pub groups : gs ≡ xs ++ ys
  pub below : length (all_below xs) ≡ i
  pub above : length (all_above xs) ≡ j
  pub are : AllByRecursion (λ g. Q (at_group h g)) xs
  pub others : AllByRecursion (λ g. N (at_group h g)) ys

-- what is behind some bundles of the first kind
pub record IsPast (h : Height) (Q N : Spot → Type 0) (n i : ℕ) (rest : List (List ℕ)) (ms : List Mark) : Type 0 where
  pub left : ℕ
  pub count : n + left ≡ i
  pub cut : AreCut h Q N (drop n ms) left
  pub named : AreNamed (drop n ms) rest

module _ (h : Height) (Q N : Spot → Type 0) (closed_q : IsClosed h.at.now Q) (closed_n : IsClosed h.at.now N)
    (never : (s : Spot) → Q s → N s → ⊥) (either : (s : Spot) → Q s ⊎ N s)
    (later : (s t : Spot) → IsSpotAt h.at.now s → IsSpotAt h.at.now t → IsLeft s t → N s → N t) where
  abbrev es : List LeafEdge
  es = h.edges.now

  abbrev l : Level
  l = h.at.now

  past_own : (bs rest : List (List ℕ)) (ms : List Mark) (i : ℕ) → AreNamed ms (bs ++ rest)
      → AllByRecursion (λ b. Q (spot_of es l b)) bs → AreCut h Q N ms i → IsPast h Q N (length bs) i rest ms
  past_own [] rest ms i z q c = record { left = i; count = omega arith; cut = c; named = z }
  past_own (b ∷ bs) rest [] i z q c = absurd z
  past_own (b ∷ bs) rest (m ∷ ms) zero z q c =
      absurd (never (spot_at es l m) (subst Q (mark_spot es l m b z.0) q.0) c.others.0)
  past_own (b ∷ bs) rest (m ∷ ms) (suc i) z q c =
      let size = c.size in
      let r = past_own bs rest ms i z.1 q.1
      (record { size = omega (arith, size); are = c.are.1; others = c.others }) in
      let count = r.count in
      record { left = r.left; count = omega (arith, count); cut = r.cut; named = r.named }

  none_own : (ms : List Mark) (i : ℕ) → AllByRecursion (λ m. N (spot_at es l m)) ms → AreCut h Q N ms i → 0 ≡ i
  none_own ms zero n c = refl
  none_own [] (suc i) n c = let size = c.size in absurd (omega (arith, size))
  none_own (m ∷ ms) (suc i) n c = absurd (never (spot_at es l m) c.are.0 n.0)

  no_marks : (i : ℕ) (ms : List Mark) → AreNamed ms [] → AreCut h Q N ms i → 0 ≡ i
  no_marks i [] z c = let size = c.size in omega (arith, size)
  no_marks i (m ∷ ms) z c = absurd z

  all_later : (g : Group) (gs : List Group) → IsPlaced h g → AllByRecursion (IsPlaced h) gs
      → AllByRecursion (λ k. IsLeft (at_group h g) (at_group h k)) gs → N (at_group h g)
      → AllByRecursion (λ k. N (at_group h k)) gs
  all_later g [] p q o n = tt
  all_later g (k ∷ gs) p q o n =
      (later (at_group h g) (at_group h k) p.at q.0.at o.0 n, all_later g gs p q.1 o.1 n)

  pub split : (gs : List Group) → AllByRecursion (IsPlaced h) gs → AreApart h gs → (lower upper : List Mark)
      → AreNamed lower (all_below gs) → AreNamed upper (all_above gs) → (i j : ℕ) → AreCut h Q N lower i
      → AreCut h Q N upper j → AreSplit h Q N gs i j
  split [] p a lower upper z y i j c d = record {
    xs = [];
    ys = [];
    groups = refl;
    below = no_marks i lower z c;
    above = no_marks j upper y d;
    are = tt;
    others = tt;
  }
  split (g ∷ gs) p a lower upper z y i j c d = elim (either (at_group h g)) [
    | inl q ↦
        let all = in_group h Q closed_q g p.0 q in
        let P : List ℕ → Type 0 = λ b. Q (spot_of es l b) in
        let u = past_own g.below (all_below gs) lower i z (front P g.below g.above all) c in
        let v = past_own g.above (all_above gs) upper j y (back P g.below g.above all) d in
        let r = split gs p.1 a.1 (drop (length g.below) lower) (drop
        (length g.above) upper) u.named v.named u.left v.left
        u.cut v.cut in
        let below = r.below in
        let above = r.above in
        let count = u.count in
        let count' = v.count in
        record {
          xs = g ∷ r.xs;
          ys = r.ys;
          groups = ap (λ (ks : List Group). g ∷ ks) r.groups;
          below = omega (arith, length-append g.below (all_below r.xs), below, count);
          above = omega (arith, length-append g.above (all_above r.xs), above, count');
          are = (q, r.are);
          others = r.others;
        }
    | inr n ↦
        let all : AllByRecursion (λ k. N (at_group h k)) (g ∷ gs) = (n, all_later g gs p.0 p.1 a.0 n) in
        record {
          xs = [];
          ys = g ∷ gs;
          groups = refl;
          below = none_own lower i (of_bundles h N lower (all_below (g ∷ gs)) z (all_under h N closed_n
              (g ∷ gs) p all)) c;
          above = none_own upper j (of_bundles h N upper (all_above (g ∷ gs)) y (all_over h N closed_n
              (g ∷ gs) p all)) d;
          are = tt;
          others = all;
        }
  ]

  -- behind groups of the first kind
  pub split_behind : (left right : List Group) → AllByRecursion (IsPlaced h) left → AllByRecursion (IsPlaced h) right
      → AreApart h right → AllByRecursion (λ g. Q (at_group h g)) left → (lower upper : List Mark)
      → AreNamed lower (all_below (left ++ right)) → AreNamed upper (all_above (left ++ right)) → (i j : ℕ)
      → AreCut h Q N lower i → AreCut h Q N upper j
      → (i' : ℕ) × (j' : ℕ) × AreSplit h Q N right i' j' × (length (all_below left) + i' ≡ i)
      × (length (all_above left) + j' ≡ j)
  split_behind left right p r a q lower upper z y i j c d =
      let u = past_own (all_below left) (all_below right) lower i (subst (AreNamed lower) (below-append left right) z)
      (all_under h Q closed_q left p q) c in
      let v = past_own (all_above left) (all_above right) upper j (subst (AreNamed upper) (above-append left right) y)
      (all_over h Q closed_q left p q) d in (
        u.left,
        v.left,
        split right r a (drop (length (all_below left)) lower) (drop (length (all_above left)) upper) u.named v.named
            u.left v.left u.cut v.cut,
        u.count,
        v.count,
      )

-- ---- a cut
-- a spot with all groups and flat edges on one side of it or the other
pub record IsCutAt (h : Height) (fb fa : List Flat) (left right : List Group) (s : Spot) : Type 0 where
  pub at : IsSpotAt h.at.now s
  pub before : AllByRecursion (λ g. IsNotRightOf (at_group h g) s) left
  pub behind : AllByRecursion (λ g. IsLeft s (at_group h g)) right
  pub flats_before : AllByRecursion (λ f. IsNotRightOf (whole_spot f.right h.at.now) s) fb
  pub flats_behind : AllByRecursion (λ f. IsLeft s (whole_spot f.left h.at.now)) fa

pub whole_at : (l : Level) (x : ℤ) → IsSpotAt l (whole_spot x l)
whole_at l x = record { at = refl; runs = omega (arith, ints) }

itself : (s : Spot) → IsNotRightOf s s
itself s = omega (arith, ints)

module _ (h : Height) (fb fa : List Flat) (left : List Group) (g : Group) (right : List Group) (s : Spot)
    (c : IsCutAt h fb fa left (g ∷ right) s) (p : AllByRecursion (IsPlaced h) left) (q : IsPlaced h g) where
  abbrev t : Spot
  t = at_group h g

  groups_before : (ks : List Group) → AllByRecursion (IsPlaced h) ks
      → AllByRecursion (λ k. IsNotRightOf (at_group h k) s) ks → AllByRecursion (λ k. IsNotRightOf (at_group h k) t) ks
  groups_before [] r a = tt
  groups_before (k ∷ ks) r a = (
    weakly (at_group h k) t (by_then_left h.at.now (at_group h k) s t r.0.at c.at q.at a.0 c.behind.0),
    groups_before ks r.1 a.1,
  )

  flats_on : (fs : List Flat) → AllByRecursion (λ f. IsNotRightOf (whole_spot f.right h.at.now) s) fs
      → AllByRecursion (λ f. IsNotRightOf (whole_spot f.right h.at.now) t) fs
  flats_on [] a = tt
  flats_on (f ∷ fs) a = (
    weakly (whole_spot f.right h.at.now) t
        (by_then_left h.at.now (whole_spot f.right h.at.now) s t (whole_at h.at.now f.right) c.at q.at a.0 c.behind.0),
    flats_on fs a.1,
  )

  -- at the next group
  pub cut_next : AllByRecursion (λ k. IsLeft t (at_group h k)) right
      → AllByRecursion (λ f. IsLeft t (whole_spot f.left h.at.now)) fa → IsCutAt h fb fa (left ++ (g ∷ [])) right t
  cut_next a b = record {
    at = q.at;
    before = all_append (λ k. IsNotRightOf (at_group h k) t) left (g ∷ []) (groups_before left p c.before)
        (itself t, tt);
    behind = a;
    flats_before = flats_on fb c.flats_before;
    flats_behind = b;
  }

-- ---- no flat edge leads on from a cut
less_false : (a b : ℤ) → b ≤ℤ a → int_lt a b ≡ false
less_false a b h = grind (arith, ints)

less_true : (a b : ℤ) → a <ℤ b → int_lt a b ≡ true
less_true a b h = grind (arith, ints)

pub found : (edges : List LeafEdge) (P : Flat → Type 0) (fs : List Flat) (k : ℕ) → HasNumber fs k
    → AllByRecursion (IsFlatOf edges) fs → AllByRecursion P fs → (f : Flat) × (f.number ≡ k) × IsFlatOf edges f × P f
found edges P [] k h a b = absurd h
found edges P (f ∷ fs) k (inl e) a b = (f, e, a.0, b.0)
found edges P (f ∷ fs) k (inr e) a b = found edges P fs k e a.1 b.1

module _ (h : Height) (fb fa : List Flat) (left right : List Group) (s : Spot) (c : IsCutAt h fb fa left right s)
    (flats : AreFlatsOn h.edges.now h.at.now (fb ++ fa)) where
  abbrev p : Point
  p = point_of s

  divisor : pos 0 <ℤ p.d
  divisor = positive_product s.at.d (pos s.run)
      (subst (λ (m : Level). pos 0 <ℤ m.d) (sym c.at.at) h.at_within.positive) c.at.runs

  is_flat : (e : LeafEdge) → e.edge.a.y ≡ e.edge.b.y → e.edge.a.y *ℤ p.d ≡ p.y → is_flat_at e.edge h.at.now ≡ true
  is_flat e f y =
      let r : ℤ = pos s.run in
      let on : e.edge.a.y *ℤ s.at.d ≡ s.at.n = cancel_mul (e.edge.a.y *ℤ s.at.d) s.at.n r c.at.runs
      (mul_assoc e.edge.a.y s.at.d r ∙ y) in
      and_from (is_zero (rise e.edge)) (int_eq (e.edge.a.y *ℤ h.at.now.d) h.at.now.n) (ap is_zero (flat_rise e.edge f))
      ((signed_Decides (e.edge.a.y *ℤ h.at.now.d) h.at.now.n).1 (subst (λ (m : Level). e.edge.a.y *ℤ m.d
      ≡ m.n) c.at.at on))

  -- flat edges that end before it
  ends_before : (f : Flat) → f.left ≤ℤ f.right → IsNotRightOf (whole_spot f.right h.at.now) s
      → ((f.left *ℤ p.d) ≤ℤ s.x) × ((f.right *ℤ p.d) ≤ℤ s.x)
  ends_before f o n =
      let right : (f.right *ℤ p.d) ≤ℤ s.x = by_spot s f.right (left_not s (whole_spot f.right s.at)
      (subst (λ (m : Level). IsNotRightOf (whole_spot f.right m) s) (sym c.at.at) n)) in
      let order : (f.left *ℤ p.d) ≤ℤ (f.right *ℤ p.d) = scaled_order f.left f.right p.d o divisor in
      (omega (arith, ints, order, right), right)

  begins_behind : (f : Flat) → f.left ≤ℤ f.right → IsLeft s (whole_spot f.left h.at.now)
      → (s.x <ℤ (f.left *ℤ p.d)) × (s.x <ℤ (f.right *ℤ p.d))
  begins_behind f o n =
      let first : s.x <ℤ (f.left *ℤ p.d) = past_spot s f.left
      (subst (λ (m : Level). IsLeft s (whole_spot f.left m)) (sym c.at.at) n) in
      let order : (f.left *ℤ p.d) ≤ℤ (f.right *ℤ p.d) = scaled_order f.left f.right p.d o divisor in
      (first, omega (arith, ints, order, first))

  alike : (a b x y : ℤ) → (a ≡ x × b ≡ y) ⊎ (a ≡ y × b ≡ x) → int_lt s.x (x *ℤ p.d) ≡ int_lt s.x (y *ℤ p.d)
      → int_lt s.x (a *ℤ p.d) ≡ int_lt s.x (b *ℤ p.d)
  alike a b x y (inl e) h' = ap (λ (z : ℤ). int_lt s.x (z *ℤ p.d)) e.0 ∙ h'
      ∙ sym (ap (λ (z : ℤ). int_lt s.x (z *ℤ p.d)) e.1)
  alike a b x y (inr e) h' =
      ap (λ (z : ℤ). int_lt s.x (z *ℤ p.d)) e.0 ∙ sym h' ∙ sym (ap (λ (z : ℤ). int_lt s.x (z *ℤ p.d)) e.1)

  by_flat : (k : ℕ) (f : Flat) → f.number ≡ k → IsFlatOf h.edges.now f
      → int_lt s.x (f.left *ℤ p.d) ≡ int_lt s.x (f.right *ℤ p.d)
      → int_lt s.x ((edge_at h.edges.now k).a.x *ℤ p.d) ≡ int_lt s.x ((edge_at h.edges.now k).b.x *ℤ p.d)
  by_flat k f e i q = subst (λ (n : ℕ). int_lt s.x ((edge_at h.edges.now n).a.x *ℤ p.d) ≡ int_lt s.x
      ((edge_at h.edges.now n).b.x *ℤ p.d)) e
      (alike (edge_at h.edges.now f.number).a.x (edge_at h.edges.now f.number).b.x f.left f.right i.ends q)

  one_aside : (k : ℕ) → k < length h.edges.now → is_flat_at (edge_at h.edges.now k) h.at.now ≡ true
      → int_lt s.x ((edge_at h.edges.now k).a.x *ℤ p.d) ≡ int_lt s.x ((edge_at h.edges.now k).b.x *ℤ p.d)
  one_aside k o t = elim (number_split fb fa k (flats.all k o t)) [
    | inl a ↦
        let x = found h.edges.now (λ f. IsNotRightOf (whole_spot f.right h.at.now) s) fb k a (front
        (IsFlatOf h.edges.now) fb fa flats.each)
        c.flats_before in
        let q = ends_before x.0 x.2.order x.3 in
        by_flat k x.0 x.1 x.2 (less_false s.x (x.0.left *ℤ p.d) q.0 ∙ sym (less_false s.x (x.0.right *ℤ p.d) q.1))
    | inr b ↦
        let x = found h.edges.now (λ f. IsLeft s (whole_spot f.left h.at.now)) fa k b (back
        (IsFlatOf h.edges.now) fb fa flats.each)
        c.flats_behind in
        let q = begins_behind x.0 x.2.order x.3 in
        by_flat k x.0 x.1 x.2 (less_true s.x (x.0.left *ℤ p.d) q.0 ∙ sym (less_true s.x (x.0.right *ℤ p.d) q.1))
  ]

  pub stays_aside : AllByRecursion (StaysAside p) h.edges.now
  stays_aside = by_places (StaysAside p) h.edges.now (λ k d o f y.
      let same : get_or h.edges.now k d ≡ get_or h.edges.now k no_edge = get_or_default h.edges.now k d no_edge o in
      subst (λ (e : LeafEdge). int_lt p.x (e.edge.a.x *ℤ p.d) ≡ int_lt p.x (e.edge.b.x *ℤ p.d)) (sym same)
      (one_aside k o (subst (λ (e : LeafEdge). is_flat_at e.edge h.at.now ≡ true) same (is_flat
      (get_or h.edges.now k d) f y))))

-- ---- the bundles to the right of a spot
module _ (es : List LeafEdge) (l : Level) (s : Spot) (hs : IsSpotAt l s) where
  abbrev strand : List ℕ → Strand
  strand b = record { bundle = b; left = false; start = s }

  not_beside : (b : List ℕ) → HeadPasses es l b → IsNotRightOf (spot_of es l b) s
      → is_right_of es (point_of s) b ≡ false
  not_beside [] q o = absurd q
  not_beside (k ∷ ks) q o =
      by_test (lies_left es true (point_of s) k)
      (pass_strands es l s (spot_on (edge_at es k) l) (strand (k ∷ ks) ∷ []) [] hs
      (bundle_spot es l (k ∷ ks) q) o ((passes_there es k l q, passes_then_rises (edge_at es k) l q), tt) (refl, tt))
    where
      by_test : (t : Bool) → (if t then (k ∷ ks) ∷ [] else []) ≡ [] → t ≡ false
      by_test true e = absurd (omega (arith, ap length e))
      by_test false e = refl

  beside : (b : List ℕ) → HeadPasses es l b → IsLeft s (spot_of es l b) → is_right_of es (point_of s) b ≡ true
  beside [] q o = absurd q
  beside (k ∷ ks) q o =
      let t : Spot = spot_on (edge_at es k) l in
      by_test (lies_left es true (point_of s) k)
      (stop_places es l (λ r. r.below) s
      (record { at = t; below = strand (k ∷ ks) ∷ []; above = []; start = t; closed = [] } ∷ []) hs
      (bundle_spot es l (k ∷ ks) q, tt) (o, tt)
      ((passes_there es k l q, passes_then_rises (edge_at es k) l q), tt) ((refl, tt), tt))
    where
      by_test : (t : Bool) → (if t then (k ∷ ks) ∷ [] else []) ≡ (k ∷ ks) ∷ [] → t ≡ true
      by_test true e = refl
      by_test false e = absurd (omega (arith, ap length e))

  none_right : (bs : List (List ℕ)) → AllByRecursion (HeadPasses es l) bs
      → AllByRecursion (λ b. IsNotRightOf (spot_of es l b) s) bs
      → AllByRecursion (λ b. is_right_of es (point_of s) b ≡ false) bs
  none_right [] q o = tt
  none_right (b ∷ bs) q o = (not_beside b q.0 o.0, none_right bs q.1 o.1)

  first_is : (bs : List (List ℕ)) → AllByRecursion (HeadPasses es l) bs
      → AllByRecursion (λ b. IsLeft s (spot_of es l b)) bs → IsFirstRight es (point_of s) bs
  first_is [] q o = tt
  first_is (b ∷ bs) q o = beside b q.0 o.0

  pub right_of : (bs cs : List (List ℕ)) → AllByRecursion (HeadPasses es l) bs → AllByRecursion (HeadPasses es l) cs
      → AllByRecursion (λ b. IsNotRightOf (spot_of es l b) s) bs → AllByRecursion (λ b. IsLeft s (spot_of es l b)) cs
      → passing es true (point_of s) (bs ++ cs) ≡ cs
  right_of bs cs q r o a = right_part es (point_of s) bs cs (none_right bs q o) (first_is cs r a)

pub heads_under : (h : Height) (gs : List Group) → AllByRecursion (IsPlaced h) gs
    → AllByRecursion (HeadPasses h.edges.now h.at.now) (all_below gs)
heads_under h [] p = tt
heads_under h (g ∷ gs) p =
    let P : List ℕ → Type 0 = HeadPasses h.edges.now h.at.now in
    all_append P g.below (all_below gs) (front P g.below g.above p.0.passes) (heads_under h gs p.1)

pub heads_over : (h : Height) (gs : List Group) → AllByRecursion (IsPlaced h) gs
    → AllByRecursion (HeadPasses h.edges.now h.at.now) (all_above gs)
heads_over h [] p = tt
heads_over h (g ∷ gs) p =
    let P : List ℕ → Type 0 = HeadPasses h.edges.now h.at.now in
    all_append P g.above (all_above gs) (back P g.below g.above p.0.passes) (heads_over h gs p.1)

-- the groups that lie to the right of a cut are the bundles there
pub under_right : (h : Height) (fb fa : List Flat) (left right : List Group) (s : Spot) → IsCutAt h fb fa left right s
    → AllByRecursion (IsPlaced h) left → AllByRecursion (IsPlaced h) right
    → passing h.edges.now true (point_of s) (all_below (left ++ right)) ≡ all_below right
under_right h fb fa left right s c p q =
    let es : List LeafEdge = h.edges.now in
    let l : Level = h.at.now in
    ap (passing es true (point_of s)) (below-append left right)
    ∙ right_of es l s c.at (all_below left) (all_below right) (heads_under h left p) (heads_under h right q)
    (all_under h (λ t. IsNotRightOf t s) (closed_by l s c.at) left p c.before)
    (all_under h (λ t. IsLeft s t) (closed_right l s c.at) right q c.behind)

pub over_right : (h : Height) (fb fa : List Flat) (left right : List Group) (s : Spot) → IsCutAt h fb fa left right s
    → AllByRecursion (IsPlaced h) left → AllByRecursion (IsPlaced h) right
    → passing h.edges.now true (point_of s) (all_above (left ++ right)) ≡ all_above right
over_right h fb fa left right s c p q =
    let es : List LeafEdge = h.edges.now in
    let l : Level = h.at.now in
    ap (passing es true (point_of s)) (above-append left right)
    ∙ right_of es l s c.at (all_above left) (all_above right) (heads_over h left p) (heads_over h right q)
    (all_over h (λ t. IsNotRightOf t s) (closed_by l s c.at) left p c.before)
    (all_over h (λ t. IsLeft s t) (closed_right l s c.at) right q c.behind)

-- ---- one value beside a cut
module _ (on : Onwards) (gs : List Group) (v : IsValuedAt on gs) (kept : AreKept false on.height.below.now on.below)
    (above : all_above gs ≡ bundles_in on.height.front.now) (fb fa : List Flat)
    (flats : AreFlatsOn on.height.edges.now on.height.at.now (fb ++ fa)) where
  abbrev h : Height
  h = on.height

  pub balanced_at : (left right : List Group) (s : Spot) → gs ≡ left ++ right → AllByRecursion (IsPlaced h) left
      → AllByRecursion (IsPlaced h) right → IsCutAt h fb fa left right s
      → IsBalancedBefore h on.shape (between (length (all_below left)) (length (all_above left)))
  balanced_at left right s e p q c =
      let n : ℕ = length (all_below left) in
      let m : ℕ = length (all_above left) in
      let runs : 0 < s.run = let r = c.at.runs in omega (arith, ints, r) in
      let lower : bundles_of on.below ≡ all_below left ++ all_below right =
      v.below ∙ ap all_below e ∙ below-append left right in
      let upper : bundles_in h.front.now ≡ all_above left ++ all_above right =
      sym above ∙ ap all_above e ∙ above-append left right in
      let low : passing h.edges.now true (point_of s) (bundles_of on.below) ≡ all_below right =
      ap (passing h.edges.now true (point_of s)) (v.below ∙ ap all_below e) ∙ under_right h fb fa left right s c p q in
      let up : passing h.edges.now true (point_of s) (bundles_in h.front.now) ≡ all_above right =
      ap (passing h.edges.now true (point_of s)) (sym above ∙ ap all_above e) ∙ over_right h fb fa left right s c p q in
      let dropped : bundles_of (drop n on.below) ≡ all_below right =
      sym (drop-map (λ (t : Strand). t.bundle) n on.below) ∙ ap (drop n) lower
      ∙ drop_at (all_below left) (all_below right) n refl in
      let risen : drop m (bundles_in h.front.now) ≡ all_above right =
      ap (drop m) upper ∙ drop_at (all_above left) (all_above right) m refl in
      balanced_by h on.shape on.below n m kept v.values
      (ap (left_value h.edges.now on.shape) (dropped ∙ sym low)
      ∙ v.balanced s c.at.at runs (stays_aside h fb fa left right s c flats)
      ∙ ap (left_value h.edges.now on.shape) (up ∙ sym risen))

  -- from group to group
  pub balanced_on : (left xs ys : List Group) (s : Spot) → gs ≡ left ++ (xs ++ ys) → AllByRecursion (IsPlaced h) left
      → AllByRecursion (IsPlaced h) (xs ++ ys) → AreApart h (xs ++ ys) → IsCutAt h fb fa left (xs ++ ys) s
      → AllByRecursion (λ g. AllByRecursion (λ f. IsLeft (at_group h g) (whole_spot f.left h.at.now)) fa) xs
      → AreBalancedFrom h on.shape (length (all_below left)) (length (all_above left)) xs
      × ((t : Spot) × IsCutAt h fb fa (left ++ xs) ys t)
  balanced_on left [] ys s e p q a c o =
      let nil : left ≡ left ++ [] = sym (append-nil left) in (
        balanced_at left ys s e p q c,
        (s, subst (λ (ks : List Group). IsCutAt h fb fa ks ys s) nil c),
      )
  balanced_on left (g ∷ xs) ys s e p q a c o =
      let next = cut_next h fb fa left g (xs ++ ys) s c p q.0 a.0 o.0 in
      let whole : (left ++ (g ∷ [])) ++ (xs ++ ys) ≡ left ++ (g ∷ (xs ++ ys)) = append_assoc left (g ∷ []) (xs ++ ys) in
      let r = balanced_on (left ++ (g ∷ [])) xs ys (at_group h g) (e ∙ sym whole)
      (all_append (IsPlaced h) left (g ∷ []) p (q.0, tt)) q.1 a.1 next o.1 in
      let below : length (all_below (left ++ (g ∷ []))) ≡ length (all_below left) + length g.below =
      ap length (below-append left (g ∷ []) ∙ ap (λ (bs : List (List ℕ)). all_below left ++ bs) (append-nil g.below))
      ∙ length-append (all_below left) g.below in
      let above' : length (all_above (left ++ (g ∷ []))) ≡ length (all_above left) + length g.above =
      ap length (above-append left (g ∷ []) ∙ ap (λ (bs : List (List ℕ)). all_above left ++ bs) (append-nil g.above))
      ∙ length-append (all_above left) g.above in (
        (
          balanced_at left (g ∷ (xs ++ ys)) s e p q c,
          subst (λ (j : ℕ). AreBalancedFrom h on.shape (length (all_below left) + length g.below) j xs) above'
              (subst (λ (i : ℕ). AreBalancedFrom h on.shape i (length (all_above (left ++ (g ∷ [])))) xs) below r.0),
        ),
        (r.1.0, subst (λ (ks : List Group). IsCutAt h fb fa ks ys r.1.0) (append_assoc left (g ∷ []) xs) r.1.1),
      )
