-- How far the code has come along a level, between its stretches of flat edges.
use Rattle.std.proofs.Common.{◌≡◌, inl, inr, ℕ, ◌+◌, ◌≤◌, true, false, List, [], ◌∷◌, ◌++◌, length, get_or, take, drop, refl, sym, ap, ◌∙◌, subst, arith, append_assoc, length-append}
use Rattle.std.specs.List.{AllByRecursion}
use Rattle.std.proofs.lemmas.Int.{ints}
use Rattle.std.proofs.lemmas.List.{append-nil, drop-drop, drop-map, drop_at, take-append-drop}
use Rattle.std.proofs.lemmas.List.Elements.{recursion_from_All}
use Rattle.scad_geom.specs.declared.level.Level.{Level}
use Rattle.scad_geom.specs.declared.level.LeafEdge.{LeafEdge}
use Rattle.scad_geom.proofs.Order.{front, back}
use Rattle.slice_bundles.specs.Bundles.{edge_at}
use Rattle.slice_pieces.specs.declared.piece.Spot.{Spot}
use Rattle.slice_border.specs.Pieces.{whole_spot, passes_at, spots_at, IsLeft, GoRight, HasSpot, IsOneOf}
use Rattle.slice_border.proofs.Winding.{IsSpotAt, of_stops, spots_are_at}
use Rattle.slice_sweep.specs.declared.change.Change.{Change}
use Rattle.slice_sweep.specs.Changes.{Group, all_below, all_above}
use Rattle.slice_sweep.specs.Front.{bundles_in}
use Rattle.sweep_laws.specs.Fronts.{Strand, bundles_of}
use Rattle.slice_outlines.specs.declared.mark.Mark.{Mark}
use Rattle.slice_outlines.specs.declared.flat.Flat.{Flat}
use Rattle.slice_outlines.specs.declared.run.Run.{Run}
use Rattle.slice_outlines.specs.declared.height.Height.{Height}
use Rattle.slice_outlines.specs.declared.height.Open.{Open}
use Rattle.slice_outlines.specs.declared.groups.Passed.{Passed}
use Rattle.slice_outlines.specs.Above.{AreTaken}
use Rattle.slice_outlines.specs.Marks.{names_in, IsNamed, AreKept}
use Rattle.slice_outlines.specs.Cursors.{StayOn}
use Rattle.slice_outlines.specs.Heights.{Onwards, IsOf, IsNotRightOf, IsBalancedBefore, IsCountOf}
use Rattle.slice_outlines.specs.Ahead.{group_spots, between, AreBetween, AreStrandsAhead, HasComeTo, HasPassed}
use Rattle.slice_outlines.specs.Level.{AreFlatsOn, IsAtLevel, IsValuedAt, AreSpotsOf}
use Rattle.slice_outlines.proofs.Placing.{AreNamed, all_append}
use Rattle.slice_outlines.proofs.LevelAhead.{ahead_by, between_by, IsAhead}
use Rattle.slice_outlines.proofs.GroupHeights.{heads_pass}
use Rattle.slice_outlines.proofs.Fitting.{named_past, named_size}
use Rattle.slice_outlines.proofs.Across.{weakly, by_chain, by_then_left, left_then_by}
use Rattle.slice_outlines.proofs.Apart.{IsPlaced, AreApart, at_group, groups_placed, groups_apart, are_met, below-append, above-append, groups_go_right, groups_sound}
use Rattle.slice_outlines.proofs.Cuts.{IsCutAt, cut_next, balanced_at, balanced_on}

-- ---- spots one after another
itself : (s : Spot) → IsNotRightOf s s
itself s = omega (arith, ints)

pub go_join : (ss ts : List Spot) → GoRight ss → GoRight ts → AllByRecursion (λ s. AllByRecursion (IsLeft s) ts) ss
    → GoRight (ss ++ ts)
go_join [] ts g k a = k
go_join (s ∷ []) [] g k a = tt
go_join (s ∷ []) (t ∷ ts) g k a = (a.0.0, k)
go_join (s ∷ (r ∷ ss)) ts g k a = (g.0, go_join (r ∷ ss) ts g.1 k a.1)

in_front : (ss ts : List Spot) (s : Spot) → HasSpot ss s → HasSpot (ss ++ ts) s
in_front [] ts s h = absurd h
in_front (r ∷ ss) ts s (inl e) = inl e
in_front (r ∷ ss) ts s (inr h) = inr (in_front ss ts s h)

in_back : (ss ts : List Spot) (s : Spot) → HasSpot ts s → HasSpot (ss ++ ts) s
in_back [] ts s h = h
in_back (r ∷ ss) ts s h = inr (in_back ss ts s h)

abbrev pub HasEnds : Level → List Spot → Flat → Type 0
HasEnds l ss f = HasSpot ss (whole_spot f.left l) × HasSpot ss (whole_spot f.right l)

pub ends_front : (l : Level) (ss ts : List Spot) (fs : List Flat) → AllByRecursion (HasEnds l ss) fs
    → AllByRecursion (HasEnds l (ss ++ ts)) fs
ends_front l ss ts [] a = tt
ends_front l ss ts (f ∷ fs) a = (
  (in_front ss ts (whole_spot f.left l) a.0.0, in_front ss ts (whole_spot f.right l) a.0.1),
  ends_front l ss ts fs a.1,
)

pub ends_back : (l : Level) (ss ts : List Spot) (fs : List Flat) → AllByRecursion (HasEnds l ts) fs
    → AllByRecursion (HasEnds l (ss ++ ts)) fs
ends_back l ss ts [] a = tt
ends_back l ss ts (f ∷ fs) a = (
  (in_back ss ts (whole_spot f.left l) a.0.0, in_back ss ts (whole_spot f.right l) a.0.1),
  ends_back l ss ts fs a.1,
)

-- those up to a cut lie to the left of those behind it
module _ (l : Level) (c : Spot) (hc : IsSpotAt l c) where
  pub across_cut : (ss ts : List Spot) → AllByRecursion (IsSpotAt l) ss → AllByRecursion (IsSpotAt l) ts
      → AllByRecursion (λ s. IsNotRightOf s c) ss → AllByRecursion (IsLeft c) ts
      → AllByRecursion (λ s. AllByRecursion (IsLeft s) ts) ss
  across_cut [] ts a b o k = tt
  across_cut (s ∷ ss) ts a b o k = (each ts b k, across_cut ss ts a.1 b o.1 k)
    where
      each : (us : List Spot) → AllByRecursion (IsSpotAt l) us → AllByRecursion (IsLeft c) us
          → AllByRecursion (IsLeft s) us
      each [] b k = tt
      each (u ∷ us) b k = (by_then_left l s c u a.0 hc b.0 o.0 k.0, each us b.1 k.1)

  pub up_to_cut : (ss ts : List Spot) → AllByRecursion (IsSpotAt l) ss → AllByRecursion (IsSpotAt l) ts
      → AllByRecursion (λ s. IsLeft s c) ss → AllByRecursion (λ t. IsNotRightOf c t) ts
      → AllByRecursion (λ s. AllByRecursion (IsLeft s) ts) ss
  up_to_cut [] ts a b o k = tt
  up_to_cut (s ∷ ss) ts a b o k = (each ts b k, up_to_cut ss ts a.1 b o.1 k)
    where
      each : (us : List Spot) → AllByRecursion (IsSpotAt l) us → AllByRecursion (λ t. IsNotRightOf c t) us
          → AllByRecursion (IsLeft s) us
      each [] b k = tt
      each (u ∷ us) b k = (left_then_by l s c u a.0 hc b.0 o.0 k.0, each us b.1 k.1)

  -- farther to the right
  pub all_by : (ss : List Spot) (d : Spot) → IsSpotAt l d → IsNotRightOf c d → AllByRecursion (IsSpotAt l) ss
      → AllByRecursion (λ s. IsNotRightOf s c) ss → AllByRecursion (λ s. IsNotRightOf s d) ss
  all_by [] d hd o a b = tt
  all_by (s ∷ ss) d hd o a b = (by_chain l s c d a.0 hc hd b.0 o, all_by ss d hd o a.1 b.1)

  pub all_left_of : (ss : List Spot) (d : Spot) → IsSpotAt l d → IsLeft c d → AllByRecursion (IsSpotAt l) ss
      → AllByRecursion (λ s. IsNotRightOf s c) ss → AllByRecursion (λ s. IsLeft s d) ss
  all_left_of [] d hd o a b = tt
  all_left_of (s ∷ ss) d hd o a b = (by_then_left l s c d a.0 hc hd b.0 o, all_left_of ss d hd o a.1 b.1)

-- ---- lists of groups
apart_back : (h : Height) (xs ys : List Group) → AreApart h (xs ++ ys) → AreApart h ys
apart_back h [] ys a = a
apart_back h (x ∷ xs) ys a = apart_back h xs ys a.1

apart_front : (h : Height) (xs ys : List Group) → AreApart h (xs ++ ys) → AreApart h xs
apart_front h [] ys a = tt
apart_front h (x ∷ xs) ys a = (front (λ k. IsLeft (at_group h x) (at_group h k)) xs ys a.0, apart_front h xs ys a.1)

spots_from : (h : Height) (P : Spot → Type 0) (gs : List Group) → AllByRecursion (λ g. P (at_group h g)) gs
    → AllByRecursion P (group_spots h.edges.now h.at.now gs)
spots_from h P [] a = tt
spots_from h P (g ∷ gs) a = (a.0, spots_from h P gs a.1)

groups_at : (h : Height) (gs : List Group) → AllByRecursion (IsPlaced h) gs
    → AllByRecursion (IsSpotAt h.at.now) (group_spots h.edges.now h.at.now gs)
groups_at h [] p = tt
groups_at h (g ∷ gs) p = (p.0.at, groups_at h gs p.1)

-- to the right of a cut and of groups behind it there is another
pub cut_on : (h : Height) (fb fa : List Flat) (left xs ys : List Group) (s : Spot) → AllByRecursion (IsPlaced h) left
    → AllByRecursion (IsPlaced h) (xs ++ ys) → AreApart h (xs ++ ys) → IsCutAt h fb fa left (xs ++ ys) s
    → AllByRecursion (λ g. AllByRecursion (λ f. IsLeft (at_group h g) (whole_spot f.left h.at.now)) fa) xs
    → (t : Spot) × IsCutAt h fb fa (left ++ xs) ys t × IsNotRightOf s t
cut_on h fb fa left [] ys s p q a c o =
    (s, subst (λ (ks : List Group). IsCutAt h fb fa ks ys s) (sym (append-nil left)) c, itself s)
cut_on h fb fa left (g ∷ xs) ys s p q a c o =
    let next = cut_next h fb fa left g (xs ++ ys) s c p q.0 a.0 o.0 in
    let r = cut_on h fb fa (left ++ (g ∷ [])) xs ys (at_group h g) (all_append (IsPlaced h) left (g ∷ []) p
    (q.0, tt)) q.1
    a.1 next o.1 in (
      r.0,
      subst (λ (ks : List Group). IsCutAt h fb fa ks ys r.0) (append_assoc left (g ∷ []) xs) r.1,
      weakly s r.0 (left_then_by h.at.now s (at_group h g) r.0 c.at q.0.at r.1.at c.behind.0 r.2),
    )

-- ---- marks
pub named_as : (ms ns : List Mark) (bs : List (List ℕ)) → names_in ns ≡ names_in ms → AreNamed ms bs → AreNamed ns bs
named_as [] [] bs e z = z
named_as [] (n ∷ ns) bs e z = absurd (omega (arith, ap length e))
named_as (m ∷ ms) [] bs e z = absurd (omega (arith, ap length e))
named_as (m ∷ ms) (n ∷ ns) [] e z = absurd z
named_as (m ∷ ms) (n ∷ ns) (b ∷ bs) e z = (
  subst (λ (k : ℕ). IsNamed k b) (sym (ap (λ (ks : List ℕ). get_or ks 0 0) e)) z.0,
  named_as ms ns bs (ap (drop 1) e) z.1,
)

-- ---- a level
-- spots that are passed up to a cut
pub record IsReached (on : Onwards) (h : Height) (n m : ℕ) (cut : Spot) (fb : List Flat) (now : Open) : Type 0 where
  pub spots : List Spot
  pub are : AreSpotsOf h fb spots
  pub by : AllByRecursion (λ s. IsNotRightOf s cut) spots
  pub come : HasComeTo on spots n m now

pub record IsSoFar (h : Height) (cs : List Change) (fs : List Flat) (old : Open)
    (w : IsAtLevel h old.marks.items cs fs old.cursors) (from : ℕ) (p : Passed) (now : Open) : Type 0 where
  pub left : List Group
  pub right : List Group
  pub groups : w.groups ≡ left ++ right
  pub within : from ≤ length fs
  pub taken : AreTaken (length (all_above left)) (drop p.count cs) right (drop (length (all_below left)) h.below.now)
      (drop (length (all_above left)) now.marks.items)
  pub from_below : p.last.below_to ≤ length (all_below left)
  pub from_above : p.last.above_to ≤ length (all_above left)
  pub alike : length (all_below left) + p.last.above_to ≡ length (all_above left) + p.last.below_to
  pub names : names_in now.marks.items ≡ names_in old.marks.items
  pub count : IsCountOf cs p
  pub stands : StayOn h.edges.now (bundles_in h.front.now) old.cursors now.cursors
  pub cut : Spot
  pub is_cut : IsCutAt h (take from fs) (drop from fs) left right cut
  pub come : (on : Onwards) → IsOf h on → IsValuedAt on w.groups → HasComeTo on [] 0 0 old
      → IsReached on h (length (all_below left)) (length (all_above left)) cut (take from fs) now

-- the groups up to a part
pub record IsToLimit (left right : List Group) (limit : Run) : Type 0 where
  pub xs : List Group
  pub ys : List Group
  pub groups : right ≡ xs ++ ys
  pub below : length (all_below left) + length (all_below xs) ≡ limit.below
  pub above : length (all_above left) + length (all_above xs) ≡ limit.above

-- the strands ahead of a cut, of a height that is the same
pub ahead_as : (on : Onwards) (h : Height) → on.height ≡ h → (gs left xs ys : List Group) (fb fa : List Flat) (s : Spot)
    → IsValuedAt on gs → AreKept false h.below.now on.below → all_above gs ≡ bundles_in h.front.now
    → AreFlatsOn h.edges.now h.at.now (fb ++ fa) → gs ≡ left ++ (xs ++ ys) → AllByRecursion (IsPlaced h) left
    → AllByRecursion (IsPlaced h) (xs ++ ys) → AreApart h (xs ++ ys) → IsCutAt h fb fa left (xs ++ ys) s
    → AllByRecursion (λ g. AllByRecursion (λ f. IsLeft (at_group h g) (whole_spot f.left h.at.now)) fa) xs
    → AreStrandsAhead on (length (all_below left)) (length (all_above left)) xs
ahead_as on h e gs left xs ys fb fa s v =
    subst (λ (x : Height). AreKept false x.below.now on.below → all_above gs ≡ bundles_in x.front.now
    → AreFlatsOn x.edges.now x.at.now (fb ++ fa) → gs ≡ left ++ (xs ++ ys) → AllByRecursion (IsPlaced x) left
    → AllByRecursion (IsPlaced x) (xs ++ ys) → AreApart x (xs ++ ys) → IsCutAt x fb fa left (xs ++ ys) s
    → AllByRecursion (λ g. AllByRecursion (λ f. IsLeft (at_group x g) (whole_spot f.left x.at.now)) fa) xs
    → AreStrandsAhead on (length (all_below left)) (length (all_above left)) xs) e
    (λ kept above flats q p r a c o.
    let lower : bundles_of on.below ≡ all_below left ++ (all_below xs ++ all_below ys) =
    v.below ∙ ap all_below q ∙ below-append left (xs ++ ys)
    ∙ ap (λ (bs : List (List ℕ)). all_below left ++ bs) (below-append xs ys) in
    let upper : bundles_in on.height.front.now ≡ all_above left ++ (all_above xs ++ all_above ys) =
    sym above ∙ ap all_above q ∙ above-append left (xs ++ ys)
    ∙ ap (λ (bs : List (List ℕ)). all_above left ++ bs) (above-append xs ys) in
    record {
      lower = all_below ys;
      upper = all_above ys;
      below = sym (drop-map (λ (t : Strand). t.bundle) (length (all_below left)) on.below)
          ∙ ap (drop (length (all_below left))) lower
          ∙ drop_at (all_below left) (all_below xs ++ all_below ys) (length (all_below left)) refl;
      above = ap (drop (length (all_above left))) upper
          ∙ drop_at (all_above left) (all_above xs ++ all_above ys) (length (all_above left)) refl;
      balanced = (balanced_on on gs v kept above fb fa flats left xs ys s q p r a c o).0;
    })

-- beside a cut of a height that is the same
pub beside_as : (on : Onwards) (h : Height) → on.height ≡ h
    → (gs left right : List Group) (fb fa : List Flat) (s : Spot)
    → IsValuedAt on gs → AreKept false h.below.now on.below → all_above gs ≡ bundles_in h.front.now
    → AreFlatsOn h.edges.now h.at.now (fb ++ fa) → gs ≡ left ++ right → AllByRecursion (IsPlaced h) left
    → AllByRecursion (IsPlaced h) right → IsCutAt h fb fa left right s
    → IsBalancedBefore on.height on.shape (between (length (all_below left)) (length (all_above left)))
beside_as on h e gs left right fb fa s v =
    subst (λ (x : Height). AreKept false x.below.now on.below → all_above gs ≡ bundles_in x.front.now
    → AreFlatsOn x.edges.now x.at.now (fb ++ fa) → gs ≡ left ++ right → AllByRecursion (IsPlaced x) left
    → AllByRecursion (IsPlaced x) right → IsCutAt x fb fa left right s
    → IsBalancedBefore on.height on.shape (between (length (all_below left)) (length (all_above left)))) e
    (λ kept above flats q p r c. balanced_at on gs v kept above fb fa flats left right s q p r c)

module _ (h : Height) (cs : List Change) (fs : List Flat) (old : Open)
    (w : IsAtLevel h old.marks.items cs fs old.cursors) where
  abbrev es : List LeafEdge
  es = h.edges.now

  abbrev l : Level
  l = h.at.now

  pub all_placed : AllByRecursion (IsPlaced h) w.groups
  all_placed =
      let P : Mark → Type 0 = λ m. passes_at (edge_at es m.name) l ≡ true in
      groups_placed h w.groups w.are_groups
      (heads_pass es l h.below.now (all_below w.groups) w.named_below (recursion_from_All P h.below.now w.pass_below))
      (heads_pass es l old.marks.items (all_above w.groups) w.named_above
      (recursion_from_All P old.marks.items w.pass_above))

  pub all_apart : AreApart h w.groups
  all_apart = groups_apart h w.groups all_placed w.are_groups.rightwards

  -- flat edges up to a place and behind it
  pub flats_parted : (from : ℕ) → AreFlatsOn es l (take from fs ++ drop from fs)
  flats_parted from = subst (AreFlatsOn es l) (sym (take-append-drop from fs)) w.flats

  module _ (from : ℕ) (p : Passed) (now : Open) (f : IsSoFar h cs fs old w from p now) where
    pub placed_left : AllByRecursion (IsPlaced h) f.left
    placed_left = front (IsPlaced h) f.left f.right (subst (AllByRecursion (IsPlaced h)) f.groups all_placed)

    pub placed_right : AllByRecursion (IsPlaced h) f.right
    placed_right = back (IsPlaced h) f.left f.right (subst (AllByRecursion (IsPlaced h)) f.groups all_placed)

    pub apart_right : AreApart h f.right
    apart_right = apart_back h f.left f.right (subst (AreApart h) f.groups all_apart)

    pub named_now : AreNamed now.marks.items (all_above w.groups)
    named_now = named_as old.marks.items now.marks.items (all_above w.groups) f.names w.named_above

    pub low_named : AreNamed (drop (length (all_below f.left)) h.below.now) (all_below f.right)
    low_named = named_past h.below.now (all_below f.left) (all_below f.right)
        (subst (AreNamed h.below.now) (ap all_below f.groups ∙ below-append f.left f.right) w.named_below)

    pub up_named : AreNamed (drop (length (all_above f.left)) now.marks.items) (all_above f.right)
    up_named = named_past now.marks.items (all_above f.left) (all_above f.right)
        (subst (AreNamed now.marks.items) (ap all_above f.groups ∙ above-append f.left f.right) named_now)

    pub low_there : length (all_below f.left) ≤ length h.below.now
    low_there =
        let size = named_size h.below.now (all_below w.groups) w.named_below
        ∙ ap length (ap all_below f.groups ∙ below-append f.left f.right) in
        omega (arith, size, length-append (all_below f.left) (all_below f.right))

    pub up_there : length (all_above f.left) ≤ length now.marks.items
    up_there =
        let size = named_size now.marks.items (all_above w.groups) named_now
        ∙ ap length (ap all_above f.groups ∙ above-append f.left f.right) in
        omega (arith, size, length-append (all_above f.left) (all_above f.right))

    -- ---- groups up to a part
    module _ (limit : Run) (t : IsToLimit f.left f.right limit) where
      abbrev n : ℕ
      n = length (all_below f.left)

      abbrev m : ℕ
      m = length (all_above f.left)

      pub placed_both : AllByRecursion (IsPlaced h) (t.xs ++ t.ys)
      placed_both = subst (AllByRecursion (IsPlaced h)) t.groups placed_right

      pub taken_both : AreTaken m (drop p.count cs) (t.xs ++ t.ys) (drop n h.below.now) (drop m now.marks.items)
      taken_both = subst (λ (gs : List Group). AreTaken m (drop p.count cs) gs (drop n h.below.now)
          (drop m now.marks.items)) t.groups f.taken

      pub low_both : AreNamed (drop n h.below.now) (all_below (t.xs ++ t.ys))
      low_both = subst (λ (gs : List Group). AreNamed (drop n h.below.now) (all_below gs)) t.groups low_named

      pub up_both : AreNamed (drop m now.marks.items) (all_above (t.xs ++ t.ys))
      up_both = subst (λ (gs : List Group). AreNamed (drop m now.marks.items) (all_above gs)) t.groups up_named

      pub met_xs : AllByRecursion (IsPlaced h) t.xs
      met_xs = front (IsPlaced h) t.xs t.ys placed_both

      pub met_ys : AllByRecursion (IsPlaced h) t.ys
      met_ys = back (IsPlaced h) t.xs t.ys placed_both

      pub between_at : AreBetween h now.marks.items cs p limit
      between_at = between_by h now.marks.items cs p limit n m t.xs t.ys taken_both low_both up_both
          (are_met h t.xs met_xs) (are_met h t.ys met_ys) f.from_below f.from_above f.alike low_there up_there
          t.below t.above

      abbrev pub groups_ahead : IsAhead h m (drop p.count cs) t.xs t.ys (drop n h.below.now) (drop m now.marks.items)
      groups_ahead = ahead_by h m (drop p.count cs) t.xs t.ys (drop n h.below.now)
          (drop m now.marks.items) taken_both low_both up_both
          (are_met h t.xs met_xs)

      pub below_is : length (all_below (f.left ++ t.xs)) ≡ limit.below
      below_is = ap length (below-append f.left t.xs) ∙ length-append (all_below f.left) (all_below t.xs) ∙ t.below

      pub above_is : length (all_above (f.left ++ t.xs)) ≡ limit.above
      above_is = ap length (above-append f.left t.xs) ∙ length-append (all_above f.left) (all_above t.xs) ∙ t.above

      -- marks above that are the same to the right of a part, and changes up to it that are counted
      pub taken_on : (q : Passed) (ms : List Mark) → drop q.count cs ≡ groups_ahead.rest
          → drop limit.above ms ≡ drop limit.above now.marks.items
          → AreTaken (length (all_above (f.left ++ t.xs))) (drop q.count cs) t.ys
          (drop (length (all_below (f.left ++ t.xs))) h.below.now) (drop (length (all_above (f.left ++ t.xs))) ms)
      taken_on q ms later right =
          let lower : drop (length (all_below t.xs)) (drop n h.below.now)
          ≡ drop (length (all_below (f.left ++ t.xs))) h.below.now =
          drop-drop (length (all_below t.xs)) n h.below.now ∙ ap (λ (i : ℕ). drop i h.below.now) (t.below
          ∙ sym below_is) in
          let upper : drop (length (all_above t.xs)) (drop m now.marks.items)
          ≡ drop (length (all_above (f.left ++ t.xs))) ms =
          drop-drop (length (all_above t.xs)) m now.marks.items
          ∙ ap (λ (i : ℕ). drop i now.marks.items) t.above ∙ sym right ∙ ap (λ (i : ℕ). drop i ms) (sym above_is) in
          subst (λ (ds : List Change). AreTaken (length (all_above (f.left ++ t.xs))) ds t.ys
          (drop (length (all_below (f.left ++ t.xs))) h.below.now) (drop (length (all_above (f.left ++ t.xs))) ms))
          (sym later)
          (subst (λ (us : List Mark). AreTaken (length (all_above (f.left ++ t.xs))) groups_ahead.rest t.ys
          (drop (length (all_below (f.left ++ t.xs))) h.below.now) us) upper
          (subst (λ (us : List Mark). AreTaken (length (all_above (f.left ++ t.xs))) groups_ahead.rest t.ys us
          (drop (length (all_above t.xs)) (drop m now.marks.items))) lower
          (subst (λ (i : ℕ). AreTaken i groups_ahead.rest t.ys (drop (length (all_below t.xs)) (drop n h.below.now))
          (drop (length (all_above t.xs)) (drop m now.marks.items))) (t.above ∙ sym above_is) groups_ahead.later)))

      pub whole_is : w.groups ≡ f.left ++ (t.xs ++ t.ys)
      whole_is = f.groups ∙ ap (λ (gs : List Group). f.left ++ gs) t.groups

      pub rest_is : between_at.rest ≡ groups_ahead.rest
      unfolding between_at between_by
      rest_is = refl

      module _ (ahead : AllByRecursion (λ g. AllByRecursion (λ fl. IsLeft (at_group h g) (whole_spot fl.left l))
          (drop from fs))
          t.xs) where
        on_cut : (c : Spot) × IsCutAt h (take from fs) (drop from fs) (f.left ++ t.xs) t.ys c × IsNotRightOf f.cut c
        on_cut = cut_on h (take from fs) (drop from fs) f.left t.xs t.ys f.cut placed_left placed_both
            (subst (AreApart h) t.groups apart_right)
            (subst (λ (gs : List Group). IsCutAt h (take from fs)
            (drop from fs) f.left gs f.cut) t.groups f.is_cut) ahead

        -- spots of these groups behind those that are passed
        more_spots : (on : Onwards) (mid : Open) (r : IsReached on h n m f.cut (take from fs) now)
            → HasComeTo on (r.spots ++ group_spots es l t.xs) limit.below limit.above mid
            → IsReached on h (length (all_below (f.left ++ t.xs))) (length (all_above (f.left ++ t.xs))) on_cut.0
            (take from fs) mid
        more_spots on mid r come =
            let ts : List Spot = group_spots es l t.xs in
            let at : AllByRecursion (IsSpotAt l) r.spots = of_stops (IsSpotAt l) (spots_at es l) r.spots
            (spots_are_at es l)
            r.are.sound in
            let behind : AllByRecursion (λ g. IsLeft f.cut (at_group h g)) t.xs = front (λ g. IsLeft f.cut
            (at_group h g))
            t.xs t.ys (subst (AllByRecursion (λ g. IsLeft f.cut (at_group h g))) t.groups f.is_cut.behind) in
            let by_new : AllByRecursion (λ g. IsNotRightOf (at_group h g) on_cut.0) t.xs =
            back (λ g. IsNotRightOf (at_group h g) on_cut.0) f.left t.xs on_cut.1.before in
            record {
              spots = r.spots ++ ts;
              are = record {
                rightwards = go_join r.spots ts r.are.rightwards
                    (groups_go_right h t.xs (apart_front h t.xs t.ys (subst (AreApart h) t.groups apart_right)))
                    (across_cut l f.cut f.is_cut.at r.spots ts at (groups_at h t.xs met_xs) r.by
                    (spots_from h (IsLeft f.cut) t.xs behind));
                sound = all_append (IsOneOf (spots_at es l)) r.spots ts r.are.sound (groups_sound h t.xs met_xs);
                flats = ends_front l r.spots ts (take from fs) r.are.flats;
              };
              by = all_append (λ s. IsNotRightOf s on_cut.0) r.spots ts
                  (all_by l f.cut f.is_cut.at r.spots on_cut.0 on_cut.1.at on_cut.2 at r.by)
                  (spots_from h (λ s. IsNotRightOf s on_cut.0) t.xs by_new);
              come = subst (λ (i : ℕ). HasComeTo on (r.spots ++ ts) i (length (all_above (f.left ++ t.xs))) mid)
                  (sym below_is)
                  (subst (λ (j : ℕ). HasComeTo on (r.spots ++ ts) limit.below j mid) (sym above_is) come);
            }

        -- as the code passes them
        pub groups_passed : (q : Passed) (mid : Open)
            → ((on : Onwards) (spots : List Spot) → IsOf h on → AreStrandsAhead on n m t.xs
            → HasComeTo on spots n m now → HasComeTo on (spots ++ group_spots es l t.xs) limit.below limit.above mid)
            → HasPassed h cs groups_ahead.rest limit q now mid
            → (r : IsSoFar h cs fs old w from q mid) × (length (all_below r.left) ≡ limit.below)
            × (length (all_above r.left) ≡ limit.above)
        groups_passed q mid passes passed =
            let from_below = passed.from_below in
            let from_above = passed.from_above in
            let alike = passed.alike in
            let below = below_is in
            let above = above_is in
            let r : IsSoFar h cs fs old w from q mid = record {
              left = f.left ++ t.xs;
              right = t.ys;
              groups = whole_is ∙ sym (append_assoc f.left t.xs t.ys);
              within = f.within;
              taken = taken_on q mid.marks.items passed.later passed.right;
              from_below = omega (arith, from_below, below);
              from_above = omega (arith, from_above, above);
              alike = omega (arith, alike, below, above);
              names = passed.names ∙ f.names;
              count = passed.count;
              stands = λ shape s. passed.stands shape (f.stands shape s);
              cut = on_cut.0;
              is_cut = on_cut.1;
              come = λ on of v start.
                  let r = f.come on of v start in
                  more_spots on mid r (passes on r.spots of
                  (ahead_as on h of.0 w.groups f.left t.xs t.ys (take from fs) (drop from fs) f.cut v of.1 w.above
                  (flats_parted from) whole_is placed_left placed_both (subst (AreApart h) t.groups apart_right)
                  (subst (λ (gs : List Group). IsCutAt h (take from fs)
                  (drop from fs) f.left gs f.cut) t.groups f.is_cut)
                  ahead) r.come);
            } in
            (r, below_is, above_is)

        pub groups_done : (q : Passed) (mid : Open)
            → ((on : Onwards) (spots : List Spot) → IsOf h on
            → AreStrandsAhead on between_at.below between_at.above between_at.groups
            → HasComeTo on spots between_at.below between_at.above now
            → HasComeTo on (spots ++ group_spots es l between_at.groups) limit.below limit.above mid)
            → HasPassed h cs between_at.rest limit q now mid
            → (r : IsSoFar h cs fs old w from q mid) × (length (all_below r.left) ≡ limit.below)
            × (length (all_above r.left) ≡ limit.above)
        unfolding between_at between_by
        groups_done q mid passes passed = groups_passed q mid passes passed
