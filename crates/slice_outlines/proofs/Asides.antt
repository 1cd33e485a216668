-- A place with flat edges aside of the next strand has a cut to its left.
use Rattle.std.proofs.Common.{◌≡◌, inl, inr, ℕ, ◌+◌, ◌<◌, List, [], ◌∷◌, ◌++◌, length, drop, refl, sym, ap, ◌∙◌, arith, length-drop}
use lib.IntN.{ℤ, pos, negsuc}
use lib.Signed.{◌<ℤ◌, ◌≤ℤ◌}
use Rattle.std.specs.List.{AllByRecursion}
use Rattle.std.proofs.lemmas.Int.{ints}
use Rattle.std.proofs.lemmas.List.{get_or-drop}
use Rattle.scad_geom.specs.Limits.{coordinate_limit}
use Rattle.scad_geom.specs.declared.level.Level.{Level}
use Rattle.scad_geom.specs.declared.level.LeafEdge.{LeafEdge}
use Rattle.scad_geom.proofs.Order.{back}
use Rattle.slice_pieces.specs.declared.piece.Spot.{Spot}
use Rattle.slice_border.specs.Pieces.{whole_spot, IsLeft}
use Rattle.slice_border.proofs.Winding.{IsSpotAt}
use Rattle.slice_sweep.specs.Changes.{Group, all_below}
use Rattle.slice_outlines.specs.declared.mark.Mark.{Mark}
use Rattle.slice_outlines.specs.declared.flat.Flat.{Flat}
use Rattle.slice_outlines.specs.declared.height.Height.{Height}
use Rattle.slice_outlines.specs.Marks.{no_mark, mark_at, spot_at}
use Rattle.slice_outlines.specs.Flats.{LiesAside}
use Rattle.slice_outlines.specs.Heights.{IsNotRightOf}
use Rattle.slice_outlines.specs.Ahead.{first_spot}
use Rattle.slice_outlines.specs.Level.{GoByLeft}
use Rattle.slice_outlines.proofs.Across.{left_or_not, weakly, left_chain, left_then_by, by_chain}
use Rattle.slice_outlines.proofs.Placing.{AreNamed}
use Rattle.slice_outlines.proofs.Fitting.{named_past}
use Rattle.slice_outlines.proofs.LevelAhead.{mark_spot}
use Rattle.slice_outlines.proofs.Apart.{IsPlaced, AreApart, at_group}
use Rattle.slice_outlines.proofs.Cuts.{IsCutAt, whole_at}
use Rattle.slice_outlines.proofs.Stretching.{whole_by}
use Rattle.slice_outlines.proofs.LevelEnds.{far_left, groups_left}

itself : (s : Spot) → IsNotRightOf s s
itself s = omega (arith, ints)

-- ---- the last of some places to the left of another
module _ (l : Level) (b : Spot) (X : Type 0) (f : X → Spot) where
  pub all_by : (xs : List X) (s t : Spot) → IsSpotAt l s → IsSpotAt l t → IsNotRightOf s t
      → AllByRecursion (λ x. IsSpotAt l (f x)) xs → AllByRecursion (λ x. IsNotRightOf (f x) s) xs
      → AllByRecursion (λ x. IsNotRightOf (f x) t) xs
  all_by [] s t hs ht o a c = tt
  all_by (x ∷ xs) s t hs ht o a c = (by_chain l (f x) s t a.0 hs ht c.0 o, all_by xs s t hs ht o a.1 c.1)

  -- a place to the left of the other and no farther to the left than these
  pub record IsLast (from : Spot) (xs : List X) : Type 0 where
    pub s : Spot
    pub at : IsSpotAt l s
    pub since : IsNotRightOf from s
    pub by : AllByRecursion (λ x. IsNotRightOf (f x) s) xs
    pub left : IsLeft s b

  pub last_of : (from : Spot) → IsSpotAt l from → IsLeft from b → (xs : List X)
      → AllByRecursion (λ x. IsSpotAt l (f x)) xs → AllByRecursion (λ x. IsLeft (f x) b) xs → IsLast from xs
  last_of from hf o [] a c = record { s = from; at = hf; since = itself from; by = tt; left = o }
  last_of from hf o (x ∷ xs) a c =
      let r = last_of from hf o xs a.1 c.1 in
      elim (left_or_not r.s (f x)) [
        | inl q ↦ record {
          s = f x;
          at = a.0;
          since = by_chain l from r.s (f x) hf r.at a.0 r.since (weakly r.s (f x) q);
          by = (itself (f x), all_by xs r.s (f x) r.at a.0 (weakly r.s (f x) q) a.1 r.by);
          left = c.0;
        }
        | inr q ↦ record { s = r.s; at = r.at; since = r.since; by = (q, r.by); left = r.left }
      ]

-- ---- flat edges on both sides of a spot
module _ (l : Level) (d : pos 0 <ℤ l.d) (b : Spot) (hb : IsSpotAt l b) where
  pub record AreBeside (fs : List Flat) : Type 0 where
    pub before : List Flat
    pub behind : List Flat
    pub all : fs ≡ before ++ behind
    pub end : AllByRecursion (λ f. IsLeft (whole_spot f.right l) b) before
    pub begin : AllByRecursion (λ f. IsLeft b (whole_spot f.left l)) behind

  all_later : (x : ℤ) → IsLeft b (whole_spot x l) → (fs : List Flat) → AllByRecursion (λ f. x ≤ℤ f.left) fs
      → AllByRecursion (λ f. IsLeft b (whole_spot f.left l)) fs
  all_later x o [] a = tt
  all_later x o (f ∷ fs) a = (
    left_then_by l b (whole_spot x l) (whole_spot f.left l) hb (whole_at l x) (whole_at l f.left) o
        (whole_by l x f.left d a.0),
    all_later x o fs a.1,
  )

  pub beside : (fs : List Flat) → GoByLeft fs → AllByRecursion (LiesAside l b) fs → AreBeside fs
  beside [] g a = record { before = []; behind = []; all = refl; end = tt; begin = tt }
  beside (f ∷ fs) g a = elim a.0 [
    | inl q ↦ record {
      before = [];
      behind = f ∷ fs;
      all = refl;
      end = tt;
      begin = (q, all_later f.left q fs g.0);
    }
    | inr q ↦
        let r = beside fs g.1 a.1 in
        record {
          before = f ∷ r.before;
          behind = r.behind;
          all = ap (λ (gs : List Flat). f ∷ gs) r.all;
          end = (q, r.end);
          begin = r.begin;
        }
  ]

-- ---- a cut to the left of a group
module _ (h : Height) where
  abbrev l : Level
  l = h.at.now

  left_apart : (left : List Group) (g : Group) (right : List Group) → AreApart h (left ++ (g ∷ right))
      → AllByRecursion (λ k. IsLeft (at_group h k) (at_group h g)) left
  left_apart [] g right a = tt
  left_apart (k ∷ left) g right a =
      ((back (λ j. IsLeft (at_group h k) (at_group h j)) left (g ∷ right) a.0).0, left_apart left g right a.1)

  right_apart : (left : List Group) (g : Group) (right : List Group) → AreApart h (left ++ (g ∷ right))
      → AllByRecursion (λ k. IsLeft (at_group h g) (at_group h k)) right
  right_apart [] g right a = a.0
  right_apart (k ∷ left) g right a = right_apart left g right a.1

  groups_at : (gs : List Group) → AllByRecursion (IsPlaced h) gs → AllByRecursion (λ g. IsSpotAt l (at_group h g)) gs
  groups_at [] p = tt
  groups_at (g ∷ gs) p = (p.0.at, groups_at gs p.1)

  ends_at : (fs : List Flat) → AllByRecursion (λ f. IsSpotAt l (whole_spot f.right l)) fs
  ends_at [] = tt
  ends_at (f ∷ fs) = (whole_at l f.right, ends_at fs)

  later_groups : (s : Spot) → IsSpotAt l s → (g : Group) → IsPlaced h g → IsLeft s (at_group h g) → (gs : List Group)
      → AllByRecursion (IsPlaced h) gs → AllByRecursion (λ k. IsLeft (at_group h g) (at_group h k)) gs
      → AllByRecursion (λ k. IsLeft s (at_group h k)) gs
  later_groups s hs g p o [] q a = tt
  later_groups s hs g p o (k ∷ gs) q a =
      (left_chain l s (at_group h g) (at_group h k) hs p.at q.0.at o a.0, later_groups s hs g p o gs q.1 a.1)

  later_flats : (s b : Spot) → IsSpotAt l s → IsSpotAt l b → IsLeft s b → (fs : List Flat)
      → AllByRecursion (λ f. IsLeft b (whole_spot f.left l)) fs → AllByRecursion (λ f. IsLeft s (whole_spot f.left l)) fs
  later_flats s b hs hb o [] a = tt
  later_flats s b hs hb o (f ∷ fs) a =
      (left_chain l s b (whole_spot f.left l) hs hb (whole_at l f.left) o a.0, later_flats s b hs hb o fs a.1)

  pub cut_left : (left : List Group) (g : Group) (right : List Group) (fb fa : List Flat)
      → AllByRecursion (IsPlaced h) left → AllByRecursion (IsPlaced h) (g ∷ right) → AreApart h (left ++ (g ∷ right))
      → AllByRecursion (λ f. IsLeft (whole_spot f.right l) (at_group h g)) fb
      → AllByRecursion (λ f. IsLeft (at_group h g) (whole_spot f.left l)) fa
      → (s : Spot) × IsCutAt h fb fa left (g ∷ right) s
  cut_left left g right fb fa p q a e f =
      let b : Spot = at_group h g in
      let far : Spot = far_left l in
      let x = last_of l b Group (at_group h) far (whole_at l (negsuc coordinate_limit)) (groups_left h (g ∷ right) q).0 left (groups_at left p)
      (left_apart left g right a) in
      let y = last_of l b Flat (λ f. whole_spot f.right l) x.s x.at x.left fb (ends_at fb) e in (
        y.s,
        record {
          at = y.at;
          before = all_by l b Group (at_group h) left x.s y.s x.at y.at y.since (groups_at left p) x.by;
          behind = (y.left, later_groups y.s y.at g q.0 y.left right q.1 (right_apart left g right a));
          flats_before = y.by;
          flats_behind = later_flats y.s b y.at q.0.at y.left fa f;
        },
      )

-- ---- the strand behind a place
first_marked : (es : List LeafEdge) (l : Level) (ms : List Mark) (bs cs us : List (List ℕ)) → AreNamed ms (bs ++ cs)
    → (bs ≡ [] → ⊥) → (0 < length ms) × (spot_at es l (mark_at ms 0) ≡ first_spot es l (bs ++ us))
first_marked es l ms [] cs us z n = absurd (n refl)
first_marked es l [] (b ∷ bs) cs us z n = absurd z
first_marked es l (m ∷ ms) (b ∷ bs) cs us z n = (omega arith, sym (mark_spot es l m b z.0))

-- the next strand is where the group behind the place is
pub next_marked : (h : Height) (ms : List Mark) (n : ℕ) (bs : List (List ℕ)) (g : Group) (gs : List Group)
    → length bs ≡ n → AreNamed ms (bs ++ all_below (g ∷ gs)) → (g.below ≡ [] → ⊥)
    → (n < length ms) × (spot_at h.edges.now h.at.now (mark_at ms n) ≡ at_group h g)
next_marked h ms n bs g gs e z m =
    let rest : AreNamed (drop (length bs) ms) (all_below (g ∷ gs)) = named_past ms bs (all_below (g ∷ gs)) z in
    let x = first_marked h.edges.now h.at.now (drop (length bs) ms) g.below (all_below gs) g.above rest m in
    let some = x.0 in
    let place : length bs + 0 ≡ n = omega (arith, e) in (
      omega (arith, some, e, length-drop (length bs) ms),
      ap (λ (x : Mark). spot_at h.edges.now h.at.now x) (sym (get_or-drop (length bs) ms 0 no_mark
          ∙ ap (λ (i : ℕ). mark_at ms i) place)) ∙ x.1,
    )
