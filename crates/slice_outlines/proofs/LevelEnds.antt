-- A level from its left end to its right one.
use Rattle.std.proofs.Common.{◌≡◌, ℕ, zero, suc, ◌+◌, ◌-◌, ◌*◌, ◌<◌, ◌≤◌, true, List, [], ◌∷◌, length, get_or, take, drop, refl, sym, ap, ◌∙◌, subst, arith, length-append}
use lib.IntN.{ℤ, pos, negsuc, ◌*ℤ◌}
use lib.Signed.{◌<ℤ◌, ◌≤ℤ◌}
use mir.Syntax.{w32}
use mir.Val.{to_z, of_z}
use Rattle.std.specs.Prelude.{unsigned_abs}
use Rattle.std.specs.List.{AllByRecursion}
use Rattle.std.proofs.lemmas.Int.{ints}
use Rattle.std.proofs.lemmas.List.{append-nil, drop_all, take_all, drop_more}
use Rattle.scad_geom.specs.declared.level.Level.{Level}
use Rattle.scad_geom.specs.declared.level.LeafEdge.{LeafEdge}
use Rattle.scad_geom.specs.Limits.{coordinate_limit}
use Rattle.scad_geom.proofs.Integers.{mul_assoc}
use Rattle.slice_bundles.specs.Bundles.{no_edge, edge_at}
use Rattle.slice_pieces.specs.declared.piece.Spot.{Spot}
use Rattle.slice_pieces.specs.Spots.{IsSpotWithin}
use Rattle.slice_border.specs.Pieces.{spot_on, whole_spot, passes_at, IsLeft}
use Rattle.slice_border.proofs.Middle.{size_of}
use Rattle.slice_sweep.specs.declared.change.Change.{Change}
use Rattle.slice_sweep.specs.Changes.{Group, all_below, all_above, all_at}
use Rattle.slice_outlines.specs.declared.mark.Mark.{Mark}
use Rattle.slice_outlines.specs.declared.flat.Flat.{Flat}
use Rattle.slice_outlines.specs.declared.run.Run.{Run}
use Rattle.slice_outlines.specs.declared.height.Height.{Height}
use Rattle.slice_outlines.specs.declared.height.Open.{Open}
use Rattle.slice_outlines.specs.declared.groups.Passed.{Passed}
use Rattle.slice_outlines.specs.Runs.{first}
use Rattle.slice_outlines.specs.Marks.{AreThere}
use Rattle.slice_outlines.specs.Stops.{AllPass}
use Rattle.slice_outlines.specs.Flats.{IsFlatOf, AreJoined, StartsBehind}
use Rattle.slice_outlines.specs.Cursors.{StandForSome}
use Rattle.slice_outlines.specs.Along.{LieBetween}
use Rattle.slice_sweep.specs.Front.{bundles_in}
use Rattle.slice_outlines.specs.Heights.{Onwards, IsOf, IsRunOf, AreInOrder}
use Rattle.slice_outlines.specs.Ahead.{first_spot, HasComeTo}
use Rattle.slice_outlines.specs.Level.{IsAtLevel, IsValuedAt, AreSpotsOf}
use Rattle.slice_outlines.proofs.Joining.{whole_cast}
use Rattle.slice_outlines.proofs.EndPoints.{passing_within, passes_there}
use Rattle.slice_outlines.proofs.GroupHeights.{HeadPasses}
use Rattle.slice_outlines.proofs.GroupPassing.{all_named}
use Rattle.slice_outlines.proofs.WayCovers.{all_drop}
use Rattle.slice_outlines.proofs.Fitting.{named_size}
use Rattle.slice_outlines.proofs.Apart.{IsPlaced, at_group, below-append, above-append, below_in_order, above_in_order}
use Rattle.slice_outlines.proofs.Cuts.{IsCutAt, whole_at}
use Rattle.slice_outlines.proofs.Levelling.{IsSoFar, IsToLimit, all_placed, all_apart, named_now}
use Rattle.slice_outlines.proofs.Stretching.{IsStretch, whole_left, joined_by}

-- ---- to the left of all
abbrev pub far_left : Level → Spot
far_left l = whole_spot (negsuc coordinate_limit) l

farther : (x : ℤ) (u : ℕ) → 0 < u → unsigned_abs x ≤ coordinate_limit * u → (negsuc coordinate_limit *ℤ pos u) <ℤ x
farther (pos n) u o h = omega (arith, ints, o)
farther (negsuc n) u o h = omega (arith, ints, o, h)

pub product_positive : (a b : ℕ) → 0 < a → 0 < b → 0 < a * b
product_positive a b p q = grind (arith, p, q)

turned_product : (a b : ℕ) → pos b *ℤ pos a ≡ pos (a * b)
turned_product a b = omega (arith, ints)

pub as_product : (a b : ℕ) (z : ℤ) → pos b ≡ z → z *ℤ pos a ≡ pos (a * b)
as_product a b z e = ap (λ (y : ℤ). y *ℤ pos a) (sym e) ∙ turned_product a b

pub left_of : (l : Level) (s : Spot) → pos 0 <ℤ l.d → s.at ≡ l → IsSpotWithin coordinate_limit s → IsLeft (far_left l) s
left_of l s d at w =
    let u : ℕ = s.run * unsigned_abs l.d in
    let size : unsigned_abs s.x ≤ coordinate_limit * u =
    subst (λ (m : Level). unsigned_abs s.x ≤ coordinate_limit * (s.run * unsigned_abs m.d)) at w.size in
    let dd : pos (unsigned_abs l.d) ≡ l.d = size_of l.d d in
    let runs = w.positive in
    let some : 0 < unsigned_abs l.d = omega (arith, ints, dd, d) in
    let both : 0 < u = product_positive s.run (unsigned_abs l.d) runs some in
    let product : l.d *ℤ pos s.run ≡ pos u = as_product s.run (unsigned_abs l.d) l.d dd in
    let less : (negsuc coordinate_limit *ℤ pos u) <ℤ s.x = farther s.x u both size in
    let same : (negsuc coordinate_limit *ℤ l.d) *ℤ pos s.run ≡ negsuc coordinate_limit *ℤ pos u =
    mul_assoc (negsuc coordinate_limit) l.d (pos s.run) ∙ ap (λ (z : ℤ). negsuc coordinate_limit *ℤ z) product in
    omega (arith, ints, less, same)

pub flat_left : (l : Level) (x : ℤ) → pos 0 <ℤ l.d → unsigned_abs x ≤ coordinate_limit
    → IsLeft (far_left l) (whole_spot x l)
flat_left l x d h =
    let less : (negsuc coordinate_limit *ℤ pos 1) <ℤ x = farther x 1 (omega arith) (omega (arith, h)) in
    whole_left l (negsuc coordinate_limit) x d (omega (arith, ints, less))

module _ (h : Height) where
  bundle_left : (bs : List (List ℕ)) → (bs ≡ [] → ⊥) → AllByRecursion (HeadPasses h.edges.now h.at.now) bs
      → IsLeft (far_left h.at.now) (first_spot h.edges.now h.at.now bs)
  bundle_left [] n p = absurd (n refl)
  bundle_left ([] ∷ bs) n p = absurd p.0
  bundle_left ((k ∷ ks) ∷ bs) n p =
      left_of h.at.now (spot_on (edge_at h.edges.now k) h.at.now) h.at_within.positive refl
      (passing_within coordinate_limit (edge_at h.edges.now k) h.at.now
      (h.within k no_edge (passes_there h.edges.now k h.at.now p.0)) h.at_within p.0)

  pub groups_left : (gs : List Group) → AllByRecursion (IsPlaced h) gs
      → AllByRecursion (λ g. IsLeft (far_left h.at.now) (at_group h g)) gs
  groups_left [] p = tt
  groups_left (g ∷ gs) p = (bundle_left (all_at g) p.0.met.some p.0.passes, groups_left gs p.1)

  flats_left : (fs : List Flat) → AllByRecursion (λ f. IsLeft (far_left h.at.now) (whole_spot f.left h.at.now)) fs
  flats_left [] = tt
  flats_left (f ∷ fs) = (flat_left h.at.now f.left h.at_within.positive f.left_size, flats_left fs)

-- all groups lie to its right
pub far_cut : (h : Height) (gs : List Group) → AllByRecursion (IsPlaced h) gs
    → IsCutAt h [] [] [] gs (far_left h.at.now)
far_cut h gs p = record {
  at = whole_at h.at.now (negsuc coordinate_limit);
  before = tt;
  behind = groups_left h gs p;
  flats_before = tt;
  flats_behind = tt;
}

module _ (h : Height) (cs : List Change) (fs : List Flat) (old : Open)
    (w : IsAtLevel h old.marks.items cs fs old.cursors) where
  -- nothing is passed
  pub at_first : IsSoFar h cs fs old w 0 (record { count = 0; last = first }) old
  at_first = record {
    left = [];
    right = w.groups;
    groups = refl;
    within = omega arith;
    taken = w.taken;
    from_below = omega arith;
    from_above = omega arith;
    alike = refl;
    names = refl;
    count = record { count = omega arith; last = refl };
    stands = λ shape s. s;
    cut = far_left h.at.now;
    is_cut = record {
      at = whole_at h.at.now (negsuc coordinate_limit);
      before = tt;
      behind = groups_left h w.groups (all_placed h cs fs old w);
      flats_before = tt;
      flats_behind = flats_left h fs;
    };
    come = λ on of v start. record {
      spots = [];
      are = record { rightwards = tt; sound = tt; flats = tt };
      by = tt;
      come = start;
    };
  }

  -- ---- the right end
  module _ (from : ℕ) (p : Passed) (now : Open) (f : IsSoFar h cs fs old w from p now) (o : length fs ≤ from)
      (end : Run)
      (eb : end.below ≡ length h.below.now) (ea : end.above ≡ length now.marks.items) where
    none_ahead : (gs : List Group)
        → AllByRecursion (λ g. AllByRecursion (λ k. IsLeft (at_group h g) (whole_spot k.left h.at.now))
        (drop from fs)) gs
    none_ahead [] = tt
    none_ahead (g ∷ gs) = (
      subst (AllByRecursion (λ k. IsLeft (at_group h g) (whole_spot k.left h.at.now))) (sym (drop_all from fs o)) tt,
      none_ahead gs,
    )

    pub to_right : (t : IsToLimit f.left f.right end)
        × AllByRecursion (λ g. AllByRecursion (λ k. IsLeft (at_group h g) (whole_spot k.left h.at.now))
        (drop from fs)) t.xs
    to_right =
        let low = named_size h.below.now (all_below w.groups) w.named_below
        ∙ ap length (ap all_below f.groups ∙ below-append f.left f.right)
        ∙ length-append (all_below f.left) (all_below f.right) in
        let up = named_size now.marks.items (all_above w.groups) (named_now h cs fs old w from p now f)
        ∙ ap length (ap all_above f.groups ∙ above-append f.left f.right)
        ∙ length-append (all_above f.left) (all_above f.right) in
        let t : IsToLimit f.left f.right end = record {
          xs = f.right;
          ys = [];
          groups = sym (append-nil f.right);
          below = sym low ∙ sym eb;
          above = sym up ∙ sym ea;
        } in
        (t, none_ahead f.right)

  -- all is passed
  pub at_last : (from : ℕ) (p : Passed) (new : Open) (f : IsSoFar h cs fs old w from p new) → length fs ≤ from
      → length (all_below f.left) ≡ length h.below.now → length (all_above f.left) ≡ length old.marks.items
      → (on : Onwards) → IsOf h on → IsValuedAt on w.groups → HasComeTo on [] 0 0 old
      → (spots : List Spot) × AreSpotsOf h fs spots
      × HasComeTo on spots (length h.below.now) (length old.marks.items) new
  at_last from p new f o eb ea on of v start =
      let r = f.come on of v start in (
        r.spots,
        subst (λ (gs : List Flat). AreSpotsOf h gs r.spots) (take_all from fs o) r.are,
        subst (λ (j : ℕ). HasComeTo on r.spots (length h.below.now) j new) ea
            (subst (λ (i : ℕ). HasComeTo on r.spots i (length (all_above f.left)) new) eb r.come),
      )

-- ---- as the code finds a stretch
pub left_cast : (fs : List Flat) (from : ℕ) (one : Flat) → one ≡ get_or fs from one
    → to_z w32 (of_z w32 (get_or fs from one).left) ≡ one.left
left_cast fs from one is = ap (λ (k : Flat). to_z w32 (of_z w32 k.left)) (sym is) ∙ whole_cast one.left one.left_size

pub stretch_by : (h : Height) (fs : List Flat) (from to : ℕ) (one : Flat) (right left' right' : ℤ) (run : Run)
    (ms seen : List Mark) → from < length fs → one ≡ get_or fs from one → from < to → to ≤ length fs
    → AreJoined (take (to - from) (drop from fs)) right → StartsBehind right (drop to fs) → seen ≡ ms → left' ≡ one.left
    → right' ≡ right → IsRunOf h.below.now seen run → LieBetween h left' right' h.below.now run.below run.below_to
    → LieBetween h left' right' seen run.above run.above_to → IsStretch h fs from to one right run ms
stretch_by h fs from to one right left' right' run ms seen there is later within joined next same e f r a b = record {
  first_is = drop_more fs from one there ∙ ap (λ (k : Flat). k ∷ drop (from + 1) fs) (sym is);
  later = later;
  within = within;
  joined = joined;
  next = next;
  run_of = subst (λ (xs : List Mark). IsRunOf h.below.now xs run) same r;
  below = subst (λ (z : ℤ). LieBetween h one.left z h.below.now run.below run.below_to) f
      (subst (λ (z : ℤ). LieBetween h z right' h.below.now run.below run.below_to) e a);
  above = subst (λ (xs : List Mark). LieBetween h one.left right xs run.above run.above_to) same
      (subst (λ (z : ℤ). LieBetween h one.left z seen run.above run.above_to) f
      (subst (λ (z : ℤ). LieBetween h z right' seen run.above run.above_to) e b));
}

-- the first of flat edges that are joined starts no farther to the right than they reach
pub first_order : (es : List LeafEdge) (fs : List Flat) (from to : ℕ) (one : Flat) (right left' right' : ℤ)
    → AllByRecursion (IsFlatOf es) fs → from < length fs → one ≡ get_or fs from one → from < to
    → AreJoined (take (to - from) (drop from fs)) right → left' ≡ one.left → right' ≡ right → left' ≤ℤ right'
first_order es fs from to one right left' right' each there is later joined e f =
    let here : drop from fs ≡ one ∷ drop (from + 1) fs = drop_more fs from one there
    ∙ ap (λ (k : Flat). k ∷ drop (from + 1) fs) (sym is) in
    let flat : AllByRecursion (IsFlatOf es) (one ∷ drop (from + 1) fs) =
    subst (AllByRecursion (IsFlatOf es)) here (all_drop (IsFlatOf es) from fs each) in
    let order = flat.0.order in
    by_size (to - from) refl (subst (λ (gs : List Flat). AreJoined (take (to - from) gs) right) here joined) order
  where
    by_size : (k : ℕ) → to - from ≡ k → AreJoined (take (to - from) (one ∷ drop (from + 1) fs)) right
        → one.left ≤ℤ one.right → left' ≤ℤ right'
    by_size zero q j o = absurd (omega (arith, q, later))
    by_size (suc k) q j o =
        let all = joined_by right (one ∷ take k (drop (from + 1) fs))
        (subst (λ (n : ℕ). AreJoined (take n (one ∷ drop (from + 1) fs)) right) q j) in
        let to = all.0 in
        omega (arith, ints, e, f, o, to)

-- ---- what the code asks for
there_by : (es : List LeafEdge) (l : Level) (ms : List Mark) → AllPass es l ms → AreThere es ms
there_by es l ms p k d o = passes_there es (get_or ms k d).name l (p k d o)

module _ (h : Height) (cs : List Change) (fs : List Flat) (old : Open)
    (w : IsAtLevel h old.marks.items cs fs old.cursors) where
  pub below_order : AreInOrder h h.below.now
  below_order = below_in_order h h.below.now w.groups w.named_below (all_placed h cs fs old w) (all_apart h cs fs old w)

  pub below_there : AreThere h.edges.now h.below.now
  below_there = there_by h.edges.now h.at.now h.below.now w.pass_below

  module _ (from : ℕ) (p : Passed) (now : Open) (f : IsSoFar h cs fs old w from p now) where
    pub now_order : AreInOrder h now.marks.items
    now_order = above_in_order h now.marks.items w.groups (named_now h cs fs old w from p now f)
        (all_placed h cs fs old w) (all_apart h cs fs old w)

    pub now_pass : AllPass h.edges.now h.at.now now.marks.items
    now_pass = all_named (λ k. passes_at (edge_at h.edges.now k) h.at.now
        ≡ true) old.marks.items now.marks.items f.names
        w.pass_above

    pub now_there : AreThere h.edges.now now.marks.items
    now_there = there_by h.edges.now h.at.now now.marks.items now_pass

    pub now_size : length now.marks.items ≡ length (bundles_in h.front.now)
    now_size = named_size now.marks.items (all_above w.groups) (named_now h cs fs old w from p now f)
        ∙ ap length w.above

    pub now_stands : StandForSome h.edges.now (bundles_in h.front.now) now.cursors
    now_stands = record { shape = w.stands.shape; on = f.stands w.stands.shape w.stands.on }
