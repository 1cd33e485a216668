-- Ahead of a run: strands that stay, and the first change behind them.
use Rattle.std.proofs.Common.{◌≡◌, ◌⊎◌, inl, inr, ℕ, zero, suc, ◌+◌, ◌<◌, List, [], ◌∷◌, ◌++◌, map, length, get_or, drop, refl, sym, ap, ◌∙◌, subst, arith}
use Rattle.std.proofs.lemmas.List.{drop-drop}
use Rattle.scad_geom.specs.declared.level.Level.{Level}
use Rattle.scad_geom.specs.declared.level.LeafEdge.{LeafEdge}
use Rattle.scad_geom.specs.declared.shape.Shape.{Shape}
use Rattle.slice_pieces.specs.declared.piece.Spot.{Spot}
use Rattle.slice_sweep.specs.declared.change.Change.{Change}
use Rattle.slice_sweep.specs.Changes.{Group, all_below, all_above, staying}
use Rattle.sweep_laws.specs.Staying.{spot_of}
use Rattle.slice_outlines.specs.declared.mark.Mark.{Mark}
use Rattle.slice_outlines.specs.declared.height.Height.{Height}
use Rattle.slice_outlines.specs.Heights.{IsBalancedBefore}
use Rattle.slice_outlines.specs.Ahead.{AreMarksAt, LieAhead, between, AreBalancedFrom, group_spots}
use Rattle.slice_outlines.specs.Ahead.LieAhead.{none as no_more, stays as one_stays, changes as one_changes}

-- ---- lists
pub tail_of : {X : Type 0} (xs : List X) (n : ℕ) (x : X) (ys : List X) → drop n xs ≡ x ∷ ys → drop (n + 1) xs ≡ ys
tail_of {X} xs n x ys e = sym (drop-drop 1 n xs) ∙ ap (drop 1) e

pub head_of : {X : Type 0} (xs : List X) (n : ℕ) (x : X) (ys : List X) (d : X) → drop n xs ≡ x ∷ ys → get_or xs n d ≡ x
head_of {X} [] zero x ys d e = absurd (omega (arith, ap length e))
head_of {X} [] (suc n) x ys d e = absurd (omega (arith, ap length e))
head_of {X} (z ∷ zs) zero x ys d e = ap (λ (us : List X). get_or us 0 d) e
head_of {X} (z ∷ zs) (suc n) x ys d e = head_of zs n x ys d e

pub there_of : {X : Type 0} (xs : List X) (n : ℕ) (x : X) (ys : List X) → drop n xs ≡ x ∷ ys → n < length xs
there_of {X} [] zero x ys e = absurd (omega (arith, ap length e))
there_of {X} [] (suc n) x ys e = absurd (omega (arith, ap length e))
there_of {X} (z ∷ zs) zero x ys e = omega arith
there_of {X} (z ∷ zs) (suc n) x ys e =
    let h : n < length zs = there_of zs n x ys e in
    omega (arith, h)

pub first_equal : {X : Type 0} (x y : X) (xs ys : List X) → x ∷ xs ≡ y ∷ ys → x ≡ y
first_equal {X} x y xs ys e = ap (λ (us : List X). get_or us 0 x) e

-- ---- up to the next change
-- all groups ahead are strands that stay
pub record AllStay (rest cs : List Change) (gs : List Group) (lower upper : List Mark) : Type 0 where
  pub bundles : List (List ℕ)
  pub same : List Mark
  pub low : List Mark
  pub up : List Mark
  pub size : length same ≡ length bundles
  pub groups : gs ≡ map staying bundles
  pub lower_is : lower ≡ same ++ low
  pub upper_is : upper ≡ same ++ up
  pub last : cs ≡ rest

-- so many stay on the way to a change
pub record NextChanges (h : Height) (rest : List Change) (m : ℕ) (cs : List Change) (gs : List Group)
    (lower upper : List Mark) : Type 0 where
  pub bundles : List (List ℕ)
  pub same : List Mark
  pub size : length same ≡ length bundles
  pub change : Change
  pub later : List Change
  pub group : Group
  pub more : List Group
  pub gone : List Mark
  pub come : List Mark
  pub low : List Mark
  pub up : List Mark
  pub changes : cs ≡ change ∷ later
  pub groups : gs ≡ map staying bundles ++ (group ∷ more)
  pub lower_is : lower ≡ same ++ (gone ++ low)
  pub upper_is : upper ≡ same ++ (come ++ up)
  pub from : change.from ≡ m + length bundles
  pub group_below : length group.below ≡ change.gone
  pub group_above : length group.above ≡ change.come
  pub gone_size : length gone ≡ change.gone
  pub come_size : length come ≡ change.come
  pub at : AreMarksAt h group (gone ++ come)
  pub some : gone ++ come ≡ [] → ⊥
  pub ahead : LieAhead h rest (change.from + change.come) later more low up

stay_more : (h : Height) (rest : List Change) (m : ℕ) (cs : List Change) (b : List ℕ) (gs : List Group) (x : Mark)
    (lower upper : List Mark) → AllStay rest cs gs lower upper ⊎ NextChanges h rest (m + 1) cs gs lower upper
    → AllStay rest cs (staying b ∷ gs) (x ∷ lower) (x ∷ upper)
    ⊎ NextChanges h rest m cs (staying b ∷ gs) (x ∷ lower) (x ∷ upper)
stay_more h rest m cs b gs x lower upper (inl e) =
    let size = e.size in
    inl (record {
      bundles = b ∷ e.bundles;
      same = x ∷ e.same;
      low = e.low;
      up = e.up;
      size = omega (arith, size);
      groups = ap (λ (hs : List Group). staying b ∷ hs) e.groups;
      lower_is = ap (λ (ms : List Mark). x ∷ ms) e.lower_is;
      upper_is = ap (λ (ms : List Mark). x ∷ ms) e.upper_is;
      last = e.last;
    })
stay_more h rest m cs b gs x lower upper (inr e) =
    let size = e.size in
    let from = e.from in
    inr (record {
      bundles = b ∷ e.bundles;
      same = x ∷ e.same;
      size = omega (arith, size);
      change = e.change;
      later = e.later;
      group = e.group;
      more = e.more;
      gone = e.gone;
      come = e.come;
      low = e.low;
      up = e.up;
      changes = e.changes;
      groups = ap (λ (hs : List Group). staying b ∷ hs) e.groups;
      lower_is = ap (λ (ms : List Mark). x ∷ ms) e.lower_is;
      upper_is = ap (λ (ms : List Mark). x ∷ ms) e.upper_is;
      from = omega (arith, from);
      group_below = e.group_below;
      group_above = e.group_above;
      gone_size = e.gone_size;
      come_size = e.come_size;
      at = e.at;
      some = e.some;
      ahead = e.ahead;
    })

pub next_or_none : (h : Height) (rest : List Change) (m : ℕ) (cs : List Change) (gs : List Group)
    (lower upper : List Mark) → LieAhead h rest m cs gs lower upper
    → AllStay rest cs gs lower upper ⊎ NextChanges h rest m cs gs lower upper
next_or_none h rest m cs gs lower upper (no_more n ms ns) = inl (record {
  bundles = [];
  same = [];
  low = lower;
  up = upper;
  size = refl;
  groups = refl;
  lower_is = refl;
  upper_is = refl;
  last = refl;
})
next_or_none h rest m cs gs lower upper (one_stays n ds b hs x ms ns t) =
    stay_more h rest m cs b hs x ms ns (next_or_none h rest (m + 1) cs hs ms ns t)
next_or_none h rest m cs gs lower upper (one_changes c ds g hs gone come ms ns a b d e at some t) = inr (record {
  bundles = [];
  same = [];
  size = refl;
  change = c;
  later = ds;
  group = g;
  more = hs;
  gone = gone;
  come = come;
  low = ms;
  up = ns;
  changes = refl;
  groups = refl;
  lower_is = refl;
  upper_is = refl;
  from = omega arith;
  group_below = a;
  group_above = b;
  gone_size = d;
  come_size = e;
  at = at;
  some = some;
  ahead = t;
})

-- ---- groups that stay
pub stay_count : (bs : List (List ℕ)) → (length (all_below (map staying bs)) ≡ length bs)
    × (length (all_above (map staying bs)) ≡ length bs)
stay_count [] = (refl, refl)
stay_count (b ∷ bs) = (ap suc (stay_count bs).0, ap suc (stay_count bs).1)

pub stay_below : (bs : List (List ℕ)) (gs : List Group) → all_below (map staying bs ++ gs) ≡ bs ++ all_below gs
stay_below [] gs = refl
stay_below (b ∷ bs) gs = ap (λ (cs : List (List ℕ)). b ∷ cs) (stay_below bs gs)

pub stay_above : (bs : List (List ℕ)) (gs : List Group) → all_above (map staying bs ++ gs) ≡ bs ++ all_above gs
stay_above [] gs = refl
stay_above (b ∷ bs) gs = ap (λ (cs : List (List ℕ)). b ∷ cs) (stay_above bs gs)

pub stay_spots : (es : List LeafEdge) (l : Level) (bs : List (List ℕ)) (gs : List Group)
    → group_spots es l (map staying bs ++ gs) ≡ map (spot_of es l) bs ++ group_spots es l gs
stay_spots es l [] gs = refl
stay_spots es l (b ∷ bs) gs = ap (λ (ss : List Spot). spot_of es l b ∷ ss) (stay_spots es l bs gs)

pub balanced_first : (h : Height) (shape : Shape) (n m : ℕ) (gs : List Group) → AreBalancedFrom h shape n m gs
    → IsBalancedBefore h shape (between n m)
balanced_first h shape n m [] a = a
balanced_first h shape n m (g ∷ gs) a = a.0

pub balanced_on : (h : Height) (shape : Shape) (bs : List (List ℕ)) (gs : List Group) (n m : ℕ)
    → AreBalancedFrom h shape n m (map staying bs ++ gs)
    → AreBalancedFrom h shape (n + length bs) (m + length bs) gs
balanced_on h shape [] gs n m a =
    let e : n ≡ n + 0 = omega arith in
    let f : m ≡ m + 0 = omega arith in
    subst (λ (j : ℕ). AreBalancedFrom h shape (n + 0) j gs) f (subst (λ (i : ℕ). AreBalancedFrom h shape i m gs) e a)
balanced_on h shape (b ∷ bs) gs n m a =
    let e : n + 1 + length bs ≡ n + suc (length bs) = omega arith in
    let f : m + 1 + length bs ≡ m + suc (length bs) = omega arith in
    subst (λ (j : ℕ). AreBalancedFrom h shape (n + suc (length bs)) j gs) f
    (subst (λ (i : ℕ). AreBalancedFrom h shape i (m + 1 + length bs) gs) e
    (balanced_on h shape bs gs (n + 1) (m + 1) a.1))
