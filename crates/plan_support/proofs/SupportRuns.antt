-- The support runs of rows, one row after another.
use Rattle.std.proofs.Common.{◌≡◌, ◌≢◌, inl, inr, ℕ, zero, suc, ◌+◌, ◌<◌, ◌≤◌, Bool, true, false, cond, not, List, [], ◌∷◌, ◌++◌, length, get_or, take, refl, sym, ap, ap₂, subst, ◌∙◌, arith, ℤ, pos, ◌+ℤ◌, ◌-ℤ◌, ◌<ℤ◌}
use lib.Signed.{◌≤ℤ◌}
use Rattle.std.specs.Prelude.{All, Contains, int_le, ◌&&◌}
use Rattle.std.proofs.lemmas.Int.{ints}
use Rattle.std.proofs.lemmas.Bool.{both_ways, and_parts}
use Rattle.std.proofs.lemmas.List.{append-nil, append_assoc, take_more, take_all}
use Rattle.std.proofs.lemmas.List.Elements.{All-nil, All-push, All-weaker, All-head, All-tail, All-cons, All-append, All-contains}
use Rattle.scad_geom.specs.declared.point.Pt.{Pt}
use Rattle.scad_geom.proofs.Rising.{by_order, order}
use Rattle.plan_infill.specs.declared.run.Run.{Run}
use Rattle.plan_infill.specs.Runs.{GoUp}
use Rattle.plan_support.specs.Stretches.{IsStretch, AreStretches}
use Rattle.plan_support.specs.Rows.{Row, runs_at, GoUpwards, AreRowsOf}
use Rattle.plan_support.specs.On.{is_on}
use Rattle.plan_support.specs.Spans.{row_of}
use Rattle.plan_support.specs.Free.{at_least, AreLeft}
use Rattle.plan_support.specs.Near.{IsPlace, HasPlaces, AreHoles}
use Rattle.plan_support.specs.Supports.{IsSupported, IsFreeOn, row_paths, paths_of, way_behind, AddsRow, AreSupports}
use Rattle.plan_infill.proofs.Elements.{first_in, other_in, first_or_other}
use Rattle.plan_support.proofs.Canonical.{run_there, are_stretches}
use Rattle.plan_support.proofs.Stretches.{no_stretches}
use Rattle.plan_support.proofs.HeightRows.{none_above, others_stay, last_row, upwards_push}

-- ---- the free stretches of a row
module _ (outlines : List (List Pt)) (gap : ℕ) (y : ℤ) (runs holes free : List Run) (left : AreLeft runs holes free)
    (are : AreHoles outlines y gap holes) where
  place_of : (x : ℤ) → is_on runs x ≡ true → IsPlace x
  place_of x o =
      let r = run_there runs x o in
      let p = All-contains HasPlaces runs r.run left.places r.there in
      let a = r.from in
      let b = r.to in
      let c = p.from.from in
      let d = p.to.to in
      record { from = omega (arith, ints, a, c); to = omega (arith, ints, b, d) }

  not_true : (b : Bool) → not b ≡ true → b ≡ false
  not_true true h = absurd (both_ways _ refl h)
  not_true false h = refl

  if_on : (x : ℤ) → is_on free x ≡ true → IsFreeOn outlines gap y runs x
  if_on x o =
      let p = and_parts (is_on runs x) (not (is_on holes x)) (sym (left.on x) ∙ o) in
      record { on = p.0; free = are.free x (place_of x p.0) (not_true (is_on holes x) p.1) }

  on_if : (x : ℤ) → IsFreeOn outlines gap y runs x → is_on free x ≡ true
  on_if x f = by_test (is_on holes x) refl
    where
      by_test : (t : Bool) → is_on holes x ≡ t → is_on free x ≡ true
      by_test true e = absurd (are.taken x (place_of x f.on) e f.free)
      by_test false e = left.on x ∙ ap₂ (λ (a b : Bool). a && not b) f.on e

  pub are_free : AreStretches (IsFreeOn outlines gap y runs) 0 free
  are_free = are_stretches (IsFreeOn outlines gap y runs) free left.apart on_if if_on

-- ---- what holds at the same places has the same stretches
pub same_stretches : (P Q : ℤ → Type 0) (least : ℕ) (rs : List Run) → ((x : ℤ) → P x → Q x) → ((x : ℤ) → Q x → P x)
    → AreStretches P least rs → AreStretches Q least rs
same_stretches P Q least rs f g a = record {
  upwards = a.upwards;
  each = All-weaker (IsStretch P least) (IsStretch Q least) (λ r s. record {
    long = s.long;
    holds = λ x p q. f x (s.holds x p q);
    before = λ h. s.before (g (r.from -ℤ pos 1) h);
    after = λ h. s.after (g (r.to +ℤ pos 1) h);
  }) rs a.each;
  all = λ r s. a.all r (record {
    long = s.long;
    holds = λ x p q. g x (s.holds x p q);
    before = λ h. s.before (f (r.from -ℤ pos 1) h);
    after = λ h. s.after (f (r.to +ℤ pos 1) h);
  });
}

-- ---- those that are long
module _ (Holds : ℤ → Type 0) (least : ℕ) where
  longer : Run → Bool
  longer r = int_le (pos least) (r.to -ℤ r.from)

  kept_after : (r : Run) (rs : List Run) → All (λ (s : Run). r.to <ℤ s.from) rs
      → All (λ (s : Run). r.to <ℤ s.from) (at_least least rs)
  kept_after r [] a = All-nil (λ (s : Run). r.to <ℤ s.from)
  kept_after r (q ∷ qs) a =
      by_test (int_le (pos least) (q.to -ℤ q.from)) (kept_after r qs (All-tail (λ (s : Run). r.to <ℤ s.from) q qs a))
    where
      by_test : (t : Bool) → All (λ (s : Run). r.to <ℤ s.from) (at_least least qs)
          → All (λ (s : Run). r.to <ℤ s.from) (cond t (q ∷ at_least least qs) (at_least least qs))
      by_test true rest = All-cons (λ (s : Run). r.to <ℤ s.from) q (at_least least qs)
          (All-head (λ (s : Run). r.to <ℤ s.from) q qs a) rest
      by_test false rest = rest

  kept_up : (rs : List Run) → GoUp rs → GoUp (at_least least rs)
  kept_up [] u = tt
  kept_up (q ∷ qs) u = by_test (int_le (pos least) (q.to -ℤ q.from)) (kept_up qs u.1)
    where
      by_test : (t : Bool) → GoUp (at_least least qs) → GoUp (cond t (q ∷ at_least least qs) (at_least least qs))
      by_test true rest = (kept_after q qs u.0, rest)
      by_test false rest = rest

  kept_each : (rs : List Run) → All (IsStretch Holds 0) rs → All (IsStretch Holds least) (at_least least rs)
  kept_each [] a = All-nil (IsStretch Holds least)
  kept_each (q ∷ qs) a =
      by_test (int_le (pos least) (q.to -ℤ q.from)) refl (kept_each qs (All-tail (IsStretch Holds 0) q qs a))
    where
      by_test : (t : Bool) → int_le (pos least) (q.to -ℤ q.from) ≡ t → All (IsStretch Holds least) (at_least least qs)
          → All (IsStretch Holds least) (cond t (q ∷ at_least least qs) (at_least least qs))
      by_test true e rest =
          let s = All-head (IsStretch Holds 0) q qs a in
          All-cons (IsStretch Holds least) q (at_least least qs)
          (record { long = omega (arith, ints, e); holds = s.holds; before = s.before; after = s.after }) rest
      by_test false e rest = rest

  kept_there : (rs : List Run) (r : Run) → pos least ≤ℤ (r.to -ℤ r.from) → Contains rs r
      → Contains (at_least least rs) r
  kept_there [] r l c = c
  kept_there (q ∷ qs) r l c =
      by_test (int_le (pos least) (q.to -ℤ q.from)) refl (λ o. kept_there qs r l o)
    where
      too_short : q ≡ r → int_le (pos least) (q.to -ℤ q.from) ≡ false → ⊥
      too_short s e =
          let a : q.from ≡ r.from = ap (λ (z : Run). z.from) s in
          let b : q.to ≡ r.to = ap (λ (z : Run). z.to) s in
          omega (arith, ints, a, b, e, l)

      by_test : (t : Bool) → int_le (pos least) (q.to -ℤ q.from) ≡ t → (Contains qs r → Contains (at_least least qs) r)
          → Contains (cond t (q ∷ at_least least qs) (at_least least qs)) r
      by_test true e others = elim (first_or_other q qs r c) [
        | inl s ↦ subst (λ (z : Run). Contains (q ∷ at_least least qs) z) s (first_in q (at_least least qs))
        | inr o ↦ other_in q (at_least least qs) r (others o)
      ]
      by_test false e others = elim (first_or_other q qs r c) [
        | inl s ↦ absurd (too_short s e)
        | inr o ↦ others o
      ]

  pub long_stretches : (rs : List Run) → AreStretches Holds 0 rs → AreStretches Holds least (at_least least rs)
  long_stretches rs a = record {
    upwards = kept_up rs a.upwards;
    each = kept_each rs a.each;
    all = λ r s. let l = s.long in kept_there rs r l (a.all r (record {
      long = omega (arith, ints, l);
      holds = s.holds;
      before = s.before;
      after = s.after;
    }));
  }

-- ---- paths of one row more
paths_more : (right : Bool) (rows : List Row) (more : List Row)
    → paths_of right (rows ++ more) ≡ paths_of right rows ++ paths_of (way_behind right rows) more
paths_more right [] more = refl
paths_more right (r ∷ rs) more =
    ap (λ (ps : List (List Pt)). row_paths right r ++ ps) (paths_more (not right) rs more)
    ∙ sym (append_assoc (row_paths right r) (paths_of (not right) rs) (paths_of (way_behind (not right) rs) more))

way_more : (right : Bool) (rows more : List Row) → way_behind right (rows ++ more)
    ≡ way_behind (way_behind right rows) more
way_more right [] more = refl
way_more right (r ∷ rs) more = way_more (not right) rs more

-- ---- so many rows of the cover have been passed
pub record SupportedUpTo (outlines : List (List Pt)) (cover : List Row) (gap least i : ℕ) (right : Bool)
    (paths : List (List Pt)) : Type 0 where
  pub rows : List Row
  pub are : AreRowsOf (IsSupported outlines (take i cover) gap) least rows
  pub below : (k : ℕ) (d : Row) → i ≤ k → k < length cover → All (λ (r : Row). r.y <ℤ (get_or cover k d).y) rows
  pub paths_are : paths ≡ paths_of true rows
  pub way : right ≡ way_behind true rows

pub supported_start : (outlines : List (List Pt)) (cover : List Row) (gap least : ℕ)
    → SupportedUpTo outlines cover gap least 0 true []
supported_start outlines cover gap least = record {
  rows = [];
  are = record {
    upwards = tt;
    some = All-nil (λ (r : Row). r.runs ≢ []);
    each = λ y. no_stretches (λ x. IsSupported outlines [] gap x y) least (λ x s. both_ways _ refl s.covered);
  };
  below = λ k d a l. All-nil (λ (r : Row). r.y <ℤ (get_or cover k d).y);
  paths_are = refl;
  way = refl;
}

-- rows upwards, by their places in the list
up_at : (rows : List Row) (i k : ℕ) (d e : Row) → GoUpwards rows → i < k → k < length rows
    → (get_or rows i e).y <ℤ (get_or rows k d).y
up_at [] i k d e a o l = absurd (omega (arith, l))
up_at (r ∷ rs) zero zero d e a o l = absurd (omega (arith, o))
up_at (r ∷ rs) zero (suc k) d e a o l = a.0 k d (omega (arith, l))
up_at (r ∷ rs) (suc i) zero d e a o l = absurd (omega (arith, o))
up_at (r ∷ rs) (suc i) (suc k) d e a o l = up_at rs i k d e a.1 (omega (arith, o)) (omega (arith, l))

taken_below : (rows : List Row) (i : ℕ) (d : Row) → GoUpwards rows → i < length rows
    → All (λ (r : Row). r.y <ℤ (get_or rows i d).y) (take i rows)
taken_below [] i d a l = absurd (omega (arith, l))
taken_below (r ∷ rs) zero d a l = All-nil (λ (q : Row). q.y <ℤ r.y)
taken_below (r ∷ rs) (suc i) d a l =
    All-cons (λ (q : Row). q.y <ℤ (get_or rs i d).y) r (take i rs) (a.0 i d (omega (arith, l)))
    (taken_below rs i d a.1 (omega (arith, l)))

module _ (outlines : List (List Pt)) (cover : List Row) (gap least i : ℕ) (right : Bool) (paths : List (List Pt))
    (up : GoUpwards cover) (l : i < length cover) (d : Row) (s : SupportedUpTo outlines cover gap least i right paths)
  where
    abbrev here : Row
    here = get_or cover i d

    -- what holds on other rows stays
    same_there : (x y : ℤ) → (here.y ≡ y → ⊥) → is_on (runs_at y (take i cover ++ here ∷ [])) x
        ≡ is_on (runs_at y (take i cover)) x
    same_there x y n = ap (λ (rs : List Run). is_on rs x) (others_stay y (take i cover) here n)

    one_here : (x : ℤ) → is_on (runs_at here.y (take i cover ++ here ∷ [])) x ≡ is_on here.runs x
    one_here x =
        ap (λ (rs : List Run). is_on rs x) (last_row here.y (take i cover) here.runs (taken_below cover i d up l))

    -- the stretches of a row stay where it has another height
    there : (y : ℤ) (rs : List Run) → (here.y ≡ y → ⊥)
        → AreStretches (λ x. IsSupported outlines (take i cover) gap x y) least rs
        → AreStretches (λ x. IsSupported outlines (take i cover ++ here ∷ []) gap x y) least rs
    there y rs n a = same_stretches (λ x. IsSupported outlines (take i cover) gap x y)
        (λ x. IsSupported outlines (take i cover ++ here ∷ []) gap x y) least rs
        (λ x h. record { covered = same_there x y n ∙ h.covered; free = h.free })
        (λ x h. record { covered = sym (same_there x y n) ∙ h.covered; free = h.free }) a

    at_here : (rs : List Run) → AreStretches (IsFreeOn outlines gap here.y here.runs) least rs
        → AreStretches (λ x. IsSupported outlines (take i cover ++ here ∷ []) gap x here.y) least rs
    at_here rs a = same_stretches (IsFreeOn outlines gap here.y here.runs)
        (λ x. IsSupported outlines (take i cover ++ here ∷ []) gap x here.y) least rs
        (λ x h. record { covered = one_here x ∙ h.on; free = h.free })
        (λ x h. record { on = sym (one_here x) ∙ h.covered; free = h.free }) a

    none_yet : All (λ (r : Row). r.y <ℤ here.y) s.rows
    none_yet = s.below i d (omega arith) l

    no_row_here : runs_at here.y s.rows ≡ []
    no_row_here =
        subst (λ (rs : List Row). runs_at here.y rs ≡ []) (append-nil s.rows) (none_above here.y s.rows [] none_yet)

    by_height : (P : ℤ → Type 0) (y : ℤ) → ((here.y ≡ y → ⊥) → P y) → P here.y → P y
    by_height P y f g = by_order (order here.y y)
        (λ a. by_order (order y here.y)
        (λ b. let e : here.y ≡ y = omega (arith, ints, a, b) in subst P e g)
        (λ b. f (λ e. omega (arith, ints, b, e))))
        (λ a. f (λ e. omega (arith, ints, a, e)))

    rows_more : (rs : List Run) → AreStretches (IsFreeOn outlines gap here.y here.runs) least rs
        → AreRowsOf (IsSupported outlines (take i cover ++ here ∷ []) gap) least (s.rows ++ row_of here.y rs)
    rows_more [] a =
        subst (AreRowsOf (IsSupported outlines (take i cover ++ here ∷ []) gap) least) (sym (append-nil s.rows)) (record {
          upwards = s.are.upwards;
          some = s.are.some;
          each = λ y. by_height
              (λ y. AreStretches (λ x. IsSupported outlines (take i cover ++ here ∷ []) gap x y) least
              (runs_at y s.rows)) y
              (λ n. there y (runs_at y s.rows) n (s.are.each y))
              (subst (AreStretches (λ x. IsSupported outlines (take i cover ++ here ∷ []) gap x here.y) least)
              (sym no_row_here) (at_here [] a));
        })
    rows_more (q ∷ qs) a =
        let row : Row = record { y = here.y; runs = q ∷ qs } in
        record {
          upwards = upwards_push s.rows row s.are.upwards none_yet;
          some = All-push (λ (r : Row). r.runs ≢ []) s.rows row s.are.some (λ e. not_none q qs e);
          each = λ y. by_height
              (λ y. AreStretches (λ x. IsSupported outlines (take i cover ++ here ∷ []) gap x y) least
              (runs_at y (s.rows ++ row ∷ []))) y
              (λ n. subst (AreStretches (λ x. IsSupported outlines (take i cover ++ here ∷ []) gap x y) least)
              (sym (others_stay y s.rows row n)) (there y (runs_at y s.rows) n (s.are.each y)))
              (subst (AreStretches (λ x. IsSupported outlines (take i cover ++ here ∷ []) gap x here.y) least)
              (sym (last_row here.y s.rows (q ∷ qs) none_yet)) (at_here (q ∷ qs) a));
        }
      where
        not_none : (q : Run) (qs : List Run) → q ∷ qs ≡ [] → ⊥
        not_none q qs e = cc

    row_below : (rs : List Run) (z : ℤ) → here.y <ℤ z → All (λ (r : Row). r.y <ℤ z) (row_of here.y rs)
    row_below [] z h = All-nil (λ (r : Row). r.y <ℤ z)
    row_below (q ∷ qs) z h =
        All-cons (λ (r : Row). r.y <ℤ z) (record { y = here.y; runs = q ∷ qs }) [] h (All-nil (λ (r : Row). r.y <ℤ z))

    pub supported_more : (rs : List Run) (next : Bool) (new : List (List Pt))
        → AreStretches (IsFreeOn outlines gap here.y here.runs) least rs
        → AddsRow right (record { y = here.y; runs = rs }) paths new next
        → SupportedUpTo outlines cover gap least (i + 1) next new
    supported_more rs next new a k = record {
      rows = s.rows ++ row_of here.y rs;
      are = subst (λ (c : List Row). AreRowsOf (IsSupported outlines c gap) least (s.rows ++ row_of here.y rs))
          (sym (take_more cover i d l)) (rows_more rs a);
      below = λ j e o m. All-append (λ (r : Row). r.y <ℤ (get_or cover j e).y) s.rows (row_of here.y rs)
          (s.below j e (omega (arith, o)) m)
          (row_below rs (get_or cover j e).y (up_at cover i j e d up (omega (arith, o)) m));
      paths_are = k.added
          ∙ ap₂ (λ (ps : List (List Pt)) (w : Bool). ps ++ paths_of w (row_of here.y rs)) s.paths_are s.way
          ∙ sym (paths_more true s.rows (row_of here.y rs));
      way = k.way ∙ ap (λ (w : Bool). way_behind w (row_of here.y rs)) s.way
          ∙ sym (way_more true s.rows (row_of here.y rs));
    }

pub are_supports : (outlines : List (List Pt)) (cover : List Row) (gap least i : ℕ) (right : Bool)
    (paths : List (List Pt))
    → length cover ≤ i → SupportedUpTo outlines cover gap least i right paths
    → AreSupports outlines cover gap least paths
are_supports outlines cover gap least i right paths l s = record {
  rows = s.rows;
  are_rows = subst (λ (c : List Row). AreRowsOf (IsSupported outlines c gap) least s.rows) (take_all i cover l) s.are;
  paths_are = s.paths_are;
}
