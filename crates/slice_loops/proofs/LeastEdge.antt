-- The least of the remaining edges that start at a point is the first one not taken from the first place of all that
-- start there on.
use Rattle.std.proofs.Common.{◌≡◌, ◌⊎◌, inl, inr, ℕ, ◌+◌, ◌<◌, ◌≤◌, Bool, true, false, true≢false, List, [], ◌∷◌, length, get_or, set, max, refl, sym, ap, ◌∙◌, subst, arith}
use Rattle.std.specs.Ordering.{ordering_then, is_lt}
use Rattle.std.specs.declared.cmp.Ordering.{Ordering}
use Rattle.std.specs.declared.cmp.Ordering.TheVariants.{Less, Equal, Greater}
use Rattle.std.specs.Cmp.{IsStrictWeakOrder}
use Rattle.std.specs.List.Sorted.{IsPartitionedBy, IsPartitionPoint}
use Rattle.std.proofs.lemmas.List.{get_or_default, get_or-set_same, get_or-set_other, length-set}
use Rattle.std.proofs.lemmas.List.Sorted.{ranks_by}
use Rattle.std.proofs.lemmas.Bool.{cases_lt}
use Rattle.scad_geom.specs.declared.point.Pt.{Pt}
use Rattle.scad_geom.specs.declared.point.Edge.{Edge}
use Rattle.scad_geom.proofs.Balance.{same_place, same_place-is, same_place-itself}
use Rattle.slice_loops.specs.declared.remainder.Remaining.{Remaining}
use Rattle.scad_geom.specs.PointOrder.{point_cmp}
use Rattle.scad_geom.proofs.PointOrder.{point_total, neither}
use Rattle.scad_geom.proofs.PointOrder.{same_point as equal_points}
use Rattle.slice_loops.specs.Order.{is_less, starts_before}
use Rattle.slice_loops.specs.Drawing.{TakesLeastFrom}
use Rattle.slice_loops.specs.Ascending.{IsAscending, NoneStarts}
use Rattle.slice_loops.specs.Remaining.{remaining, taken_at, IsInOrder, IsUntaken, IsFirstUntaken, Takes}
use Rattle.slice_loops.proofs.Marks.{not_less_later, all_untaken, taken_out, others, still, now_taken, in_order}

-- ---- the order of starts
abbrev comes_before : Pt → Pt → Bool
comes_before p q = is_lt (point_cmp p q)

point_order : IsStrictWeakOrder comes_before
point_order = ranks_by point_total (λ (p : Pt). p)

by_start : (r s : Ordering) → is_lt (ordering_then r s) ≡ false → is_lt r ≡ false
by_start Less s h = h
by_start Equal s h = refl
by_start Greater s h = refl

starts_later : (es : List Edge) (i j : ℕ) (d : Edge) → IsAscending es → i < j → j < length es
    → comes_before (get_or es j d).a (get_or es i d).a ≡ false
starts_later es i j d up l m = by_start (point_cmp (get_or es j d).a (get_or es i d).a)
    (point_cmp (get_or es j d).b (get_or es i d).b) (not_less_later es i j d up l m)

not_before_itself : (p : Pt) → comes_before p p ≡ true → ⊥
not_before_itself p h = true≢false (sym h ∙ point_order.one_way p p h)

same_point : (p q : Pt) → comes_before p q ≡ false → comes_before q p ≡ false → p ≡ q
same_point p q h k =
    equal_points p q (neither (point_cmp p q) h (ap is_lt (sym (point_total.antisymm q p)) ∙ k))

-- ---- the edges that start before a point stand before the others
pub parted : (p : Pt) (es : List Edge) → IsAscending es → IsPartitionedBy (starts_before p) es
parted p es up i j d l m h = by_place (cases_lt i j)
  where
    by_test : (b : Bool) → starts_before p (get_or es i d) ≡ b → i < j
        → starts_before p (get_or es i d) ≡ true
    by_test true s k = s
    by_test false s k = absurd (true≢false
        (sym h ∙ point_order.chain (get_or es j d).a (get_or es i d).a p (starts_later es i j d up k m) s))

    by_place : (i < j) ⊎ (j ≤ i) → starts_before p (get_or es i d) ≡ true
    by_place (inl k) = by_test (starts_before p (get_or es i d)) refl k
    by_place (inr k) = let same : j ≡ i = omega arith in subst (λ (n : ℕ). starts_before p (get_or es n d) ≡ true) same h

abbrev pub IsFirstPlace : Pt → List Edge → ℕ → Type 0
IsFirstPlace p es group = IsPartitionPoint (λ e. starts_before p e ≡ true) (λ e. starts_before p e ≡ false) es
    group

before_none : (p : Pt) (e : Edge) → starts_before p e ≡ true → e.a ≡ p → ⊥
before_none p e h s = not_before_itself p (subst (λ (q : Pt). comes_before q p ≡ true) s h)

pub group_inside : (r : Remaining) (p : Pt) (group : ℕ) → IsFirstPlace p r.edges.items group
    → (NoneStarts p (remaining r) → ⊥) → group < length r.edges.items
group_inside r p group point some = by_place (cases_lt group (length r.edges.items))
  where
    by_place : (group < length r.edges.items) ⊎ (length r.edges.items ≤ group) → group < length r.edges.items
    by_place (inl l) = l
    by_place (inr l) = absurd (some (all_untaken (λ e. e.a ≡ p → ⊥) r.taken.items r.edges.items
        (λ k d m f. before_none p (get_or r.edges.items k d) (point.0 k d (omega arith) (omega arith)))))

pub note_inside : (r : Remaining) (g : ℕ) → IsInOrder r → g < length r.edges.items
    → get_or r.passed.items g 0 ≤ length r.taken.items
note_inside r g order l = by_place (cases_lt (length r.taken.items) (get_or r.passed.items g 0))
  where
    past : (ts : List Bool) → taken_at ts (length ts) ≡ true → ⊥
    past [] h = true≢false (sym h)
    past (t ∷ ts) h = past ts h

    by_place : (length r.taken.items < get_or r.passed.items g 0)
        ⊎ (get_or r.passed.items g 0 ≤ length r.taken.items) → get_or r.passed.items g 0 ≤ length r.taken.items
    by_place (inl m) = absurd (past r.taken.items
        (order.passed g (length r.taken.items) (omega (arith, order.marks)) m))
    by_place (inr m) = m

pub from_inside : (r : Remaining) (group note from : ℕ) (taken : List Bool) → IsInOrder r
    → group < length r.edges.items → taken ≡ r.taken.items
    → note ≡ get_or r.passed.items group note → from ≡ max group note → from ≤ length taken
from_inside r group note from taken order l same said start =
    let noted_at : note ≡ get_or r.passed.items group 0 = said ∙ get_or_default r.passed.items group note 0 (omega (arith, l, order.notes)) in
    omega (arith, note_inside r group order l, noted_at, order.marks, ap (λ (ts : List Bool). length ts) same)

-- ---- a note is written
in_order_noted : (mid new : Remaining) (group place : ℕ) → IsInOrder mid → group < length mid.edges.items
    → new.edges.items ≡ mid.edges.items → new.taken.items ≡ mid.taken.items
    → new.passed.items ≡ set mid.passed.items group place
    → ((k : ℕ) → group ≤ k → k < place → taken_at mid.taken.items k ≡ true) → IsInOrder new
in_order_noted mid new group place order l edges taken notes so = record {
  ascending = subst IsAscending (sym edges) order.ascending;
  marks = omega (
    arith,
    order.marks,
    ap (λ (ts : List Bool). length ts) taken,
    ap (λ (fs : List Edge). length fs) edges,
  );
  notes = omega (
    arith,
    order.notes,
    ap (λ (ns : List ℕ). length ns) notes,
    length-set mid.passed.items group place,
    ap (λ (fs : List Edge). length fs) edges,
  );
  passed = λ g k a b.
      subst (λ (ts : List Bool). taken_at ts k ≡ true) (sym taken)
      (by_place g k a (subst (λ (ns : List ℕ). k < get_or ns g 0) notes b) (cases_lt g group) (cases_lt group g));
}
  where
    by_place : (g k : ℕ) → g ≤ k → k < get_or (set mid.passed.items group place) g 0
        → (g < group) ⊎ (group ≤ g) → (group < g) ⊎ (g ≤ group) → taken_at mid.taken.items k ≡ true
    by_place g k a b (inl m) o = order.passed g k a
        (subst (λ (n : ℕ). k < n) (get_or-set_other mid.passed.items group g place 0 (omega arith)) b)
    by_place g k a b (inr m) (inl o) = order.passed g k a
        (subst (λ (n : ℕ). k < n) (get_or-set_other mid.passed.items group g place 0 (omega arith)) b)
    by_place g k a b (inr m) (inr o) =
        let same : g ≡ group = omega arith in
        let at : get_or (set mid.passed.items group place) g 0 ≡ place =
        ap (λ (n : ℕ). get_or (set mid.passed.items group place) n 0) same ∙ get_or-set_same mid.passed.items group place 0 (omega (arith, l, order.notes)) in
        so k (omega arith) (subst (λ (n : ℕ). k < n) at b)

-- ---- the place that is found
-- from the first place of the edges that start at a point, or from one up to which they are taken, the first that isn't
-- is sought
pub record Finds (r : Remaining) (p : Pt) (group from place : ℕ) : Type 0 where
  pub order : IsInOrder r
  pub some : NoneStarts p (remaining r) → ⊥
  pub point : IsFirstPlace p r.edges.items group
  pub later : group ≤ from
  pub passed : (k : ℕ) → group ≤ k → k < from → taken_at r.taken.items k ≡ true
  pub first : IsFirstUntaken r.taken.items from place

under_note : (k group note from : ℕ) → from ≡ max group note → group ≤ k → k < from → k < note
under_note k group note from h a b = omega arith

pub finds : (r : Remaining) (p : Pt) (group note from place : ℕ) (edges : List Edge) (taken : List Bool)
    → IsInOrder r → (NoneStarts p (remaining r) → ⊥)
    → edges ≡ r.edges.items → taken ≡ r.taken.items → IsFirstPlace p edges group
    → note ≡ get_or r.passed.items group note → from ≡ max group note
    → IsFirstUntaken taken from place → Finds r p group from place
finds r p group note from place edges taken order some same marks point said start first = record {
  order = order;
  some = some;
  point = here;
  later = omega arith;
  passed = λ k a b. order.passed group k a (subst (λ (n : ℕ). k < n) noted_at
      (under_note k group note from start a b));
  first = subst (λ (ts : List Bool). IsFirstUntaken ts from place) marks first;
}
  where
    here : IsFirstPlace p r.edges.items group
    here = subst (λ (fs : List Edge). IsFirstPlace p fs group) same point

    noted_at : note ≡ get_or r.passed.items group 0
    noted_at = said ∙ get_or_default r.passed.items group note 0
        (omega (arith, group_inside r p group here some, order.notes))

module _ (r : Remaining) (p : Pt) (group from place : ℕ) (f : Finds r p group from place) where
  abbrev es : List Edge
  es = r.edges.items

  -- an edge that remains and starts there stands at the place or after it
  not_earlier : (k : ℕ) (d : Edge) → k < place → taken_at r.taken.items k ≡ false → (get_or es k d).a ≡ p
      → ⊥
  not_earlier k d l free s = by_place (cases_lt k group) (cases_lt k from)
    where
      by_place : (k < group) ⊎ (group ≤ k) → (k < from) ⊎ (from ≤ k) → ⊥
      by_place (inl a) o = before_none p (get_or es k d) (f.point.0 k d (omega arith) a) s
      by_place (inr a) (inl b) = true≢false (sym (f.passed k a b) ∙ free)
      by_place (inr a) (inr b) = true≢false (sym (f.first.skipped k b l) ∙ free)

  none_by : ((k : ℕ) (d : Edge) → place ≤ k → k < length es → (get_or es k d).a ≡ p → ⊥)
      → NoneStarts p (remaining r)
  none_by later = all_untaken (λ e. e.a ≡ p → ⊥) r.taken.items es
      (λ k d l free s. by_place k d l free s (cases_lt k place))
    where
      by_place : (k : ℕ) (d : Edge) → k < length es → taken_at r.taken.items k ≡ false
          → (get_or es k d).a ≡ p → (k < place) ⊎ (place ≤ k) → ⊥
      by_place k d l free s (inl a) = not_earlier k d a free s
      by_place k d l free s (inr a) = later k d a l s

  pub there : place < length es
  there = by_place (cases_lt place (length es))
    where
      by_place : (place < length es) ⊎ (length es ≤ place) → place < length es
      by_place (inl l) = l
      by_place (inr l) = absurd (f.some (none_by (λ k d a m s. omega arith)))

  pub is_untaken : IsUntaken r place
  is_untaken = record { there = there; free = f.first.free }

  starts_there : (d : Edge) → (get_or es place d).a ≡ p
  starts_there d = by_test (same_place (get_or es place d).a p) refl
    where
      later : (k : ℕ) (c : Edge) → place < k → k < length es → (get_or es k c).a ≡ p
          → (get_or es place d).a ≡ p
      later k c l m s =
          same_point (get_or es place d).a p
          (f.point.1 place d (omega (arith, f.later, f.first.after)) there)
          (subst (λ (q : Pt). comes_before q (get_or es place d).a ≡ false) s
          (subst (λ (e : Edge). comes_before (get_or es k c).a e.a ≡ false) (get_or_default es place c d there)
          (starts_later es place k c f.order.ascending l m)))

      or_here : (k : ℕ) (c : Edge) → (place < k) ⊎ (k ≤ place) → place ≤ k → k < length es
          → (get_or es k c).a ≡ p → (get_or es place d).a ≡ p
      or_here k c (inl l) a m s = later k c l m s
      or_here k c (inr l) a m s =
          let same : k ≡ place = omega arith in
          ap (λ (e : Edge). e.a) (get_or_default es place d c there)
          ∙ subst (λ (n : ℕ). (get_or es n c).a ≡ p) same s

      by_test : (b : Bool) → same_place (get_or es place d).a p ≡ b → (get_or es place d).a ≡ p
      by_test true t = same_place-is (get_or es place d).a p t
      by_test false t =
          absurd (f.some (none_by (λ k c a m s.
          let is : (get_or es place d).a ≡ p = or_here k c (cases_lt place k) a m s in
          true≢false (sym (same_place-itself p) ∙ ap (λ (q : Pt). same_place q p) (sym is) ∙ t))))

  module _ (e : Edge) (new : Remaining) (t : Takes r place e new) where
    pub takes_least : TakesLeastFrom p (remaining r) e (remaining new)
    takes_least = record {
      starts = ap (λ (g : Edge). g.a) t.edge ∙ starts_there e;
      taken = taken_out r place e new f.order is_untaken t;
      least = others r place e new f.order is_untaken t (λ g. g.a ≡ p → is_less g e ≡ false)
          (λ k d l other free s. by_place k d l other free s (cases_lt k place));
    }
      where
        by_place : (k : ℕ) (d : Edge) → k < length es → (k ≡ place → ⊥)
            → taken_at r.taken.items k ≡ false → (get_or es k d).a ≡ p → (k < place) ⊎ (place ≤ k)
            → is_less (get_or es k d) e ≡ false
        by_place k d l other free s (inl a) = absurd (not_earlier k d a free s)
        by_place k d l other free s (inr a) =
            let later : place < k = grind arith in
            subst (λ (g : Edge). is_less (get_or es k d) g ≡ false)
            (get_or_default es place d e there ∙ sym t.edge)
            (not_less_later es place k d f.order.ascending later l)

    -- the note at the group's first place may now say so
    pub passed_to : (k : ℕ) → group ≤ k → k < place + 1 → taken_at new.taken.items k ≡ true
    passed_to k a b = by_place (cases_lt k place) (cases_lt k from)
      where
        by_place : (k < place) ⊎ (place ≤ k) → (k < from) ⊎ (from ≤ k) → taken_at new.taken.items k ≡ true
        by_place (inl l) (inl m) = (still r place e new f.order is_untaken t).taken k (f.passed k a m)
        by_place (inl l) (inr m) = (still r place e new f.order is_untaken t).taken k (f.first.skipped k m l)
        by_place (inr l) o = let same : place ≡ k = omega arith in subst (λ (n : ℕ). taken_at new.taken.items n ≡ true) same (now_taken r place e new f.order is_untaken t)

    pub noted : (last : Remaining) → last.edges.items ≡ new.edges.items → last.taken.items ≡ new.taken.items
        → last.passed.items ≡ set new.passed.items group (place + 1) → IsInOrder last
    noted last edges taken notes =
        in_order_noted new last group (place + 1) (in_order r place e new f.order is_untaken t)
        (omega (arith, group_inside r p group f.point f.some, ap (λ (fs : List Edge). length fs) t.edges)) edges taken
        notes passed_to
