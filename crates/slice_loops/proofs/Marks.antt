-- Marks tell which edges of a list are taken: one more mark takes one more edge out of those that remain.
use Rattle.std.proofs.Common.{◌≡◌, ℕ, zero, suc, ◌+◌, ◌<◌, ◌≤◌, ◌⊎◌, inl, inr, Bool, true, false, true≢false, List, [], ◌∷◌, length, get_or, set, replicate, All, refl, sym, ap, ◌∙◌, subst, arith}
use Rattle.std.specs.Prelude.{IsPermutation}
use Rattle.std.proofs.lemmas.List.{get_or_default, get_or-set_same, length-set}
use Rattle.std.proofs.lemmas.List.Elements.{All-nil, All-cons}
use Rattle.std.proofs.lemmas.List.Sorted.{IsPermutation-refl, IsPermutation-trans, IsPermutation-cons, IsPermutation-middle, length_permutation}
use Rattle.std.proofs.lemmas.Bool.{cases_lt}
use Rattle.scad_geom.specs.declared.point.Edge.{Edge}
use Rattle.slice_loops.specs.declared.remainder.Remaining.{Remaining}
use Rattle.slice_loops.specs.Order.{is_less}
use Rattle.slice_loops.specs.Drawing.{TakesLeast}
use Rattle.slice_loops.specs.Ascending.{IsAscending}
use Rattle.slice_loops.specs.Remaining.{untaken, remaining, taken_at, IsInOrder, IsUntaken, AllTakenTo, Takes, StayTaken}

-- ---- edges in ascending order
pub not_less_later : (es : List Edge) (i j : ℕ) (d : Edge) → IsAscending es → i < j → j < length es
    → is_less (get_or es j d) (get_or es i d) ≡ false
not_less_later [] i j d up l m = absurd (omega arith)
not_less_later (e ∷ es) i zero d up l m = absurd (omega arith)
not_less_later (e ∷ es) zero (suc j) d up l m = up.0 j d (omega arith)
not_less_later (e ∷ es) (suc i) (suc j) d up l m = not_less_later es i j d up.1 (omega arith) (omega arith)

-- ---- the edges that remain
pub all_untaken : (P : Edge → Type 0) (ts : List Bool) (es : List Edge)
    → ((k : ℕ) (d : Edge) → k < length es → taken_at ts k ≡ false → P (get_or es k d))
    → All P (untaken ts es)
all_untaken P [] es h = λ k d l. h k d l refl
all_untaken P (t ∷ ts) [] h = All-nil P
all_untaken P (true ∷ ts) (e ∷ es) h = all_untaken P ts es (λ k d l f. h (suc k) d (omega arith) f)
all_untaken P (false ∷ ts) (e ∷ es) h = All-cons P e (untaken ts es) (h zero e (omega arith) refl)
    (all_untaken P ts es (λ k d l f. h (suc k) d (omega arith) f))

pub none_taken : (ts : List Bool) (es : List Edge) → ((k : ℕ) → taken_at ts k ≡ false) → untaken ts es ≡ es
none_taken [] es h = refl
none_taken (t ∷ ts) [] h = refl
none_taken (true ∷ ts) (e ∷ es) h = absurd (true≢false (h zero))
none_taken (false ∷ ts) (e ∷ es) h = ap (λ (fs : List Edge). e ∷ fs) (none_taken ts es (λ k. h (suc k)))

pub no_marks : (n k : ℕ) → taken_at (replicate n false) k ≡ false
no_marks zero k = refl
no_marks (suc n) zero = refl
no_marks (suc n) (suc k) = no_marks n k

pub all_taken : (ts : List Bool) (es : List Edge) → ((k : ℕ) → k < length es → taken_at ts k ≡ true)
    → untaken ts es ≡ []
all_taken [] [] h = refl
all_taken [] (e ∷ es) h = absurd (true≢false (sym (h zero (omega arith))))
all_taken (t ∷ ts) [] h = refl
all_taken (true ∷ ts) (e ∷ es) h = all_taken ts es (λ k l. h (suc k) (omega arith))
all_taken (false ∷ ts) (e ∷ es) h = absurd (true≢false (sym (h zero (omega arith))))

one_out : (ts : List Bool) (es : List Edge) (k : ℕ) (d : Edge) → k < length ts → k < length es
    → taken_at ts k ≡ false → IsPermutation (untaken ts es) (get_or es k d ∷ untaken (set ts k true) es)
one_out [] es k d l m f = absurd (omega arith)
one_out (t ∷ ts) [] k d l m f = absurd (omega arith)
one_out (true ∷ ts) (e ∷ es) zero d l m f = absurd (true≢false f)
one_out (false ∷ ts) (e ∷ es) zero d l m f = IsPermutation-refl (e ∷ untaken ts es)
one_out (true ∷ ts) (e ∷ es) (suc k) d l m f = one_out ts es k d (omega arith) (omega arith) f
one_out (false ∷ ts) (e ∷ es) (suc k) d l m f =
    let g : Edge = get_or es k d in
    let rest : List Edge = untaken (set ts k true) es in
    IsPermutation-trans (e ∷ untaken ts es) (e ∷ (g ∷ rest)) (g ∷ (e ∷ rest))
    (IsPermutation-cons e (untaken ts es) (g ∷ rest) (one_out ts es k d (omega arith) (omega arith) f))
    (IsPermutation-middle (e ∷ []) g rest)

-- ---- an edge is taken
mark_stays : (ts : List Bool) (place k : ℕ) → taken_at ts k ≡ true → taken_at (set ts place true) k ≡ true
mark_stays [] place k h = h
mark_stays (t ∷ ts) zero zero h = refl
mark_stays (t ∷ ts) zero (suc k) h = h
mark_stays (t ∷ ts) (suc place) zero h = h
mark_stays (t ∷ ts) (suc place) (suc k) h = mark_stays ts place k h

module _ (old : Remaining) (place : ℕ) (e : Edge) (new : Remaining) (order : IsInOrder old) (free : IsUntaken old place) (t : Takes old place e new) where
  here : place < length old.taken.items
  here = omega (arith, free.there, order.marks)

  pub still : StayTaken old new
  still = record {
    edges = t.edges;
    taken = λ k h. ap (λ (ts : List Bool). taken_at ts k) t.taken ∙ mark_stays old.taken.items place k h;
  }

  pub now_taken : taken_at new.taken.items place ≡ true
  now_taken = ap (λ (ts : List Bool). taken_at ts place) t.taken
      ∙ get_or-set_same old.taken.items place true false here

  pub others_as_before : (k : ℕ) → taken_at new.taken.items k ≡ false
      → (k ≡ place → ⊥) × (taken_at old.taken.items k ≡ false)
  others_as_before k h = (
    λ same. true≢false (sym now_taken ∙ ap (taken_at new.taken.items) (sym same) ∙ h),
    by_test (taken_at old.taken.items k) refl,
  )
    where
      by_test : (b : Bool) → taken_at old.taken.items k ≡ b → taken_at old.taken.items k ≡ false
      by_test false s = s
      by_test true s = absurd (true≢false (sym (still.taken k s) ∙ h))

  pub taken_out : IsPermutation (remaining old) (e ∷ remaining new)
  taken_out =
      let one = one_out old.taken.items old.edges.items place e here free.there free.free in
      subst (λ (f : Edge). IsPermutation (remaining old) (f ∷ remaining new)) (sym t.edge)
      (subst (λ (fs : List Edge). IsPermutation (remaining old)
      (get_or old.edges.items place e ∷ untaken new.taken.items fs)) (sym t.edges)
      (subst (λ (ts : List Bool). IsPermutation (remaining old)
      (get_or old.edges.items place e ∷ untaken ts old.edges.items)) (sym t.taken) one))

  pub in_order : IsInOrder new
  in_order = record {
    ascending = subst IsAscending (sym t.edges) order.ascending;
    marks = omega (
      arith,
      order.marks,
      ap (λ (ts : List Bool). length ts) t.taken,
      length-set old.taken.items place true,
      ap (λ (fs : List Edge). length fs) t.edges,
    );
    notes = omega (
      arith,
      order.notes,
      ap (λ (ns : List ℕ). length ns) t.notes,
      ap (λ (fs : List Edge). length fs) t.edges,
    );
    passed = λ g k l m. still.taken k (order.passed g k l (subst (λ (ns : List ℕ). k < get_or ns g 0) t.notes m));
  }

  pub others : (P : Edge → Type 0) → ((k : ℕ) (d : Edge) → k < length old.edges.items → (k ≡ place → ⊥)
      → taken_at old.taken.items k ≡ false → P (get_or old.edges.items k d)) → All P (remaining new)
  others P h =
      subst (λ (fs : List Edge). All P (untaken new.taken.items fs)) (sym t.edges)
      (all_untaken P new.taken.items old.edges.items (λ k d l f. let o = others_as_before k f in h k d l o.0 o.1))

  -- no edge that remains is less than the first
  pub least : AllTakenTo old place → TakesLeast (remaining old) e (remaining new)
  least before = record {
    taken = taken_out;
    least = others (λ f. is_less f e ≡ false) (λ k d l other f. by_place k d l other f (cases_lt k place));
  }
    where
      by_place : (k : ℕ) (d : Edge) → k < length old.edges.items → (k ≡ place → ⊥)
          → taken_at old.taken.items k ≡ false → (k < place) ⊎ (place ≤ k)
          → is_less (get_or old.edges.items k d) e ≡ false
      by_place k d l other f (inl b) = absurd (true≢false (sym (before k b) ∙ f))
      by_place k d l other f (inr a) =
          let later : place < k = grind arith in
          subst (λ (g : Edge). is_less (get_or old.edges.items k d) g ≡ false)
          (get_or_default old.edges.items place d e free.there ∙ sym t.edge)
          (not_less_later old.edges.items place k d order.ascending later l)

  pub taken_so_far : AllTakenTo old place → AllTakenTo new (place + 1)
  taken_so_far before k l = by_place (cases_lt k place)
    where
      by_place : (k < place) ⊎ (place ≤ k) → taken_at new.taken.items k ≡ true
      by_place (inl b) = still.taken k (before k b)
      by_place (inr a) = let same : place ≡ k = omega arith in subst (λ (j : ℕ). taken_at new.taken.items j ≡ true) same now_taken

pub still_twice : (old mid new : Remaining) → StayTaken old mid → StayTaken mid new → StayTaken old new
still_twice old mid new a b = record { edges = b.edges ∙ a.edges; taken = λ k h. b.taken k (a.taken k h) }

pub fewer_left : (es : List Edge) (e : Edge) (left : List Edge) → IsPermutation es (e ∷ left)
    → length left < length es
fewer_left es e left m = let n = length_permutation es (e ∷ left) m in omega arith
