-- Edges of one span stand side by side in ascending order, so if the last edge of a list isn't opposite to a greater
-- one, none is.
use Rattle.std.proofs.Common.{◌≡◌, ◌⊎◌, inl, inr, ℕ, suc, ◌+◌, ◌<◌, ◌≤◌, ◌-◌, Bool, true, false, cond, List, [], ◌∷◌, ◌++◌, length, get_or, take, drop, map, All, refl, sym, ap, ap₂, ◌∙◌, subst, add-one, append-nil, arith}
use Rattle.std.specs.Prelude.{IsPermutation, remove}
use Rattle.std.specs.Ordering.{ordering_then, ordering_reverse, is_lt}
use Rattle.std.specs.declared.cmp.Ordering.{Ordering}
use Rattle.std.specs.declared.cmp.Ordering.TheVariants.{Less, Equal, Greater}
use Rattle.std.specs.Cmp.{IsTotalOrder, IsStrictWeakOrder}
use Rattle.std.proofs.lemmas.Cmp.{then_total, on_total}
use Rattle.std.proofs.lemmas.List.{take_more, take_all, drop_all, append_assoc}
use Rattle.std.proofs.Math.Seq.{drop-cons}
use Rattle.std.proofs.lemmas.List.Elements.{All-nil, All-cons, All-head, All-tail}
use Rattle.std.proofs.lemmas.List.Sorted.{ranks_by, IsPermutation-trans}
use Rattle.scad_geom.specs.declared.point.Pt.{Pt}
use Rattle.scad_geom.specs.declared.point.Edge.{Edge}
use Rattle.winding_laws.specs.Edges.{turned}
use Rattle.slice_pieces.specs.Cancelling.{NoneOpposite, AreCancelled, IsOppositeAt}
use Rattle.slice_pieces.proofs.Opposite.{leaves_nothing, one_taken, one_stays}
use Rattle.scad_base.proofs.Tests.{both_equal}
use Rattle.scad_geom.specs.PointOrder.{point_cmp}
use Rattle.scad_geom.proofs.PointOrder.{point_total, same_point, neither}
use Rattle.slice_pieces.specs.Spans.{lesser, greater, span_cmp, is_less, IsAscending}

-- ---- the order
span_total : IsTotalOrder span_cmp
span_total = then_total (on_total lesser point_total) (on_total greater point_total)

pub less_order : IsStrictWeakOrder is_less
less_order = ranks_by span_total (λ (e : Edge). e)

-- ---- an edge and its turned one have one span, and no third edge has it
module _ (p q : Pt) where
  lesser_by : (s : Ordering) → point_cmp q p ≡ s → cond (is_lt (ordering_reverse s)) p q ≡ cond (is_lt s) q p
  lesser_by Less h = refl
  lesser_by Equal h = same_point q p h
  lesser_by Greater h = refl

  greater_by : (s : Ordering) → point_cmp q p ≡ s → cond (is_lt (ordering_reverse s)) q p ≡ cond (is_lt s) p q
  greater_by Less h = refl
  greater_by Equal h = sym (same_point q p h)
  greater_by Greater h = refl

lesser_turned : (e : Edge) → lesser (turned e) ≡ lesser e
lesser_turned e =
    ap (λ (r : Ordering). cond (is_lt r) e.a e.b) (point_total.antisymm e.a e.b)
    ∙ lesser_by e.a e.b (point_cmp e.b e.a) refl

greater_turned : (e : Edge) → greater (turned e) ≡ greater e
greater_turned e =
    ap (λ (r : Ordering). cond (is_lt r) e.b e.a) (point_total.antisymm e.a e.b)
    ∙ greater_by e.a e.b (point_cmp e.b e.a) refl

edge_is : (e f : Edge) → e.a ≡ f.a → e.b ≡ f.b → e ≡ f
edge_is e f a b = λ i. record { a = a i; b = b i }

same_span : (e f : Edge) → lesser e ≡ lesser f → greater e ≡ greater f → (e ≡ f) ⊎ (e ≡ turned f)
same_span e f low high = by_tests (is_lt (point_cmp e.b e.a)) (is_lt (point_cmp f.b f.a)) low high
  where
    by_tests : (s t : Bool) → cond s e.b e.a ≡ cond t f.b f.a → cond s e.a e.b ≡ cond t f.a f.b
        → (e ≡ f) ⊎ (e ≡ turned f)
    by_tests true true l h = inl (edge_is e f h l)
    by_tests true false l h = inr (edge_is e (turned f) h l)
    by_tests false true l h = inr (edge_is e (turned f) l h)
    by_tests false false l h = inl (edge_is e f l h)

-- between an edge and its turned one stand no others
between : (f g e : Edge) → is_less g f ≡ false → is_less e g ≡ false → f ≡ turned e
    → (g ≡ e) ⊎ (g ≡ turned e)
between f g e low high opposite =
    let span : span_cmp g f ≡ span_cmp g e =
    ap (span_cmp g) opposite
    ∙ ap₂ (λ (p q : Pt). ordering_then (point_cmp (lesser g) p) (point_cmp (greater g) q)) (lesser_turned e) (greater_turned e) in
    let back : is_lt (ordering_reverse (span_cmp g e)) ≡ false = ap is_lt (sym (span_total.antisymm e g)) ∙ high in
    let both = both_equal (point_cmp (lesser g) (lesser e)) (point_cmp (greater g) (greater e)) (neither (span_cmp g e) (ap is_lt (sym span) ∙ low) back) in
    same_span g e (same_point (lesser g) (lesser e) both.0) (same_point (greater g) (greater e) both.1)

-- ---- a list stays in order where edges are left out
behind_all : (P : Edge → Type 0) (xs ys : List Edge) → All P (xs ++ ys) → All P ys
behind_all P [] ys h = h
behind_all P (x ∷ xs) ys h = behind_all P xs ys (All-tail P x (xs ++ ys) h)

without_all : (P : Edge → Type 0) (xs : List Edge) (y : Edge) (ys : List Edge) → All P (xs ++ (y ∷ ys))
    → All P (xs ++ ys)
without_all P [] y ys h = All-tail P y ys h
without_all P (x ∷ xs) y ys h =
    All-cons P x (xs ++ ys) (All-head P x (xs ++ (y ∷ ys)) h)
    (without_all P xs y ys (All-tail P x (xs ++ (y ∷ ys)) h))

without : (xs : List Edge) (y : Edge) (ys : List Edge) → IsAscending (xs ++ (y ∷ ys)) → IsAscending (xs ++ ys)
without [] y ys up = up.1
without (x ∷ xs) y ys up = (without_all (λ f. is_less f x ≡ false) xs y ys up.0, without xs y ys up.1)

-- ---- where the last edge of a list isn't opposite to one that follows in order, none is
last_of_more : (f g : Edge) (gs : List Edge) (e : Edge) → IsOppositeAt e (g ∷ gs) (length (g ∷ gs) - 1)
    → IsOppositeAt e (f ∷ (g ∷ gs)) (length (f ∷ (g ∷ gs)) - 1)
last_of_more f g gs e h =
    let at : suc (length (g ∷ gs) - 1) ≡ length (f ∷ (g ∷ gs)) - 1 = omega arith in
    subst (IsOppositeAt e (f ∷ (g ∷ gs))) at (record { there = omega (arith, h.there); opposite = h.opposite })

none_opposite : (left : List Edge) (e : Edge) (rest : List Edge) → IsAscending (left ++ (e ∷ rest))
    → NoneOpposite left
    → (IsOppositeAt e left (length left - 1) → ⊥) → All (λ f. f ≡ turned e → ⊥) left
none_opposite [] e rest up none last = All-nil (λ f. f ≡ turned e → ⊥)
none_opposite (f ∷ []) e rest up none last =
    All-cons (λ g. g ≡ turned e → ⊥) f [] (λ h. last (record { there = omega arith; opposite = λ d. h }))
    (All-nil (λ g. g ≡ turned e → ⊥))
none_opposite (f ∷ (g ∷ gs)) e rest up none last =
    let P : Edge → Type 0 = λ h. h ≡ turned e → ⊥ in
    let behind : All P (g ∷ gs) = none_opposite (g ∷ gs) e rest up.1 none.1 (λ h. last (last_of_more f g gs e h)) in
    let low : is_less g f ≡ false = All-head (λ h. is_less h f ≡ false) g (gs ++ (e ∷ rest)) up.0 in
    let high : is_less e g ≡ false = All-head (λ h. is_less h g ≡ false) e rest (behind_all (λ h. is_less h g ≡ false) gs (e ∷ rest) up.1.0) in
    All-cons P f (g ∷ gs) (λ opposite. by_span opposite (All-head P g gs behind)
    (All-head (λ h. h ≡ turned f → ⊥) g gs none.0) (between f g e low high opposite)) behind
  where
    by_span : f ≡ turned e → (g ≡ turned e → ⊥) → (g ≡ turned f → ⊥)
        → (g ≡ e) ⊎ (g ≡ turned e) → ⊥
    by_span opposite away apart (inl same) = apart (same ∙ ap turned (sym opposite))
    by_span opposite away apart (inr same) = away same

-- ---- the edges one after another
-- what is left of the edges so far stands in order before the others
pub record Left (es : List Edge) (i : ℕ) (left : List Edge) : Type 0 where
  pub cancelled : AreCancelled (take i es) left
  pub ascending : IsAscending (left ++ drop i es)

pub none_left : (es left : List Edge) → left ≡ [] → IsAscending es → Left es 0 left
none_left es left e up =
    subst (Left es 0) (sym e) (record { cancelled = leaves_nothing; ascending = up })

ahead : (es : List Edge) (i : ℕ) (d : Edge) → i < length es → drop i es ≡ get_or es i d ∷ drop (i + 1) es
ahead es i d l = drop-cons es i d l ∙ ap (λ (n : ℕ). get_or es i d ∷ drop n es) (sym (add-one i))

pub goes : (es : List Edge) (i : ℕ) (d : Edge) (left seen new : List Edge) (count : ℕ) → i < length es
    → Left es i left → seen ≡ left
    → IsOppositeAt (get_or es i d) seen (length seen - 1) → count ≡ length left → new ≡ take (count - 1) left
    → Left es (i + 1) new
goes es i d left seen new count l h same at counted front_by_count =
    let e : Edge = get_or es i d in
    let last : ℕ = length left - 1 in
    let t : Edge = get_or left last d in
    let front : new ≡ take last left = front_by_count ∙ ap (λ (n : ℕ). take (n - 1) left) counted in
    let rest : List Edge = drop (i + 1) es in
    let at_left : IsOppositeAt e left last = subst (λ (ss : List Edge). IsOppositeAt e ss (length ss - 1)) same at in
    let there : last < length left = at_left.there in
    let end : last + 1 ≡ length left = omega arith in
    let apart : left ≡ take last left ++ (t ∷ []) = sym (take_all (last + 1) left (omega arith)) ∙ take_more left last d there in
    let whole : left ++ drop i es ≡ new ++ (t ∷ (e ∷ rest)) =
    ap₂ (λ (fs gs : List Edge). fs ++ gs) apart (ahead es i d l)
    ∙ append_assoc (take last left) (t ∷ []) (e ∷ rest)
    ∙ ap (λ (fs : List Edge). fs ++ (t ∷ (e ∷ rest))) (sym front) in
    let removed : new ≡ remove left last =
    front ∙ sym (ap (λ (fs : List Edge). take last left ++ fs) (drop_all (suc last) left (omega arith)) ∙ append-nil (take last left)) in
    record {
      cancelled = one_taken es i d left left new last l h.cancelled refl at_left removed;
      ascending = without new e rest (without new t (e ∷ rest) (subst IsAscending whole h.ascending));
    }

pub stays : (es : List Edge) (i : ℕ) (d : Edge) (left seen new : List Edge) → i < length es → Left es i left
    → seen ≡ left
    → (IsOppositeAt (get_or es i d) seen (length seen - 1) → ⊥) → new ≡ left ++ (get_or es i d ∷ [])
    → Left es (i + 1) new
stays es i d left seen new l h same last more =
    let e : Edge = get_or es i d in
    let rest : List Edge = drop (i + 1) es in
    let here : IsAscending (left ++ (e ∷ rest)) = subst (λ (gs : List Edge). IsAscending (left ++ gs)) (ahead es i d l) h.ascending in
    let away : IsOppositeAt e left (length left - 1) → ⊥ = subst (λ (ss : List Edge). IsOppositeAt e ss (length ss - 1) → ⊥) same last in
    let whole : left ++ (e ∷ rest) ≡ new ++ rest = sym (append_assoc left (e ∷ []) rest) ∙ ap (λ (fs : List Edge). fs ++ rest) (sym more) in
    record {
      cancelled = one_stays es i d left left new l h.cancelled refl
          (none_opposite left e rest here h.cancelled.none away) more;
      ascending = subst IsAscending whole here;
    }

pub all_left : (es left : List Edge) (i : ℕ) → Left es i left → length es ≤ i → AreCancelled es left
all_left es left i h l = subst (λ (fs : List Edge). AreCancelled fs left) (take_all i es l) h.cancelled

-- ---- the edges in another order
pub left_in_order : (es sorted seen left : List Edge) → IsPermutation es sorted → seen ≡ sorted
    → AreCancelled seen left → AreCancelled es left
left_in_order es sorted seen left m same h = record {
  pairs = h.pairs;
  taken = IsPermutation-trans es sorted (left ++ (h.pairs ++ map turned h.pairs)) m
      (subst (λ (fs : List Edge). IsPermutation fs (left ++ (h.pairs ++ map turned h.pairs))) same h.taken);
  none = h.none;
}
