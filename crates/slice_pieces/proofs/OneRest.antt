-- What is left of edges where opposite ones cancel is one list of edges, in whatever order.
use Rattle.std.proofs.Common.{◌≡◌, ℕ, ◌+◌, ◌≤◌, ◌⊎◌, inl, inr, Bool, true, false, true≢false, List, [], ◌∷◌, ◌++◌, map, All, refl, sym, ap, ap₂, ◌∙◌, subst, arith}
use Rattle.std.proofs.Math.Bool.{and_comm}
use Rattle.std.proofs.lemmas.List.Sums.{sum_by-append}
use Rattle.scad_geom.specs.declared.point.Edge.{Edge}
use Rattle.scad_geom.proofs.Balance.{once, same_place}
use Rattle.scad_geom.proofs.Places.{same_edge, same_edge_then_equal, same_edge_itself}
use Rattle.winding_laws.specs.Edges.{turned}
use Rattle.slice_pieces.specs.Cancelling.{NoneOpposite, AreCancelled}
use Rattle.slice_pieces.specs.Laws.{CancelledAreOne}
use Rattle.slice_pieces.proofs.Counts.{times, times-cons, times_permuted, times_none, from_times}

-- how often an edge stands among edges
abbrev pub many : Edge → List Edge → ℕ
many e es = times same_edge same_edge_itself same_edge_then_equal e es

pub many-cons : (e f : Edge) (fs : List Edge) → many e (f ∷ fs) ≡ once (same_edge e f) + many e fs
many-cons e f fs = times-cons same_edge same_edge_itself same_edge_then_equal e f fs

many-append : (e : Edge) (fs gs : List Edge) → many e (fs ++ gs) ≡ many e fs + many e gs
many-append e fs gs = sum_by-append (λ f. once (same_edge e f)) fs gs

many_turned : (e : Edge) (fs : List Edge) → many e (map turned fs) ≡ many (turned e) fs
many_turned e [] = refl
many_turned e (f ∷ fs) =
    many-cons e (turned f) (map turned fs)
    ∙ ap₂ (λ (b : Bool) (n : ℕ). once b + n) (and_comm (same_place e.a f.b) (same_place e.b f.a))
    (many_turned e fs)
    ∙ sym (many-cons (turned e) f fs)

none_of : (e : Edge) (fs : List Edge) → All (λ f. f ≡ e → ⊥) fs → many e fs ≡ 0
none_of e fs h = times_none same_edge same_edge_itself same_edge_then_equal e fs h

not_same : (e f : Edge) → (f ≡ e → ⊥) → same_edge e f ≡ false
not_same e f h = by_test (same_edge e f) refl
  where
    by_test : (b : Bool) → same_edge e f ≡ b → b ≡ false
    by_test false k = refl
    by_test true k = absurd (h (sym (same_edge_then_equal e f k)))

-- of an edge and its opposite, where they differ, at most one is left
one_side : (e : Edge) → (e ≡ turned e → ⊥) → (fs : List Edge) → NoneOpposite fs
    → (many e fs ≡ 0) ⊎ (many (turned e) fs ≡ 0)
one_side e apart [] h = inl refl
one_side e apart (f ∷ fs) h = by_tests (one_side e apart fs h.1) (same_edge e f) (same_edge (turned e) f) refl refl
  where
    here : (t : Edge) → (f ≡ t → ⊥) → many t fs ≡ 0 → many t (f ∷ fs) ≡ 0
    here t away none = many-cons t f fs ∙ ap₂ (λ (b : Bool) (n : ℕ). once b + n) (not_same t f away) none

    by_tests : (many e fs ≡ 0) ⊎ (many (turned e) fs ≡ 0) → (b c : Bool) → same_edge e f ≡ b
        → same_edge (turned e) f ≡ c → (many e (f ∷ fs) ≡ 0) ⊎ (many (turned e) (f ∷ fs) ≡ 0)
    by_tests o true c k l =
        let is : e ≡ f = same_edge_then_equal e f k in
        inr (here (turned e) (λ s. apart (is ∙ s))
        (none_of (turned e) fs (subst (λ (g : Edge). All (λ x. x ≡ turned g → ⊥) fs) (sym is) h.0)))
    by_tests o false true k l =
        let is : turned e ≡ f = same_edge_then_equal (turned e) f l in
        inl (here e (λ s. apart (sym (is ∙ s)))
        (none_of e fs (subst (λ (g : Edge). All (λ x. x ≡ turned g → ⊥) fs) (sym is) h.0)))
    by_tests o false false k l =
        elim o as (λ _. (many e (f ∷ fs) ≡ 0) ⊎ (many (turned e) (f ∷ fs) ≡ 0)) [
          | inl n ↦ inl (many-cons e f fs ∙ ap₂ (λ (b : Bool) (m : ℕ). once b + m) k n)
          | inr n ↦ inr (many-cons (turned e) f fs ∙ ap₂ (λ (b : Bool) (m : ℕ). once b + m) l n)
        ]

one_only : (m n : ℕ) → m ≡ 1 + n → n ≡ 0 → m ≤ 1
one_only m n h k = omega arith

as_before : (m n : ℕ) → m ≡ 0 + n → n ≤ 1 → m ≤ 1
as_before m n h k = omega arith

-- an edge that is its own opposite is left once at most
at_most_once : (e : Edge) → e ≡ turned e → (fs : List Edge) → NoneOpposite fs → many e fs ≤ 1
at_most_once e own [] h = omega arith
at_most_once e own (f ∷ fs) h = by_test (at_most_once e own fs h.1) (same_edge e f) refl
  where
    by_test : many e fs ≤ 1 → (b : Bool) → same_edge e f ≡ b → many e (f ∷ fs) ≤ 1
    by_test o true k =
        let is : e ≡ f = same_edge_then_equal e f k in
        let opposite : turned f ≡ e = ap turned (sym is) ∙ sym own in
        one_only (many e (f ∷ fs)) (many e fs) (many-cons e f fs ∙ ap (λ (b : Bool). once b + many e fs) k)
        (none_of e fs (subst (λ (g : Edge). All (λ x. x ≡ g → ⊥) fs) opposite h.0))
    by_test o false k = as_before (many e (f ∷ fs)) (many e fs)
        (many-cons e f fs ∙ ap (λ (b : Bool). once b + many e fs) k) o

-- ---- how many are left
parts : (es left : List Edge) (c : AreCancelled es left) (e : Edge)
    → many e es ≡ many e left + (many e c.pairs + many (turned e) c.pairs)
parts es left c e =
    times_permuted same_edge same_edge_itself same_edge_then_equal e es (left ++ (c.pairs ++ map turned c.pairs))
    c.taken
    ∙ many-append e left (c.pairs ++ map turned c.pairs)
    ∙ ap (λ (n : ℕ). many e left + n) (many-append e c.pairs (map turned c.pairs)
    ∙ ap (λ (n : ℕ). many e c.pairs + n) (many_turned e c.pairs))

apart_alike : (n m l k p q v w r s : ℕ) → n ≡ l + (p + q) → m ≡ k + (q + p) → n ≡ v + (r + s)
    → m ≡ w + (s + r) → (l ≡ 0) ⊎ (k ≡ 0) → (v ≡ 0) ⊎ (w ≡ 0) → l ≡ v
apart_alike n m l k p q v w r s a b c d (inl x) (inl y) = omega arith
apart_alike n m l k p q v w r s a b c d (inl x) (inr y) = omega arith
apart_alike n m l k p q v w r s a b c d (inr x) (inl y) = omega arith
apart_alike n m l k p q v w r s a b c d (inr x) (inr y) = omega arith

own_alike : (n l p q v r s : ℕ) → n ≡ l + (p + q) → n ≡ v + (r + s) → p ≡ q → r ≡ s → l ≤ 1
    → v ≤ 1 → l ≡ v
own_alike n l p q v r s a b c d e f = omega arith

pub cancelled_are_one : CancelledAreOne
cancelled_are_one es fs left more m c d = from_times same_edge same_edge_itself same_edge_then_equal left more
    left_alike
  where
    others : (e : Edge) → many e es ≡ many e more + (many e d.pairs + many (turned e) d.pairs)
    others e = times_permuted same_edge same_edge_itself same_edge_then_equal e es fs m ∙ parts fs more d e

    left_alike : (e : Edge) → many e left ≡ many e more
    left_alike e = by_test (same_edge e (turned e)) refl
      where
        by_test : (b : Bool) → same_edge e (turned e) ≡ b → many e left ≡ many e more
        by_test true k =
            let own : e ≡ turned e = same_edge_then_equal e (turned e) k in
            own_alike (many e es) (many e left) (many e c.pairs) (many (turned e) c.pairs) (many e more)
            (many e d.pairs) (many (turned e) d.pairs)
            (parts es left c e) (others e) (ap (λ (x : Edge). many x c.pairs) own)
            (ap (λ (x : Edge). many x d.pairs) own)
            (at_most_once e own left c.none) (at_most_once e own more d.none)
        by_test false k =
            let apart : e ≡ turned e → ⊥ = λ s. true≢false (sym (same_edge_itself e) ∙ ap (same_edge e) s ∙ k) in
            apart_alike (many e es) (many (turned e) es) (many e left) (many (turned e) left) (many e c.pairs)
            (many (turned e) c.pairs)
            (many e more) (many (turned e) more) (many e d.pairs) (many (turned e) d.pairs)
            (parts es left c e) (parts es left c (turned e)) (others e) (others (turned e))
            (one_side e apart left c.none) (one_side e apart more d.none)
