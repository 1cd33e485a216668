-- Edges are taken out in opposite pairs, and none is added whose opposite is left.
use Rattle.std.proofs.Common.{◌≡◌, ℕ, zero, suc, ◌+◌, ◌<◌, List, [], ◌∷◌, ◌++◌, length, get_or, take, map, All, sym, ap, subst}
use Rattle.std.specs.Prelude.{remove, IsPermutation}
use Rattle.std.proofs.lemmas.List.{take_more}
use Rattle.std.proofs.lemmas.List.Elements.{All-nil, All-append, All-cons, All-head, All-tail}
use Rattle.std.proofs.lemmas.List.Sorted.{IsPermutation-refl, IsPermutation-sym, IsPermutation-trans, IsPermutation-cons, IsPermutation-remove, IsPermutation-append_left, IsPermutation-append_right, IsPermutation-middle, IsPermutation-to_front}
use Rattle.scad_geom.specs.declared.point.Edge.{Edge}
use Rattle.winding_laws.specs.Edges.{turned}
use Rattle.slice_pieces.specs.Cancelling.{NoneOpposite, AreCancelled, IsOppositeAt}
use Rattle.scad_geom.proofs.Removal.{all_removed}

pub leaves_nothing : AreCancelled [] []
leaves_nothing = record { pairs = []; taken = IsPermutation-refl []; none = tt }

-- ---- an edge whose opposite is left is taken out with it
none_removed : (es : List Edge) (i : ℕ) → NoneOpposite es → NoneOpposite (remove es i)
none_removed [] zero h = tt
none_removed [] (suc i) h = tt
none_removed (e ∷ es) zero h = h.1
none_removed (e ∷ es) (suc i) h = (all_removed (λ f. f ≡ turned e → ⊥) es i h.0, none_removed es i h.1)

-- behind the others, an edge and one in them
two_to_back : (es left rest pairs : List Edge) (e : Edge) → IsPermutation es (left ++ (pairs ++ map turned pairs))
    → IsPermutation left (turned e ∷ rest)
    → IsPermutation (es ++ (e ∷ [])) (rest ++ ((e ∷ pairs) ++ map turned (e ∷ pairs)))
two_to_back es left rest pairs e taken apart =
    let back : List Edge = map turned pairs in
    let both : List Edge = pairs ++ back in
    let one : IsPermutation (es ++ (e ∷ [])) (e ∷ es) = IsPermutation-to_front es e in
    let two : IsPermutation (e ∷ es) (e ∷ (left ++ both)) = IsPermutation-cons e es (left ++ both) taken in
    let three : IsPermutation (e ∷ (left ++ both)) (e ∷ (turned e ∷ (rest ++ both))) =
    IsPermutation-cons e (left ++ both) (turned e ∷ (rest ++ both)) (IsPermutation-append_left both left (turned e ∷ rest) apart) in
    let inner : IsPermutation (pairs ++ (turned e ∷ back)) (turned e ∷ both) = IsPermutation-middle pairs (turned e) back in
    let four : IsPermutation (rest ++ (e ∷ (pairs ++ (turned e ∷ back)))) (e ∷ (rest ++ (pairs ++ (turned e ∷ back)))) = IsPermutation-middle rest e (pairs ++ (turned e ∷ back)) in
    let five : IsPermutation (rest ++ (pairs ++ (turned e ∷ back))) (turned e ∷ (rest ++ both)) =
    IsPermutation-trans (rest ++ (pairs ++ (turned e ∷ back))) (rest ++ (turned e ∷ both))
    (turned e ∷ (rest ++ both))
    (IsPermutation-append_right rest (pairs ++ (turned e ∷ back)) (turned e ∷ both) inner) (IsPermutation-middle rest (turned e) both) in
    let six : IsPermutation (rest ++ (e ∷ (pairs ++ (turned e ∷ back)))) (e ∷ (turned e ∷ (rest ++ both))) =
    IsPermutation-trans (rest ++ (e ∷ (pairs ++ (turned e ∷ back))))
    (e ∷ (rest ++ (pairs ++ (turned e ∷ back)))) (e ∷ (turned e ∷ (rest ++ both))) four
    (IsPermutation-cons e (rest ++ (pairs ++ (turned e ∷ back))) (turned e ∷ (rest ++ both)) five) in
    IsPermutation-trans (es ++ (e ∷ [])) (e ∷ (turned e ∷ (rest ++ both)))
    (rest ++ (e ∷ (pairs ++ (turned e ∷ back))))
    (IsPermutation-trans (es ++ (e ∷ [])) (e ∷ es) (e ∷ (turned e ∷ (rest ++ both))) one
    (IsPermutation-trans (e ∷ es) (e ∷ (left ++ both)) (e ∷ (turned e ∷ (rest ++ both))) two three))
    (IsPermutation-sym (rest ++ (e ∷ (pairs ++ (turned e ∷ back)))) (e ∷ (turned e ∷ (rest ++ both))) six)

pub leaves_fewer : (es left : List Edge) (i : ℕ) (e : Edge) → AreCancelled es left → IsOppositeAt e left i
    → AreCancelled (es ++ (e ∷ [])) (remove left i)
leaves_fewer es left i e h at = record {
  pairs = e ∷ h.pairs;
  taken = two_to_back es left (remove left i) h.pairs e h.taken
      (IsPermutation-remove left i (turned e) at.there (sym (at.opposite (turned e))));
  none = none_removed left i h.none;
}

-- ---- an edge whose opposite isn't left stays
turned_twice : (e f : Edge) → f ≡ turned e → e ≡ turned f
turned_twice e f h = sym (ap turned h)

none_added : (es : List Edge) (e : Edge) → NoneOpposite es → All (λ f. f ≡ turned e → ⊥) es
    → NoneOpposite (es ++ (e ∷ []))
none_added [] e h none = (All-nil (λ f. f ≡ turned e → ⊥), tt)
none_added (f ∷ es) e h none = (
  All-append (λ g. g ≡ turned f → ⊥) es (e ∷ []) h.0
      (All-cons (λ g. g ≡ turned f → ⊥) e []
      (λ s. All-head (λ g. g ≡ turned e → ⊥) f es none (turned_twice f e s))
      (All-nil (λ g. g ≡ turned f → ⊥))),
  none_added es e h.1 (All-tail (λ g. g ≡ turned e → ⊥) f es none),
)

pub leaves_one_more : (es left : List Edge) (e : Edge) → AreCancelled es left
    → All (λ f. f ≡ turned e → ⊥) left → AreCancelled (es ++ (e ∷ [])) (left ++ (e ∷ []))
leaves_one_more es left e h none =
    let both : List Edge = h.pairs ++ map turned h.pairs in
    record {
      pairs = h.pairs;
      taken = IsPermutation-trans (es ++ (e ∷ [])) (e ∷ (left ++ both)) ((left ++ (e ∷ [])) ++ both)
          (IsPermutation-trans (es ++ (e ∷ [])) (e ∷ es) (e ∷ (left ++ both)) (IsPermutation-to_front es e)
          (IsPermutation-cons e es (left ++ both) h.taken))
          (IsPermutation-sym ((left ++ (e ∷ [])) ++ both) (e ∷ (left ++ both))
          (IsPermutation-append_left both (left ++ (e ∷ [])) (e ∷ left) (IsPermutation-to_front left e)));
      none = none_added left e h.none none;
    }

-- ---- the edges one after another
pub one_taken : (es : List Edge) (i : ℕ) (d : Edge) (left seen new : List Edge) (j : ℕ) → i < length es
    → AreCancelled (take i es) left → seen ≡ left
    → IsOppositeAt (get_or es i d) seen j → new ≡ remove left j → AreCancelled (take (i + 1) es) new
one_taken es i d left seen new j l h same at rest =
    let e : Edge = get_or es i d in
    let there : IsOppositeAt e left j = subst (λ (ss : List Edge). IsOppositeAt e ss j) same at in
    subst (λ (fs : List Edge). AreCancelled fs new) (sym (take_more es i d l))
    (subst (AreCancelled (take i es ++ (e ∷ []))) (sym rest) (leaves_fewer (take i es) left j e h there))

pub one_stays : (es : List Edge) (i : ℕ) (d : Edge) (left seen new : List Edge) → i < length es
    → AreCancelled (take i es) left → seen ≡ left
    → All (λ f. f ≡ turned (get_or es i d) → ⊥) seen → new ≡ left ++ (get_or es i d ∷ [])
    → AreCancelled (take (i + 1) es) new
one_stays es i d left seen new l h same none rest =
    let e : Edge = get_or es i d in
    let no : All (λ f. f ≡ turned e → ⊥) left = subst (All (λ f. f ≡ turned e → ⊥)) same none in
    subst (λ (fs : List Edge). AreCancelled fs new) (sym (take_more es i d l))
    (subst (AreCancelled (take i es ++ (e ∷ []))) (sym rest) (leaves_one_more (take i es) left e h no))
