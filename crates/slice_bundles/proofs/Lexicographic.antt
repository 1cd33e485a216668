-- One order and, where it doesn't decide, a second one: together an order in which any two compare.
use Rattle.std.proofs.Common.{◌≡◌, Bool, true, false, not, ◌&&◌, ◌||◌, refl}
use Rattle.std.specs.Cmp.{IsStrictWeakOrder}

pub lexicographic : {X : Type 0} (lt mt : X → X → Bool) → IsStrictWeakOrder lt → IsStrictWeakOrder mt
    → IsStrictWeakOrder (λ (x y : X). lt x y || (not (lt y x) && mt x y))
lexicographic lt mt a b = record {
  one_way = λ x y h. one (lt x y) (lt y x) (mt x y) (mt y x) (a.one_way x y) (b.one_way x y) h;
  chain = λ x y z h k. two (lt x y) (lt y x) (mt x y) (lt y z) (lt z y) (mt y z) (lt x z) (lt z x) (mt x z)
      (a.chain x y z) (a.chain z x y) (a.chain y z x) (b.chain x y z) h k;
}
  where
    one : (s t u v : Bool) → (s ≡ true → t ≡ false) → (u ≡ true → v ≡ false)
        → (s || (not t && u)) ≡ true → (t || (not s && v)) ≡ false
    one true true u v p q h = let e = p refl in cc
    one true false u v p q h = refl
    one false true u v p q h = cc
    one false false u v p q h = q h

    two : (s t u : Bool) (s' t' u' : Bool) (s'' t'' u'' : Bool) → (s ≡ false → s' ≡ false → s'' ≡ false)
        → (t'' ≡ false → s ≡ false → t' ≡ false) → (s' ≡ false → t'' ≡ false → t ≡ false)
        → (u ≡ false → u' ≡ false → u'' ≡ false)
        → (s || (not t && u)) ≡ false → (s' || (not t' && u')) ≡ false → (s'' || (not t'' && u'')) ≡ false
    two true t u s' t' u' s'' t'' u'' c d e f h k = cc
    two false t u true t' u' s'' t'' u'' c d e f h k = cc
    two false t u false t' u' true t'' u'' c d e f h k = let x = c refl refl in cc
    two false t u false t' u' false true u'' c d e f h k = refl
    two false true u false t' u' false false u'' c d e f h k = let x = e refl refl in cc
    two false false u false true u' false false u'' c d e f h k = let x = d refl refl in cc
    two false false u false false u' false false u'' c d e f h k = f h k
