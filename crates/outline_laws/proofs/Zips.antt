-- Lists whose elements stand in a relation one by one.
use Rattle.std.proofs.Common.{◌≡◌, ℕ, zero, suc, ◌<◌, List, [], ◌∷◌, ◌++◌, length, get_or, set, arith, refl}
use Rattle.std.specs.Prelude.{IsPermutation, swap}
use Rattle.std.specs.List.{AllZip}
use Rattle.std.proofs.lemmas.List.Elements.{AllZip-get_or, length_all_zip}
use Rattle.std.proofs.lemmas.List.Sorted.{IsPermutation-refl, IsPermutation-trans, IsPermutation-swap, IsPermutation-keeps}

module _ {A B : Type 0} (R : A → B → Type 0) where
  pub zip_append : (xs us : List A) (ys vs : List B) → AllZip R xs ys → AllZip R us vs → AllZip R (xs ++ us) (ys ++ vs)
  zip_append [] us [] vs h k = k
  zip_append [] us (y ∷ ys) vs h k = absurd h
  zip_append (x ∷ xs) us [] vs h k = absurd h
  zip_append (x ∷ xs) us (y ∷ ys) vs h k = (h.0, zip_append xs us ys vs h.1 k)

  pub zip_turned : (S : B → A → Type 0) → ((x : A) (y : B) → R x y → S y x) → (xs : List A) (ys : List B)
      → AllZip R xs ys → AllZip S ys xs
  zip_turned S f [] [] h = tt
  zip_turned S f [] (y ∷ ys) h = absurd h
  zip_turned S f (x ∷ xs) [] h = absurd h
  zip_turned S f (x ∷ xs) (y ∷ ys) h = (f x y h.0, zip_turned S f xs ys h.1)

module _ {X : Type 0} (R : X → X → Type 0) where
  pub zip_chain : ((x y z : X) → R x y → R y z → R x z) → (xs ys zs : List X) → AllZip R xs ys → AllZip R ys zs
      → AllZip R xs zs
  zip_chain f [] [] [] h k = tt
  zip_chain f [] [] (z ∷ zs) h k = absurd k
  zip_chain f [] (y ∷ ys) zs h k = absurd h
  zip_chain f (x ∷ xs) [] zs h k = absurd h
  zip_chain f (x ∷ xs) (y ∷ ys) [] h k = absurd k
  zip_chain f (x ∷ xs) (y ∷ ys) (z ∷ zs) h k = (f x y z h.0 k.0, zip_chain f xs ys zs h.1 k.1)

  zip_set : (xs ys : List X) (i : ℕ) (x y : X) → AllZip R xs ys → R x y → AllZip R (set xs i x) (set ys i y)
  zip_set [] [] i x y h r = tt
  zip_set [] (b ∷ ys) i x y h r = absurd h
  zip_set (a ∷ xs) [] i x y h r = absurd h
  zip_set (a ∷ xs) (b ∷ ys) zero x y h r = (r, h.1)
  zip_set (a ∷ xs) (b ∷ ys) (suc i) x y h r = (h.0, zip_set xs ys i x y h.1 r)

  zip_swap : (xs ys : List X) (i j : ℕ) → i < length xs → j < length xs → AllZip R xs ys
      → AllZip R (swap xs i j) (swap ys i j)
  zip_swap [] [] i j li lj h = tt
  zip_swap [] (y ∷ ys) i j li lj h = absurd h
  zip_swap (x ∷ xs) [] i j li lj h = absurd h
  zip_swap (x ∷ xs) (y ∷ ys) i j li lj h =
      zip_set (set (x ∷ xs) i (get_or (x ∷ xs) j x)) (set (y ∷ ys) i (get_or (y ∷ ys) j y)) j (get_or (x ∷ xs) i x)
      (get_or (y ∷ ys) i y)
      (zip_set (x ∷ xs) (y ∷ ys) i (get_or (x ∷ xs) j x) (get_or (y ∷ ys) j y) h (AllZip-get_or R (x ∷ xs) (y ∷ ys) j x
      y h lj))
      (AllZip-get_or R (x ∷ xs) (y ∷ ys) i x y h li)

  -- what is the same one by one can be put in the same other order
  abbrev pub Reordered : List X → List X → Type 0
  Reordered ys us = (vs : List X) × IsPermutation ys vs × AllZip R us vs

  pub zip_permuted : (xs ys us : List X) → AllZip R xs ys → IsPermutation xs us → Reordered ys us
  zip_permuted xs ys us h m =
      IsPermutation-keeps xs (Reordered ys) (ys, IsPermutation-refl ys, h)
      (λ l i j li lj p.
      let n : length l ≡ length p.0 = length_all_zip R l p.0 p.2 in (
        swap p.0 i j,
        IsPermutation-trans ys p.0 (swap p.0 i j) p.1 (IsPermutation-swap p.0 (swap p.0 i j) i j
            (omega arith) (omega arith) refl),
        zip_swap l p.0 i j li lj p.2,
      ))
      us m
