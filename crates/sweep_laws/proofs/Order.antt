-- Lists put together in another order.
use Rattle.std.proofs.Common.{◌≡◌, List, ◌++◌, sym, subst, append_assoc}
use Rattle.std.specs.List.Sorted.{IsPermutation}
use Rattle.std.proofs.lemmas.List.Sorted.{IsPermutation-refl, IsPermutation-trans, IsPermutation-append_left, IsPermutation-append_right, IsPermutation-append_comm}

pub same_lists : {X : Type 0} (xs ys : List X) → xs ≡ ys → IsPermutation xs ys
same_lists xs ys e = subst (IsPermutation xs) e (IsPermutation-refl xs)

-- the second comes first
pub second_first : {X : Type 0} (xs ys zs : List X) → IsPermutation (xs ++ (ys ++ zs)) (ys ++ (xs ++ zs))
second_first xs ys zs =
    subst (λ us. IsPermutation us (ys ++ (xs ++ zs))) (append_assoc xs ys zs)
    (subst (IsPermutation ((xs ++ ys) ++ zs)) (append_assoc ys xs zs)
    (IsPermutation-append_left zs (xs ++ ys) (ys ++ xs) (IsPermutation-append_comm xs ys)))

module _ {X : Type 0} (d i k o r : List X) where
  -- what comes in, what goes out, and all else
  pub parted : IsPermutation (d ++ ((i ++ k) ++ (o ++ r))) (i ++ (o ++ (d ++ (k ++ r))))
  parted =
      IsPermutation-trans (d ++ ((i ++ k) ++ (o ++ r))) (d ++ (i ++ (o ++ (k ++ r)))) (i ++ (o ++ (d ++ (k ++ r))))
      (IsPermutation-append_right d ((i ++ k) ++ (o ++ r)) (i ++ (o ++ (k ++ r)))
      (subst (λ us. IsPermutation us (i ++ (o ++ (k ++ r)))) (sym (append_assoc i k (o ++ r)))
      (IsPermutation-append_right i (k ++ (o ++ r)) (o ++ (k ++ r)) (second_first k o r)))) fronted
    where
      fronted : IsPermutation (d ++ (i ++ (o ++ (k ++ r)))) (i ++ (o ++ (d ++ (k ++ r))))
      fronted =
          IsPermutation-trans (d ++ (i ++ (o ++ (k ++ r)))) (i ++ (d ++ (o ++ (k ++ r))))
          (i ++ (o ++ (d ++ (k ++ r)))) (second_first d i (o ++ (k ++ r)))
          (IsPermutation-append_right i (d ++ (o ++ (k ++ r))) (o ++ (d ++ (k ++ r))) (second_first d o (k ++ r)))

  -- so, where what came in has ended
  pub parted_ended : IsPermutation ((d ++ i) ++ ((o ++ k) ++ r)) (i ++ (o ++ (d ++ (k ++ r))))
  parted_ended =
      subst (λ us. IsPermutation us (i ++ (o ++ (d ++ (k ++ r))))) (sym (append_assoc d i ((o ++ k) ++ r)))
      (subst (λ us. IsPermutation (d ++ (i ++ us)) (i ++ (o ++ (d ++ (k ++ r))))) (sym (append_assoc o k r))
      (IsPermutation-trans (d ++ (i ++ (o ++ (k ++ r)))) (i ++ (d ++ (o ++ (k ++ r))))
      (i ++ (o ++ (d ++ (k ++ r)))) (second_first d i (o ++ (k ++ r)))
      (IsPermutation-append_right i (d ++ (o ++ (k ++ r))) (o ++ (d ++ (k ++ r))) (second_first d o (k ++ r)))))

module _ {X : Type 0} (i l f u : List X) where
  -- the third beside the first
  pub crossed_lists : IsPermutation ((i ++ l) ++ (f ++ u)) ((i ++ f) ++ (l ++ u))
  crossed_lists =
      subst (λ us. IsPermutation us ((i ++ f) ++ (l ++ u))) (sym (append_assoc i l (f ++ u)))
      (subst (IsPermutation (i ++ (l ++ (f ++ u)))) (sym (append_assoc i f (l ++ u)))
      (IsPermutation-append_right i (l ++ (f ++ u)) (f ++ (l ++ u)) (second_first l f u)))

  -- the third, the second, the first
  pub turned_lists : IsPermutation ((i ++ f) ++ (l ++ u)) (l ++ (f ++ (i ++ u)))
  turned_lists =
      subst (λ us. IsPermutation us (l ++ (f ++ (i ++ u)))) (sym (append_assoc i f (l ++ u)))
      (IsPermutation-trans (i ++ (f ++ (l ++ u))) (f ++ (i ++ (l ++ u))) (l ++ (f ++ (i ++ u)))
      (second_first i f (l ++ u))
      (IsPermutation-trans (f ++ (i ++ (l ++ u))) (f ++ (l ++ (i ++ u))) (l ++ (f ++ (i ++ u)))
      (IsPermutation-append_right f (i ++ (l ++ u)) (l ++ (i ++ u)) (second_first i l u)) (second_first f l (i ++ u))))
