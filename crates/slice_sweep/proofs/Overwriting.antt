-- Bundles written over strands, one after another.
use Rattle.std.proofs.Common.{◌≡◌, ℕ, zero, suc, ◌+◌, ◌-◌, ◌<◌, List, [], ◌∷◌, ◌++◌, ◌≤◌, length, set, take, drop, refl, sym, ap, ap₂, ◌∙◌, arith, subst, append_assoc}
use Rattle.std.proofs.lemmas.List.{length-append, length-take-le, take_at, drop_at, drop-drop}
use Rattle.slice_sweep.specs.declared.strand.Strand.{Strand}
use Rattle.slice_sweep.specs.Keys.{stale}
use Rattle.slice_sweep.specs.Strands.{fresh}
use Rattle.slice_sweep.proofs.Weakening.{length_fresh}

abbrev keyless : List ℕ → Strand
keyless b = record { bundle = b; wake = stale }

write_at : (L : List Strand) (ys : List (List ℕ)) (b : List ℕ) (p : ℕ) → p ≡ length ys → p < length L
    → set (fresh ys ++ drop p L) p (keyless b) ≡ fresh (ys ++ (b ∷ [])) ++ drop (suc p) L
write_at [] ys b p e o = absurd (omega arith)
write_at (s ∷ ss) [] b zero e o = refl
write_at (s ∷ ss) [] b (suc p) e o = absurd (omega (arith, e))
write_at (s ∷ ss) (y ∷ ys) b zero e o = absurd (omega (arith, e))
write_at (s ∷ ss) (y ∷ ys) b (suc p) e o =
    ap (λ (xs : List Strand). keyless y ∷ xs) (write_at ss ys b p (omega (arith, e)) (omega arith))

write_behind : (L : List Strand) (from : ℕ) (ys : List (List ℕ)) (b : List ℕ) (p : ℕ) → p ≡ from + length ys
    → p < length L
    → set (take from L ++ (fresh ys ++ drop p L)) p (keyless b)
    ≡ take from L ++ (fresh (ys ++ (b ∷ [])) ++ drop (suc p) L)
write_behind [] from ys b p e o = absurd (omega arith)
write_behind (s ∷ ss) zero ys b p e o = write_at (s ∷ ss) ys b p (omega (arith, e)) o
write_behind (s ∷ ss) (suc from) ys b zero e o = absurd (omega (arith, e))
write_behind (s ∷ ss) (suc from) ys b (suc p) e o =
    ap (λ (xs : List Strand). s ∷ xs) (write_behind ss from ys b p (omega (arith, e)) (omega arith))

-- as the code writes one more
pub overwritten : (L X : List Strand) (from p : ℕ) (ys : List (List ℕ)) (b : List ℕ) → p ≡ from + length ys
    → p < length L → X ≡ take from L ++ (fresh ys ++ drop (from + length ys) L)
    → set X p (record { bundle = b; wake = stale })
    ≡ take from L ++ (fresh (ys ++ (b ∷ [])) ++ drop (from + length (ys ++ (b ∷ []))) L)
overwritten L X from p ys b e o x =
    let n : suc p ≡ from + length (ys ++ (b ∷ [])) = omega (arith, e, length-append ys (b ∷ [])) in
    let here : X ≡ take from L ++ (fresh ys ++ drop p L) =
    subst (λ (q : ℕ). X ≡ take from L ++ (fresh ys ++ drop q L)) (sym e) x in
    subst (λ (q : ℕ). set X p (keyless b) ≡ take from L ++ (fresh (ys ++ (b ∷ [])) ++ drop q L)) n
    (ap (λ (xs : List Strand). set xs p (keyless b)) here ∙ write_behind L from ys b p e o)

-- the strand behind them taken out
pub taken_out : (L X : List Strand) (from to : ℕ) (bs : List (List ℕ)) → from + length bs + 1 ≡ to → to ≤ length L
    → X ≡ take from L ++ (fresh bs ++ drop (from + length bs) L)
    → take (to - 1) X ++ drop (to - 1 + 1) X ≡ take from L ++ (fresh bs ++ drop to L)
taken_out L X from to bs e o x =
    ap₂ (λ (xs ys : List Strand). xs ++ ys) front back ∙ append_assoc (take from L) (fresh bs) (drop to L)
  where
    p : ℕ
    p = to - 1

    here : from ≤ length L
    here = omega (arith, e, o)

    p_is : from + length bs ≡ p
    p_is = omega (arith, e)

    behind : p + 1 ≡ to
    behind = omega (arith, e)

    A : List Strand
    A = take from L ++ fresh bs

    size : length A ≡ p
    size = length-append (take from L) (fresh bs)
        ∙ ap₂ (λ (a b : ℕ). a + b) (length-take-le from L here) (length_fresh bs) ∙ p_is

    X_as : X ≡ A ++ drop p L
    X_as = subst (λ (q : ℕ). X ≡ take from L ++ (fresh bs ++ drop q L)) p_is x
        ∙ sym (append_assoc (take from L) (fresh bs) (drop p L))

    front : take p X ≡ A
    front = ap (take p) X_as ∙ take_at A (drop p L) p size

    back : drop (p + 1) X ≡ drop to L
    back = sym (drop-drop 1 p X) ∙ ap (drop 1) (ap (drop p) X_as ∙ drop_at A (drop p L) p size) ∙ drop-drop 1 p L
        ∙ ap (λ (q : ℕ). drop q L) behind
