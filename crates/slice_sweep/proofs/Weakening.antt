-- Strands without keys.
use Rattle.std.proofs.Common.{◌≡◌, ℕ, zero, suc, ◌+◌, ◌-◌, ◌<◌, ◌≤◌, List, [], ◌∷◌, ◌++◌, length, get_or, set, take, drop, refl, sym, ap, ◌∙◌, arith, subst, zero-add}
use Rattle.std.specs.List.{AllByRecursion, concat}
use Rattle.std.proofs.lemmas.Int.{ints}
use Rattle.std.proofs.lemmas.List.{length-append, length-drop, length-take-le}
use Rattle.scad_base.proofs.Lists.{AllByRecursion-append}
use Rattle.scad_geom.specs.Limits.{coordinate_limit}
use Rattle.scad_geom.specs.declared.level.Level.{Level}
use Rattle.scad_geom.specs.declared.level.LeafEdge.{LeafEdge}
use Rattle.scad_geom.specs.Level.{IsAtMost, IsLevelWithin}
use Rattle.scad_geom.proofs.Heights.{lower_weak}
use Rattle.slice_bundles.specs.Times.{times}
use Rattle.slice_bundles.proofs.Times.{times-append}
use Rattle.slice_sweep.specs.declared.strand.Strand.{Strand}
use Rattle.slice_sweep.specs.Keys.{stale}
use Rattle.slice_sweep.specs.Chains.{Chain, Joins}
use Rattle.slice_sweep.specs.Strands.{bundles_of, numbers_in, LiesNotRight, IsHeld, AreHeld, AreApart, restaled, weakened, fresh}
use Rattle.slice_sweep.proofs.Keys.{never_below}
use Rattle.slice_sweep.proofs.Lists.{chain_append}

pub bundles_weakened : (ss : List Strand) → bundles_of (weakened ss) ≡ bundles_of ss
bundles_weakened [] = refl
bundles_weakened (s ∷ []) = refl
bundles_weakened (s ∷ (t ∷ ss)) = ap (λ (bs : List (List ℕ)). s.bundle ∷ bs) (bundles_weakened (t ∷ ss))

pub length_weakened : (ss : List Strand) → length (weakened ss) ≡ length ss
length_weakened [] = refl
length_weakened (s ∷ []) = refl
length_weakened (s ∷ (t ∷ ss)) = ap suc (length_weakened (t ∷ ss))

pub bundles_fresh : (bs : List (List ℕ)) → bundles_of (fresh bs) ≡ bs
bundles_fresh [] = refl
bundles_fresh (b ∷ bs) = ap (λ (cs : List (List ℕ)). b ∷ cs) (bundles_fresh bs)

pub length_fresh : (bs : List (List ℕ)) → length (fresh bs) ≡ length bs
length_fresh [] = refl
length_fresh (b ∷ bs) = ap suc (length_fresh bs)

-- a write of the key of the last of the first strands
pub weakened_at : (ss : List Strand) (n : ℕ) (d : Strand) → n < length ss
    → set ss n (restaled (get_or ss n d)) ≡ weakened (take (suc n) ss) ++ drop (suc n) ss
weakened_at [] n d o = absurd (omega arith)
weakened_at (s ∷ ss) zero d o = refl
weakened_at (s ∷ []) (suc n) d o = absurd (omega arith)
weakened_at (s ∷ (t ∷ ss)) (suc n) d o = ap (λ (xs : List Strand). s ∷ xs) (weakened_at (t ∷ ss) n d (omega arith))

-- as the code writes it
pub weakened_by : (ss : List Strand) (p : ℕ) (x : Strand) → 0 < p → p ≤ length ss → x ≡ get_or ss (p - 1) x
    → set ss (p - 1) (restaled x) ≡ weakened (take p ss) ++ drop p ss
weakened_by ss zero x o q e = absurd (omega arith)
weakened_by ss (suc n) x o q e =
    let m : suc n - 1 ≡ n = omega arith in
    let r : x ≡ get_or ss n x = subst (λ (i : ℕ). x ≡ get_or ss i x) m e in
    subst (λ (i : ℕ). set ss i (restaled x) ≡ weakened (take (suc n) ss) ++ drop (suc n) ss) (sym m)
    (ap (λ (s : Strand). set ss n (restaled s)) r ∙ weakened_at ss n x (omega arith))

pub weakened_length : (ss W : List Strand) (p : ℕ) → p ≤ length ss → W ≡ weakened (take p ss) ++ drop p ss
    → length W ≡ length ss
weakened_length ss W p o e =
    omega (
      arith,
      ap length e,
      length-append (weakened (take p ss)) (drop p ss),
      length_weakened (take p ss),
      length-take-le p ss o,
      length-drop p ss,
    )

module _ (P : Strand → Type 0) (f : (s : Strand) → P s → P (restaled s)) where
  pub all_weakened : (ss : List Strand) → AllByRecursion P ss → AllByRecursion P (weakened ss)
  all_weakened [] h = tt
  all_weakened (s ∷ []) h = (f s h.0, tt)
  all_weakened (s ∷ (t ∷ ss)) h = (h.0, all_weakened (t ∷ ss) h.1)

module _ (R : Strand → Strand → Type 0) (f : (s t : Strand) → R s t → R s (restaled t)) where
  pub chain_weakened : (ss : List Strand) → Chain R ss → Chain R (weakened ss)
  chain_weakened [] c = tt
  chain_weakened (s ∷ []) c = tt
  chain_weakened (s ∷ (t ∷ [])) c = (f s t c.0, tt)
  chain_weakened (s ∷ (t ∷ (r ∷ ss))) c = (c.0, chain_weakened (t ∷ (r ∷ ss)) c.1)

module _ (Q R : Strand → Strand → Type 0) (f : (s t : Strand) → Q s t → R (restaled s) t) where
  pub joins_weakened : (ss ts : List Strand) → Joins Q ss ts → Joins R (weakened ss) ts
  joins_weakened [] ts j = tt
  joins_weakened (s ∷ []) [] j = tt
  joins_weakened (s ∷ []) (t ∷ ts) j = f s t j
  joins_weakened (s ∷ (t ∷ [])) ts j = joins_weakened (t ∷ []) ts j
  joins_weakened (s ∷ (t ∷ (r ∷ ss))) ts j = joins_weakened (t ∷ (r ∷ ss)) ts j

  pub joins_fresh : (bs : List (List ℕ)) (ts : List Strand) → Joins Q (fresh bs) ts → Joins R (fresh bs) ts
  joins_fresh [] ts j = tt
  joins_fresh (b ∷ []) [] j = tt
  joins_fresh (b ∷ []) (t ∷ ts) j = f (record { bundle = b; wake = stale }) t j
  joins_fresh (b ∷ (c ∷ bs)) ts j = joins_fresh (c ∷ bs) ts j

  pub chain_fresh : (bs : List (List ℕ)) → Chain Q (fresh bs) → Chain R (fresh bs)
  chain_fresh [] c = tt
  chain_fresh (b ∷ []) c = tt
  chain_fresh (b ∷ (d ∷ bs)) c =
      (f (record { bundle = b; wake = stale }) (record { bundle = d; wake = stale }) c.0, chain_fresh (d ∷ bs) c.1)

-- ---- at a height
module _ (es : List LeafEdge) (l : Level) (w : IsLevelWithin coordinate_limit l) where
  restaled_held : (s : Strand) → IsHeld es l s → IsHeld es l (restaled s)
  restaled_held s h = record {
    bundle = h.bundle;
    reach = h.reach;
    ends = λ g d o b. absurd (never_below l g w d o b);
  }

  restaled_right : (s t : Strand) → AreHeld es l s t → AreHeld es l s (restaled t)
  restaled_right s t h = record { order = h.order; left = h.left }

  restaled_left : (s t : Strand) → LiesNotRight es l s t → AreHeld es l (restaled s) t
  restaled_left s t h = record {
    order = h;
    left = λ g d o b. absurd (never_below l g w d (lower_weak l g o) b);
  }

  itself : IsAtMost l l
  itself = omega (arith, ints)

  restaled_apart : (s t : Strand) → LiesNotRight es l s t → AreApart es l (restaled s) t
  restaled_apart s t h b = absurd (never_below l l w w.positive itself b)

  module _ (D : List Strand) (bs : List (List ℕ)) (O : List Strand) where
    pub held_put : AllByRecursion (IsHeld es l) D → AllByRecursion (IsHeld es l) (fresh bs)
        → AllByRecursion (IsHeld es l) O → AllByRecursion (IsHeld es l) (weakened D ++ (fresh bs ++ O))
    held_put a b c =
        AllByRecursion-append (IsHeld es l) (weakened D) (fresh bs ++ O)
        (all_weakened (IsHeld es l) restaled_held D a)
        (AllByRecursion-append (IsHeld es l) (fresh bs) O b c)

    pub ordered_put : Chain (AreHeld es l) D → Chain (LiesNotRight es l) (fresh bs) → Chain (AreHeld es l) O
        → Joins (LiesNotRight es l) D (fresh bs ++ O) → Joins (LiesNotRight es l) (fresh bs) O
        → Chain (AreHeld es l) (weakened D ++ (fresh bs ++ O))
    ordered_put a b c j k =
        chain_append (AreHeld es l) (weakened D) (fresh bs ++ O)
        (chain_weakened (AreHeld es l) restaled_right D a)
        (chain_append (AreHeld es l) (fresh bs) O
        (chain_fresh (LiesNotRight es l) (AreHeld es l) restaled_left bs b) c
        (joins_fresh (LiesNotRight es l) (AreHeld es l) restaled_left bs O k))
        (joins_weakened (LiesNotRight es l) (AreHeld es l) restaled_left D (fresh bs ++ O) j)

    pub apart_put : Chain (AreApart es l) D → Chain (LiesNotRight es l) (fresh bs) → Chain (AreApart es l) O
        → Joins (LiesNotRight es l) D (fresh bs ++ O) → Joins (LiesNotRight es l) (fresh bs) O
        → Chain (AreApart es l) (weakened D ++ (fresh bs ++ O))
    apart_put a b c j k =
        chain_append (AreApart es l) (weakened D) (fresh bs ++ O)
        (chain_weakened (AreApart es l) (λ s t h. h) D a)
        (chain_append (AreApart es l) (fresh bs) O
        (chain_fresh (LiesNotRight es l) (AreApart es l) restaled_apart bs b) c
        (joins_fresh (LiesNotRight es l) (AreApart es l) restaled_apart bs O k))
        (joins_weakened (LiesNotRight es l) (AreApart es l) restaled_apart D (fresh bs ++ O) j)

-- ---- how often a number stands in strands
pub times_strands : (k : ℕ) (xs ys : List Strand)
    → times k (numbers_in (xs ++ ys)) ≡ times k (numbers_in xs) + times k (numbers_in ys)
times_strands k [] ys = sym (zero-add (times k (numbers_in ys)))
times_strands k (x ∷ xs) ys =
    sum_more (times k (numbers_in xs)) (times k (numbers_in ys)) (times k x.bundle)
    (times k (numbers_in (xs ++ ys))) (times k (numbers_in (x ∷ (xs ++ ys)))) (times k (numbers_in (x ∷ xs)))
    (times_strands k xs ys) (times-append k x.bundle (numbers_in (xs ++ ys)))
    (times-append k x.bundle (numbers_in xs))
  where
    sum_more : (a b c d e f : ℕ) → d ≡ a + b → e ≡ c + d → f ≡ c + a → e ≡ f + b
    sum_more a b c d e f p q r = omega arith

pub times_put : (k : ℕ) (D : List Strand) (bs : List (List ℕ)) (O : List Strand)
    → times k (numbers_in (weakened D ++ (fresh bs ++ O)))
    ≡ times k (numbers_in D) + (times k (concat bs) + times k (numbers_in O))
times_put k D bs O =
    sums (times k (numbers_in (weakened D ++ (fresh bs ++ O)))) (times k (numbers_in (weakened D)))
    (times k (numbers_in (fresh bs ++ O))) (times k (numbers_in (fresh bs))) (times k (numbers_in O))
    (times k (numbers_in D)) (times k (concat bs))
    (times_strands k (weakened D) (fresh bs ++ O)) (times_strands k (fresh bs) O)
    (ap (λ (cs : List (List ℕ)). times k (concat cs)) (bundles_weakened D))
    (ap (λ (cs : List (List ℕ)). times k (concat cs)) (bundles_fresh bs))
  where
    sums : (a b c d e f g : ℕ) → a ≡ b + c → c ≡ d + e → b ≡ f → d ≡ g → a ≡ f + (g + e)
    sums a b c d e f g p q r s = omega arith
