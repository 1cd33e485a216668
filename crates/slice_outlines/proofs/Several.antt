-- Cursors are moved one after another.
use Rattle.std.proofs.Common.{◌≡◌, ℕ, zero, suc, ◌+◌, ◌<◌, ◌≤◌, List, [], ◌∷◌, length, get_or, set, take, All, inl, inr, sym, subst, ◌∙◌, arith}
use Rattle.std.proofs.lemmas.Bool.{cases_lt}
use Rattle.std.proofs.lemmas.List.{get_or-set_same, get_or-set_other, get_or_default}
use Rattle.std.proofs.lemmas.List.Elements.{All-from_recursion, All-from_get_or}
use Rattle.slice_sweep.specs.Changes.{Group}
use Rattle.slice_outlines.specs.declared.cursor.Cursor.{Cursor}
use Rattle.slice_outlines.specs.Cursors.{IsAbove}

-- the first so many
abbrev pub AllTo : (Cursor → Type 0) → ℕ → List Cursor → Type 0
AllTo P n cs = (k : ℕ) (d : Cursor) → k < n → P (get_or cs k d)

-- from a place on they are as they were
abbrev pub SameFrom : ℕ → List Cursor → List Cursor → Type 0
SameFrom n cs ds = (k : ℕ) (d : Cursor) → n ≤ k → get_or ds k d ≡ get_or cs k d

pub one_more : (P : Cursor → Type 0) (cs : List Cursor) (i : ℕ) (c : Cursor) → i < length cs → P c → AllTo P i cs
    → AllTo P (i + 1) (set cs i c)
one_more P cs i c l p a = λ k d o. elim (cases_lt k i) [
  | inl h ↦ subst P (sym (get_or-set_other cs i k c d (λ e. absurd (omega (arith, e, h))))) (a k d h)
  | inr h ↦
      let e : k ≡ i = omega (arith, o, h) in
      subst (λ (j : ℕ). P (get_or (set cs i c) j d)) (sym e) (subst P (sym (get_or-set_same cs i c d l)) p)
]

pub others_same : (cs ds : List Cursor) (i : ℕ) (c : Cursor) → SameFrom i cs ds → SameFrom (i + 1) cs (set ds i c)
others_same cs ds i c s = λ k d o.
    get_or-set_other ds i k c d (λ e. absurd (omega (arith, o, e))) ∙ s k d (omega (arith, o))

pub all_done : (P : Cursor → Type 0) (n : ℕ) (cs : List Cursor) → length cs ≤ n → AllTo P n cs → All P cs
all_done P n [] l a = All-from_recursion P [] tt
all_done P n (c ∷ cs) l a = All-from_get_or P (c ∷ cs) c (λ k o. a k c (omega (arith, o, l)))

-- the next is as it was
pub as_before : (cs ds : List Cursor) (i : ℕ) (c : Cursor) → i < length ds → c ≡ get_or ds i c → SameFrom i cs ds
    → (a : Cursor) → c ≡ get_or cs i a
as_before cs ds i c l e s a = e ∙ get_or_default ds i c a l ∙ s i a (omega arith)

pub one_above : (gs : List Group) (cs ds : List Cursor) (i : ℕ) (c d : Cursor) → i < length ds
    → ((a : Cursor) → c ≡ get_or cs i a) → IsAbove gs c d
    → ((k : ℕ) (a b : Cursor) → k < i → IsAbove gs (get_or cs k a) (get_or ds k b))
    → (k : ℕ) (a b : Cursor) → k < i + 1 → IsAbove gs (get_or cs k a) (get_or (set ds i d) k b)
one_above gs cs ds i c d l e m all k a b o = elim (cases_lt k i) [
  | inl h ↦ subst (IsAbove gs (get_or cs k a)) (sym (get_or-set_other ds i k d b (λ q. absurd (omega (arith, q, h)))))
      (all k a b h)
  | inr h ↦
      let q : k ≡ i = omega (arith, o, h) in
      subst (λ (j : ℕ). IsAbove gs (get_or cs j a) (get_or (set ds i d) j b)) (sym q)
      (subst (λ (x : Cursor). IsAbove gs x (get_or (set ds i d) i b)) (e a)
      (subst (IsAbove gs c) (sym (get_or-set_same ds i d b l)) m))
]

pub some_taken : (n : ℕ) (cs : List Cursor) → 0 < n → 0 < length cs → 0 < length (take n cs)
some_taken zero cs o s = absurd (omega (arith, o))
some_taken (suc n) [] o s = absurd (omega (arith, s))
some_taken (suc n) (c ∷ cs) o s = omega arith
