-- Numbers of a range that name no child, before the first one that may and behind the last one.
use Rattle.std.proofs.Common.{◌≡◌, ◌≢◌, ℕ, zero, suc, ◌+◌, ◌*◌, ◌/◌, ◌%◌, ◌<◌, ◌≤◌, ℤ, pos, negsuc, neg_ℤ, ◌+ℤ◌, ◌<ℤ◌, Bool, true, false, List, [], ◌∷◌, length, Some, None, if◌then◌else◌, refl, sym, ap, ◌∙◌, subst, arith}
use Rattle.std.specs.Prelude.{int_lt}
use Rattle.std.proofs.Math.Nat.{div-mul-le_self, mul-le-mul_right}
use Rattle.std.proofs.lemmas.Bool.{true≢false}
use Rattle.std.proofs.lemmas.Int.{ints}
use Rattle.std.proofs.lemmas.Nat.{div-add-mod'}
use Rattle.scad_num.specs.Number.{one}
use Rattle.scad_ast.specs.Tree.{Items, no_items, entry}
use Rattle.scad_value.specs.Datum.{Datum, number, range}
use Rattle.scad_scope.specs.Env.{Env}
use Rattle.scad_expr.specs.Arguments.{is_statement, statements}
use Rattle.scad_expr.specs.Runs.{is_past, numbers_left, items}
use Rattle.scad_expr.specs.State.{State, Outcome, gives, and_then}
use Rattle.scad_expr.proofs.Loops.{nothing-left}
use Rattle.scad_expr.proofs.RunsLeft.{items-range, left-past, left-next}
use Rattle.scad_tree.specs.Solid.{Solid}
use Rattle.scad_expr.proofs.Loops.{same-then}
use Rattle.scad_leaves.specs.declared.space.Where.{Where}
use Rattle.scad_members.specs.Choice.{child_of, child_named}
use Rattle.scad_members.specs.Meaning.{Below, child, children_by}
use Rattle.scad_members.specs.ChildRange.{NameAlike, IsNobody, steps, IsReached, IsEnough, IsBehind}
use Rattle.scad_members.specs.Scopes.{child_at}

-- ---- numbers that name no child
child_at-past : (all : Items) (n : ℕ) → statements all ≤ n → child_at all n ≡ None
child_at-past no_items n few = refl
child_at-past (entry i more) zero few = by (is_statement i) few (child_at-past more zero)
  where
    by : (c : Bool) → (if c then 1 else 0) + statements more ≤ 0 → (statements more ≤ 0 → child_at more zero ≡ None)
        → (if c then Some i else child_at more zero) ≡ None
    by true some rest = absurd (let no : ⊥ = omega (arith, some) in no)
    by false none rest = rest (omega (arith, none))
child_at-past (entry i more) (suc n) few = by (is_statement i) few (child_at-past more n) (child_at-past more (suc n))
  where
    by : (c : Bool) → (if c then 1 else 0) + statements more ≤ suc n → (statements more ≤ n → child_at more n ≡ None)
        → (statements more ≤ suc n → child_at more (suc n) ≡ None)
        → (if c then child_at more n else child_at more (suc n)) ≡ None
    by true some one rest = one (omega (arith, some))
    by false none one rest = rest (omega (arith, none))

child_of-negative : (scope : Items) (n : ℕ) → 1 ≤ n → child_of scope (neg_ℤ (pos n)) ≡ None
child_of-negative scope zero some = absurd (let no : ⊥ = omega (arith, some) in no)
child_of-negative scope (suc n) some = refl

-- numbers below the first child
pub nobody-below : (scope : Items) (z : ℤ) → z <ℤ negsuc 999999 → IsNobody scope z
nobody-below scope (pos k) low = absurd (let no : ⊥ = omega (arith, ints, low) in no)
nobody-below scope (negsuc k) low =
    let far : 1 ≤ suc k / 1000000 = (let under : 999999 < k = omega (arith, ints, low) in omega (arith, under)) in
    child_of-negative scope (suc k / 1000000) far

-- numbers behind the last child
pub nobody-behind : (scope : Items) (n : ℕ) (z : ℤ) → statements scope ≤ n → pos (n * 1000000) <ℤ z → IsNobody scope z
nobody-behind scope n (negsuc k) few high = absurd (let no : ⊥ = omega (arith, ints, high) in no)
nobody-behind scope n (pos k) few high =
    let far : n * 1000000 < k = omega (arith, ints, high) in
    child_at-past scope (k / 1000000) (omega (arith, few, far))

-- ---- they can be left out
past-on : (n s b : ℤ) → is_past n s b ≡ true → is_past (n +ℤ s) s b ≡ true
past-on n s b past = by (int_lt s (pos 0)) refl past
  where
    by : (c : Bool) → int_lt s (pos 0) ≡ c → (if c then int_lt n b else int_lt b n) ≡ true
        → (if c then int_lt (n +ℤ s) b else int_lt b (n +ℤ s)) ≡ true
    by true e p = grind (arith, ints)
    by false e p = grind (arith, ints)

module _ (below : Below) (w : Where) (env along : Env) (scope : Items) where
  abbrev run : List Datum → List Solid → State → Outcome (List Solid)
  run all so_far s = children_by below w env along scope all so_far s

  skip-one : (z : ℤ) (more : List Datum) (so_far : List Solid) (s : State) → IsNobody scope z
      → run (number z ∷ more) so_far s ≡ run more so_far s
  unfolding children_by child
  skip-one z more so_far s none = ap (λ o. and_then (child below w env along o so_far s) (λ now. children_by below w env
      along scope more now)) none

  run-none : (so_far : List Solid) (s : State) → run [] so_far s ≡ gives so_far s
  unfolding children_by
  run-none so_far s = refl

  run-same : (z : ℤ) (few all : List Datum) (so_far : List Solid) (s : State) → ((now : List Solid) (t : State)
      → run few now t ≡ run all now t) → run (number z ∷ few) so_far s ≡ run (number z ∷ all) so_far s
  unfolding children_by
  run-same z few all so_far s same =
      same-then (child below w env along (child_named scope (number z)) so_far s) (λ now. run few now)
      (λ now. run all now) same

  skip-first : (n step end : ℤ) (so_far : List Solid) (s : State) → step ≢ pos 0 → IsNobody scope n
      → run (numbers_left (Some (n +ℤ step)) step end) so_far s ≡ run (numbers_left (Some n) step end) so_far s
  skip-first n step end so_far s some none = by (is_past n step end) refl
    where
      by : (c : Bool) → is_past n step end ≡ c → run (numbers_left (Some (n +ℤ step)) step end) so_far s
          ≡ run (numbers_left (Some n) step end) so_far s
      by true past = ap (λ l. run l so_far s) (left-past (n +ℤ step) step end (past-on n step end past) ∙ sym
          (left-past n step end past))
      by false within =
          sym (skip-one n (numbers_left (Some (n +ℤ step)) step end) so_far s none)
          ∙ ap (λ l. run l so_far s) (sym (left-next n step end within some))

  skip : (m : ℕ) (n step end : ℤ) (so_far : List Solid) (s : State) → step ≢ pos 0
      → ((j : ℕ) → j < m → IsNobody scope (n +ℤ steps j step)) → run (numbers_left (Some (n +ℤ steps m step)) step end)
      so_far s ≡ run (numbers_left (Some n) step end) so_far s
  skip zero n step end so_far s some none =
      let same : n +ℤ pos 0 ≡ n = omega (arith, ints) in
      ap (λ z. run (numbers_left (Some z) step end) so_far s) same
  skip (suc m) n step end so_far s some none =
      ap (λ z. run (numbers_left (Some z) step end) so_far s) (further (steps m step))
      ∙ skip m (n +ℤ step) step end so_far s some (λ j less. subst (IsNobody scope) (further (steps j step))
      (none (suc j) (omega (arith, less))))
      ∙ skip-first n step end so_far s some (subst (IsNobody scope) here (none 0 (omega arith)))
    where
      further : (t : ℤ) → n +ℤ (step +ℤ t) ≡ (n +ℤ step) +ℤ t
      further t = omega (arith, ints)

      here : n +ℤ pos 0 ≡ n
      here = omega (arith, ints)

  module _ (step end last : ℤ) (some : step ≢ pos 0) (enough : IsEnough scope step end last) where
    none-left : (k : ℕ) (n : ℤ) (so_far : List Solid) (s : State) → length (numbers_left (Some n) step end) ≤ k
        → is_past n step last ≡ true → run (numbers_left (Some n) step end) so_far s ≡ gives so_far s
    none-left zero n so_far s few past = ap (λ l. run l so_far s) (nothing-left (numbers_left (Some n) step end) few) ∙
        run-none so_far s
    none-left (suc k) n so_far s few past = by (is_past n step end) refl (λ less. none-left k (n +ℤ step) so_far s less
        (past-on n step last past))
      where
        by : (c : Bool) → is_past n step end ≡ c → (length (numbers_left (Some (n +ℤ step)) step end) ≤ k
            → run (numbers_left (Some (n +ℤ step)) step end) so_far s ≡ gives so_far s)
            → run (numbers_left (Some n) step end) so_far s ≡ gives so_far s
        by true over rest = ap (λ l. run l so_far s) (left-past n step end over) ∙ run-none so_far s
        by false within rest =
            let count = ap length (left-next n step end within some) in
            ap (λ l. run l so_far s) (left-next n step end within some)
            ∙ skip-one n (numbers_left (Some (n +ℤ step)) step end) so_far s (enough.nobody n past within)
            ∙ rest (omega (arith, count, few))

    within-end : (n : ℤ) → is_past n step last ≡ false → is_past n step end ≡ false
    within-end n within = by (is_past n step end) refl
      where
        by : (c : Bool) → is_past n step end ≡ c → is_past n step end ≡ false
        by true over = absurd (true≢false (sym (enough.sooner n over) ∙ within))
        by false e = e

    cut : (k : ℕ) (n : ℤ) (so_far : List Solid) (s : State) → length (numbers_left (Some n) step end) ≤ k
        → run (numbers_left (Some n) step last) so_far s ≡ run (numbers_left (Some n) step end) so_far s
    cut zero n so_far s few = by (is_past n step last) refl
      where
        by : (c : Bool) → is_past n step last ≡ c → run (numbers_left (Some n) step last) so_far s
            ≡ run (numbers_left (Some n) step end) so_far s
        by true past = ap (λ l. run l so_far s) (left-past n step last past) ∙ run-none so_far s ∙ sym
            (none-left zero n so_far s few past)
        by false within =
            let count = ap length (left-next n step end (within-end n within) some) in
            absurd (let no : ⊥ = omega (arith, count, few) in no)
    cut (suc k) n so_far s few = by (is_past n step last) refl (λ less now t. cut k (n +ℤ step) now t less)
      where
        by : (c : Bool) → is_past n step last ≡ c → (length (numbers_left (Some (n +ℤ step)) step end) ≤ k
            → (now : List Solid) (t : State) → run (numbers_left (Some (n +ℤ step)) step last) now t
            ≡ run (numbers_left (Some (n +ℤ step)) step end) now t) → run (numbers_left (Some n) step last) so_far s
            ≡ run (numbers_left (Some n) step end) so_far s
        by true past rest = ap (λ l. run l so_far s) (left-past n step last past) ∙ run-none so_far s ∙ sym
            (none-left (suc k) n so_far s few past)
        by false within rest =
            let count = ap length (left-next n step end (within-end n within) some) in
            ap (λ l. run l so_far s) (left-next n step last within some)
            ∙ run-same n (numbers_left (Some (n +ℤ step)) step last) (numbers_left (Some (n +ℤ step)) step end) so_far s
            (rest (omega (arith, count, few)))
            ∙ ap (λ l. run l so_far s) (sym (left-next n step end (within-end n within) some))

-- ---- numbers that are reached
steps-up : (j k : ℕ) → steps j (pos k) ≡ pos (j * k)
steps-up zero k = ap pos (let none : 0 ≡ 0 * k = grind arith in none)
steps-up (suc j) k = ap (λ t. pos k +ℤ t) (steps-up j k) ∙ ap pos (let more : k + j * k ≡ suc j * k = grind arith in more)

steps-down : (j k : ℕ) → steps j (neg_ℤ (pos k)) ≡ neg_ℤ (pos (j * k))
steps-down zero k = ap (λ m. neg_ℤ (pos m)) (let none : 0 ≡ 0 * k = grind arith in none)
steps-down (suc j) k =
    let more : suc j * k ≡ k + j * k = grind arith in
    ap (λ t. neg_ℤ (pos k) +ℤ t) (steps-down j k) ∙ omega (arith, ints, more)

whole-parts : (g k j : ℕ) → 0 < k → j < g / k → j * k + k ≤ g
whole-parts g k j some less =
    let down = mul-le-mul_right k less in
    let all = div-mul-le_self g k in
    let more : suc j * k ≡ k + j * k = grind arith in
    omega (arith, down, all, more)

-- steps upwards towards -1
pub reached-up : (scope : Items) (n s first : ℤ) (g k : ℕ) → s ≡ pos k → 0 < k → n +ℤ pos g ≡ negsuc 999999
    → first +ℤ pos (g % k) ≡ negsuc 999999 → IsReached scope n s first
reached-up scope n s first g k step some start is = record {
  count = g / k;
  is =
      let parts = div-add-mod' g k in
      let far = ap (steps (g / k)) step ∙ steps-up (g / k) k in
      omega (arith, ints, parts, far, start, is);
  nobody = λ j less.
      let parts = whole-parts g k j some less in
      let far = ap (steps j) step ∙ steps-up j k in
      nobody-below scope (n +ℤ steps j s) (omega (arith, ints, parts, far, start, some));
}

-- steps downwards towards the number behind the last child
pub reached-down : (scope : Items) (high n s first : ℤ) (g k : ℕ) → IsBehind scope high → s ≡ neg_ℤ (pos k) → 0 < k
    → high +ℤ pos g ≡ n → first ≡ high +ℤ pos (g % k) → IsReached scope n s first
reached-down scope high n s first g k behind step some start is = record {
  count = g / k;
  is =
      let parts = div-add-mod' g k in
      let far = ap (steps (g / k)) step ∙ steps-down (g / k) k in
      omega (arith, ints, parts, far, start, is);
  nobody = λ j less.
      let parts = whole-parts g k j some less in
      let far = ap (steps j) step ∙ steps-down j k in
      behind.nobody (n +ℤ steps j s) (omega (arith, ints, parts, far, start, some));
}

-- a range from the number that is reached on, to the end that is enough, names the same children
pub bounds-alike : (scope : Items) (start step end first last : ℤ) → step ≢ pos 0 → IsReached scope start step first
    → IsEnough scope step end last → NameAlike scope (items (range first step last)) (items (range start step end))
bounds-alike scope start step end first last some reached enough = record {
  alike = λ below w env along so_far s.
      ap (λ l. children_by below w env along scope l so_far s) (items-range first step last)
      ∙ cut below w env along scope step end last some enough (length (numbers_left (Some first) step end)) first so_far
      s (omega arith)
      ∙ ap (λ z. children_by below w env along scope (numbers_left (Some z) step end) so_far s) reached.is
      ∙ skip below w env along scope reached.count start step end so_far s some reached.nobody
      ∙ ap (λ l. children_by below w env along scope l so_far s) (sym (items-range start step end));
}
