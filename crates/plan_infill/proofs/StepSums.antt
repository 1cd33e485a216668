-- What sorted steps sum to from one place to the next, and how far the runs that they say go.
use Rattle.std.proofs.Common.{◌≡◌, ◌⊎◌, inl, inr, ℕ, zero, suc, ◌+◌, ◌<◌, ◌≤◌, Bool, true, false, not, ◌&&◌, List, [], ◌∷◌, length, get_or, take, ◌++◌, refl, sym, ap, ap₂, ◌∙◌, subst, arith, add-one, ℤ, pos, ◌+ℤ◌, ◌-ℤ◌, ◌<ℤ◌, unsigned_abs, Option, None}
use lib.Signed.{◌≤ℤ◌}
use Rattle.std.specs.Prelude.{int_le, if◌then◌else◌, All}
use Rattle.std.specs.List.{AllByRecursion}
use Rattle.std.proofs.lemmas.Int.{ints}
use Rattle.std.proofs.lemmas.List.Elements.{recursion_from_All}
use Rattle.std.proofs.lemmas.Bool.{cases_lt, both_ways}
use Rattle.scad_geom.specs.Limits.{coordinate_limit}
use Rattle.scad_geom.specs.Sign.{is_zero}
use Rattle.scad_geom.proofs.Rising.{by_order, order}
use Rattle.plan_infill.specs.declared.run.Run.{Run}
use Rattle.plan_infill.specs.declared.step.Step.{Step}
use Rattle.plan_infill.specs.Steps.{up_to, all_of, IsStep, AreInOrder}
use Rattle.plan_infill.specs.Sweep.{is_deep_at, AreStretchesBefore, IsOpen, IsOneValue, HoldsWithin, opened, closed}
use Rattle.plan_infill.proofs.Stretches.{none_before, none_open, goes_on}

counted : (f : Step → ℤ) (z : ℤ) (s : Step) → s.at ≤ℤ z → (if int_le s.at z then f s else pos 0) ≡ f s
counted f z s h = let t : int_le s.at z ≡ true = sym (omega (arith, ints, h)) in rw t refl

not_counted : (f : Step → ℤ) (z : ℤ) (s : Step) → z <ℤ s.at
    → (if int_le s.at z then f s else pos 0) ≡ pos 0
not_counted f z s h = let t : int_le s.at z ≡ false = sym (omega (arith, ints, h)) in rw t refl

-- before all steps
up_to-before : (f : Step → ℤ) (z : ℤ) (ss : List Step) → AllByRecursion (λ s. z <ℤ s.at) ss
    → up_to f z ss ≡ pos 0
up_to-before f z [] h = refl
up_to-before f z (s ∷ ss) h = let a = not_counted f z s h.0 in let r = up_to-before f z ss h.1 in omega (arith, ints, a, r)

all_after : (z : ℤ) (s : Step) (ss : List Step) → z <ℤ s.at → AllByRecursion (λ t. s.at ≤ℤ t.at) ss
    → AllByRecursion (λ t. z <ℤ t.at) ss
all_after z s [] h o = tt
all_after z s (t ∷ ss) h o = (let a = o.0 in omega (arith, ints, a, h), all_after z s ss h o.1)

reaches : (s : Step) (ss : List Step) (j : ℕ) (d : Step) → AllByRecursion (λ t. s.at ≤ℤ t.at) ss
    → j < length ss → s.at ≤ℤ (get_or ss j d).at
reaches s [] j d o h = absurd (omega arith)
reaches s (t ∷ ss) zero d o h = o.0
reaches s (t ∷ ss) (suc j) d o h = reaches s ss j d o.1 (omega arith)

-- from a step on and before the next place the sum is that of the steps so far
pub up_to-here : (f : Step → ℤ) (z : ℤ) (ss : List Step) (i : ℕ) (d : Step) → AreInOrder ss → i < length ss
    → (get_or ss i d).at ≤ℤ z → (suc i < length ss → z <ℤ (get_or ss (suc i) d).at)
    → up_to f z ss ≡ all_of f (take (suc i) ss)
up_to-here f z [] i d o h a b = absurd (omega arith)
up_to-here f z (s ∷ []) zero d o h a b = let c = counted f z s a in omega (arith, ints, c)
up_to-here f z (s ∷ []) (suc i) d o h a b = absurd (omega arith)
up_to-here f z (s ∷ (t ∷ ss)) zero d o h a b =
    let c = counted f z s a in
    let n : z <ℤ t.at = b (omega arith) in
    let r = up_to-before f z (t ∷ ss) (n, all_after z t ss n o.1.0) in
    omega (arith, ints, c, r)
up_to-here f z (s ∷ (t ∷ ss)) (suc i) d o h a b =
    let l = reaches s (t ∷ ss) i d o.0 (omega arith) in
    let c = counted f z s (omega (arith, ints, l, a)) in
    let r = up_to-here f z (t ∷ ss) i d o.1 (omega arith) a (λ k. b (omega arith)) in
    omega (arith, ints, c, r)

-- ---- how far
low_sum : (z : ℤ) (ss : List Step) → z <ℤ (pos 0 -ℤ pos coordinate_limit) → AllByRecursion IsStep ss
    → up_to (λ s. s.turns) z ss ≡ pos 0
low_sum z [] h k = refl
low_sum z (s ∷ ss) h k = let r = low_sum z ss h k.1 in let a = one k.0.place in omega (arith, ints, r, a)
  where
    one : (s.turns ≡ pos 0) ⊎ (unsigned_abs s.at ≤ coordinate_limit)
        → (if int_le s.at z then s.turns else pos 0) ≡ pos 0
    one (inl e) = by_test (int_le s.at z)
      where
        by_test : (t : Bool) → (if t then s.turns else pos 0) ≡ pos 0
        by_test true = e
        by_test false = refl
    one (inr w) = not_counted (λ s. s.turns) z s (omega (arith, ints, w, h))

high_sum : (z : ℤ) (ss : List Step) → pos coordinate_limit ≤ℤ z → AllByRecursion IsStep ss
    → up_to (λ s. s.turns) z ss ≡ all_of (λ s. s.turns) ss
high_sum z [] h k = refl
high_sum z (s ∷ ss) h k = let r = high_sum z ss h k.1 in let a = one k.0.place in omega (arith, ints, r, a)
  where
    one : (s.turns ≡ pos 0) ⊎ (unsigned_abs s.at ≤ coordinate_limit)
        → (if int_le s.at z then s.turns else pos 0) ≡ s.turns
    one (inl e) = by_test (int_le s.at z)
      where
        by_test : (t : Bool) → (if t then s.turns else pos 0) ≡ s.turns
        by_test true = refl
        by_test false = sym e
    one (inr w) = counted (λ s. s.turns) z s (omega (arith, ints, w, h))

no_turns : (ss : List Step) (z : ℤ) → up_to (λ s. s.turns) z ss ≡ pos 0 → is_deep_at ss z ≡ false
no_turns ss z e = rw e refl

pub holds_within : (ss : List Step) → All IsStep ss → all_of (λ s. s.turns) ss ≡ pos 0
    → HoldsWithin (is_deep_at ss)
holds_within ss k e z h =
    let r = recursion_from_All IsStep ss k in
    by_order (order (pos 0 -ℤ pos coordinate_limit) z)
    (λ a. by_order (order (pos coordinate_limit) z)
    (λ b. absurd (both_ways _ (no_turns ss z (high_sum z ss b r ∙ e)) h))
    (λ b. omega (arith, ints, a, b)))
    (λ a. absurd (both_ways _ (no_turns ss z (low_sum z ss a r)) h))

-- ---- the sums so far
all_of-size : (f : Step → ℤ) → ((s : Step) → IsStep s → unsigned_abs (f s) ≤ 1)
    → (ss : List Step) (i : ℕ) → AllByRecursion IsStep ss → unsigned_abs (all_of f (take i ss)) ≤ i
all_of-size f g [] zero k = omega (arith, ints)
all_of-size f g [] (suc i) k = omega (arith, ints)
all_of-size f g (s ∷ ss) zero k = omega (arith, ints)
all_of-size f g (s ∷ ss) (suc i) k = let r = all_of-size f g ss i k.1 in let a = g s k.0 in omega (arith, ints, r, a)

pub turns-size : (ss : List Step) (i : ℕ) → All IsStep ss
    → unsigned_abs (all_of (λ s. s.turns) (take i ss)) ≤ i
turns-size ss i k = all_of-size (λ s. s.turns) (λ s h. h.turns) ss i (recursion_from_All IsStep ss k)

pub near-size : (ss : List Step) (i : ℕ) → All IsStep ss → unsigned_abs (all_of (λ s. s.near) (take i ss)) ≤ i
near-size ss i k = all_of-size (λ s. s.near) (λ s h. h.near) ss i (recursion_from_All IsStep ss k)

all_of-more : (f : Step → ℤ) (ss : List Step) (i : ℕ) (d : Step) → i < length ss
    → all_of f (take (suc i) ss) ≡ all_of f (take i ss) +ℤ f (get_or ss i d)
all_of-more f [] i d h = absurd (omega arith)
all_of-more f (s ∷ ss) zero d h = omega (arith, ints)
all_of-more f (s ∷ ss) (suc i) d h = let r = all_of-more f ss i d (omega arith) in omega (arith, ints, r)

-- ---- what the sweep keeps
pub record Swept (ss : List Step) (least i : ℕ) (turns near : ℤ) (since : Option ℤ) (runs : List Run) : Type 0 where
  pub place : ℤ
  pub next : (d : Step) → i < length ss → place ≡ (get_or ss i d).at
  pub behind : length ss ≤ i → (z : ℤ) → (place -ℤ pos 1) ≤ℤ z → is_deep_at ss z ≡ false
  pub before : AreStretchesBefore (is_deep_at ss) least place runs
  pub open_there : IsOpen (is_deep_at ss) place since
  pub turns_so_far : turns ≡ all_of (λ s. s.turns) (take i ss)
  pub near_so_far : near ≡ all_of (λ s. s.near) (take i ss)

first_place : (ss : List Step) → AreInOrder ss → (place : ℤ)
    → ((d : Step) → 0 < length ss → place ≡ (get_or ss 0 d).at) → (z : ℤ) → z <ℤ place
    → is_deep_at ss z ≡ false
first_place [] o place e z h = refl
first_place (s ∷ ss) o place e z h =
    let n : z <ℤ s.at = (let a = e s (omega arith) in omega (arith, ints, a, h)) in
    no_turns (s ∷ ss) z (up_to-before (λ t. t.turns) z (s ∷ ss) (n, all_after z s ss n o.0))

pub swept_none : (ss : List Step) (least : ℕ) → AreInOrder ss → Swept ss least 0 (pos 0) (pos 0) None []
swept_none [] least o = record {
  place = pos 0;
  next = λ d h. absurd (omega arith);
  behind = λ h z k. refl;
  before = none_before (is_deep_at []) least (pos 0) (λ z h. refl);
  open_there = refl;
  turns_so_far = refl;
  near_so_far = refl;
}
swept_none (s ∷ ss) least o = record {
  place = s.at;
  next = λ d h. refl;
  behind = λ h. absurd (omega arith);
  before = none_before (is_deep_at (s ∷ ss)) least s.at (first_place (s ∷ ss) o s.at (λ d h. refl));
  open_there = none_open (is_deep_at (s ∷ ss)) least s.at (first_place (s ∷ ss) o s.at (λ d h. refl));
  turns_so_far = refl;
  near_so_far = refl;
}

get_or_same : (ss : List Step) (i : ℕ) (d e : Step) → i < length ss → get_or ss i d ≡ get_or ss i e
get_or_same [] i d e h = absurd (omega arith)
get_or_same (s ∷ ss) zero d e h = refl
get_or_same (s ∷ ss) (suc i) d e h = get_or_same ss i d e (omega arith)

take_all : (ss : List Step) (i : ℕ) → length ss ≤ i → take i ss ≡ ss
take_all [] zero h = refl
take_all [] (suc i) h = refl
take_all (s ∷ ss) zero h = absurd (omega arith)
take_all (s ∷ ss) (suc i) h = ap (λ (xs : List Step). s ∷ xs) (take_all ss i (omega arith))

next_after : (ss : List Step) (i : ℕ) (d : Step) → AreInOrder ss → suc i < length ss
    → (get_or ss i d).at ≤ℤ (get_or ss (suc i) d).at
next_after [] i d o h = absurd (omega arith)
next_after (s ∷ []) i d o h = absurd (omega arith)
next_after (s ∷ (t ∷ ss)) zero d o h = o.0.0
next_after (s ∷ (t ∷ ss)) (suc i) d o h = next_after (t ∷ ss) i d o.1 (omega arith)

-- the sums with one step more
more_so_far : (f : Step → ℤ) (ss : List Step) (i : ℕ) (d : Step) (x y : ℤ) → i < length ss
    → y ≡ x +ℤ f (get_or ss i d) → x ≡ all_of f (take i ss) → y ≡ all_of f (take (suc i) ss)
more_so_far f ss i d x y h e k = let m = all_of-more f ss i d h in omega (arith, ints, e, k, m)

-- at a place where more steps follow nothing is said yet
swept_there : (ss : List Step) (least i : ℕ) (d : Step) (turns near t n : ℤ) (since : Option ℤ) (runs : List Run)
    → AreInOrder ss → i < length ss
    → ((d : Step) → (suc i < length ss) × ((get_or ss (suc i) d).at ≤ℤ (get_or ss i d).at))
    → t ≡ turns +ℤ (get_or ss i d).turns → n ≡ near +ℤ (get_or ss i d).near
    → Swept ss least i turns near since runs → Swept ss least (suc i) t n since runs
swept_there ss least i d turns near t n since runs o h m p q k = record {
  place = k.place;
  next = λ d' h'.
      let a = next_after ss i d' o (m d').0 in
      let b = (m d').1 in
      let e = k.next d' h in
      omega (arith, ints, a, b, e);
  behind = λ h'. absurd (let a = (m d).0 in omega (arith, a, h'));
  before = k.before;
  open_there = k.open_there;
  turns_so_far = more_so_far (λ s. s.turns) ss i d turns t h p k.turns_so_far;
  near_so_far = more_so_far (λ s. s.near) ss i d near n h q k.near_so_far;
}

pub swept_more : (ss : List Step) (least i : ℕ) (d : Step) (turns near t n : ℤ) (since : Option ℤ)
    (runs : List Run) → AreInOrder ss → i < length ss
    → ((d : Step) → (i + 1 < length ss) × ((get_or ss (i + 1) d).at ≤ℤ (get_or ss i d).at))
    → t ≡ turns +ℤ (get_or ss i d).turns → n ≡ near +ℤ (get_or ss i d).near
    → Swept ss least i turns near since runs → Swept ss least (i + 1) t n since runs
swept_more ss least i d turns near t n since runs o h m p q k
    = rw add-one (swept_there ss least i d turns near t n since runs o h (rw add-one at m) p q k)

-- from the last step at a place on the points are deep or aren't, up to the next place
value_here : (ss : List Step) (i : ℕ) (d : Step) (t n z : ℤ) → AreInOrder ss → i < length ss
    → t ≡ all_of (λ s. s.turns) (take (suc i) ss) → n ≡ all_of (λ s. s.near) (take (suc i) ss)
    → (get_or ss i d).at ≤ℤ z → (suc i < length ss → z <ℤ (get_or ss (suc i) d).at)
    → is_deep_at ss z ≡ (not (is_zero t) && is_zero n)
value_here ss i d t n z o h p q a b =
    let u = up_to-here (λ s. s.turns) z ss i d o h a b ∙ sym p in
    let v = up_to-here (λ s. s.near) z ss i d o h a b ∙ sym q in
    ap₂ (λ (x y : ℤ). not (is_zero x) && is_zero y) u v

pub swept_last : (ss : List Step) (least i : ℕ) (d : Step) (turns near t n : ℤ) (since since' : Option ℤ)
    (runs runs' : List Run) → AreInOrder ss → all_of (λ s. s.turns) ss ≡ pos 0 → i < length ss
    → ((d : Step) → i + 1 < length ss → (get_or ss i d).at <ℤ (get_or ss (i + 1) d).at)
    → t ≡ turns +ℤ (get_or ss i d).turns → n ≡ near +ℤ (get_or ss i d).near
    → since' ≡ opened (not (is_zero t) && is_zero n) since (get_or ss i d).at
    → runs' ≡ runs ++ closed (not (is_zero t) && is_zero n) since (get_or ss i d).at least
    → Swept ss least i turns near since runs → Swept ss least (i + 1) t n since' runs'
swept_last ss least i d turns near t n since since' runs runs' o w h m p q es er k
    = rw add-one (by_cases (cases_lt (suc i) (length ss)))
  where
    t_is : t ≡ all_of (λ s. s.turns) (take (suc i) ss)
    t_is = more_so_far (λ s. s.turns) ss i d turns t h p k.turns_so_far

    n_is : n ≡ all_of (λ s. s.near) (take (suc i) ss)
    n_is = more_so_far (λ s. s.near) ss i d near n h q k.near_so_far

    here : k.place ≡ (get_or ss i d).at
    here = k.next d h

    gone_on : (until : ℤ) → k.place <ℤ until → (suc i < length ss → until ≤ℤ (get_or ss (suc i) d).at)
        → AreStretchesBefore (is_deep_at ss) least until runs' × IsOpen (is_deep_at ss) until since'
    gone_on until a b =
        let v : IsOneValue (is_deep_at ss) (not (is_zero t) && is_zero n) k.place until = λ z f g. value_here ss i d t n z o h t_is n_is (omega (arith, ints, here, f)) (λ l. let c = b l in omega (arith, ints, c, g)) in
        let r = goes_on (is_deep_at ss) least (not (is_zero t) && is_zero n) k.place until since runs a v k.open_there k.before in (
          subst (AreStretchesBefore (is_deep_at ss) least until)
              (sym (er ∙ ap (λ (z : ℤ). runs ++ closed (not (is_zero t) && is_zero n) since z least) (sym here)))
              r.0,
          subst (IsOpen (is_deep_at ss) until)
              (sym (es ∙ ap (λ (z : ℤ). opened (not (is_zero t) && is_zero n) since z) (sym here))) r.1,
        )

    by_cases : (suc i < length ss) ⊎ (length ss ≤ suc i) → Swept ss least (suc i) t n since' runs'
    by_cases (inl l) =
        let a : k.place <ℤ (get_or ss (suc i) d).at = (let c = (rw add-one at m d l) in omega (arith, ints, here, c)) in
        let g = gone_on (get_or ss (suc i) d).at a (λ l. omega (arith, ints)) in
        record {
          place = (get_or ss (suc i) d).at;
          next = λ d' h'. ap (λ (s : Step). s.at) (get_or_same ss (suc i) d d' l);
          behind = λ h'. absurd (omega (arith, l, h'));
          before = g.0;
          open_there = g.1;
          turns_so_far = t_is;
          near_so_far = n_is;
        }
    by_cases (inr l) =
        let g = gone_on (k.place +ℤ pos 1) (omega (arith, ints)) (λ h'. absurd (omega (arith, l, h'))) in
        record {
          place = k.place +ℤ pos 1;
          next = λ d' h'. absurd (omega (arith, l, h'));
          behind = λ h' z f. no_turns ss z (up_to-here (λ s. s.turns) z ss i d o h (omega (arith, ints, here, f))
              (λ h'. absurd (omega (arith, l, h'))) ∙ ap (all_of (λ s. s.turns)) (take_all ss (suc i) l) ∙ w);
          before = g.0;
          open_there = g.1;
          turns_so_far = t_is;
          near_so_far = n_is;
        }
