-- Trees of sides from their parts.
use Rattle.std.proofs.Common.{◌≡◌, ℕ, ◌<◌, ◌≤◌, zero, suc, [], ◌∷◌, ◌++◌, List, length, ap, ap₂, sym, subst, ◌∙◌, arith, rules}
use Rattle.std.specs.Prelude.{All, Vec}
use Rattle.std.specs.List.{Any, AllByRecursion}
use Rattle.std.specs.declared.boxed.Box.{Box}
use Rattle.std.specs.Global.{Global}
use Rattle.std.proofs.lemmas.List.{length-append}
use Rattle.std.proofs.lemmas.List.Elements.{All-from_recursion, recursion_from_All, All-append, All-weaker}
use Rattle.scad_geom.specs.declared.point.Edge.{Edge}
use Rattle.plan_verify.specs.declared.extent.Extent.{Extent}
use Rattle.plan_verify.specs.declared.index.Tree.{Tree, Few, Many, Many', the_lemmas}
use Rattle.plan_verify.specs.Extent.{IsIn, Covers}
use Rattle.plan_verify.specs.Index.{sides_in, extent_in, Node, nodes_in, IsNode, IsBoxed}
use Rattle.plan_verify.proofs.Extents.{in_covered}

-- ---- the views of a tree of two
pub sides_many : (x : Extent) (b c : Box Tree Global) → sides_in (Many x b c) ≡ sides_in b.value ++ sides_in c.value
sides_many x b c = search (rules, the_lemmas)

pub extent_many : (x : Extent) (b c : Box Tree Global) → extent_in (Many x b c) ≡ x
extent_many x b c = search (rules, the_lemmas)

pub nodes_many : (x : Extent) (b c : Box Tree Global) → nodes_in (Many x b c)
    ≡ record { extent = x; sides = sides_in b.value ++ sides_in c.value; few = 0 }
    ∷ (nodes_in b.value ++ nodes_in c.value)
nodes_many x b c = search (rules, the_lemmas)

-- ---- lists
pub both_by_recursion : {X : Type 0} (P : X → Type 0) (xs ys : List X) → AllByRecursion P xs → AllByRecursion P ys
    → AllByRecursion P (xs ++ ys)
both_by_recursion P [] ys h k = k
both_by_recursion P (x ∷ xs) ys h k = (h.0, both_by_recursion P xs ys h.1 k)

pub front_by_recursion : {X : Type 0} (P : X → Type 0) (xs ys : List X) → AllByRecursion P (xs ++ ys)
    → AllByRecursion P xs
front_by_recursion P [] ys h = tt
front_by_recursion P (x ∷ xs) ys h = (h.0, front_by_recursion P xs ys h.1)

pub back_by_recursion : {X : Type 0} (P : X → Type 0) (xs ys : List X) → AllByRecursion P (xs ++ ys)
    → AllByRecursion P ys
back_by_recursion P [] ys h = h
back_by_recursion P (x ∷ xs) ys h = back_by_recursion P xs ys h.1

pub all_front : {X : Type 0} (P : X → Type 0) (xs ys : List X) → All P (xs ++ ys) → All P xs
all_front P xs ys h = All-from_recursion P xs (front_by_recursion P xs ys (recursion_from_All P (xs ++ ys) h))

pub all_back : {X : Type 0} (P : X → Type 0) (xs ys : List X) → All P (xs ++ ys) → All P ys
all_back P xs ys h = All-from_recursion P ys (back_by_recursion P xs ys (recursion_from_All P (xs ++ ys) h))

pub any_front : {X : Type 0} (P : X → Type 0) (xs ys : List X) → Any P xs → Any P (xs ++ ys)
any_front P [] ys (k, y, l, e, p) = absurd (omega (arith, l))
any_front P (x ∷ xs) ys (zero, y, l, e, p) = (0, y, omega arith, e, p)
any_front P (x ∷ xs) ys (suc k, y, l, e, p) =
    let r = any_front P xs ys (k, y, omega (arith, l), e, p) in
    let m = r.2 in
    (suc r.0, r.1, omega (arith, m), r.3, r.4)

pub any_back : {X : Type 0} (P : X → Type 0) (xs ys : List X) → Any P ys → Any P (xs ++ ys)
any_back P [] ys a = a
any_back P (x ∷ xs) ys a =
    let r = any_back P xs ys a in
    let m = r.2 in
    (suc r.0, r.1, omega (arith, m), r.3, r.4)

-- ---- a sound tree
pub root_holds : (t : Tree) → IsBoxed t → All (IsIn (extent_in t)) (sides_in t)
root_holds (Few x v) h = h.0.holds
root_holds (Many' x box first box' second) h = h.0.holds

pub boxed_few : (x : Extent) (v : Vec Edge Global) → All (IsIn x) v.items → length v.items ≤ 8
    → IsBoxed (Few x v)
boxed_few x v h l = (record { holds = h; few = l }, tt)

pub leaf_few : (x : Extent) (v : Vec Edge Global) → IsBoxed (Few x v) → length v.items ≤ 8
leaf_few x v h = h.0.few

pub boxed_many : (x : Extent) (b c : Box Tree Global) → Covers x (extent_in b.value) → Covers x (extent_in c.value)
    → IsBoxed b.value → IsBoxed c.value → IsBoxed (Many x b c)
boxed_many x b c k l h i = subst (λ (ns : List Node). AllByRecursion IsNode ns) (sym (nodes_many x b c)) (
  record {
    holds = All-append (IsIn x) (sides_in b.value) (sides_in c.value)
        (All-weaker (IsIn (extent_in b.value)) (IsIn x) (λ e o. in_covered x (extent_in b.value) e k o)
        (sides_in b.value)
        (root_holds b.value h))
        (All-weaker (IsIn (extent_in c.value)) (IsIn x) (λ e o. in_covered x (extent_in c.value) e l o)
        (sides_in c.value)
        (root_holds c.value i));
    few = omega arith;
  },
  both_by_recursion IsNode (nodes_in b.value) (nodes_in c.value) h i,
)

pub boxed_first : (x : Extent) (b c : Box Tree Global) → IsBoxed (Many x b c) → IsBoxed b.value
boxed_first x b c h = front_by_recursion IsNode (nodes_in b.value) (nodes_in c.value)
    (subst (λ (ns : List Node). AllByRecursion IsNode ns) (nodes_many x b c) h).1

pub boxed_second : (x : Extent) (b c : Box Tree Global) → IsBoxed (Many x b c) → IsBoxed c.value
boxed_second x b c h = back_by_recursion IsNode (nodes_in b.value) (nodes_in c.value)
    (subst (λ (ns : List Node). AllByRecursion IsNode ns) (nodes_many x b c) h).1

pub many_boxed : (x y z : Extent) (b c : Box Tree Global) (f s : Tree) → Covers x y → Covers x z
    → y ≡ extent_in f
    → z ≡ extent_in s → b.value ≡ f → c.value ≡ s → IsBoxed f → IsBoxed s → IsBoxed (Many x b c)
many_boxed x y z b c f s k l eb ec first second h i = boxed_many x b c
    (subst (λ (e : Extent). Covers x e) (eb ∙ ap extent_in (sym first)) k)
    (subst (λ (e : Extent). Covers x e) (ec ∙ ap extent_in (sym second)) l)
    (subst (λ (y : Tree). IsBoxed y) (sym first) h) (subst (λ (y : Tree). IsBoxed y) (sym second) i)

-- ---- the few sides of a tree
pub sides_leaf : (t : Tree) (x : Extent) (v : Vec Edge Global) (es : List Edge) → t ≡ Few x v → es ≡ v.items
    → sides_in t ≡ es
sides_leaf t x v es is same = ap sides_in is ∙ sym same

pub few_leaf : (t : Tree) (x : Extent) (v : Vec Edge Global) (es : List Edge) → t ≡ Few x v → es ≡ v.items
    → IsBoxed t → length es ≤ 8
few_leaf t x v es is same h =
    subst (λ (fs : List Edge). length fs ≤ 8) (sym same) (leaf_few x v (subst (λ (y : Tree). IsBoxed y) is h))

-- ---- the trees of a tree of two
sides_of : (t : Tree) (x : Extent) (b c : Box Tree Global) → t ≡ Many x b c
    → sides_in t ≡ sides_in b.value ++ sides_in c.value
sides_of t x b c is = ap sides_in is ∙ sides_many x b c

pub first_boxed : (t f : Tree) (x : Extent) (b c : Box Tree Global) → t ≡ Many x b c → f ≡ b.value → IsBoxed t
    → IsBoxed f
first_boxed t f x b c is first h =
    subst (λ (y : Tree). IsBoxed y) (sym first) (boxed_first x b c (subst (λ (y : Tree). IsBoxed y) is h))

pub second_boxed : (t s : Tree) (x : Extent) (b c : Box Tree Global) → t ≡ Many x b c → s ≡ c.value
    → IsBoxed t → IsBoxed s
second_boxed t s x b c is second h =
    subst (λ (y : Tree). IsBoxed y) (sym second) (boxed_second x b c (subst (λ (y : Tree). IsBoxed y) is h))

pub all_first : (P : Edge → Type 0) (t f : Tree) (x : Extent) (b c : Box Tree Global) → t ≡ Many x b c
    → f ≡ b.value → All P (sides_in t) → All P (sides_in f)
all_first P t f x b c is first h = subst (λ (y : Tree). All P (sides_in y)) (sym first)
    (all_front P (sides_in b.value) (sides_in c.value) (subst (λ (es : List Edge). All P es) (sides_of t x b c is) h))

pub all_second : (P : Edge → Type 0) (t s : Tree) (x : Extent) (b c : Box Tree Global) → t ≡ Many x b c
    → s ≡ c.value → All P (sides_in t) → All P (sides_in s)
all_second P t s x b c is second h = subst (λ (y : Tree). All P (sides_in y)) (sym second)
    (all_back P (sides_in b.value) (sides_in c.value) (subst (λ (es : List Edge). All P es) (sides_of t x b c is) h))

pub few_first : (n : ℕ) (t f : Tree) (x : Extent) (b c : Box Tree Global) → t ≡ Many x b c → f ≡ b.value
    → length (sides_in t) < n → length (sides_in f) < n
few_first n t f x b c is first h =
    let e = ap (λ (es : List Edge). length es) (sides_of t x b c is) ∙ length-append (sides_in b.value) (sides_in c.value) in
    let g = ap (λ (y : Tree). length (sides_in y)) first in
    omega (arith, h, e, g)

pub few_second : (n : ℕ) (t s : Tree) (x : Extent) (b c : Box Tree Global) → t ≡ Many x b c → s ≡ c.value
    → length (sides_in t) < n → length (sides_in s) < n
few_second n t s x b c is second h =
    let e = ap (λ (es : List Edge). length es) (sides_of t x b c is) ∙ length-append (sides_in b.value) (sides_in c.value) in
    let g = ap (λ (y : Tree). length (sides_in y)) second in
    omega (arith, h, e, g)

pub sides_both : (t f s : Tree) (x : Extent) (b c : Box Tree Global) → t ≡ Many x b c → f ≡ b.value
    → s ≡ c.value → sides_in t ≡ sides_in f ++ sides_in s
sides_both t f s x b c is first second =
    sides_of t x b c is ∙ sym (ap₂ (λ (y z : Tree). sides_in y ++ sides_in z) first second)

pub all_both : (P : Edge → Type 0) (t f s : Tree) (x : Extent) (b c : Box Tree Global) → t ≡ Many x b c
    → f ≡ b.value → s ≡ c.value → All P (sides_in f) → All P (sides_in s) → All P (sides_in t)
all_both P t f s x b c is first second h k = subst (λ (es : List Edge). All P es)
    (sym (sides_both t f s x b c is first second)) (All-append P (sides_in f) (sides_in s) h k)

pub any_in_first : (P : Edge → Type 0) (t f : Tree) (x : Extent) (b c : Box Tree Global) → t ≡ Many x b c
    → f ≡ b.value → Any P (sides_in f) → Any P (sides_in t)
any_in_first P t f x b c is first a = subst (λ (es : List Edge). Any P es) (sym (sides_of t x b c is))
    (any_front P (sides_in b.value) (sides_in c.value) (subst (λ (y : Tree). Any P (sides_in y)) first a))

pub any_in_second : (P : Edge → Type 0) (t s : Tree) (x : Extent) (b c : Box Tree Global) → t ≡ Many x b c
    → s ≡ c.value → Any P (sides_in s) → Any P (sides_in t)
any_in_second P t s x b c is second a = subst (λ (es : List Edge). Any P es) (sym (sides_of t x b c is))
    (any_back P (sides_in b.value) (sides_in c.value) (subst (λ (y : Tree). Any P (sides_in y)) second a))

-- each tree of a tree of two has fewer rectangles
pub fewer_first : (t f : Tree) (x : Extent) (b c : Box Tree Global) → t ≡ Many x b c → f ≡ b.value
    → length (nodes_in f) < length (nodes_in t)
fewer_first t f x b c is first =
    let e = ap (λ (ns : List Node). length ns) (ap nodes_in is ∙ nodes_many x b c) in
    let both = length-append (nodes_in b.value) (nodes_in c.value) in
    let g = ap (λ (y : Tree). length (nodes_in y)) first in
    omega (arith, e, both, g)

pub fewer_second : (t s : Tree) (x : Extent) (b c : Box Tree Global) → t ≡ Many x b c → s ≡ c.value
    → length (nodes_in s) < length (nodes_in t)
fewer_second t s x b c is second =
    let e = ap (λ (ns : List Node). length ns) (ap nodes_in is ∙ nodes_many x b c) in
    let both = length-append (nodes_in b.value) (nodes_in c.value) in
    let g = ap (λ (y : Tree). length (nodes_in y)) second in
    omega (arith, e, both, g)
