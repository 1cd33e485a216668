-- The numbers of the edges that pass a test.
use Rattle.std.proofs.Common.{◌≡◌, ℕ, zero, suc, ◌+◌, ◌<◌, Bool, true, false, cond, List, [], ◌∷◌, length, get_or, filter, refl, sym, ap, ◌∙◌, arith, true≢false}
use Rattle.std.specs.Prelude.{if◌then◌else◌}
use Rattle.std.specs.List.{AllByRecursion}
use Rattle.scad_geom.specs.declared.point.Edge.{Edge}
use Rattle.scad_geom.specs.declared.level.Level.{Level}
use Rattle.scad_geom.specs.declared.level.LeafEdge.{LeafEdge}
use Rattle.slice_bundles.specs.Bundles.{no_edge, edge_at, reaches, reaching}
use Rattle.slice_bundles.specs.Touching.{touches, touching}
use Rattle.slice_bundles.specs.Starts.{numbers_from}
use Rattle.slice_bundles.specs.Times.{times}
use Rattle.slice_bundles.proofs.Times.{times_here, times_other, other_number, AreStrict, standing}

-- the numbers of the edges that pass a test, counted from the first number on
abbrev pub numbers_where : (Edge → Bool) → ℕ → List LeafEdge → List ℕ
numbers_where p k [] = []
numbers_where p k (e ∷ es) = if p e.edge then k ∷ numbers_where p (k + 1) es else numbers_where p (k + 1) es

pub touching_is : (at : Level) (k : ℕ) (es : List LeafEdge)
    → touching k es at ≡ numbers_where (λ e. touches e at) k es
touching_is at k [] = refl
touching_is at k (e ∷ es) = ap (λ (ks : List ℕ). if touches e.edge at then k ∷ ks else ks)
    (touching_is at (k + 1) es)

pub reaching_is : (l u : Level) (k : ℕ) (es : List LeafEdge)
    → reaching k es l u ≡ numbers_where (λ e. reaches e l u) k es
reaching_is l u k [] = refl
reaching_is l u k (e ∷ es) = ap (λ (ks : List ℕ). if reaches e.edge l u then k ∷ ks else ks)
    (reaching_is l u (k + 1) es)

pub numbers_are : (k : ℕ) (es : List LeafEdge) → numbers_from k es ≡ numbers_where (λ e. true) k es
numbers_are k [] = refl
numbers_are k (e ∷ es) = ap (λ (ks : List ℕ). k ∷ ks) (numbers_are (k + 1) es)

-- edges that stand in a list from a number on
abbrev pub StandFrom : List LeafEdge → ℕ → List LeafEdge → Type 0
StandFrom all k es = (i : ℕ) → i < length es
    → (k + i < length all) × (get_or all (k + i) no_edge ≡ get_or es i no_edge)

pub stand_from_first : (es : List LeafEdge) → StandFrom es 0 es
stand_from_first es i h = let z : 0 + i ≡ i = omega arith in rw z (h, refl)

pub next_from : (all : List LeafEdge) (k : ℕ) (e : LeafEdge) (es : List LeafEdge) → StandFrom all k (e ∷ es)
    → StandFrom all (k + 1) es
next_from all k e es h i o = let t = h (suc i) (omega arith) in let q : k + suc i ≡ k + 1 + i = omega arith in rw q at t

pub first_from : (all : List LeafEdge) (k : ℕ) (e : LeafEdge) (es : List LeafEdge) → StandFrom all k (e ∷ es)
    → (k < length all) × (get_or all k no_edge ≡ e)
first_from all k e es h = let t = h zero (omega arith) in let z : k + zero ≡ k = omega arith in rw z at t

-- of the numbers that pass a weaker test those that pass this one
pub filtered : (p q : Edge → Bool) → ((e : Edge) → p e ≡ true → q e ≡ true)
    → (all : List LeafEdge) (k : ℕ)
    (es : List LeafEdge) → StandFrom all k es
    → filter (λ j. p (edge_at all j)) (numbers_where q k es) ≡ numbers_where p k es
filtered p q h all k [] f = refl
filtered p q h all k (e ∷ es) f =
    by_tests (p e.edge) (q e.edge) refl refl (ap (λ (e : LeafEdge). p e.edge) (first_from all k e es f).1)
    (filtered p q h all (k + 1) es (next_from all k e es f))
  where
    more : List ℕ
    more = filter (λ j. p (edge_at all j)) (numbers_where q (k + 1) es)

    by_tests : (s t : Bool) → p e.edge ≡ s → q e.edge ≡ t → p (edge_at all k) ≡ p e.edge
        → filter (λ j. p (edge_at all j)) (numbers_where q (k + 1) es) ≡ numbers_where p (k + 1) es
        → filter (λ j. p (edge_at all j))
        (if t then k ∷ numbers_where q (k + 1) es else numbers_where q (k + 1) es)
        ≡ (if s then k ∷ numbers_where p (k + 1) es else numbers_where p (k + 1) es)
    by_tests true true a b c i = ap (λ (t : Bool). cond t (k ∷ more) more) (c ∙ a)
        ∙ ap (λ (ks : List ℕ). k ∷ ks) i
    by_tests true false a b c i = absurd (true≢false (sym (h e.edge a) ∙ b))
    by_tests false true a b c i = ap (λ (t : Bool). cond t (k ∷ more) more) (c ∙ a) ∙ i
    by_tests false false a b c i = i

-- each is the number of an edge that passes the test
pub all_where : (p : Edge → Bool) (all : List LeafEdge) (k : ℕ) (es : List LeafEdge) → StandFrom all k es
    → AllByRecursion (λ j. (j < length all) × (p (edge_at all j) ≡ true)) (numbers_where p k es)
all_where p all k [] f = tt
all_where p all k (e ∷ es) f = by_test (p e.edge) refl (first_from all k e es f)
    (all_where p all (k + 1) es (next_from all k e es f))
  where
    by_test : (t : Bool) → p e.edge ≡ t → (k < length all) × (get_or all k no_edge ≡ e)
        → AllByRecursion (λ j. (j < length all) × (p (edge_at all j) ≡ true)) (numbers_where p (k + 1) es)
        → AllByRecursion (λ j. (j < length all) × (p (edge_at all j) ≡ true))
        (if t then k ∷ numbers_where p (k + 1) es else numbers_where p (k + 1) es)
    by_test true a c r = ((c.0, ap (λ (e : LeafEdge). p e.edge) c.1 ∙ a), r)
    by_test false a c r = r

-- they rise
pub from_number : (p : Edge → Bool) (n k : ℕ) (es : List LeafEdge) → n < k
    → AllByRecursion (λ j. n < j) (numbers_where p k es)
from_number p n k [] h = tt
from_number p n k (e ∷ es) h = by_test (p e.edge) (from_number p n (k + 1) es (omega arith))
  where
    by_test : (t : Bool) → AllByRecursion (λ j. n < j) (numbers_where p (k + 1) es)
        → AllByRecursion (λ j. n < j) (if t then k ∷ numbers_where p (k + 1) es else numbers_where p (k + 1) es)
    by_test true r = (h, r)
    by_test false r = r

pub strict_where : (p : Edge → Bool) (k : ℕ) (es : List LeafEdge) → AreStrict (numbers_where p k es)
strict_where p k [] = tt
strict_where p k (e ∷ es) = by_test (p e.edge) (strict_where p (k + 1) es)
  where
    by_test : (t : Bool) → AreStrict (numbers_where p (k + 1) es)
        → AreStrict (if t then k ∷ numbers_where p (k + 1) es else numbers_where p (k + 1) es)
    by_test true r = (from_number p k (k + 1) es (omega arith), r)
    by_test false r = r

-- each stands once where its edge passes the test, and not at all elsewhere
once_from : (p : Edge → Bool) (k : ℕ) (es : List LeafEdge) (i : ℕ) → i < length es → p (edge_at es i) ≡ true
    → times (k + i) (numbers_where p k es) ≡ 1
once_from p k [] i h a = absurd (omega arith)
once_from p k (e ∷ es) zero h a =
    let z : k + zero ≡ k = omega arith in
    rw z (ap (λ (t : Bool). times k (if t then k ∷ numbers_where p (k + 1) es else numbers_where p (k + 1) es)) a
    ∙ times_here k (numbers_where p (k + 1) es) ∙ ap (λ (n : ℕ). 1 + n) (none k (numbers_where p (k + 1) es)
    (from_number p k (k + 1) es (omega arith))))
  where
    none : (n : ℕ) (ks : List ℕ) → AllByRecursion (λ j. n < j) ks → times n ks ≡ 0
    none n [] h = refl
    none n (j ∷ ks) h = let h0 = h.0 in times_other n j ks (other_number j n (λ q. omega arith)) ∙ none n ks h.1
once_from p k (e ∷ es) (suc i) h a =
    let q : k + suc i ≡ k + 1 + i = omega arith in
    rw q (by_test (p e.edge) (once_from p (k + 1) es i (omega arith) a))
  where
    by_test : (t : Bool) → times (k + 1 + i) (numbers_where p (k + 1) es) ≡ 1
        → times (k + 1 + i) (if t then k ∷ numbers_where p (k + 1) es else numbers_where p (k + 1) es) ≡ 1
    by_test true r = times_other (k + 1 + i) k (numbers_where p (k + 1) es)
        (other_number k (k + 1 + i) (λ q. omega arith)) ∙ r
    by_test false r = r

pub once_where : (p : Edge → Bool) (es : List LeafEdge) (n : ℕ) → n < length es → p (edge_at es n) ≡ true
    → times n (numbers_where p 0 es) ≡ 1
once_where p es n h a = let z : 0 + n ≡ n = omega arith in let r = once_from p 0 es n h a in rw z at r

pub none_where : (p : Edge → Bool) (es : List LeafEdge) (n : ℕ)
    → ((n < length es) → p (edge_at es n) ≡ true → ⊥) → times n (numbers_where p 0 es) ≡ 0
none_where p es n h = by_count (times n (numbers_where p 0 es)) refl
  where
    by_count : (m : ℕ) → times n (numbers_where p 0 es) ≡ m → m ≡ 0
    by_count zero e = refl
    by_count (suc m) e =
        let s = standing (λ j. (j < length es) × (p (edge_at es j) ≡ true)) n (numbers_where p 0 es)
        (all_where p es 0 es (stand_from_first es)) (omega (arith, e)) in
        absurd (h s.0 s.1)
