-- Flat edges in order, and those that are joined.
use Rattle.std.proofs.Common.{◌≡◌, ℕ, ◌+◌, ◌<◌, ◌≤◌, true, false, Bool, cond, List, [], ◌∷◌, ◌++◌, length, get_or, drop, refl, sym, ap, ◌∙◌, arith, subst}
use lib.IntN.{ℤ}
use lib.Signed.{◌<ℤ◌, ◌≤ℤ◌, le_z}
use mir.Syntax.{w32}
use mir.Val.{to_z, of_z}
use Rattle.std.specs.Prelude.{if◌then◌else◌, int_lt, unsigned_abs}
use Rattle.std.proofs.lemmas.Int.{ints}
use Rattle.scad_geom.specs.Limits.{coordinate_limit}
use Rattle.std.specs.Int.{int_max}
use Rattle.std.specs.Ordering.{int_eq, is_lt}
use Rattle.std.specs.Cmp.{IsTotalOrder, IsStrictWeakOrder}
use Rattle.std.proofs.lemmas.Cmp.{int_cmp_total, then_total, on_total}
use Rattle.std.proofs.lemmas.List.{at_drop_more, drop_more, drop_all}
use Rattle.std.proofs.lemmas.List.Sorted.{ranks_by}
use Rattle.scad_geom.specs.declared.level.Level.{Level}
use Rattle.scad_geom.specs.declared.level.LeafEdge.{LeafEdge}
use Rattle.slice_bundles.specs.Bundles.{no_edge}
use Rattle.slice_outlines.specs.declared.flat.Flat.{Flat}
use Rattle.slice_outlines.specs.Flats.{flat_numbers, flat_cmp, LiesOn, IsOff, JoinOn, AreJoined, StartsBehind}

-- ---- the order
flat_total : IsTotalOrder flat_cmp
flat_total = then_total (on_total (λ (f : Flat). f.y) int_cmp_total) (on_total (λ (f : Flat). f.left) int_cmp_total)

abbrev pub comes_before : Flat → Flat → Bool
comes_before e f = is_lt (flat_cmp e f)

pub flat_order : IsStrictWeakOrder comes_before
flat_order = ranks_by flat_total (λ (f : Flat). f)

-- ---- numbers of flat edges
by_test : (t : Bool) (k : ℕ) (rest : List ℕ) → (if t then k ∷ [] else []) ++ rest ≡ (if t then k ∷ rest else rest)
by_test true k rest = refl
by_test false k rest = refl

pub numbers_step : (es : List LeafEdge) (i : ℕ) → i < length es
    → (if int_eq (get_or es i no_edge).edge.a.y (get_or es i no_edge).edge.b.y then i ∷ [] else [])
    ++ flat_numbers (i + 1) (drop (i + 1) es) ≡ flat_numbers i (drop i es)
numbers_step es i l =
    by_test (int_eq (get_or es i no_edge).edge.a.y (get_or es i no_edge).edge.b.y) i
    (flat_numbers (i + 1) (drop (i + 1) es))
    ∙ sym (at_drop_more (flat_numbers i) es i no_edge l)

-- ---- the first of the rest
pub off_none : (l : Level) (fs : List Flat) (n : ℕ) → length fs ≤ n → IsOff l (drop n fs)
off_none l fs n h = subst (IsOff l) (sym (drop_all n fs h)) tt

pub off_at : (l : Level) (fs : List Flat) (n : ℕ) (d : Flat) → n < length fs → (LiesOn l (get_or fs n d) → ⊥)
    → IsOff l (drop n fs)
off_at l fs n d h off = subst (IsOff l) (sym (drop_more fs n d h)) off

pub behind_none : (right : ℤ) (fs : List Flat) (n : ℕ) → length fs ≤ n → StartsBehind right (drop n fs)
behind_none right fs n h = subst (StartsBehind right) (sym (drop_all n fs h)) tt

pub behind_at : (right : ℤ) (fs : List Flat) (n : ℕ) (d : Flat) → n < length fs → right <ℤ (get_or fs n d).left
    → StartsBehind right (drop n fs)
behind_at right fs n d h b = subst (StartsBehind right) (sym (drop_more fs n d h)) b

-- ---- ends in 32 bits
pub whole_cast : (z : ℤ) → unsigned_abs z ≤ coordinate_limit → to_z w32 (of_z w32 z) ≡ z
whole_cast z h = omega (arith, ints)

pub le_true : (a b : ℤ) → le_z a b ≡ true → a ≤ℤ b
le_true a b h = omega (arith, ints)

pub le_false : (a b : ℤ) → le_z a b ≡ false → b <ℤ a
le_false a b h = omega (arith, ints)

pub max_size : (a b : ℤ) (n : ℕ) → unsigned_abs a ≤ n → unsigned_abs b ≤ n → unsigned_abs (int_max a b) ≤ n
max_size a b n h k = by_test (int_lt b a)
  where
    by_test : (t : Bool) → unsigned_abs (cond t a b) ≤ n
    by_test true = h
    by_test false = k

-- ---- one more that is joined
join_on : (most : ℤ) (fs : List Flat) (right : ℤ) (f : Flat) → JoinOn most fs right → f.left ≤ℤ right
    → JoinOn most (fs ++ (f ∷ [])) (int_max right f.right)
join_on most [] right f h k =
    (subst (λ (z : ℤ). f.left ≤ℤ z) (sym h) k, ap (λ (z : ℤ). int_max z f.right) h)
join_on most (g ∷ fs) right f h k = (h.0, join_on (int_max most g.right) fs right f h.1 k)

pub joined_more : (fs : List Flat) (right : ℤ) (f : Flat) → AreJoined fs right → f.left ≤ℤ right
    → AreJoined (fs ++ (f ∷ [])) (int_max right f.right)
joined_more [] right f h k = absurd h
joined_more (g ∷ fs) right f h k = join_on g.right fs right f h k
