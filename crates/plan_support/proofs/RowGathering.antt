-- The rows of each layer, gathered from the lines.
use Rattle.std.proofs.Common.{◌≡◌, ◌≢◌, inl, inr, ℕ, zero, suc, ◌+◌, ◌-◌, ◌<◌, ◌≤◌, Bool, true, false, cond, List, [], ◌∷◌, ◌++◌, length, get_or, drop, flat_map, refl, sym, ap, ap₂, subst, ◌∙◌, arith, ℤ, ◌<ℤ◌, add-zero}
use Rattle.std.specs.Prelude.{All, Contains, unsigned_abs, ◌||◌, nat_lt, if◌then◌else◌}
use Rattle.std.specs.List.{list_any}
use Rattle.std.proofs.Math.Seq.{get_or-append_seam}
use Rattle.std.proofs.lemmas.Int.{ints}
use Rattle.std.proofs.lemmas.Bool.{both_ways}
use borrow.Author.Tests.{ltb-true, ltb-false}
use Rattle.std.proofs.lemmas.List.{get_or_append_left, length-append}
use Rattle.std.proofs.lemmas.List.Elements.{All-nil, All-head, All-tail, All-cons, All-append, Contains-append_left, Contains-append_right}
use Rattle.scad_geom.specs.Limits.{coordinate_limit}
use Rattle.scad_geom.proofs.Rising.{by_order, order}
use Rattle.plan_infill.specs.declared.run.Run.{Run}
use Rattle.plan_support.specs.declared.line.Line.{Line}
use Rattle.plan_support.specs.declared.line.Want.{Want}
use Rattle.plan_support.specs.declared.line.Want.TheVariants.{Stretches}
use Rattle.plan_support.specs.Rows.{Row, runs_at, GoUpwards, AreRows, AreRowsOf}
use Rattle.plan_support.specs.Spans.{row_of}
use Rattle.plan_support.specs.Stretches.{AreStretches}
use Rattle.plan_support.specs.On.{is_on, is_on_some, is_covered}
use Rattle.plan_support.specs.Lines.{Ascend, row_heights, AreHeights, AreStretchesBelow, AreStretchesFrom, some_of, kept_of, kept_row, kept_rows, AreLines}
use Rattle.plan_support.specs.Covers.{IsCovered}
use Rattle.plan_infill.proofs.Elements.{first_in, other_in, first_or_other}
use Rattle.plan_support.proofs.Canonical.{has, are_stretches}
use Rattle.plan_support.proofs.Stretches.{no_stretches}
use Rattle.plan_support.proofs.HeightRows.{same_height, other_height}
use Rattle.plan_support.proofs.LineRows.{rows_apart}

-- ---- what lies below higher layers lies below more from a lower one
any_rest : {X : Type 0} (p : X → Bool) (xs : List X) (n : ℕ) → list_any p (drop (suc n) xs) ≡ true
    → list_any p (drop n xs) ≡ true
any_rest p [] zero h = h
any_rest p [] (suc n) h = h
any_rest p (x ∷ xs) zero h = or_second (p x) (list_any p xs) h
  where
    or_second : (a b : Bool) → b ≡ true → (a || b) ≡ true
    or_second true b e = refl
    or_second false b e = e
any_rest p (x ∷ xs) (suc n) h = any_rest p xs n h

covered_lower : (layers : List (List Row)) (n k : ℕ) (x y : ℤ) → is_covered layers (n + k) x y ≡ true
    → is_covered layers n x y ≡ true
covered_lower layers n zero x y h = subst (λ (j : ℕ). is_covered layers j x y ≡ true) (add-zero n) h
covered_lower layers n (suc k) x y h =
    covered_lower layers n k x y (any_rest (λ rows. is_on (runs_at y rows) x) layers ((n + k) + 1) (again h))
  where
    again : is_covered layers (n + suc k) x y ≡ true
        → list_any (λ rows. is_on (runs_at y rows) x) (drop (suc ((n + k) + 1)) layers) ≡ true
    again h =
        let e : (n + suc k) + 1 ≡ suc ((n + k) + 1) = omega arith in
        subst (λ (j : ℕ). list_any (λ rows. is_on (runs_at y rows) x) (drop j layers) ≡ true) e h

-- where a layer has no stretch on a line, no higher one has
no_more_above : (layers : List (List Row)) (n k : ℕ) (y : ℤ) (more : List Run) → AreStretchesBelow layers n y []
    → AreStretchesBelow layers (n + k) y more → more ≡ []
no_more_above layers n k y [] a b = refl
no_more_above layers n k y (r ∷ rs) a b =
    absurd (both_ways _ (sym (a.on r.from))
    (covered_lower layers n k r.from y (sym (b.on r.from) ∙ on_first)))
  where
    on_first : is_on (r ∷ rs) r.from ≡ true
    on_first = ap (λ (t : Bool). t || is_on rs r.from) (has r r.from (omega (arith, ints)) b.apart.0)

-- ---- what is kept of a line's stretches
abbrev pub Sinks : List (List Run) → Type 0
Sinks [] = Unit {0}
Sinks (r ∷ rs) = (r ≡ [] → All (λ (q : List Run). q ≡ []) rs) × Sinks rs

at_any : (xs : List (List Run)) (k : ℕ) (d e : List Run) → k < length xs → get_or xs k d ≡ get_or xs k e
at_any [] k d e l = absurd (omega (arith, l))
at_any (x ∷ xs) zero d e l = refl
at_any (x ∷ xs) (suc k) d e l = at_any xs k d e (omega (arith, l))

sinks : (layers : List (List Row)) (n : ℕ) (y : ℤ) (all : List (List Run)) → AreStretchesFrom layers n y all → Sinks all
sinks layers n y [] a = tt
sinks layers n y (r ∷ rs) a = (
  (λ e k d l. none_at e k d l),
  sinks layers (n + 1) y rs (record {
    as_many = (let m = a.as_many in omega (arith, m));
    each = λ k l.
        let e : n + suc k ≡ (n + 1) + k = omega arith in
        subst (λ (j : ℕ). AreStretchesBelow layers j y (get_or rs k [])) e (a.each (suc k) (omega (arith, l)));
  }),
)
  where
    first : AreStretchesBelow layers n y r
    first = subst (λ (j : ℕ). AreStretchesBelow layers j y r) (add-zero n) (a.each 0 (omega arith))

    none_at : r ≡ [] → (k : ℕ) (d : List Run) → k < length rs → get_or rs k d ≡ []
    none_at e k d l =
        at_any rs k d [] l
        ∙ no_more_above layers n (suc k) y (get_or rs k []) (subst (AreStretchesBelow layers n y) e first)
        (a.each (suc k) (omega (arith, l)))

none_kept : (all : List (List Run)) → All (λ (q : List Run). q ≡ []) all → kept_of Stretches all ≡ []
none_kept [] a = refl
none_kept (r ∷ rs) a =
    ap₂ (λ (ks : List (List Run)) (q : List Run). ks ++ some_of q)
    (none_kept rs (All-tail (λ (q : List Run). q ≡ []) r rs a)) (All-head (λ (q : List Run). q ≡ []) r rs a)

none_there : (all : List (List Run)) (n : ℕ) → All (λ (q : List Run). q ≡ []) all → get_or all n [] ≡ []
none_there [] n a = refl
none_there (r ∷ rs) zero a = All-head (λ (q : List Run). q ≡ []) r rs a
none_there (r ∷ rs) (suc n) a = none_there rs n (All-tail (λ (q : List Run). q ≡ []) r rs a)

less : (a b : ℕ) → a < b → nat_lt a b ≡ true
less a b h = by_test (nat_lt a b) refl
  where
    by_test : (t : Bool) → nat_lt a b ≡ t → t ≡ true
    by_test true e = refl
    by_test false e = let m = ltb-false a b e in absurd (omega (arith, m, h))

not_less : (a b : ℕ) → b ≤ a → nat_lt a b ≡ false
not_less a b h = by_test (nat_lt a b) refl
  where
    by_test : (t : Bool) → nat_lt a b ≡ t → t ≡ false
    by_test true e = let m = ltb-true a b e in absurd (omega (arith, m, h))
    by_test false e = refl

longer : (ks : List (List Run)) (r : List Run) → length (ks ++ r ∷ []) ≡ length ks + 1
longer ks r = length-append ks (r ∷ [])

-- one list more is that of the lowest layer, and the others are those of one layer more
row_lowest : (y : ℤ) (ks : List (List Run)) (r : List Run) → kept_row 0 y (ks ++ r ∷ [])
    ≡ record { y = y; runs = r } ∷ []
row_lowest y ks r =
    let e = longer ks r in
    let m : length (ks ++ r ∷ []) - (0 + 1) ≡ length ks = omega (arith, e) in
    ap (λ (t : Bool). cond t (record { y = y; runs = get_or (ks ++ r ∷ []) (length (ks ++ r ∷ []) - (0 + 1)) [] } ∷ [])
    [])
    (less 0 (length (ks ++ r ∷ [])) (omega (arith, e)))
    ∙ ap (λ (j : ℕ). record { y = y; runs = get_or (ks ++ r ∷ []) j [] } ∷ []) m
    ∙ ap (λ (q : List Run). record { y = y; runs = q } ∷ []) (get_or-append_seam ks r [] [])

row_higher : (n : ℕ) (y : ℤ) (ks : List (List Run)) (r : List Run) → kept_row (suc n) y (ks ++ r ∷ []) ≡ kept_row n y ks
row_higher n y ks r = by_test (nat_lt n (length ks)) refl
  where
    by_test : (t : Bool) → nat_lt n (length ks) ≡ t → kept_row (suc n) y (ks ++ r ∷ []) ≡ kept_row n y ks
    by_test true e =
        let l = ltb-true n (length ks) e in
        let m = longer ks r in
        let i : length (ks ++ r ∷ []) - (suc n + 1) ≡ length ks - (n + 1) = omega (arith, m, l) in
        ap (λ (t : Bool). cond t
        (record { y = y; runs = get_or (ks ++ r ∷ []) (length (ks ++ r ∷ []) - (suc n + 1)) [] } ∷ []) [])
        (less (suc n) (length (ks ++ r ∷ [])) (omega (arith, m, l)))
        ∙ ap (λ (j : ℕ). record { y = y; runs = get_or (ks ++ r ∷ []) j [] } ∷ []) i
        ∙ ap (λ (q : List Run). record { y = y; runs = q } ∷ [])
        (get_or_append_left ks (r ∷ []) [] (length ks - (n + 1)) (omega (arith, l)))
        ∙ sym (ap (λ (t : Bool). cond t (record { y = y; runs = get_or ks (length ks - (n + 1)) [] } ∷ []) []) e)
    by_test false e =
        let l = ltb-false n (length ks) e in
        let m = longer ks r in
        ap (λ (t : Bool). cond t
        (record { y = y; runs = get_or (ks ++ r ∷ []) (length (ks ++ r ∷ []) - (suc n + 1)) [] } ∷ []) [])
        (not_less (suc n) (length (ks ++ r ∷ [])) (omega (arith, m, l)))
        ∙ sym (ap (λ (t : Bool). cond t (record { y = y; runs = get_or ks (length ks - (n + 1)) [] } ∷ []) []) e)

row_kept : (all : List (List Run)) (n : ℕ) (y : ℤ) → Sinks all → kept_row n y (kept_of Stretches all)
    ≡ row_of y (get_or all n [])
row_kept [] n y s =
    ap (λ (t : Bool). cond t (record { y = y; runs = get_or [] (0 - (n + 1)) [] } ∷ []) []) (not_less n 0 (omega arith))
row_kept ([] ∷ rs) n y s =
    ap (λ (ks : List (List Run)). kept_row n y (ks ++ [])) (none_kept rs (s.0 refl))
    ∙ ap (λ (t : Bool). cond t (record { y = y; runs = get_or [] (0 - (n + 1)) [] } ∷ []) [])
    (not_less n 0 (omega arith))
    ∙ sym (ap (row_of y) (at_none n))
  where
    at_none : (n : ℕ) → get_or ([] ∷ rs) n [] ≡ []
    at_none zero = refl
    at_none (suc n) = none_there rs n (s.0 refl)
row_kept ((q ∷ qs) ∷ rs) zero y s = row_lowest y (kept_of Stretches rs) (q ∷ qs)
row_kept ((q ∷ qs) ∷ rs) (suc n) y s = row_higher n y (kept_of Stretches rs) (q ∷ qs) ∙ row_kept rs n y s.1

-- ---- the rows of one layer
abbrev pub rows_at : ℕ → List ℤ → List (List (List Run)) → List Row
rows_at n [] alls = []
rows_at n (y ∷ ys) [] = []
rows_at n (y ∷ ys) (all ∷ alls) = row_of y (get_or all n []) ++ rows_at n ys alls

pub rows_kept : (layers : List (List Row)) (n : ℕ) (ys : List ℤ) (alls : List (List (List Run))) (lines : List Line)
    → AreLines layers Stretches ys alls lines → kept_rows n ys lines ≡ rows_at n ys alls
rows_kept layers n [] [] [] h = refl
rows_kept layers n [] [] (l ∷ ls) h = absurd h
rows_kept layers n [] (a ∷ us) ls h = absurd h
rows_kept layers n (y ∷ ys) [] ls h = absurd h
rows_kept layers n (y ∷ ys) (a ∷ us) [] h = absurd h
rows_kept layers n (y ∷ ys) (a ∷ us) (l ∷ ls) h =
    ap₂ (λ (r rs : List Row). r ++ rs)
    (ap (kept_row n y) h.0.kept ∙ row_kept a n y (sinks layers 0 y a h.0.are))
    (rows_kept layers n ys us ls h.1)

-- heights alone matter for the order
rows_all : (P : ℤ → Type 0) (n : ℕ) (ys : List ℤ) (alls : List (List (List Run))) → All P ys
    → All (λ (r : Row). P r.y) (rows_at n ys alls)
rows_all P n [] alls a = All-nil (λ (r : Row). P r.y)
rows_all P n (y ∷ ys) [] a = All-nil (λ (r : Row). P r.y)
rows_all P n (y ∷ ys) (all ∷ alls) a =
    All-append (λ (r : Row). P r.y) (row_of y (get_or all n [])) (rows_at n ys alls) (one (get_or all n []))
    (rows_all P n ys alls (All-tail P y ys a))
  where
    one : (rs : List Run) → All (λ (r : Row). P r.y) (row_of y rs)
    one [] = All-nil (λ (r : Row). P r.y)
    one (q ∷ qs) =
        All-cons (λ (r : Row). P r.y) (record { y = y; runs = q ∷ qs }) [] (All-head P y ys a)
        (All-nil (λ (r : Row). P r.y))

rows_upwards : (n : ℕ) (ys : List ℤ) (alls : List (List (List Run))) → Ascend ys → GoUpwards (rows_at n ys alls)
rows_upwards n [] alls a = tt
rows_upwards n (y ∷ ys) [] a = tt
rows_upwards n (y ∷ ys) (all ∷ alls) a = one (get_or all n []) (rows_upwards n ys alls a.1)
  where
    one : (rs : List Run) → GoUpwards (rows_at n ys alls) → GoUpwards (row_of y rs ++ rows_at n ys alls)
    one [] u = u
    one (q ∷ qs) u = (rows_all (λ z. y <ℤ z) n ys alls a.0, u)

rows_some : (n : ℕ) (ys : List ℤ) (alls : List (List (List Run))) → All (λ (r : Row). r.runs ≢ []) (rows_at n ys alls)
rows_some n [] alls = All-nil (λ (r : Row). r.runs ≢ [])
rows_some n (y ∷ ys) [] = All-nil (λ (r : Row). r.runs ≢ [])
rows_some n (y ∷ ys) (all ∷ alls) = one (get_or all n []) (rows_some n ys alls)
  where
    not_none : (q : Run) (qs : List Run) → q ∷ qs ≡ [] → ⊥
    not_none q qs e = cc

    one : (rs : List Run) → All (λ (r : Row). r.runs ≢ []) (rows_at n ys alls)
        → All (λ (r : Row). r.runs ≢ []) (row_of y rs ++ rows_at n ys alls)
    one [] a = a
    one (q ∷ qs) a =
        All-cons (λ (r : Row). r.runs ≢ []) (record { y = y; runs = q ∷ qs }) (rows_at n ys alls) (not_none q qs) a

-- above a height there is no row
none_over : (y : ℤ) (rows : List Row) → All (λ (r : Row). y <ℤ r.y) rows → runs_at y rows ≡ []
none_over y [] a = refl
none_over y (r ∷ rs) a =
    let b = All-head (λ (q : Row). y <ℤ q.y) r rs a in
    ap (λ (t : Bool). if t then r.runs else runs_at y rs) (other_height r.y y (λ e. omega (arith, ints, e, b)))
    ∙ none_over y rs (All-tail (λ (q : Row). y <ℤ q.y) r rs a)

skip : (y z : ℤ) (rs : List Run) (rows : List Row) → (z ≡ y → ⊥) → runs_at y (row_of z rs ++ rows) ≡ runs_at y rows
skip y z [] rows n = refl
skip y z (q ∷ qs) rows n = ap (λ (t : Bool). if t then q ∷ qs else runs_at y rows) (other_height z y n)

stay : (y : ℤ) (rs : List Run) (rows : List Row) → runs_at y rows ≡ [] → runs_at y (row_of y rs ++ rows) ≡ rs
stay y [] rows n = n
stay y (q ∷ qs) rows n = ap (λ (t : Bool). if t then q ∷ qs else runs_at y rows) (same_height y y refl)

-- the runs at a height are the stretches of its line, or there is no line
data Lined (layers : List (List Row)) (n : ℕ) (ys : List ℤ) (y : ℤ) (runs : List Run) : Type 0 where
  on_line : AreStretchesBelow layers n y runs → Lined layers n ys y runs
  no_line : runs ≡ [] → (Contains ys y → ⊥) → Lined layers n ys y runs

lined : (layers : List (List Row)) (want : Want) (n : ℕ) (ys : List ℤ) (alls : List (List (List Run)))
    (lines : List Line) (y : ℤ)
    → n < length layers → Ascend ys → AreLines layers want ys alls lines
    → Lined layers n ys y (runs_at y (rows_at n ys alls))
lined layers want n [] [] [] y l a h = no_line refl (λ c. let k = c.1 in absurd (omega (arith, k)))
lined layers want n [] [] (m ∷ ms) y l a h = absurd h
lined layers want n [] (a2 ∷ us) ls y l a h = absurd h
lined layers want n (z ∷ zs) [] ls y l a h = absurd h
lined layers want n (z ∷ zs) (a2 ∷ us) [] y l a h = absurd h
lined layers want n (z ∷ zs) (all ∷ us) (m ∷ ms) y l a h = by_order (order z y)
    (λ o. by_order (order y z)
    (λ p. let e : z ≡ y = omega (arith, ints, o, p) in
    subst (λ (w : ℤ). Lined layers n (z ∷ zs) w (runs_at w (row_of z (get_or all n []) ++ rows_at n zs us))) e at_first)
    (λ p. behind (λ e. omega (arith, ints, e, p)) (lined layers want n zs us ms y l a.1 h.1)))
    (λ o. behind (λ e. omega (arith, ints, e, o)) (lined layers want n zs us ms y l a.1 h.1))
  where
    there : AreStretchesBelow layers n z (get_or all n [])
    there =
        let m = h.0.are.as_many in
        let e : 0 + n ≡ n = omega arith in
        subst (λ (j : ℕ). AreStretchesBelow layers j z (get_or all n [])) e (h.0.are.each n (omega (arith, m, l)))

    at_first : Lined layers n (z ∷ zs) z (runs_at z (row_of z (get_or all n []) ++ rows_at n zs us))
    at_first = on_line (subst (AreStretchesBelow layers n z)
        (sym (stay z (get_or all n []) (rows_at n zs us)
        (none_over z (rows_at n zs us) (rows_all (λ w. z <ℤ w) n zs us a.0)))) there)

    behind : (z ≡ y → ⊥) → Lined layers n zs y (runs_at y (rows_at n zs us))
        → Lined layers n (z ∷ zs) y (runs_at y (row_of z (get_or all n []) ++ rows_at n zs us))
    behind ne (on_line s) =
        on_line (subst (AreStretchesBelow layers n y) (sym (skip y z (get_or all n []) (rows_at n zs us) ne)) s)
    behind ne (no_line e c) = no_line (skip y z (get_or all n []) (rows_at n zs us) ne ∙ e)
        (λ k. elim (first_or_other z zs y k) [ inl f ↦ ne f | inr f ↦ c f ])

-- ---- where no layer has a row there is nothing
no_row_runs : (y : ℤ) (rows : List Row) → (Contains (row_heights rows) y → ⊥) → runs_at y rows ≡ []
no_row_runs y [] n = refl
no_row_runs y (r ∷ rs) n =
    ap (λ (t : Bool). if t then r.runs else runs_at y rs)
    (other_height r.y y (λ e. n (subst (Contains (r.y ∷ row_heights rs)) e (first_in r.y (row_heights rs)))))
    ∙ no_row_runs y rs (λ c. n (other_in r.y (row_heights rs) y c))

not_on_some : (layers : List (List Row)) (x y : ℤ) → (Contains (flat_map row_heights layers) y → ⊥)
    → is_on_some layers x y ≡ false
not_on_some [] x y n = refl
not_on_some (rows ∷ layers) x y n =
    ap₂ (λ (rs : List Run) (t : Bool). is_on rs x || t)
    (no_row_runs y rows (λ c. n (Contains-append_left (row_heights rows) (flat_map row_heights layers) y c)))
    (not_on_some layers x y (λ c. n (Contains-append_right (row_heights rows) (flat_map row_heights layers) y c)))

covered_on_some : (layers : List (List Row)) (n : ℕ) (x y : ℤ) → is_on_some (drop n layers) x y ≡ true
    → is_on_some layers x y ≡ true
covered_on_some layers zero x y h = h
covered_on_some layers (suc n) x y h =
    covered_on_some layers n x y (any_rest (λ rows. is_on (runs_at y rows) x) layers n h)

module _ (layers : List (List Row)) (want : Want) (heights : List ℤ) (alls : List (List (List Run))) (lines : List Line)
    (hs : AreHeights layers heights) (are : AreLines layers want heights alls lines) where
  pub are_rows : (n : ℕ) → n < length layers → AreRowsOf (IsCovered layers n) 0 (rows_at n heights alls)
  are_rows n l = record {
    upwards = rows_upwards n heights alls hs.ascend;
    some = rows_some n heights alls;
    each = λ y. by_line y (runs_at y (rows_at n heights alls))
        (lined layers want n heights alls lines y l hs.ascend are);
  }
    where
      by_line : (y : ℤ) (runs : List Run) → Lined layers n heights y runs
          → AreStretches (λ x. IsCovered layers n x y) 0 runs
      by_line y runs (on_line s) = are_stretches (λ x. IsCovered layers n x y) runs s.apart
          (λ x c. s.on x ∙ c) (λ x o. sym (s.on x) ∙ o)
      by_line y runs (no_line e c) = subst (AreStretches (λ x. IsCovered layers n x y) 0) (sym e)
          (no_stretches (λ x. IsCovered layers n x y) 0 (λ x k. both_ways _
          (not_on_some layers x y (λ m. c (hs.all y m))) (covered_on_some layers (n + 1) x y k)))

  pub are_rows_apart : (n : ℕ) → n < length layers → AreRows (rows_at n heights alls)
  are_rows_apart n l = rows_apart (IsCovered layers n) (rows_at n heights alls) (are_rows n l)
      (rows_all (λ y. unsigned_abs y ≤ coordinate_limit) n heights alls hs.within)

-- ---- a line for each height
pub lines_length : (layers : List (List Row)) (want : Want) (ys : List ℤ) (alls : List (List (List Run)))
    (ls : List Line)
    → AreLines layers want ys alls ls → length ys ≡ length ls
lines_length layers want [] [] [] h = refl
lines_length layers want [] [] (l ∷ ls) h = absurd h
lines_length layers want [] (a ∷ us) ls h = absurd h
lines_length layers want (y ∷ ys) [] ls h = absurd h
lines_length layers want (y ∷ ys) (a ∷ us) [] h = absurd h
lines_length layers want (y ∷ ys) (a ∷ us) (l ∷ ls) h = ap suc (lines_length layers want ys us ls h.1)
