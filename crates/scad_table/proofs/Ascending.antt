-- The test that a table ascends gives the rule.
use Rattle.std.proofs.Common.{◌≡◌, ℕ, zero, suc, ◌<◌, true, List, [], ◌∷◌, length, get_or, arith, refl}
use Rattle.std.specs.Ordering.{nat_cmp, is_lt}
use Rattle.std.specs.declared.cmp.Ordering.{Ordering}
use Rattle.std.specs.declared.cmp.Ordering.TheVariants.{Less, Equal, Greater}
use Rattle.std.specs.Cmp.{first_so, second_so}
use Rattle.std.specs.Cmp.Lexicographic.{slice_cmp, nat_list_cmp_total}
use Rattle.scad_table.specs.declared.row.Row.{Row}
use Rattle.scad_table.specs.Table.{entries, Ascends, ascends_from, ascends}

less : (r : Ordering) → is_lt r ≡ true → r ≡ Less
less Less e = refl
less Equal e = cc
less Greater e = cc

-- the two parts of the test at a first row
first_below : (name : List ℕ) (row : Row) (rest : List Row) → ascends_from name (entries (row ∷ rest)) ≡ true
    → slice_cmp nat_cmp name row.name.now ≡ Less
first_below name row rest up = less _ (first_so (is_lt (slice_cmp nat_cmp name row.name.now))
    (ascends_from row.name.now (entries rest)) up)

rest_ascends : (name : List ℕ) (row : Row) (rest : List Row) → ascends_from name (entries (row ∷ rest)) ≡ true
    → ascends_from row.name.now (entries rest) ≡ true
rest_ascends name row rest up = second_so (is_lt (slice_cmp nat_cmp name row.name.now))
    (ascends_from row.name.now (entries rest)) up

-- a name below a table that ascends is below each of its names
below_all : (name : List ℕ) (rows : List Row) → ascends_from name (entries rows) ≡ true → (i : ℕ) (d : Row)
    → i < length rows → slice_cmp nat_cmp name (get_or rows i d).name.now ≡ Less
below_all name [] up i d lt = absurd (omega arith)
below_all name (row ∷ rest) up zero d lt = first_below name row rest up
below_all name (row ∷ rest) up (suc i) d lt =
    nat_list_cmp_total.trans name row.name.now _ (first_below name row rest up)
    (below_all row.name.now rest (rest_ascends name row rest up) i d (omega arith))

-- a table that ascends from a name ascends
ascends-from : (name : List ℕ) (rows : List Row) → ascends_from name (entries rows) ≡ true → ascends (entries rows)
    ≡ true
ascends-from name [] up = refl
ascends-from name (row ∷ rest) up = rest_ascends name row rest up

pub Ascends-from_test : (rows : List Row) → ascends (entries rows) ≡ true → Ascends rows
Ascends-from_test [] up i j d lt in_range = absurd (omega arith)
Ascends-from_test (row ∷ rest) up zero zero d lt in_range = absurd (omega arith)
Ascends-from_test (row ∷ rest) up zero (suc j) d lt in_range = below_all row.name.now rest up j d (omega arith)
Ascends-from_test (row ∷ rest) up (suc i) zero d lt in_range = absurd (omega arith)
Ascends-from_test (row ∷ rest) up (suc i) (suc j) d lt in_range =
    Ascends-from_test rest (ascends-from row.name.now rest up) i j d (omega arith) (omega arith)
