-- Parts of a vector that is being made: one more, what `each` makes of them, and how few of them tell that it isn't
-- made.
use Rattle.std.proofs.Common.{◌≡◌, ℕ, zero, suc, ◌+◌, ◌<◌, ◌≤◌, ℤ, pos, ◌+ℤ◌, Option, Some, None, Bool, true, false, List, [], ◌∷◌, ◌++◌, length, if◌then◌else◌, refl, sym, ap, ◌∙◌, append_assoc, arith}
use Rattle.std.specs.Prelude.{max, nat_lt}
use Rattle.std.specs.List.{flat_map}
use Rattle.std.proofs.lemmas.Grind.{flat_map-append}
use Rattle.std.proofs.lemmas.List.{append-nil}
use Rattle.std.proofs.lemmas.Bool.Decides.{nat_tests}
use Rattle.scad_fault.specs.declared.place.Place.{Place}
use Rattle.scad_fault.specs.declared.budget.BudgetKind.TheVariants.{Steps, Depth}
use Rattle.scad_value.specs.Datum.{Datum, number, vector, range}
use Rattle.scad_value.specs.Measures.{made, made_all, nesting, deepest}
use Rattle.scad_value.specs.View.{datum_of}
use Rattle.scad_value.specs.declared.value.Value.{Value}
use Rattle.scad_operations.specs.declared.part.Part.{Part}
use Rattle.scad_operations.specs.declared.part.Part.TheVariants.{One, Run}
use Rattle.scad_operations.specs.Parts.{part_data, parts_of, MakeAlike, MakeAlikeThen}
use Rattle.scad_operations.specs.Runs.{items, as_elements, numbers_from, count_of_range, numbers_left}
use Rattle.scad_machine.specs.State.{State, make, take, over, step_limit, nesting_limit, pure, ◌>>◌}

-- ---- one more part
pub parts-push : (all : List Part) (v : Value) → parts_of (all ++ One v ∷ []) ≡ parts_of all ++ datum_of v ∷ []
parts-push all v = flat_map-append part_data all (One v ∷ [])

pub parts-run : (all : List Part) (start step end : ℤ)
    → parts_of (all ++ Run start step end ∷ []) ≡ parts_of all ++
    items (range start step end)
parts-run all start step end = flat_map-append part_data all (Run start step end ∷ [])
    ∙ ap (λ l. parts_of all ++ l)
    (append-nil (items (range start step end)))

-- ---- what `each` makes of them
each-numbers : (n step : ℤ) (k : ℕ) → flat_map items (numbers_from n step k) ≡ numbers_from n step k
unfolding items
each-numbers n step zero = refl
each-numbers n step (suc k) = ap (λ l. number n ∷ l) (each-numbers (n +ℤ step) step k)

-- a number stands for itself
pub each-run : (start step end : ℤ) → flat_map items (items (range start step end)) ≡ items (range start step end)
unfolding items
each-run start step end = each-numbers start step (count_of_range start step end)

-- a value's items
pub each-one : (v : Value) → flat_map items (part_data (One v)) ≡ items (datum_of v)
each-one v = append-nil (items (datum_of v))

-- the items of parts, the next of which is put behind those so far
pub each-next : (so_far whole : List Datum) (now : List Datum) (p : Part) (more all : List Part) → all ≡ p ∷ more
    → now ≡ so_far ++ flat_map items (part_data p) → so_far ++ flat_map items (parts_of all) ≡ whole
    → now ++ flat_map items (parts_of more) ≡ whole
each-next so_far whole now p more all is made left =
    ap (λ l. l ++ flat_map items (parts_of more)) made
    ∙ append_assoc so_far (flat_map items (part_data p)) (flat_map items (parts_of more))
    ∙ ap (λ l. so_far ++ l) (sym (flat_map-append items (part_data p) (parts_of more)))
    ∙ ap (λ l. so_far ++ flat_map items (parts_of l)) (sym is) ∙ left

pub ruleset pushed = (parts-push, parts-run, each-run, each-one)

-- ---- a vector of more values than there are steps
deepest-behind : (d more other : List Datum) → deepest (as_elements more) ≡ deepest (as_elements other)
    → deepest (as_elements (d ++ more)) ≡ deepest (as_elements (d ++ other))
deepest-behind [] more other same = same
deepest-behind (a ∷ d) more other same = ap (λ n. max (nesting a) n) (deepest-behind d more other same)

none-deeper : (n : ℕ) → max 0 n ≡ n
none-deeper n = omega arith

deepest-numbers : (n step : ℤ) (k : ℕ) (more : List Datum) → deepest (as_elements (numbers_from n step k ++ more))
    ≡ deepest (as_elements more)
deepest-numbers n step zero more = refl
deepest-numbers n step (suc k) more =
    none-deeper (deepest (as_elements (numbers_from (n +ℤ step) step k ++ more)))
    ∙ deepest-numbers (n +ℤ step) step k
    more

made-many : (d more : List Datum) → length d ≤ made_all (as_elements (d ++ more))
made-many [] more = omega arith
made-many (a ∷ d) more =
    let inside = made-many d more in
    omega (arith, inside)

nested : (z : State) (at : Place) (d e : Datum) → nesting d ≡ nesting e → step_limit < made d
    → step_limit < made e → make at d z ≡ make at e z
unfolding make take over
nested z at d e same many also =
    ap (λ n. (if nat_lt nesting_limit n then over Depth at else (take (made d) at >> pure d)) z) same
    ∙ by (nat_lt nesting_limit (nesting e))
  where
    over-d : nat_lt step_limit (z.steps + made d) ≡ true
    over-d = grind (arith, nat_tests)

    over-e : nat_lt step_limit (z.steps + made e) ≡ true
    over-e = grind (arith, nat_tests)

    by : (c : Bool) → (if c then over Depth at else (take (made d) at >> pure d)) z
        ≡ (if c then over Depth at else (take (made e) at >> pure e)) z
    by true = refl
    by false = passes d over-d ∙ sym (passes e over-e)
      where
        passes : (x : Datum) → nat_lt step_limit (z.steps + made x) ≡ true → (take (made x) at >> pure x) z
            ≡ over Steps at z
        passes x e = rw e refl

-- numbers behind more values than there are steps tell nothing
pub alike-long : (d whole : List Datum) (next : List Datum) (n step : ℤ) (k : ℕ) → step_limit < length d
    → next ≡ numbers_from n step k → d ++ next ≡ whole → MakeAlikeThen d whole
alike-long d whole next n step k many is all = record {
  behind = λ more. record {
    alike = λ at s.
        let nests : nesting (vector (as_elements (d ++ more))) ≡ nesting (vector (as_elements (whole ++ more))) =
        ap (λ n. 1 + n) (deepest-behind d more (numbers_from n step k ++ more) (sym (deepest-numbers n step k more)))
        ∙ ap (λ l. nesting (vector (as_elements l))) (joined more) in
        let short : step_limit < made (vector (as_elements (d ++ more))) =
        (let counts = made-many d more in omega (arith, counts, many)) in
        let long : step_limit < made (vector (as_elements (whole ++ more))) =
        (let counts = made-many d (numbers_from n step k ++ more) in
        let same : made_all (as_elements (d ++ (numbers_from n step k ++ more)))
        ≡ made_all (as_elements (whole ++ more)) = ap (λ l. made_all (as_elements l)) (joined more) in
        omega (arith, counts, many, same)) in
        nested s at (vector (as_elements (d ++ more))) (vector (as_elements (whole ++ more))) nests short long;
  };
}
  where
    joined : (more : List Datum) → d ++ (numbers_from n step k ++ more) ≡ whole ++ more
    joined more = sym (append_assoc d (numbers_from n step k) more) ∙ ap (λ l. (d ++ l) ++ more) (sym is) ∙ ap
        (λ l. l ++ more) all

-- the same values make the same vector
pub alike-same : (d whole : List Datum) → d ≡ whole → MakeAlike d whole
alike-same d whole same = record { alike = λ at s. ap (λ l. make at (vector (as_elements l)) s) same }

pub then-same : (d whole : List Datum) → d ≡ whole → MakeAlikeThen d whole
then-same d whole same = record { behind = λ more. alike-same (d ++ more) (whole ++ more) (ap (λ l. l ++ more) same) }

-- the values of the next part are put behind those so far
pub alike-next : (so_far now whole : List Datum) (p : Part) (more all : List Part) → all ≡ p ∷ more
    → MakeAlikeThen now (so_far ++ part_data p) → MakeAlike (so_far ++ parts_of all) whole
    → MakeAlike (now ++ parts_of more) whole
alike-next so_far now whole p more all is made left = record {
  alike = λ at s.
      (made.behind (parts_of more)).alike at s
      ∙ ap (λ l. make at (vector (as_elements l)) s) (append_assoc so_far (part_data p) (parts_of more) ∙ ap
      (λ l. so_far ++ parts_of l) (sym is))
      ∙ left.alike at s;
}

pub alike-end : (d whole : List Datum) (all : List Part) → all ≡ [] → MakeAlike (d ++ parts_of all) whole
    → MakeAlike d whole
alike-end d whole all none left = record {
  alike = λ at s.
      ap (λ l. make at (vector (as_elements l)) s) (sym (append-nil d) ∙ ap (λ l. d ++ parts_of l) (sym none))
      ∙ left.alike at s;
}

abbrev first_left : Option ℤ → ℤ
first_left None = pos 0
first_left (Some n) = n

abbrev count_left : Option ℤ → ℤ → ℤ → ℕ
count_left None step end = 0
count_left (Some n) step end = count_of_range n step end

-- numbers that are left are those from one on
left-numbers : (next : Option ℤ) (step end : ℤ)
    → numbers_left next step end ≡ numbers_from (first_left next) step
    (count_left next step end)
left-numbers None step end = refl
left-numbers (Some n) step end = refl

pub alike-left : (d whole : List Datum) (next : Option ℤ) (step end : ℤ) → step_limit < length d
    → d ++ numbers_left next step end ≡ whole → MakeAlikeThen d whole
alike-left d whole next step end many all = alike-long d whole (numbers_left next step end) (first_left next) step
    (count_left next step end) many (left-numbers next step end) all
