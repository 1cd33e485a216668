-- The names of a scope noted one by one, each with the place of its last assignment so far, are the scope's bindings.
use Rattle.std.proofs.Common.{◌≡◌, ℕ, ◌+◌, Bool, true, false, cond, not, ◌||◌, List, [], ◌∷◌, ◌++◌, map, filter, Option, Some, None, if◌then◌else◌, refl, sym, ap, ap₂, ◌∙◌, append_assoc}
use Rattle.std.specs.Borrow.{Bor}
use Rattle.std.specs.Cmp.Lexicographic.{nat_list_eq_equiv, bytes_decides}
use Rattle.std.proofs.lemmas.Bool.{or_parts}
use Rattle.scad_ast.specs.Tree.{Items}
use Rattle.scad_bindings.specs.declared.binding.Binding.{Binding}
use Rattle.scad_bindings.specs.Names.{is_same_name}
use Rattle.scad_bindings.specs.NamePlaces.{put_in}
use Rattle.scad_bindings.specs.Notes.{Places, with_place, noted_all, placed, as_binding}
use Rattle.scad_bindings.specs.Assignments.{assigned_by, differs_from, first_assigned, last_place, binding, bindings}
use Rattle.std.proofs.lemmas.List.{append-nil}

abbrev has : List ℕ → Places → Bool
has name [] = false
has name (p ∷ more) = is_same_name name p.0 || has name more

abbrev hasnt : Places → List ℕ → Bool
hasnt so_far name = not (has name so_far)

-- no name stands twice
abbrev Distinct : Places → Type 0
Distinct [] = Unit {0}
Distinct (p ∷ more) = (has p.0 more ≡ false) × Distinct more

same_turned : (a b : List ℕ) → is_same_name a b ≡ is_same_name b a
same_turned a b = nat_list_eq_equiv.symm a b

same_itself : (a : List ℕ) → is_same_name a a ≡ true
same_itself a = nat_list_eq_equiv.refl a

or_twice : (a b : Bool) → (a || b) ≡ (a || (a || b))
or_twice true b = refl
or_twice false b = refl

or_swap : (a b c : Bool) → (a || (b || c)) ≡ (b || (a || c))
or_swap true true c = refl
or_swap true false c = refl
or_swap false b c = refl

has-with_place : (n m : List ℕ) (i : ℕ) (so_far : Places) → has n (with_place m i so_far)
    ≡ (is_same_name n m || has n so_far)
has-with_place n m i [] = refl
has-with_place n m i (p ∷ more) = by (has-with_place n m i more) (is_same_name m p.0) refl
  where
    by : has n (with_place m i more) ≡ (is_same_name n m || has n more) → (b : Bool) → is_same_name m p.0 ≡ b
        → has n (if b then (p.0, i) ∷ more else p ∷ with_place m i more)
        ≡ (is_same_name n m || (is_same_name n p.0 || has n more))
    by rest true e =
        let same : is_same_name n m ≡ is_same_name n p.0 = same_turned n m ∙ nat_list_eq_equiv.congr m p.0 n e ∙
        same_turned p.0 n in
        or_twice (is_same_name n p.0) (has n more) ∙ ap (λ a. a || (is_same_name n p.0 || has n more)) (sym same)
    by rest false e =
        ap (λ a. is_same_name n p.0 || a) rest ∙ or_swap (is_same_name n p.0) (is_same_name n m) (has n more)

Distinct-with_place : (m : List ℕ) (i : ℕ) (so_far : Places) → Distinct so_far → Distinct (with_place m i so_far)
Distinct-with_place m i [] d = (refl, tt)
Distinct-with_place m i (p ∷ more) d = by (Distinct-with_place m i more d.1) (is_same_name m p.0) refl
  where
    by : Distinct (with_place m i more) → (b : Bool) → is_same_name m p.0 ≡ b
        → Distinct (if b then (p.0, i) ∷ more else p ∷ with_place m i more)
    by rest true e = d
    by rest false e = (has-with_place p.0 m i more ∙ ap₂ (λ a b. a || b) (same_turned p.0 m ∙ e) d.0, rest)

-- a noted name with its last place, after more items
abbrev updated : ℕ → List (Option (List ℕ)) → List ℕ × ℕ → List ℕ × ℕ
updated i more p = (p.0, last_place p.0 p.1 i more)

-- a name that wasn't noted with its last place
abbrev added : ℕ → List (Option (List ℕ)) → List ℕ → List ℕ × ℕ
added i more name = (name, last_place name 0 i more)

-- an assignment to another name changes no place
same_updated : (m : List ℕ) (i : ℕ) (more : List (Option (List ℕ))) (p : List ℕ × ℕ) (b : Bool) → is_same_name m p.0 ≡ b
    → (p.0, last_place p.0 (if b then i else p.1) (i + 1) more) ≡ updated i (Some m ∷ more) p
same_updated m i more p b e = sym (ap (λ c. (p.0, last_place p.0 (if c then i else p.1) (i + 1) more))
    (same_turned p.0 m ∙ e))

others : (m : List ℕ) (i : ℕ) (more : List (Option (List ℕ))) (so_far : Places) → has m so_far ≡ false
    → map (updated (i + 1) more) so_far ≡ map (updated i (Some m ∷ more)) so_far
others m i more [] h = refl
others m i more (p ∷ rest) h =
    let apart = or_parts (is_same_name m p.0) (has m rest) h in
    ap₂ (λ a b. a ∷ b) (same_updated m i more p false apart.0) (others m i more rest apart.1)

updated-with_place : (m : List ℕ) (i : ℕ) (more : List (Option (List ℕ))) (so_far : Places) → Distinct so_far
    → map (updated (i + 1) more) (with_place m i so_far) ≡ map (updated i (Some m ∷ more)) so_far ++
    (if has m so_far then [] else (m, last_place m i (i + 1) more) ∷ [])
updated-with_place m i more [] d = refl
updated-with_place m i more (p ∷ rest) d = by (updated-with_place m i more rest d.1) (is_same_name m p.0) refl
  where
    by : map (updated (i + 1) more) (with_place m i rest) ≡ map (updated i (Some m ∷ more)) rest ++
        (if has m rest then [] else (m, last_place m i (i + 1) more) ∷ []) → (b : Bool) → is_same_name m p.0 ≡ b
        → map (updated (i + 1) more) (if b then (p.0, i) ∷ rest else p ∷ with_place m i rest)
        ≡ map (updated i (Some m ∷ more)) (p ∷ rest) ++ (if (b || has m rest) then [] else
        (m, last_place m i (i + 1) more) ∷ [])
    by so_far true e =
        let absent : has m rest ≡ false = ap (λ n. has n rest) ((bytes_decides m p.0).0 e) ∙ d.0 in
        ap₂ (λ a b. a ∷ b) (same_updated m i more p true e) (others m i more rest absent ∙ sym
        (append-nil (map (updated i (Some m ∷ more)) rest)))
    by so_far false e = ap₂ (λ a b. a ∷ b) (same_updated m i more p false e) so_far

-- the names that weren't noted, once one more is
filter-hasnt : (m : List ℕ) (i : ℕ) (so_far : Places) (names : List (List ℕ)) → filter (hasnt (with_place m i so_far))
    names ≡ filter (hasnt so_far) (filter (differs_from m) names)
filter-hasnt m i so_far [] = refl
filter-hasnt m i so_far (x ∷ names) =
    ap (λ b. cond (not b) (x ∷ filter (hasnt (with_place m i so_far)) names) (filter (hasnt (with_place m i so_far))
    names)) (has-with_place x m i so_far ∙ ap (λ b. b || has x so_far) (same_turned x m))
    ∙ by (filter-hasnt m i so_far names) (is_same_name m x)
  where
    by : filter (hasnt (with_place m i so_far)) names ≡ filter (hasnt so_far) (filter (differs_from m) names)
        → (b : Bool) → cond (not (b || has x so_far)) (x ∷ filter (hasnt (with_place m i so_far)) names)
        (filter (hasnt (with_place m i so_far)) names) ≡ filter (hasnt so_far)
        (cond (not b) (x ∷ filter (differs_from m) names) (filter (differs_from m) names))
    by rest true = rest
    by rest false = ap (λ l. cond (not (has x so_far)) (x ∷ l) l) rest

-- a name that differs from an assigned one has the same last place behind it
added-other : (m : List ℕ) (i : ℕ) (more : List (Option (List ℕ))) (x : List ℕ) (left : List (List ℕ)) (c : Bool)
    → map (added (i + 1) more) left ≡ map (added i (Some m ∷ more)) left → is_same_name m x ≡ false
    → map (added (i + 1) more) (cond c (x ∷ left) left) ≡ map (added i (Some m ∷ more)) (cond c (x ∷ left) left)
added-other m i more x left true rest e = ap₂ (λ a b. a ∷ b) (same_updated m i more (x, 0) false e) rest
added-other m i more x left false rest e = rest

added-others : (m : List ℕ) (i : ℕ) (more : List (Option (List ℕ))) (q : List ℕ → Bool) (names : List (List ℕ))
    → map (added (i + 1) more) (filter q (filter (differs_from m) names)) ≡ map (added i (Some m ∷ more))
    (filter q (filter (differs_from m) names))
added-others m i more q [] = refl
added-others m i more q (x ∷ names) = by (added-others m i more q names) (is_same_name m x) refl
  where
    by : map (added (i + 1) more) (filter q (filter (differs_from m) names)) ≡ map (added i (Some m ∷ more))
        (filter q (filter (differs_from m) names)) → (b : Bool) → is_same_name m x ≡ b
        → map (added (i + 1) more)
        (filter q (cond (not b) (x ∷ filter (differs_from m) names) (filter (differs_from m) names)))
        ≡ map (added i (Some m ∷ more))
        (filter q (cond (not b) (x ∷ filter (differs_from m) names) (filter (differs_from m) names)))
    by rest true e = rest
    by rest false e = added-other m i more x (filter q (filter (differs_from m) names)) (q x) rest e

unchanged : (i : ℕ) (so_far : Places) → so_far ≡ map (updated i []) so_far ++ []
unchanged i [] = refl
unchanged i (p ∷ rest) = ap (λ l. p ∷ l) (unchanged i rest)

-- what is noted in the end: the names so far with their last places, and then the others in the order of their first
-- ones
noted_in_order : (so_far : Places) (i : ℕ) (all : List (Option (List ℕ))) → Distinct so_far → noted_all so_far i all
    ≡ map (updated i all) so_far ++ map (added i all) (filter (hasnt so_far) (first_assigned all))
noted_in_order so_far i [] d = unchanged i so_far
noted_in_order so_far i (None ∷ more) d = noted_in_order so_far (i + 1) more d
noted_in_order so_far i (Some m ∷ more) d =
    noted_in_order (with_place m i so_far) (i + 1) more (Distinct-with_place m i so_far d)
    ∙ ap₂ (λ a b. a ++ b) (updated-with_place m i more so_far d)
    (ap (map (added (i + 1) more)) (filter-hasnt m i so_far (first_assigned more)))
    ∙ by (has m so_far)
  where
    by : (b : Bool) → (map (updated i (Some m ∷ more)) so_far ++ (if b then [] else (m, last_place m i (i + 1) more)
        ∷ [])) ++ map (added (i + 1) more) (filter (hasnt so_far) (filter (differs_from m) (first_assigned more)))
        ≡ map (updated i (Some m ∷ more)) so_far ++ map (added i (Some m ∷ more))
        (cond (not b) (m ∷ filter (hasnt so_far) (filter (differs_from m) (first_assigned more)))
        (filter (hasnt so_far) (filter (differs_from m) (first_assigned more))))
    by true =
        ap₂ (λ a b. a ++ b) (append-nil (map (updated i (Some m ∷ more)) so_far)) (added-others m i more (hasnt so_far)
        (first_assigned more))
    by false =
        append_assoc (map (updated i (Some m ∷ more)) so_far) ((m, last_place m i (i + 1) more) ∷ [])
        (map (added (i + 1) more) (filter (hasnt so_far) (filter (differs_from m) (first_assigned more))))
        ∙ ap₂ (λ a b. map (updated i (Some m ∷ more)) so_far ++ (a ∷ b)) (same_updated m i more (m, 0) true
        (same_itself m)) (added-others m i more (hasnt so_far) (first_assigned more))

all_left : (names : List (List ℕ)) → filter (hasnt []) names ≡ names
all_left [] = refl
all_left (x ∷ names) = ap (λ l. x ∷ l) (all_left names)

abbrev pub binding_of : List ℕ × ℕ → Binding
binding_of p = record { name = p.0; item = p.1 }

bindings_of : (all : List (Option (List ℕ))) (names : List (List ℕ)) → map binding_of (map (added 0 all) names)
    ≡ map (binding all) names
bindings_of all [] = refl
bindings_of all (x ∷ names) = ap (λ l. binding all x ∷ l) (bindings_of all names)

-- what is noted of a whole scope are its bindings
pub noted_bindings : (scope : Items) → map binding_of (noted_all [] 0 (assigned_by scope)) ≡ bindings scope
noted_bindings scope =
    ap (map binding_of) (noted_in_order [] 0 (assigned_by scope) tt ∙ ap (map (added 0 (assigned_by scope)))
    (all_left (first_assigned (assigned_by scope))))
    ∙ bindings_of (assigned_by scope) (first_assigned (assigned_by scope))

-- a name in memory is put into a map
pub placed_put : (name : Bor (List ℕ)) (place : ℕ) (es : List (Bor (List ℕ) × ℕ))
    → map placed (put_in es name place) ≡ with_place name.now place (map placed es)
placed_put name place [] = refl
placed_put name place (e ∷ es) = by (placed_put name place es) (is_same_name name.now e.0.now)
  where
    by : map placed (put_in es name place) ≡ with_place name.now place (map placed es) → (b : Bool)
        → map placed (if b then (e.0, place) ∷ es else e ∷ put_in es name place)
        ≡ (if b then (e.0.now, place) ∷ map placed es else placed e ∷ with_place name.now place (map placed es))
    by rest true = refl
    by rest false = ap (λ l. placed e ∷ l) rest

as_binding_of : (es : List (Bor (List ℕ) × ℕ)) → map as_binding es ≡ map binding_of (map placed es)
as_binding_of [] = refl
as_binding_of (e ∷ es) = ap (λ l. as_binding e ∷ l) (as_binding_of es)

-- the map's entries, once a whole scope is noted, are the scope's bindings
pub listed_bindings : (scope : Items) (es : List (Bor (List ℕ) × ℕ)) → map placed es ≡ noted_all [] 0
    (assigned_by scope) → map as_binding es ≡ bindings scope
listed_bindings scope es is = as_binding_of es ∙ ap (map binding_of) is ∙ noted_bindings scope
