-- Set operations in normal form hold what their members say.
use Rattle.std.proofs.Common.{◌≡◌, Bool, true, false, not, ◌&&◌, ◌||◌, List, [], ◌∷◌, ◌++◌, refl, ap, sym, ◌∙◌, filter, if◌then◌else◌, rules}
use Rattle.std.proofs.Math.Bool.{and-false, and-true, or-false, or_assoc}
use Rattle.std.specs.List.{flat_map, list_any}
use Rattle.scad_solid.specs.declared.triangle.Triangle.{Triangle}
use Rattle.scad_tree.specs.Solid.{Solid, Solids, nothing, surface, union, intersection, difference, none, member, members, members_of}
use Rattle.scad_tree.specs.Normal.{parts, union_of, united, intersection_of, intersected, without, subtracted, is_nothing}
use Rattle.scad_tree.specs.Member.{holds, some_hold, all_hold, any_holds, each_holds, has_items, first_alone_holds}
use Rattle.scad_tree.specs.Laws.{OperationsHold}

abbrev Inside : Type 0
Inside = List Triangle → Bool

some_members : (inside : Inside) (ss : List Solid) → some_hold inside (members ss) ≡ any_holds inside ss
some_members inside [] = refl
some_members inside (s ∷ rest) = ap (λ b. holds inside s || b) (some_members inside rest)

all_members : (inside : Inside) (ss : List Solid) → all_hold inside (members ss) ≡ each_holds inside ss
all_members inside [] = refl
all_members inside (s ∷ rest) = ap (λ b. holds inside s && b) (all_members inside rest)

some_listed : (inside : Inside) (ms : Solids) → any_holds inside (members_of ms) ≡ some_hold inside ms
some_listed inside none = refl
some_listed inside (member s rest) = ap (λ b. holds inside s || b) (some_listed inside rest)

any_both : (inside : Inside) (ss ts : List Solid) → any_holds inside (ss ++ ts)
    ≡ (any_holds inside ss || any_holds inside ts)
any_both inside [] ts = refl
any_both inside (s ∷ rest) ts = ap (λ b. holds inside s || b) (any_both inside rest ts) ∙ sym
    (or_assoc (holds inside s) (any_holds inside rest) (any_holds inside ts))

parts_hold : (inside : Inside) (s : Solid) → any_holds inside (parts s) ≡ holds inside s
parts_hold inside nothing = refl
parts_hold inside (surface ts) = or-false (inside ts)
parts_hold inside (union ms) = some_listed inside ms
parts_hold inside (intersection ms) = or-false _
parts_hold inside (difference first rest) = or-false _

all_parts_hold : (inside : Inside) (ss : List Solid) → any_holds inside (flat_map parts ss) ≡ any_holds inside ss
all_parts_hold inside [] = refl
all_parts_hold inside (s ∷ rest) =
    any_both inside (parts s) (flat_map parts rest)
    ∙ ap (λ b. b || any_holds inside (flat_map parts rest)) (parts_hold inside s)
    ∙ ap (λ b. holds inside s || b) (all_parts_hold inside rest)

union_holds : (inside : Inside) (ss : List Solid) → holds inside (union_of ss) ≡ any_holds inside ss
union_holds inside [] = refl
union_holds inside (s ∷ []) = sym (or-false (holds inside s))
union_holds inside (s ∷ t ∷ rest) = some_members inside (s ∷ t ∷ rest)

pub united_holds : (inside : Inside) (ss : List Solid) → holds inside (united ss) ≡ any_holds inside ss
unfolding united
united_holds inside ss = union_holds inside (flat_map parts ss) ∙ all_parts_hold inside ss

-- nothing holds nothing
nothing_holds : (inside : Inside) (s : Solid) → is_nothing s ≡ true → holds inside s ≡ false
nothing_holds inside nothing e = refl
nothing_holds inside (surface ts) e = search (rules, e)
nothing_holds inside (union ms) e = search (rules, e)
nothing_holds inside (intersection ms) e = search (rules, e)
nothing_holds inside (difference s ms) e = search (rules, e)

intersection_holds : (inside : Inside) (ss : List Solid) → holds inside (intersection_of ss)
    ≡ (has_items ss && each_holds inside ss)
intersection_holds inside [] = refl
intersection_holds inside (s ∷ []) = sym (and-true (holds inside s))
intersection_holds inside (s ∷ t ∷ rest) = all_members inside (s ∷ t ∷ rest)

any_after : (b : Bool) (s : Solid) (inside : Inside) (rest : List Solid) → is_nothing s ≡ b
    → (list_any is_nothing rest ≡ true → each_holds inside rest ≡ false) → (b || list_any is_nothing rest) ≡ true
    → (holds inside s && each_holds inside rest) ≡ false
any_after true s inside rest is later e = ap (λ b. b && each_holds inside rest) (nothing_holds inside s is)
any_after false s inside rest is later e = ap (λ b. holds inside s && b) (later e) ∙ and-false (holds inside s)

empty_member : (inside : Inside) (ss : List Solid) → list_any is_nothing ss ≡ true → each_holds inside ss ≡ false
empty_member inside [] e = search (rules, e)
empty_member inside (s ∷ rest) e = any_after (is_nothing s) s inside rest refl (empty_member inside rest) e

chosen : (b : Bool) (inside : Inside) (ss : List Solid) → list_any is_nothing ss ≡ b
    → holds inside (if b then nothing else intersection_of ss) ≡ (has_items ss && each_holds inside ss)
chosen true inside ss e = sym (ap (λ b. has_items ss && b) (empty_member inside ss e) ∙ and-false (has_items ss))
chosen false inside ss e = intersection_holds inside ss

pub intersected_holds : (inside : Inside) (ss : List Solid) → holds inside (intersected ss)
    ≡ (has_items ss && each_holds inside ss)
unfolding intersected
intersected_holds inside ss = chosen (list_any is_nothing ss) inside ss refl

-- empty solids among those taken away change nothing
full : List Solid → List Solid
full ss = filter (λ s. not (is_nothing s)) ss

dropped : (b : Bool) (inside : Inside) (s : Solid) (rest : List Solid) → is_nothing s ≡ b
    → any_holds inside (if not b then s ∷ full rest else full rest) ≡ (holds inside s || any_holds inside (full rest))
dropped true inside s rest e = sym (ap (λ b. b || any_holds inside (full rest)) (nothing_holds inside s e))
dropped false inside s rest e = refl

full_hold : (inside : Inside) (ss : List Solid) → any_holds inside (full ss) ≡ any_holds inside ss
unfolding full
full_hold inside [] = refl
full_hold inside (s ∷ rest) = dropped (is_nothing s) inside s rest refl ∙ ap (λ b. holds inside s || b)
    (full_hold inside rest)

without_holds : (inside : Inside) (first : Solid) (ss : List Solid) → holds inside (without first ss)
    ≡ (holds inside first && not (any_holds inside ss))
without_holds inside first [] = sym (and-true (holds inside first))
without_holds inside first (s ∷ rest) = ap (λ b. holds inside first && not b) (some_members inside (s ∷ rest))

taken : (b : Bool) (inside : Inside) (first : Solid) (rest : List Solid) → is_nothing first ≡ b
    → holds inside (if b then nothing else without first (filter (λ s. not (is_nothing s)) rest))
    ≡ (holds inside first && not (any_holds inside rest))
unfolding full
taken true inside first rest e = sym (ap (λ b. b && not (any_holds inside rest)) (nothing_holds inside first e))
taken false inside first rest e = without_holds inside first (full rest) ∙ ap (λ b. holds inside first && not b)
    (full_hold inside rest)

pub subtracted_holds : (inside : Inside) (ss : List Solid) → holds inside (subtracted ss) ≡ first_alone_holds inside ss
unfolding subtracted
subtracted_holds inside [] = refl
subtracted_holds inside (first ∷ rest) = taken (is_nothing first) inside first rest refl

pub operations_hold : OperationsHold
operations_hold = record { union = united_holds; intersection = intersected_holds; difference = subtracted_holds }
