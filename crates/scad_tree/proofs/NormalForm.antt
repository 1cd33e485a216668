-- The operations give trees in normal form.
use Rattle.std.proofs.Common.{◌≡◌, Bool, true, false, cond, not, ◌&&◌, ◌||◌, List, [], ◌∷◌, ◌++◌, ℕ, zero, suc, ◌+◌, ◌<◌, ◌≤◌, length, take, drop, get_or, slice_index_or, refl, ap, ap₂, arith, sym, ◌∙◌, if◌then◌else◌}
use Rattle.std.proofs.Math.Bool.{and-true}
use Rattle.std.proofs.lemmas.Bool.{false≢true, and_from, and_parts}
use Rattle.std.proofs.lemmas.List.Folds.{list_all-append}
use Rattle.std.specs.List.{flat_map, list_all, list_any}
use Rattle.scad_tree.specs.declared.node.Node.{Node}
use Rattle.scad_tree.specs.Solid.{Solid, Solids, nothing, surface, union, intersection, difference, none, member, members, members_of}
use Rattle.scad_tree.specs.View.{solid_of, solids}
use Rattle.scad_tree.specs.Normal.{parts, union_of, intersection_of, without, intersected, subtracted, is_nothing, is_union, is_apart, is_kept, are_kept, are_kept_apart, are_several, is_normal, not_empty}

listed_apart : (ms : Solids) → list_all is_apart (members_of ms) ≡ are_kept_apart ms
listed_apart none = refl
listed_apart (member s rest) = ap (λ b. is_apart s && b) (listed_apart rest)

members_apart : (ss : List Solid) → are_kept_apart (members ss) ≡ list_all is_apart ss
members_apart [] = refl
members_apart (s ∷ rest) = ap (λ b. is_apart s && b) (members_apart rest)

members_kept : (ss : List Solid) → are_kept (members ss) ≡ list_all is_kept ss
members_kept [] = refl
members_kept (s ∷ rest) = ap (λ b. is_kept s && b) (members_kept rest)

pub parts_apart : (s : Solid) → is_normal s ≡ true → list_all is_apart (parts s) ≡ true
parts_apart nothing e = refl
parts_apart (surface ts) e = and-true _ ∙ e
parts_apart (union ms) e = listed_apart ms ∙ (and_parts (are_several ms) (are_kept_apart ms) e).1
parts_apart (intersection ms) e = and-true _ ∙ e
parts_apart (difference first rest) e = and-true _ ∙ e

kept_normal : (s : Solid) → is_kept s ≡ true → is_normal s ≡ true
kept_normal nothing e = absurd (false≢true e)
kept_normal (surface ts) e = e
kept_normal (union ms) e = e
kept_normal (intersection ms) e = e
kept_normal (difference first rest) e = e

pub normal_kept : (s : Solid) → is_normal s ≡ true → is_nothing s ≡ false → is_kept s ≡ true
normal_kept nothing e f = absurd (false≢true (sym f))
normal_kept (surface ts) e f = e
normal_kept (union ms) e f = e
normal_kept (intersection ms) e f = e
normal_kept (difference first rest) e f = e

pub union_normal : (ss : List Solid) → list_all is_apart ss ≡ true → is_normal (union_of ss) ≡ true
union_normal [] e = refl
union_normal (s ∷ []) e = kept_normal s (and_parts (not (is_union s)) (is_kept s) (and_parts (is_apart s) true e).0).1
union_normal (s ∷ t ∷ rest) e = members_apart (s ∷ t ∷ rest) ∙ e

pub intersection_normal : (ss : List Solid) → list_all is_kept ss ≡ true → is_normal (intersection_of ss) ≡ true
intersection_normal [] e = refl
intersection_normal (s ∷ []) e = kept_normal s (and_parts (is_kept s) true e).0
intersection_normal (s ∷ t ∷ rest) e = members_kept (s ∷ t ∷ rest) ∙ e

pub without_normal : (first : Solid) (ss : List Solid) → is_kept first ≡ true → list_all is_kept ss ≡ true
    → is_normal (without first ss) ≡ true
without_normal first [] e f = kept_normal first e
without_normal first (s ∷ rest) e f = and_from (is_kept first) (are_kept (members (s ∷ rest))) e
    (members_kept (s ∷ rest) ∙ f)

-- ---- one more
pub all_more : (p : Solid → Bool) (ss ts : List Solid) → list_all p ss ≡ true → list_all p ts ≡ true
    → list_all p (ss ++ ts) ≡ true
all_more p ss ts e f = list_all-append p ss ts ∙ and_from (list_all p ss) (list_all p ts) e f

append_nil : (ss : List Solid) → ss ++ [] ≡ ss
append_nil [] = refl
append_nil (s ∷ rest) = ap (λ ts. s ∷ ts) (append_nil rest)

append_assoc : (ss ts us : List Solid) → (ss ++ ts) ++ us ≡ ss ++ (ts ++ us)
append_assoc [] ts us = refl
append_assoc (s ∷ rest) ts us = ap (λ vs. s ∷ vs) (append_assoc rest ts us)

pub parts_more : (ns : List Node) (n : Node) → flat_map parts (solids (ns ++ (n ∷ []))) ≡ flat_map parts (solids ns) ++
    parts (solid_of n)
parts_more [] n = append_nil (parts (solid_of n))
parts_more (m ∷ ns) n = ap (λ ss. parts (solid_of m) ++ ss) (parts_more ns n) ∙ sym (append_assoc (parts (solid_of m))
    (flat_map parts (solids ns)) (parts (solid_of n)))

after : (b : Bool) (ns : List Node) (n : Node) → (b || list_any is_nothing (solids ns)) ≡ false
    → is_nothing (solid_of n) ≡ false → (list_any is_nothing (solids ns) ≡ false → is_nothing (solid_of n) ≡ false
    → list_any is_nothing (solids (ns ++ (n ∷ []))) ≡ false) → (b || list_any is_nothing (solids (ns ++ (n ∷ []))))
    ≡ false
after true ns n e f more = e
after false ns n e f more = more e f

pub any_more : (ns : List Node) (n : Node) → list_any is_nothing (solids ns) ≡ false → is_nothing (solid_of n) ≡ false
    → list_any is_nothing (solids (ns ++ (n ∷ []))) ≡ false
any_more [] n e f = ap (λ b. b || false) f
any_more (m ∷ ns) n e f = after (is_nothing (solid_of m)) ns n e f (any_more ns n)

pub not_empty_skips : (ns : List Node) (n : Node) → is_nothing (solid_of n) ≡ true → not_empty (solids (ns ++ (n ∷ [])))
    ≡ not_empty (solids ns)
not_empty_skips [] n e = ap (λ b. cond (not b) (solid_of n ∷ []) []) e
not_empty_skips (m ∷ ns) n e = ap (λ ss. cond (not (is_nothing (solid_of m))) (solid_of m ∷ ss) ss)
    (not_empty_skips ns n e)

pub not_empty_keeps : (ns : List Node) (n : Node) → is_nothing (solid_of n) ≡ false
    → not_empty (solids (ns ++ (n ∷ []))) ≡ not_empty (solids ns) ++ solid_of n ∷ []
not_empty_keeps [] n e = ap (λ b. cond (not b) (solid_of n ∷ []) []) e
not_empty_keeps (m ∷ ns) n e = behind_one (is_nothing (solid_of m)) (solid_of m) _ _ (not_empty_keeps ns n e)
  where
    behind_one : (b : Bool) (s : Solid) (new old : List Solid) → new ≡ old ++ solid_of n ∷ []
        → cond (not b) (s ∷ new) new ≡ cond (not b) (s ∷ old) old ++ solid_of n ∷ []
    behind_one true s new old is = is
    behind_one false s new old is = ap (λ ss. s ∷ ss) is

-- ---- the operations by cases
pub intersected_empty : (ss : List Solid) → list_any is_nothing ss ≡ true → intersected ss ≡ nothing
unfolding intersected
intersected_empty ss e = ap (λ b. if b then nothing else intersection_of ss) e

pub intersected_full : (ss : List Solid) → list_any is_nothing ss ≡ false → intersected ss ≡ intersection_of ss
unfolding intersected
intersected_full ss e = ap (λ b. if b then nothing else intersection_of ss) e

pub subtracted_none : (ns : List Node) → length ns < 1 → subtracted (solids ns) ≡ nothing
unfolding subtracted
subtracted_none [] few = refl
subtracted_none (n ∷ ns) few = absurd (omega arith)

pub subtracted_empty : (n : Node) (ns : List Node) → is_nothing (solid_of n) ≡ true → subtracted (solids (n ∷ ns))
    ≡ nothing
unfolding subtracted
subtracted_empty n ns e = ap (λ b. if b then nothing else without (solid_of n) (not_empty (solids ns))) e

pub subtracted_full : (n : Node) (ns : List Node) → is_nothing (solid_of n) ≡ false → subtracted (solids (n ∷ ns))
    ≡ without (solid_of n) (not_empty (solids ns))
unfolding subtracted
subtracted_full n ns e = ap (λ b. if b then nothing else without (solid_of n) (not_empty (solids ns))) e

pub first_and_rest : (ns : List Node) (first : Node) (rest : List Node) → 1 ≤ length ns
    → first ≡ slice_index_or ns 0 first → rest ≡ take 0 ns ++ drop (0 + 1) ns → ns ≡ first ∷ rest
first_and_rest [] first rest some e f = absurd (omega arith)
first_and_rest (n ∷ ns) first rest some e f = ap₂ (λ x xs. x ∷ xs) (sym e) (sym f)

found_after : (b : Bool) (m : Node) (ns : List Node) (i : ℕ) (n : Node) → is_nothing (solid_of m) ≡ b
    → i < length (m ∷ ns) → n ≡ get_or (m ∷ ns) i n → is_nothing (solid_of n) ≡ true
    → ((k : ℕ) (o : Node) → k < length ns → o ≡ get_or ns k o → is_nothing (solid_of o) ≡ true
    → list_any is_nothing (solids ns) ≡ true) → (b || list_any is_nothing (solids ns)) ≡ true
found_after true m ns i n known there is e later = refl
found_after false m ns zero n known there is e later =
    absurd (false≢true (sym known ∙ ap (λ o. is_nothing (solid_of o)) (sym is) ∙ e))
found_after false m ns (suc i) n known there is e later = later i n (omega arith) is e

pub found_empty : (ns : List Node) (i : ℕ) (n : Node) → i < length ns → n ≡ get_or ns i n → is_nothing (solid_of n)
    ≡ true → list_any is_nothing (solids ns) ≡ true
found_empty [] i n there is e = absurd (omega arith)
found_empty (m ∷ ns) i n there is e = found_after (is_nothing (solid_of m)) m ns i n refl there is e (found_empty ns)
