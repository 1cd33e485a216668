-- The members of a node are those of the vector that holds them.
use Rattle.std.proofs.Common.{◌≡◌, ℕ, ◌+◌, ◌<◌, ◌≤◌, ◌++◌, ◌∙◌, sym, false, List, [], ◌∷◌, Vec, Box, Global, length, refl, ap, rules, arith, drop, get_or}
use Rattle.std.proofs.lemmas.List.{drop_more, drop_all}
use Rattle.scad_tree.specs.declared.node.Node.{Node, Union, Inter, Diff, Row_of-Node, end_of-Node, more_of-Node, items-the_row-Node}
use Rattle.scad_tree.specs.declared.node.Node.{the_lemmas}
use Rattle.scad_tree.specs.Solid.{Solid, union, intersection, difference, none, member, members, members_of}
use Rattle.std.proofs.lemmas.Bool.Decides.{nat_tests}
use Rattle.std.specs.Prelude.{not, ◌==◌}
use Rattle.scad_tree.specs.Normal.{are_some, parts, is_nothing, union_of, intersection_of, without}
use Rattle.scad_tree.specs.View.{solid_of, solids_of, solids}

pub rows : (m : _) (r : Row_of-Node m) → solids_of r ≡ members (solids (items-the_row-Node m r))
rows m end_of-Node = refl
rows m (more_of-Node n rest) = ap (member (solid_of n)) (rows _ rest)

pub union_view : (v : Vec Node Global) → solid_of (Union v) ≡ union (members (solids v.items))
union_view v = search (rules, the_lemmas, rows)

pub inter_view : (v : Vec Node Global) → solid_of (Inter v) ≡ intersection (members (solids v.items))
inter_view v = search (rules, the_lemmas, rows)

pub diff_view : (b : Box Node Global) (v : Vec Node Global) → solid_of (Diff b v) ≡ difference (solid_of b.value)
    (members (solids v.items))
diff_view b v = search (rules, the_lemmas, rows)

-- a node that is known to be one of them
pub at_union : (n : Node) (v : Vec Node Global) → n ≡ Union v → solid_of n ≡ union (members (solids v.items))
at_union n v is = ap solid_of is ∙ union_view v

pub at_inter : (n : Node) (v : Vec Node Global) → n ≡ Inter v → solid_of n ≡ intersection (members (solids v.items))
at_inter n v is = ap solid_of is ∙ inter_view v

pub at_diff : (n : Node) (b : Box Node Global) (v : Vec Node Global) → n ≡ Diff b v
    → solid_of n ≡ difference (solid_of b.value) (members (solids v.items))
at_diff n b v is = ap solid_of is ∙ diff_view b v

pub ruleset at_operation = (at_union, at_inter, at_diff)

-- the next of the nodes that are left
pub left-more : (all : List Node) (i : ℕ) (n : Node) → i < length all → n ≡ get_or all i n
    → members (solids (drop i all)) ≡ member (solid_of n) (members (solids (drop (i + 1) all)))
left-more all i n below is = ap (λ ns. members (solids ns)) (drop_more all i n below) ∙ ap
    (λ m. member (solid_of m) (members (solids (drop (i + 1) all)))) (sym is)

pub left-none : (all : List Node) (i : ℕ) → length all ≤ i → members (solids (drop i all)) ≡ none
left-none all i past = ap (λ ns. members (solids ns)) (drop_all i all past)

pub ruleset left = (left-more, left-none)

pub there_and_back : (ss : List Solid) → members_of (members ss) ≡ ss
there_and_back [] = refl
there_and_back (s ∷ rest) = ap (λ l. s ∷ l) (there_and_back rest)

-- ---- two members or more
pub several_union : (ns : List Node) → 2 ≤ length ns → union (members (solids ns)) ≡ union_of (solids ns)
several_union [] some = absurd (omega arith)
several_union (a ∷ []) some = absurd (omega arith)
several_union (a ∷ b ∷ rest) some = refl

pub several_inter : (ns : List Node) → 2 ≤ length ns → intersection (members (solids ns)) ≡ intersection_of (solids ns)
several_inter [] some = absurd (omega arith)
several_inter (a ∷ []) some = absurd (omega arith)
several_inter (a ∷ b ∷ rest) some = refl

pub some_without : (first : Solid) (ns : List Node) → 1 ≤ length ns → difference first (members (solids ns))
    ≡ without first (solids ns)
some_without first [] some = absurd (omega arith)
some_without first (a ∷ rest) some = refl

-- ---- what a node adds to a union
pub parts_union : (v : Vec Node Global) → parts (solid_of (Union v)) ≡ solids v.items
parts_union v = ap parts (union_view v) ∙ there_and_back (solids v.items)

pub parts_inter : (v : Vec Node Global) → parts (solid_of (Inter v)) ≡ solid_of (Inter v) ∷ []
parts_inter v = ap parts (inter_view v) ∙ ap (λ s. s ∷ []) (sym (inter_view v))

pub parts_diff : (b : Box Node Global) (v : Vec Node Global) → parts (solid_of (Diff b v)) ≡ solid_of (Diff b v) ∷ []
parts_diff b v = ap parts (diff_view b v) ∙ ap (λ s. s ∷ []) (sym (diff_view b v))

pub nothing_union : (v : Vec Node Global) → is_nothing (solid_of (Union v)) ≡ false
nothing_union v = ap is_nothing (union_view v)

pub nothing_inter : (v : Vec Node Global) → is_nothing (solid_of (Inter v)) ≡ false
nothing_inter v = ap is_nothing (inter_view v)

pub nothing_diff : (b : Box Node Global) (v : Vec Node Global) → is_nothing (solid_of (Diff b v)) ≡ false
nothing_diff b v = ap is_nothing (diff_view b v)

pub both : (ns ms : List Node) → solids (ns ++ ms) ≡ solids ns ++ solids ms
both [] ms = refl
both (n ∷ ns) ms = ap (λ ss. solid_of n ∷ ss) (both ns ms)

pub some_members : (ns : List Node) → are_some (members (solids ns)) ≡ not (length ns == 0)
some_members [] = refl
some_members (n ∷ ns) = grind (arith, nat_tests)
