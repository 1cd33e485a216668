-- What a traversal adds for an operation, from what it adds for its parts.
use Rattle.std.proofs.Common.{◌≡◌, ℕ, suc, ◌+◌, ◌-◌, ◌<◌, ◌≤◌, List, ◌++◌, length, drop, get_or, arith, refl, ap, ap₂, sym, ◌∙◌, append_assoc, length-append, codes}
use Rattle.std.proofs.lemmas.List.{append-nil}
use Rattle.scad_tree.specs.declared.node.Node.{Node}
use Rattle.scad_tree.specs.Solid.{Solid, Solids, difference, member, members}
use Rattle.scad_tree.specs.Order.{surfaces, all_surfaces, leaves, all_leaves}
use Rattle.scad_tree.specs.Text.{indent, lines, all_lines}
use Rattle.scad_tree.specs.View.{solid_of, solids}
use Rattle.scad_tree.proofs.Rows.{left-more, left-none}

pub indent_more : (level counter : ℕ) → counter < level → indent (level - counter) ≡ codes "  " ++ indent
    (level - (counter + 1))
indent_more level counter below = let more : level - counter ≡ suc (level - (counter + 1)) = omega arith in ap indent more

-- two pieces, one after the other, and three
pub pieces : {X : Type 0} (old mid new head rest whole : List X) → mid ≡ old ++ head → new ≡ mid ++ rest
    → whole ≡ head ++ rest → new ≡ old ++ whole
pieces old mid new head rest whole first more is =
    more ∙ ap (λ m. m ++ rest) first ∙ append_assoc old head rest ∙ ap (λ w. old ++ w) (sym is)

pub three_pieces : {X : Type 0} (old mid new last head middle rest whole : List X) → mid ≡ old ++ head
    → new ≡ mid ++ middle → last ≡ new ++ rest → whole ≡ head ++ middle ++ rest → last ≡ old ++ whole
three_pieces old mid new last head middle rest whole a b c is =
    pieces old new last (head ++ middle) rest whole (pieces old mid new head middle (head ++ middle) a b refl) c is

-- how many leaves a difference has, and nodes one after another
pub leaves_of_difference : (first : Solid) (rest : Solids) → leaves (difference first rest) ≡ leaves first + all_leaves
    rest
leaves_of_difference first rest = length-append (surfaces first) (all_surfaces rest)

pub leaves_of_member : (s : Solid) (rest : Solids) → all_leaves (member s rest) ≡ leaves s + all_leaves rest
leaves_of_member s rest = length-append (surfaces s) (all_surfaces rest)

pub ruleset leaves_by_parts = (leaves_of_difference, leaves_of_member)

-- the number of the leaf behind those of a difference
pub behind : (leaf mid after : ℕ) (first : Solid) (rest : Solids) → mid ≡ leaf + leaves first
    → after ≡ mid + all_leaves rest → after ≡ leaf + leaves (difference first rest)
behind leaf mid after first rest a b = let both = leaves_of_difference first rest in omega arith

-- and behind those of one more node
pub numbered_more : (leaf after whole : ℕ) (nodes : List Node) (i : ℕ) (n : Node) → i < length nodes
    → n ≡ get_or nodes i n → after ≡ leaf + leaves (solid_of n) →
    leaf + all_leaves (members (solids (drop i nodes))) ≡ whole
    → after + all_leaves (members (solids (drop (i + 1) nodes))) ≡ whole
numbered_more leaf after whole nodes i n below is next so_far =
    let rest = all_surfaces (members (solids (drop (i + 1) nodes))) in
    let here : all_leaves (members (solids (drop i nodes))) ≡ leaves (solid_of n) + length rest = ap all_leaves
    (left-more nodes i n below is) ∙ leaves_of_member (solid_of n) (members (solids (drop (i + 1) nodes))) in
    omega arith

pub numbered_end : (leaf whole : ℕ) (nodes : List Node) (i : ℕ) → length nodes ≤ i
    → leaf + all_leaves (members (solids (drop i nodes))) ≡ whole → leaf ≡ whole
numbered_end leaf whole nodes i past so_far = let none = ap all_leaves (left-none nodes i past) in omega arith

-- the lines of one more node
pub written_more : (level leaf after : ℕ) (old new whole : List ℕ) (nodes : List Node) (i : ℕ) (n : Node)
    → i < length nodes → n ≡ get_or nodes i n → new ≡ old ++ lines level leaf (solid_of n)
    → after ≡ leaf + leaves (solid_of n)
    → old ++ all_lines level leaf (members (solids (drop i nodes))) ≡ whole
    → new ++ all_lines level after (members (solids (drop (i + 1) nodes))) ≡ whole
written_more level leaf after old new whole nodes i n below is more next so_far =
    let rest = members (solids (drop (i + 1) nodes)) in
    ap₂ (λ (l : List ℕ) k. l ++ all_lines level k rest) more next
    ∙ append_assoc old (lines level leaf (solid_of n)) (all_lines level (leaf + leaves (solid_of n)) rest)
    ∙ ap (λ ms. old ++ all_lines level leaf ms) (sym (left-more nodes i n below is)) ∙ so_far

pub written_end : (level leaf : ℕ) (out whole : List ℕ) (nodes : List Node) (i : ℕ) → length nodes ≤ i
    → out ++ all_lines level leaf (members (solids (drop i nodes))) ≡ whole → out ≡ whole
written_end level leaf out whole nodes i past so_far =
    sym (append-nil out) ∙ ap (λ ms. out ++ all_lines level leaf ms) (sym (left-none nodes i past)) ∙ so_far
