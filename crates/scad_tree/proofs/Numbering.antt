-- Shapes over numbered leaves: their rows as lists, what they hold, and the numbers of their leaves.
use Rattle.std.proofs.Common.{◌≡◌, ℕ, zero, suc, ◌+◌, ◌<◌, Bool, true, false, not, ◌&&◌, ◌||◌, List, [], ◌∷◌, ◌++◌, Vec, Box, Global, length, drop, get_or, arith, refl, ap, ap₂, sym, ◌∙◌, rules, length-append, append_assoc}
use Rattle.std.proofs.lemmas.Bool.{and_parts}
use Rattle.std.proofs.lemmas.List.{append-nil}
use Rattle.std.proofs.lemmas.List.Folds.{list_all-append}
use Rattle.std.specs.List.{list_all, range_with_len}
use Rattle.scad_geom.specs.declared.shape.Shape.{Shape, Empty, Leaf, Union, Inter, Diff, Union', Inter', Diff', Row_of-Shape, end_of-Shape, more_of-Shape, items-the_row-Shape}
use Rattle.scad_geom.specs.declared.shape.Shape.{the_lemmas}
use Rattle.scad_geom.specs.Shape.{shape_holds, some_hold as some_shape, all_hold as all_shape, has_member}
use Rattle.scad_solid.specs.declared.triangle.Triangle.{Triangle}
use Rattle.scad_tree.specs.declared.node.Node.{Node}
use Rattle.scad_tree.specs.View.{solid_of, solids}
use Rattle.scad_tree.proofs.Rows.{left-more}
use Rattle.scad_tree.specs.Solid.{Solid, Solids, nothing, surface, union, intersection, difference, none, member, members}
use Rattle.scad_tree.specs.Normal.{is_union, is_kept, are_kept, are_kept_apart, are_several, are_some, has_triangles, is_normal}
use Rattle.scad_tree.specs.Member.{holds, some_hold, all_hold}
use Rattle.scad_tree.specs.Order.{surfaces, all_surfaces, leaves, all_leaves}
use Rattle.scad_tree.specs.Laws.{ShapesHold}
use Rattle.scad_tree.specs.LeafNumbers.{Numbered, Numbereds, blank, leaf, join, meet, minus, end, next, numbered_from, all_numbered, numbered_of, row_of, shapes_onto, numbers, all_numbers, surface_at}

-- ---- rows as lists
rows : (m : _) (r : Row_of-Shape m) → row_of r ≡ shapes_onto (items-the_row-Shape m r) end
rows m end_of-Shape = refl
rows m (more_of-Shape s rest) = ap (next (numbered_of s)) (rows _ rest)

pub union_shape : (v : Vec Shape Global) → numbered_of (Union v) ≡ join (shapes_onto v.items end)
union_shape v = search (rules, the_lemmas, rows)

pub inter_shape : (v : Vec Shape Global) → numbered_of (Inter v) ≡ meet (shapes_onto v.items end)
inter_shape v = search (rules, the_lemmas, rows)

pub diff_shape : (b : Box Shape Global) (v : Vec Shape Global) → numbered_of (Diff b v) ≡ minus (numbered_of b.value)
    (shapes_onto v.items end)
diff_shape b v = search (rules, the_lemmas, rows)

pub ruleset shape_views = (union_shape, inter_shape, diff_shape)

pub shapes_onto_push : (all : List Shape) (s : Shape) (more : Numbereds) → shapes_onto (all ++ s ∷ []) more
    ≡ shapes_onto all (next (numbered_of s) more)
shapes_onto_push [] s more = refl
shapes_onto_push (t ∷ all) s more = ap (next (numbered_of t)) (shapes_onto_push all s more)

-- the shape of one more node
pub shapes_more : (old new : List Shape) (s : Shape) (nodes : List Node) (i : ℕ) (n : Node) (first after : ℕ)
    (whole : Numbereds) → i < length nodes → n ≡ get_or nodes i n →
    new ≡ old ++ s ∷ [] → numbered_of s ≡ numbered_from first (solid_of n) → after ≡ first + leaves (solid_of n) →
    shapes_onto old (all_numbered first (members (solids (drop i nodes)))) ≡ whole →
    shapes_onto new (all_numbered after (members (solids (drop (i + 1) nodes)))) ≡ whole
shapes_more old new s nodes i n first after whole below is more same following so_far =
    let rest = members (solids (drop (i + 1) nodes)) in
    ap₂ (λ ss k. shapes_onto ss (all_numbered k rest)) more following
    ∙ shapes_onto_push old s (all_numbered (first + leaves (solid_of n)) rest)
    ∙ ap (λ t. shapes_onto old (next t (all_numbered (first + leaves (solid_of n)) rest))) same
    ∙ ap (λ ms. shapes_onto old (all_numbered first ms)) (sym (left-more nodes i n below is))
    ∙ so_far

-- ---- what a shape holds, by its numbers
abbrev mutual
  numbered_holds : (ℕ → Bool) → Numbered → Bool
  numbered_holds inside blank = false
  numbered_holds inside (leaf n) = inside n
  numbered_holds inside (join all) = some_number inside all
  numbered_holds inside (meet all) = has_number all && all_number inside all
  numbered_holds inside (minus first rest) = numbered_holds inside first && not (some_number inside rest)

  some_number : (ℕ → Bool) → Numbereds → Bool
  some_number inside end = false
  some_number inside (next t rest) = numbered_holds inside t || some_number inside rest

  all_number : (ℕ → Bool) → Numbereds → Bool
  all_number inside end = true
  all_number inside (next t rest) = numbered_holds inside t && all_number inside rest

  has_number : Numbereds → Bool
  has_number end = false
  has_number (next t rest) = true

has_row : {m : _} → (r : Row_of-Shape m) → has_member r ≡ has_number (row_of r)
has_row end_of-Shape = refl
has_row (more_of-Shape s rest) = refl

mutual
  shape_numbered : (inside : ℕ → Bool) (s : Shape) → shape_holds inside s ≡ numbered_holds inside (numbered_of s)
  shape_numbered inside Empty = refl
  shape_numbered inside (Leaf n) = refl
  shape_numbered inside (Union' list members) = some_row inside members
  shape_numbered inside (Inter' list members) = ap₂ (λ a b. a && b) (has_row members) (all_row inside members)
  shape_numbered inside (Diff' box first list rest) = ap₂ (λ a b. a && not b) (shape_numbered inside first)
      (some_row inside rest)

  some_row : {m : _} → (inside : ℕ → Bool) (r : Row_of-Shape m) → some_shape inside r ≡ some_number inside (row_of r)
  some_row inside end_of-Shape = refl
  some_row inside (more_of-Shape s rest) = ap₂ (λ a b. a || b) (shape_numbered inside s) (some_row inside rest)

  all_row : {m : _} → (inside : ℕ → Bool) (r : Row_of-Shape m) → all_shape inside r ≡ all_number inside (row_of r)
  all_row inside end_of-Shape = refl
  all_row inside (more_of-Shape s rest) = ap₂ (λ a b. a && b) (shape_numbered inside s) (all_row inside rest)

-- the surface behind others
at_front : (front : List (List Triangle)) (ts : List Triangle) (back : List (List Triangle))
    → surface_at (front ++ ts ∷ back) (length front) ≡ ts
at_front [] ts back = refl
at_front (us ∷ front) ts back = at_front front ts back

module _ (inside : List Triangle → Bool) (all : List (List Triangle)) where
  abbrev by_number : ℕ → Bool
  by_number n = inside (surface_at all n)

  -- the parts of what stands between others
  first_part : (front us vs back : List (List Triangle)) → all ≡ front ++ ((us ++ vs) ++ back)
      → all ≡ front ++ (us ++ (vs ++ back))
  first_part front us vs back is = is ∙ ap (λ l. front ++ l) (append_assoc us vs back)

  second_part : (front us vs back : List (List Triangle)) → all ≡ front ++ ((us ++ vs) ++ back)
      → all ≡ (front ++ us) ++ (vs ++ back)
  second_part front us vs back is = first_part front us vs back is ∙ sym (append_assoc front us (vs ++ back))

  has_numbered : (n : ℕ) (ms : Solids) → has_number (all_numbered n ms) ≡ are_some ms
  has_numbered n none = refl
  has_numbered n (member s rest) = refl

  mutual
    between : (s : Solid) (front back : List (List Triangle)) → all ≡ front ++ (surfaces s ++ back)
        → numbered_holds by_number (numbered_from (length front) s) ≡ holds inside s
    between nothing front back is = refl
    between (surface ts) front back is = ap inside (ap (λ l. surface_at l (length front)) is ∙ at_front front ts back)
    between (union ms) front back is = some_between ms front back is
    between (intersection ms) front back is = ap₂ (λ a b. a && b) (has_numbered (length front) ms)
        (all_between ms front back is)
    between (difference first rest) front back is =
        ap₂ (λ a b. a && not b)
        (between first front (all_surfaces rest ++ back) (first_part front (surfaces first) (all_surfaces rest) back
        is))
        (ap (λ n. some_number by_number (all_numbered n rest)) (sym (length-append front (surfaces first)))
        ∙ some_between rest (front ++ surfaces first) back (second_part front (surfaces first) (all_surfaces rest) back
        is))

    some_between : (ms : Solids) (front back : List (List Triangle)) → all ≡ front ++ (all_surfaces ms ++ back)
        → some_number by_number (all_numbered (length front) ms) ≡ some_hold inside ms
    some_between none front back is = refl
    some_between (member s rest) front back is =
        ap₂ (λ a b. a || b)
        (between s front (all_surfaces rest ++ back) (first_part front (surfaces s) (all_surfaces rest) back is))
        (ap (λ n. some_number by_number (all_numbered n rest)) (sym (length-append front (surfaces s)))
        ∙ some_between rest (front ++ surfaces s) back (second_part front (surfaces s) (all_surfaces rest) back is))

    all_between : (ms : Solids) (front back : List (List Triangle)) → all ≡ front ++ (all_surfaces ms ++ back)
        → all_number by_number (all_numbered (length front) ms) ≡ all_hold inside ms
    all_between none front back is = refl
    all_between (member s rest) front back is =
        ap₂ (λ a b. a && b)
        (between s front (all_surfaces rest ++ back) (first_part front (surfaces s) (all_surfaces rest) back is))
        (ap (λ n. all_number by_number (all_numbered n rest)) (sym (length-append front (surfaces s)))
        ∙ all_between rest (front ++ surfaces s) back (second_part front (surfaces s) (all_surfaces rest) back is))

shapes_hold : (inside : List Triangle → Bool) (s : Solid) (shape : Shape) → numbered_of shape ≡ numbered_from 0 s
    → shape_holds (λ n. inside (surface_at (surfaces s) n)) shape ≡ holds inside s
shapes_hold inside s shape is =
    shape_numbered (λ n. inside (surface_at (surfaces s) n)) shape
    ∙ ap (numbered_holds (λ n. inside (surface_at (surfaces s) n))) is
    ∙ between inside (surfaces s) s [] [] (sym (append-nil (surfaces s)))

-- ---- the numbers of the leaves
range-append : (n a b : ℕ) → range_with_len n (a + b) ≡ range_with_len n a ++ range_with_len (n + a) b
range-append n zero b =
    let none : 0 + b ≡ b = omega arith in
    let here : n ≡ n + 0 = omega arith in
    ap (range_with_len n) none ∙ ap (λ k. range_with_len k b) here
range-append n (suc a) b =
    let more : suc a + b ≡ suc (a + b) = omega arith in
    let on : (n + 1) + a ≡ n + suc a = omega arith in
    ap (range_with_len n) more ∙ ap (λ ks. n ∷ ks) (range-append (n + 1) a b ∙ ap (λ k. range_with_len (n + 1) a ++
    range_with_len k b) on)

range-parts : (n : ℕ) (us vs : List (List Triangle)) → range_with_len n (length us) ++ range_with_len (n + length us)
    (length vs) ≡ range_with_len n (length (us ++ vs))
range-parts n us vs = sym (range-append n (length us) (length vs)) ∙ ap (range_with_len n) (sym (length-append us vs))

mutual
  numbers_from : (n : ℕ) (s : Solid) → numbers (numbered_from n s) ≡ range_with_len n (leaves s)
  numbers_from n nothing = refl
  numbers_from n (surface ts) = refl
  numbers_from n (union ms) = all_numbers_from n ms
  numbers_from n (intersection ms) = all_numbers_from n ms
  numbers_from n (difference first rest) =
      ap₂ (λ a b. a ++ b) (numbers_from n first) (all_numbers_from (n + leaves first) rest) ∙ range-parts n
      (surfaces first) (all_surfaces rest)

  all_numbers_from : (n : ℕ) (ms : Solids) → all_numbers (all_numbered n ms) ≡ range_with_len n (all_leaves ms)
  all_numbers_from n none = refl
  all_numbers_from n (member s rest) =
      ap₂ (λ a b. a ++ b) (numbers_from n s) (all_numbers_from (n + leaves s) rest) ∙ range-parts n (surfaces s)
      (all_surfaces rest)

numbers_count : (s : Solid) → numbers (numbered_from 0 s) ≡ range_with_len 0 (leaves s)
numbers_count s = numbers_from 0 s

-- ---- each leaf of a tree in normal form has a triangle
all_parts : (us vs : List (List Triangle)) → list_all has_triangles us ≡ true → list_all has_triangles vs ≡ true
    → list_all has_triangles (us ++ vs) ≡ true
all_parts us vs a b = list_all-append has_triangles us vs ∙ ap₂ (λ x y. x && y) a b

mutual
  kept_surfaces : (s : Solid) → is_kept s ≡ true → list_all has_triangles (surfaces s) ≡ true
  kept_surfaces nothing kept = refl
  kept_surfaces (surface ts) kept = ap (λ b. b && true) kept
  kept_surfaces (union ms) kept = apart_surfaces ms (and_parts (are_several ms) (are_kept_apart ms) kept).1
  kept_surfaces (intersection ms) kept = all_kept_surfaces ms (and_parts (are_several ms) (are_kept ms) kept).1
  kept_surfaces (difference first rest) kept =
      let parts = and_parts (is_kept first) (are_some rest && are_kept rest) kept in
      all_parts (surfaces first) (all_surfaces rest) (kept_surfaces first parts.0)
      (all_kept_surfaces rest (and_parts (are_some rest) (are_kept rest) parts.1).1)

  all_kept_surfaces : (ms : Solids) → are_kept ms ≡ true → list_all has_triangles (all_surfaces ms) ≡ true
  all_kept_surfaces none kept = refl
  all_kept_surfaces (member s rest) kept =
      let parts = and_parts (is_kept s) (are_kept rest) kept in
      all_parts (surfaces s) (all_surfaces rest) (kept_surfaces s parts.0) (all_kept_surfaces rest parts.1)

  apart_surfaces : (ms : Solids) → are_kept_apart ms ≡ true → list_all has_triangles (all_surfaces ms) ≡ true
  apart_surfaces none kept = refl
  apart_surfaces (member s rest) kept =
      let parts = and_parts (not (is_union s) && is_kept s) (are_kept_apart rest) kept in
      all_parts (surfaces s) (all_surfaces rest) (kept_surfaces s (and_parts (not (is_union s)) (is_kept s) parts.0).1)
      (apart_surfaces rest parts.1)

surfaces_filled : (s : Solid) → is_normal s ≡ true → list_all has_triangles (surfaces s) ≡ true
surfaces_filled nothing normal = refl
surfaces_filled (surface ts) normal = kept_surfaces (surface ts) normal
surfaces_filled (union ms) normal = kept_surfaces (union ms) normal
surfaces_filled (intersection ms) normal = kept_surfaces (intersection ms) normal
surfaces_filled (difference first rest) normal = kept_surfaces (difference first rest) normal

pub numbering_holds : ShapesHold
numbering_holds = record { shapes = shapes_hold; numbers = numbers_count; triangles = surfaces_filled }
