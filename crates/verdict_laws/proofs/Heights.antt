-- How high the layers of a tree of solids reach.
use Rattle.std.proofs.Common.{◌≡◌, ℕ, zero, suc, ◌+◌, ◌*◌, ◌<◌, ◌≤◌, true, nat_le, nat_lt, List, [], ◌∷◌, sym, ◌∙◌, subst, arith, Option, Some, None}
use Rattle.std.specs.Prelude.{ℤ, pos, unsigned_abs, ◌≤ℤ◌, ◌&&◌, IfSome}
use Rattle.std.specs.List.{AllByRecursion, list_all}
use Rattle.std.proofs.lemmas.Bool.{and_parts}
use Rattle.std.proofs.lemmas.Bool.Decides.{nat_tests}
use Rattle.std.proofs.lemmas.Int.{ints, clamps}
use Rattle.std.proofs.lemmas.List.Elements.{recursion_from_All}
use Rattle.scad_geom.specs.declared.point3.Pt3.{Pt3}
use Rattle.scad_geom.specs.Limits.{coordinate_limit}
use Rattle.scad_geom.specs.PointRange.{is_in_range}
use Rattle.scad_solid.specs.declared.triangle.Triangle.{Triangle}
use Rattle.scad_solid.specs.Height.{top_of as corner_top, highest_of, higher_of}
use Rattle.scad_solid.specs.Range.{is_triangle_in_range}
use Rattle.scad_solid.specs.Solid.{IsSolid}
use Rattle.scad_tree.specs.Solid.{Solid, Solids, nothing, surface, union, intersection, difference, none, member}
use Rattle.scad_tree.specs.Order.{surfaces, all_surfaces}
use Rattle.scad_tree.specs.Solids.{AreSolids}
use Rattle.scad_tree.specs.Height.{lower_of, top_of, greatest, least, layers}
use Rattle.scad_tree.specs.Laws.{is_below}
use Rattle.scad_tree.proofs.Above.{layers_hold}
use Rattle.print_laws.proofs.Points.{all_front, all_back}

-- a height is at most a metre, where there is one
abbrev IsLow : Option ℤ → Type 0
IsLow height = IfSome height (λ z. z ≤ℤ pos 1000000)

low_higher : (a b : Option ℤ) → IsLow a → IsLow b → IsLow (higher_of a b)
low_higher None b p q = q
low_higher (Some z) None p q = p
low_higher (Some z) (Some w) p q = omega (arith, ints, clamps, p, q)

low_lower : (a b : Option ℤ) → IsLow a → IsLow b → IsLow (lower_of a b)
low_lower None b p q = q
low_lower (Some z) None p q = p
low_lower (Some z) (Some w) p q = omega (arith, ints, clamps, p, q)

near_low : (z : ℤ) → nat_le (unsigned_abs z) 1000000 ≡ true → z ≤ℤ pos 1000000
near_low z h = let near : unsigned_abs z ≤ 1000000 = grind (arith, nat_tests) in omega (arith, ints, near)

corner_low : (p : Pt3) → is_in_range p ≡ true → p.z ≤ℤ pos 1000000
corner_low p h =
    let x = nat_le (unsigned_abs p.x) 1000000 in
    let y = nat_le (unsigned_abs p.y) 1000000 in
    let z = nat_le (unsigned_abs p.z) 1000000 in
    near_low p.z (and_parts y z (and_parts x (y && z) h).1).1

triangle_low : (t : Triangle) → is_triangle_in_range t ≡ true → corner_top t ≤ℤ pos 1000000
triangle_low t h =
    let first = and_parts (is_in_range t.a) _ h in
    let later = and_parts (is_in_range t.b) (is_in_range t.c) first.1 in
    let a = corner_low t.a first.0 in
    let b = corner_low t.b later.0 in
    let c = corner_low t.c later.1 in
    omega (arith, ints, clamps, a, b, c)

surface_low : (ts : List Triangle) → list_all is_triangle_in_range ts ≡ true → IsLow (highest_of ts)
surface_low [] h = tt
surface_low (t ∷ ts) h =
    let both = and_parts (is_triangle_in_range t) (list_all is_triangle_in_range ts) h in
    low_higher (Some (corner_top t)) (highest_of ts) (triangle_low t both.0) (surface_low ts both.1)

mutual
  tree_low : (s : Solid) → AllByRecursion IsSolid (surfaces s) → IsLow (top_of s)
  tree_low nothing h = tt
  tree_low (surface ts) h = surface_low ts h.0.in_range
  tree_low (union ms) h = greatest_low ms h
  tree_low (intersection ms) h = least_low ms h
  tree_low (difference first rest) h = tree_low first (all_front IsSolid (surfaces first) (all_surfaces rest) h)

  greatest_low : (ms : Solids) → AllByRecursion IsSolid (all_surfaces ms) → IsLow (greatest ms)
  greatest_low none h = tt
  greatest_low (member s rest) h =
      low_higher (top_of s) (greatest rest) (tree_low s (all_front IsSolid (surfaces s) (all_surfaces rest) h))
      (greatest_low rest (all_back IsSolid (surfaces s) (all_surfaces rest) h))

  least_low : (ms : Solids) → AllByRecursion IsSolid (all_surfaces ms) → IsLow (least ms)
  least_low none h = tt
  least_low (member s rest) h =
      low_lower (top_of s) (least rest) (tree_low s (all_front IsSolid (surfaces s) (all_surfaces rest) h))
      (least_low rest (all_back IsSolid (surfaces s) (all_surfaces rest) h))

-- the last layer has its plane below the top
last_below : (top : Option ℤ) (h n : ℕ) → h ≤ 1000 → IsLow top → is_below top h n ≡ true
    → (n + 1) * h ≤ coordinate_limit
last_below None h n small low below = absurd (cc)
last_below (Some z) h n small low below =
    let spread : (n + 1) * h ≡ n * h + h = grind arith in omega (arith, ints, low, below, small, spread)

pub layers_in_range : (s : Solid) (h : ℕ) → AreSolids s → 0 < h → h ≤ 1000 → layers s h * h ≤ coordinate_limit
layers_in_range s h solids some small = by_count (layers s h) (λ layer. layers_hold.below s h layer some)
  where
    by_count : (count : ℕ) → ((layer : ℕ) → nat_lt layer count ≡ is_below (top_of s) h layer)
        → count * h ≤ coordinate_limit
    by_count zero below = omega arith
    by_count (suc n) below =
        let one : n + 1 ≡ suc n = omega arith in
        let there : nat_lt n (suc n) ≡ true = grind (arith, nat_tests) in
        subst (λ (k : ℕ). k * h ≤ coordinate_limit) one
        (last_below (top_of s) h n small (tree_low s (recursion_from_All IsSolid (surfaces s) solids))
        (sym (below n) ∙ there))
