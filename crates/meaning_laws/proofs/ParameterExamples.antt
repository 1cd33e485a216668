-- Worked examples: calls of modules of the language, and what parameters take, by their places and by a list of the
-- module's parameters.
use Rattle.std.proofs.Common.{◌≡◌, ℕ, zero, suc, ◌*◌, ◌<◌, pos, true, List, [], ◌∷◌, Option, Some, None, refl, arith}
use Rattle.std.specs.Prelude.{◌↔◌, slice_get, codes}
use Rattle.std.specs.Cmp.Lexicographic.{bytes_decides}
use Rattle.std.proofs.lemmas.Bool.{false≢true}
use Rattle.std.proofs.lemmas.Option.{none-some, same_Some}
use Rattle.scad_ast.specs.Tree.{Expression, Arguments, no_arguments, argument}
use Rattle.scad_value.specs.Datum.{Datum, undef, boolean, number}
use Rattle.scad_scope.specs.Names.{value_of_name}
use Rattle.scad_machine.specs.Arguments.{given}
use Rattle.scad_modules.specs.Arguments.{if_given, taken}
use Rattle.meaning_laws.specs.Parameters.{HasAt}

-- what a parameter takes by its place, and what it is given in a list
abbrev Both : List (List ℕ) → Arguments → List Datum → Option ℕ → List ℕ → Option Datum → Type 0
Both parameters args values place name d =
    (taken place name args values ≡ d) × (if_given (value_of_name name (given parameters args values)) ≡ d)

abbrev of_cylinder : List (List ℕ)
of_cylinder =
    codes "h" ∷ codes "r1" ∷ codes "r2" ∷ codes "center" ∷ codes "r" ∷ codes "d" ∷ codes "d1" ∷ codes "d2" ∷ []

-- behind one unnamed argument the list has d1 at no place, and h at the first one
d1_is_named : HasAt of_cylinder None (codes "d1") 1
d1_is_named = record { there = refl; placed = only }
  where
    only : (i : ℕ) → i < 1 → (slice_get of_cylinder i ≡ Some (codes "d1")) ↔ (None ≡ Some i)
    only zero low = (
      λ e. absurd (false≢true ((bytes_decides (codes "h") (codes "d1")).1 (same_Some (codes "h") (codes "d1") e))),
      λ e. absurd (none-some 0 e),
    )
    only (suc i) low = absurd (omega (arith, low))

h_is_first : HasAt of_cylinder (Some 0) (codes "h") 1
h_is_first = record { there = refl; placed = only }
  where
    only : (i : ℕ) → i < 1 → (slice_get of_cylinder i ≡ Some (codes "h")) ↔ (Some 0 ≡ Some i)
    only zero low = (λ e. refl, λ e. refl)
    only (suc i) low = absurd (omega (arith, low))

abbrev whole : ℕ → Datum
whole n = number (pos (n * 1000000))

-- an argument with a name
abbrev called : List ℕ → Expression → Arguments → Arguments
called name e more = argument (Some name) e more

module _ (e : Expression) where
  abbrev of_cube : Arguments → List Datum → Option ℕ → List ℕ → Option Datum → Type 0
  of_cube = Both (codes "size" ∷ codes "center" ∷ [])

  -- cube(size = 2, center = true)
  abbrev cube_by_name : Arguments
  cube_by_name = called (codes "size") e (called (codes "center") e no_arguments)

  size : of_cube cube_by_name (whole 2 ∷ boolean true ∷ []) (Some 0) (codes "size") (Some (whole 2))
  unfolding taken given
  size = (refl, refl)

  center : of_cube cube_by_name (whole 2 ∷ boolean true ∷ []) (Some 1) (codes "center") (Some (boolean true))
  unfolding taken given
  center = (refl, refl)

  -- cube(center = true, 2): the first unnamed argument, though it is the second one
  first_unnamed :
      of_cube (called (codes "center") e (argument None e no_arguments)) (boolean true ∷ whole 2 ∷ []) (Some 0)
      (codes "size") (Some (whole 2))
  unfolding taken given
  first_unnamed = (refl, refl)

  -- cube(2, size = 3)
  later_of_two :
      of_cube (argument None e (called (codes "size") e no_arguments)) (whole 2 ∷ whole 3 ∷ []) (Some 0) (codes "size")
      (Some (whole 3))
  unfolding taken given
  later_of_two = (refl, refl)

  -- cube(2, size = undef)
  undef_isnt_given :
      of_cube (argument None e (called (codes "size") e no_arguments)) (whole 2 ∷ undef ∷ []) (Some 0) (codes "size")
      None
  unfolding taken given
  undef_isnt_given = (refl, refl)

  -- cylinder(1, d1 = 4, r2 = 1, r = 9)
  abbrev cylinder : Option ℕ → List ℕ → Option Datum → Type 0
  cylinder =
      Both of_cylinder
      (argument None e (called (codes "d1") e (called (codes "r2") e (called (codes "r") e no_arguments))))
      (whole 1 ∷ whole 4 ∷ whole 1 ∷ whole 9 ∷ [])

  height : cylinder (Some 0) (codes "h") (Some (whole 1))
  unfolding taken given
  height = (refl, refl)

  no_first_radius : cylinder (Some 1) (codes "r1") None
  unfolding taken given
  no_first_radius = (refl, refl)

  second_radius : cylinder (Some 2) (codes "r2") (Some (whole 1))
  unfolding taken given
  second_radius = (refl, refl)

  first_diameter : cylinder None (codes "d1") (Some (whole 4))
  unfolding taken given
  first_diameter = (refl, refl)

  radius : cylinder None (codes "r") (Some (whole 9))
  unfolding taken given
  radius = (refl, refl)

  -- cylinder(1, 2, 3, true, 9): the fifth one goes to no parameter, so in the list another name stands before r
  surplus :
      Both (codes "h" ∷ codes "r1" ∷ codes "r2" ∷ codes "center" ∷ [] ∷ codes "r" ∷ [])
      (argument None e (argument None e (argument None e (argument None e (argument None e no_arguments)))))
      (whole 1 ∷ whole 2 ∷ whole 3 ∷ boolean true ∷ whole 9 ∷ []) None (codes "r") None
  unfolding taken given
  surplus = (refl, refl)
