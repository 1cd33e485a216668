-- The matrix of a transformation by its first argument.
use Rattle.std.proofs.Common.{◌≡◌, ℕ, List, Option, Some, Ok, Err, refl, ap, ◌∙◌}
use Rattle.scad_base.specs.Results.{and_then}
use Rattle.scad_ast.specs.Tree.{Arguments}
use Rattle.scad_value.specs.Datum.{Datum}
use Rattle.scad_matrix.specs.declared.matrix.Matrix.{Matrix}
use Rattle.scad_modules.specs.declared.fault.ArgumentFault.{ArgumentFault}
use Rattle.scad_modules.specs.declared.module.Transform.{Transform}
use Rattle.scad_modules.specs.declared.module.Transform.TheVariants.{Translate, Scale, Rotate, Mirror, Multmatrix}
use Rattle.scad_modules.specs.Arguments.{taken}
use Rattle.scad_modules.specs.Reading.{Read, needed}
use Rattle.scad_modules.specs.Transforms.{first_name, matrix_by, matrix_of}

by-first : (t : Transform) (args : Arguments) (values : List Datum)
    → and_then (needed (taken (Some 0) (first_name t) args values)) (λ d. matrix_by t d args values) ≡ matrix_of t args
    values
unfolding matrix_of
by-first Translate args values = refl
by-first Scale args values = refl
by-first Rotate args values = refl
by-first Mirror args values = refl
by-first Multmatrix args values = refl

module _ (t : Transform) (args : Arguments) (values : List Datum) (name : List ℕ) (given : Option Datum) (named : name ≡ first_name t) (takes : given ≡ taken (Some 0) name args values) where
  read : and_then (needed given) (λ d. matrix_by t d args values) ≡ matrix_of t args values
  read =
      ap (λ o. and_then (needed o) (λ d. matrix_by t d args values)) (takes ∙ ap (λ n. taken (Some 0) n args values)
      named)
      ∙ by-first t args values

  pub matrix-said : (d : Datum) (r : Read Matrix) → Ok d ≡ needed given → r ≡ matrix_by t d args values
      → r ≡ matrix_of t args values
  matrix-said d r is by = by ∙ ap (λ o. and_then o (λ d. matrix_by t d args values)) is ∙ read

  pub matrix-refused : (e : ArgumentFault) → Err e ≡ needed given → Err e ≡ matrix_of t args values
  matrix-refused e is = ap (λ o. and_then o (λ d. matrix_by t d args values)) is ∙ read
