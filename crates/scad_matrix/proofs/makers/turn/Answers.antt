-- The rows are those of the rotation, whose entries are the cosine, the sine and its opposite.
use Rattle.std.proofs.Common.{◌≡◌, ◌≤◌, ℤ, pos, neg_ℤ, ◌-ℤ◌, unsigned_abs, to_z, of_z, FitsSigned, arith, refl, ap, sym, ◌∙◌}
use Rattle.std.proofs.lemmas.Int.{ints, to_z-of_z}
use Rattle.scad_base.proofs.Integers.{zero_minus}
use Rattle.scad_cos.specs.Cosine.{cosine, sine}
use Rattle.scad_num.specs.Number.{one}
use Rattle.scad_matrix.specs.declared.makers.Axis.{Axis}
use Rattle.scad_matrix.specs.declared.makers.Axis.TheVariants.{X, Y, Z}
use Rattle.scad_matrix.specs.declared.matrix.Row.{Row}
use Rattle.scad_matrix.specs.declared.matrix.Matrix.{Matrix}
use Rattle.scad_matrix.specs.Makers.{row, rotation}
use Rattle.scad_matrix.proofs.makers.turn.Goals as goal
use mir.Syntax.{w64}

opposite_fits : (s : ℤ) → unsigned_abs s ≤ 1000000 → FitsSigned w64 (pos 0 -ℤ s)
opposite_fits s small = omega (arith, ints)

opposite_is_small : (s : ℤ) → unsigned_abs s ≤ 1000000 → unsigned_abs (pos 0 -ℤ s) ≤ 1000000
opposite_is_small s small = omega (arith, ints)

abbrev rows : Axis → ℤ → ℤ → ℤ → ℤ → ℤ → Matrix
rows X o i c s t = record { x = row i o o o; y = row o c t o; z = row o s c o }
rows Y o i c s t = record { x = row c o s o; y = row o i o o; z = row t o c o }
rows Z o i c s t = record { x = row c t o o; y = row s c o o; z = row o o i o }

entries : (axis : Axis) (angle : ℤ) → rows axis (pos 0) (pos one) (cosine angle) (sine angle) (neg_ℤ (sine angle))
    ≡ rotation axis angle
entries X angle = refl
entries Y angle = refl
entries Z angle = refl

pub number-t-requires : goal.number-t-requires
number-t-requires c =
    let sine_fits : FitsSigned w64 c.sin-2.result = record { sfits = c.sin-2.type_inv } in
    let fits = opposite_fits c.sin-2.result c.sin-2.ensures.small in
    simp to_z-of_z (opposite_is_small c.sin-2.result c.sin-2.ensures.small)

abbrev read : ℤ → ℤ
read n = to_z w64 (of_z w64 n)

rotated : (axis : Axis) (angle o i co c si s other t : ℤ) → FitsSigned w64 angle → o ≡ pos 0 → i ≡ pos one
    → FitsSigned w64 co → co ≡ cosine (read angle) → c ≡ read co → FitsSigned w64 si → si ≡ sine (read angle)
    → s ≡ read si → FitsSigned w64 other → unsigned_abs other ≤ 1000000 → other ≡ sine (read angle)
    → t ≡ read (pos 0 -ℤ read other) → rows axis o i c s t ≡ rotation axis angle
rotated axis angle o i co c si s other t fits is_o is_i co_fits co_is c_is si_fits si_is s_is other_fits small other_is
    t_is =
    let same = to_z-of_z w64 angle fits in
    let is_c : c ≡ cosine angle = c_is ∙ to_z-of_z w64 co co_fits ∙ co_is ∙ ap cosine same in
    let is_s : s ≡ sine angle = s_is ∙ to_z-of_z w64 si si_fits ∙ si_is ∙ ap sine same in
    let is_t : t ≡ neg_ℤ (sine angle) = t_is ∙ ap (λ n. read (pos 0 -ℤ n)) (to_z-of_z w64 other other_fits)
    ∙ to_z-of_z w64 (pos 0 -ℤ other) (opposite_fits other small) ∙ zero_minus other
    ∙ ap neg_ℤ (other_is ∙ ap sine same) in
    (λ k. rows axis (is_o k) (is_i k) (is_c k) (is_s k) (is_t k)) ∙ entries axis angle

module _ (o i c s t : ℤ) (axis : Axis) (all : Matrix) (x y z : Row) (is : rows axis o i c s t ≡ all) where
  in-X : axis ≡ X → x ≡ row i o o o → y ≡ row o c t o → z ≡ row o s c o → record { x = x; y = y; z = z } ≡ all
  in-X chosen is_x is_y is_z =
      (λ k. record { x = is_x k; y = is_y k; z = is_z k }) ∙ ap (λ a. rows a o i c s t) (sym chosen) ∙ is

  in-Y : axis ≡ Y → x ≡ row c o s o → y ≡ row o i o o → z ≡ row t o c o → record { x = x; y = y; z = z } ≡ all
  in-Y chosen is_x is_y is_z =
      (λ k. record { x = is_x k; y = is_y k; z = is_z k }) ∙ ap (λ a. rows a o i c s t) (sym chosen) ∙ is

  in-Z : axis ≡ Z → x ≡ row c t o o → y ≡ row s c o o → z ≡ row o o i o → record { x = x; y = y; z = z } ≡ all
  in-Z chosen is_x is_y is_z =
      (λ k. record { x = is_x k; y = is_y k; z = is_z k }) ∙ ap (λ a. rows a o i c s t) (sym chosen) ∙ is

pub returns-in-X : goal.returns-in-X
returns-in-X c =
    in-X _ _ _ _ _ c.args.axis _ _ _ _
    (rotated c.args.axis c.args.angle c.number-o.result c.number-i.result c.cos.result c.number-c.result c.sin.result
    c.number-s.result c.sin-2.result c.number-t.result c.ranges.angle c.number-o.ensures c.number-i.ensures
    (record { sfits = c.cos.type_inv }) c.cos.ensures.value c.number-c.ensures (record { sfits = c.sin.type_inv })
    c.sin.ensures.value c.number-s.ensures (record { sfits = c.sin-2.type_inv }) c.sin-2.ensures.small
    c.sin-2.ensures.value c.number-t.ensures) c.in-X.is c.row.ensures c.row-in-X.ensures c.row-in-X-2.ensures

pub returns-in-Y : goal.returns-in-Y
returns-in-Y c =
    in-Y _ _ _ _ _ c.args.axis _ _ _ _
    (rotated c.args.axis c.args.angle c.number-o.result c.number-i.result c.cos.result c.number-c.result c.sin.result
    c.number-s.result c.sin-2.result c.number-t.result c.ranges.angle c.number-o.ensures c.number-i.ensures
    (record { sfits = c.cos.type_inv }) c.cos.ensures.value c.number-c.ensures (record { sfits = c.sin.type_inv })
    c.sin.ensures.value c.number-s.ensures (record { sfits = c.sin-2.type_inv }) c.sin-2.ensures.small
    c.sin-2.ensures.value c.number-t.ensures) c.in-Y.is c.row-in-Y.ensures c.row-in-Y-2.ensures
    c.row-in-Y-3.ensures

pub returns-in-Z : goal.returns-in-Z
returns-in-Z c =
    in-Z _ _ _ _ _ c.args.axis _ _ _ _
    (rotated c.args.axis c.args.angle c.number-o.result c.number-i.result c.cos.result c.number-c.result c.sin.result
    c.number-s.result c.sin-2.result c.number-t.result c.ranges.angle c.number-o.ensures c.number-i.ensures
    (record { sfits = c.cos.type_inv }) c.cos.ensures.value c.number-c.ensures (record { sfits = c.sin.type_inv })
    c.sin.ensures.value c.number-s.ensures (record { sfits = c.sin-2.type_inv }) c.sin-2.ensures.small
    c.sin-2.ensures.value c.number-t.ensures) c.in-Z.is c.row-in-Z.ensures c.row-in-Z-2.ensures
    c.row-in-Z-3.ensures
