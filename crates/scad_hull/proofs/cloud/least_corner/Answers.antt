-- Each coordinate is that of the corner.
use Rattle.std.proofs.Common.{◌≡◌, ◌≤◌, ◌^◌, ◌∙◌, refl, arith, ℤ, unsigned_abs, to_z, of_z}
use Rattle.scad_geom.proofs.Casts.{by_cast, handed}
use Rattle.scad_hull.specs.Blocks.{least_of}
use Rattle.scad_hull.proofs.cloud.least_corner.Goals as goal
use mir.Syntax.{w32, w128}

wide : (z : ℤ) → unsigned_abs z ≤ 2 ^ 44 → to_z w128 (of_z w128 z) ≡ z
wide z small = handed w128 z (omega arith) refl

short : (z : ℤ) → unsigned_abs z ≤ 2 ^ 20 → to_z w32 (of_z w32 z) ≡ z
short z small = handed w32 z (omega arith) refl

-- a coordinate, as the code tells it
told : (r s m n k low l high : ℤ) → r ≡ s → s ≡ least_of m k l → m ≡ n → k ≡ low → l ≡ high
    → r ≡ least_of n low high
told r s m n k low l high e f g h o = e ∙ f ∙ (λ i. least_of (g i) (h i) (o i))

pub returns-clause-value : goal.returns-clause-value
returns-clause-value c =
    let n = c.args.normal.now in
    let low = c.args.block.now.low in
    let high = c.args.block.now.high in
    let narrow = c.requires.normal in
    let small = c.requires.block in
    λ i. record {
      x = told _ c.least_of.result _ n.x _ low.x _ high.x (by_cast w32 c.least_of.type_inv refl)
          c.least_of.ensures.value (wide n.x narrow.x) (short low.x small.low.x) (short high.x small.high.x) i;
      y = told _ c.least_of-2.result _ n.y _ low.y _ high.y (by_cast w32 c.least_of-2.type_inv refl)
          c.least_of-2.ensures.value (wide n.y narrow.y) (short low.y small.low.y) (short high.y small.high.y) i;
      z = told _ c.least_of-3.result _ n.z _ low.z _ high.z (by_cast w32 c.least_of-3.type_inv refl)
          c.least_of-3.ensures.value (wide n.z narrow.z) (short low.z small.low.z) (short high.z small.high.z) i;
    }
