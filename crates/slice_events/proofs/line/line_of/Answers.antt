-- What is read of the edge, and its sizes.
use Rattle.std.proofs.Common.{◌*◌, ◌^◌, ◌≤◌, ℕ, sym, subst, arith}
use mir.Syntax.{w64}
use Rattle.scad_geom.specs.Limits.{coordinate_limit}
use Rattle.scad_geom.proofs.Casts.{by_cast, cast_size}
use Rattle.slice_events.proofs.line.line_of.Goals as goal

pub invariant_of-result : goal.invariant_of-result
invariant_of-result c =
    let most = λ (n : ℕ). n ≤ 2 * coordinate_limit in
    record {
      within = c.requires;
      read = record {
        low_is = c.low-low.ensures.value;
        high_is = c.high-high.ensures.value;
        rise_is = by_cast w64 c.rise_of-rise.type_inv c.rise_of-rise.ensures.value;
        run_is = by_cast w64 c.run_of-run.type_inv c.run_of-run.ensures.value;
        offset_is = by_cast w64 c.offset_of-offset.type_inv c.offset_of-offset.ensures.value;
      };
      low_within = c.low-low.ensures.within c.requires;
      high_within = c.high-high.ensures.within c.requires;
      rise_size = subst most (sym (cast_size w64 c.rise_of-rise.result (omega (arith, c.rise_of-rise.ensures.size))))
          c.rise_of-rise.ensures.size;
      run_size = subst most (sym (cast_size w64 c.run_of-run.result (omega (arith, c.run_of-run.ensures.size))))
          c.run_of-run.ensures.size;
      offset_size = subst (λ (n : ℕ). n ≤ 2 ^ 44) (sym (cast_size w64 c.offset_of-offset.result
          (omega (arith, c.offset_of-offset.ensures.size)))) c.offset_of-offset.ensures.size;
    }
