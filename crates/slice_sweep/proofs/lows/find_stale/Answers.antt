-- One more block's key is found.
use Rattle.std.proofs.Common.{◌≡◌, ◌<◌, ◌∙◌, ℤ, length, set, sym, subst, arith, rules}
use mir.Syntax.{w64}
use Rattle.std.proofs.lemmas.Int.{to_z-of_z}
use Rattle.std.proofs.lemmas.List.{length-set}
use Rattle.slice_sweep.specs.Lows.{AreLow}
use Rattle.slice_sweep.proofs.Blocks.{found_low}
use Rattle.slice_sweep.proofs.lows.find_stale.Goals as goal
use Rattle.slice_sweep.proofs.lows.find_stale.Goals.{then-index, else-index}

pub row-preserved : goal.row-preserved
row-preserved c =
    let i = c.row.invariant in
    let size = i.size in
    let test = c.row-test.true in
    let long : c.len-b-end.result ≡ length c.args.lows.now.items = search rules in
    let there : c.row.b < length c.row.lows.items = omega (arith, size, test, long) in
    elim c.if-index.branch [
      | then-index w ↦
          let low = w.least_of.result in
          rw w.lows-is (record {
            low = subst (λ (z : ℤ). AreLow (set c.row.lows.items c.row.b z) c.args.strands.now)
                (sym (to_z-of_z w64 low (record { sfits = w.least_of.type_inv })))
                (found_low c.row.lows.items c.args.strands.now c.row.b low there w.least_of.ensures i.low);
            size = length-set _ _ _ ∙ size;
          })
      | else-index w ↦ rw w.lows-is i
    ]
