-- The key is that of the height at which the first of the edges ends.
use Rattle.std.proofs.Common.{◌≡◌, FitsSigned, ℤ, ◌*ℤ◌, ℕ, subst}
use lib.Signed.{◌≤ℤ◌}
use Rattle.std.specs.List.{All}
use Rattle.std.proofs.lemmas.Int.{to_z-of_z}
use Rattle.std.proofs.lemmas.List.Elements.{recursion_from_All}
use Rattle.scad_geom.specs.Line.{high}
use Rattle.slice_bundles.specs.Bundles.{edge_at}
use Rattle.slice_sweep.specs.Keys.{parts}
use Rattle.slice_sweep.proofs.Waking.{ends_by}
use Rattle.slice_sweep.proofs.wake.end_key.Goals as goal
use mir.Syntax.{w32, w64}

pub returns : goal.returns
returns c h wake d o b =
    let k_fits : FitsSigned w64 c.whole_key.result = record { sfits = c.whole_key.type_inv } in
    let l_fits : FitsSigned w32 c.least_end.result = record { sfits = c.least_end.type_inv } in
    let o' : wake ≤ℤ c.whole_key.result = simp to_z-of_z at o in
    let e : c.whole_key.result ≡ c.least_end.result *ℤ parts = simp to_z-of_z at c.whole_key.ensures in
    let P : ℕ → Type 0 = λ k. c.least_end.result ≤ℤ (high (edge_at c.args.edges.now k)).y in
    ends_by c.args.edges.now c.args.s.now.bundle c.least_end.result wake (subst (λ (z : ℤ). wake ≤ℤ z) e o')
    (recursion_from_All P c.args.s.now.bundle (subst (All P) c.as_slice.ensures c.least_end.ensures)) h d b
