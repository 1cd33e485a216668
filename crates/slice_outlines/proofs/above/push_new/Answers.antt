-- One more strand comes.
use Rattle.std.proofs.Common.{◌≡◌, ◌+◌, ◌-◌, ◌<◌, ◌≤◌, ◌++◌, ℕ, map, take, drop, pos, false, ap, ◌∙◌, arith}
use Rattle.slice_sweep.specs.Front.{bundles_in}
use Rattle.slice_outlines.specs.declared.mark.Mark.{Mark}
use Rattle.slice_outlines.specs.Above.{name_of, new_mark}
use Rattle.slice_outlines.proofs.Taking.{none_new, one_new}
use Rattle.slice_outlines.proofs.above.push_new.Goals as goal

pub strands-init : goal.strands-init
strands-init c = none_new (bundles_in c.args.front.now) c.args.change.now.from c.args.above.now.items

pub strands-preserved : goal.strands-preserved
strands-preserved c =
    let there = c.requires in
    let named = c.name_of.ensures ∙ ap name_of c.bundle.ensures in
    let m : Mark = record { name = c.name_of.result; left = false; from = record { x = pos 0; y = pos 0 } } in
    c.in_ok-push.ensures.items
    ∙ one_new (bundles_in c.args.front.now) c.args.change.now.from c.strands.i c.args.above.now.items
    c.strands.above.items m c.strands.auto.i (omega (arith, c.strands-test.true, there)) c.strands.invariant
    (ap (λ (k : ℕ). record { name = k; left = false; from = record { x = pos 0; y = pos 0 } }) named)

-- of the places of the strands that come
is_there : (i last n : ℕ) → i < last → last ≤ n → i < n
is_there i last n h k = omega arith

all_come : (from come i : ℕ) → from + come ≤ i → (from ≤ from + come → i ≤ from + come) → i - from ≡ come
all_come from come i h k = let l = k (omega arith) in omega arith

pub bundle-requires : goal.bundle-requires
bundle-requires c =
    is_there c.strands.i (c.args.change.now.from + c.args.change.now.come) _ c.strands-test.true c.requires

pub returns : goal.returns
returns c =
    let new = c.args.change.now in
    c.strands.invariant
    ∙ ap (λ (n : ℕ). c.args.above.now.items ++ map new_mark (take n (drop new.from (bundles_in c.args.front.now))))
    (all_come new.from new.come c.strands.i c.strands-test.false c.strands.auto.i-end)
