-- The loop goes from the leaf's last cell to its first.
use Rattle.std.proofs.Common.{◌-◌, ◌∙◌}
use Rattle.slice_held.proofs.Chains.{one_before, is_leaf, goes_down, on_more, set_more}
use Rattle.slice_held.proofs.chain.set_leaf.Goals as goal

-- src/chain.rt:21:9
pub put-requires-clause-leaf : goal.put-requires-clause-leaf
put-requires-clause-leaf c =
    let a = c.args in
    let p = c.places in
    is_leaf a.cells.now.items p.cells.items p.cells.items a.lasts.now a.earlier.now a.leaf a.inside p.place
    (p.place - 1)
    c.requires.chained c.requires.there p.invariant.bare p.invariant.on (one_before p.place c.places-test.true)

-- src/chain.rt:20:5
pub places-smaller : goal.places-smaller
places-smaller c =
    let a = c.args in
    let p = c.places in
    goes_down a.cells.now.items p.cells.items p.cells.items a.lasts.now a.earlier.now a.leaf a.inside p.place
    (p.place - 1)
    c.requires.chained c.requires.there p.invariant.bare p.invariant.on (one_before p.place c.places-test.true)

-- src/chain.rt:20:5
pub places-preserved : goal.places-preserved
places-preserved c =
    let a = c.args in
    let p = c.places in
    let is = one_before p.place c.places-test.true in
    record {
      sound = c.put.ensures.sound;
      bare = c.put.ensures.bare ∙ p.invariant.bare;
      on = on_more a.cells.now.items p.cells.items c.put.new.cells.items a.lasts.now a.earlier.now a.leaf a.inside
          p.place
          (p.place - 1) c.requires.chained c.requires.there p.invariant.bare p.invariant.on is;
      set = set_more a.cells.now.items p.cells.items c.put.new.cells.items a.lasts.now a.earlier.now a.leaf a.inside
          p.place
          (p.place - 1) c.requires.chained c.requires.there p.invariant.bare p.invariant.on is p.invariant.set
          c.put.ensures.own c.put.ensures.others;
    }
