-- The pieces on a level, and those between it and the next.
use Rattle.std.proofs.Common.{ℕ, ◌+◌, List, refl, sym, ap, subst, drop, pos, get_or, IsPermutation}
use Rattle.scad_geom.specs.declared.level.Level.{Level}
use Rattle.slice_bundles.specs.Bundles.{AreBundles}
use Rattle.slice_bundles.specs.Touching.{touching}
use Rattle.slice_pieces.specs.declared.piece.Piece.{Piece}
use Rattle.slice_border.specs.Pieces.{slab_pieces}
use Rattle.slice_bool.specs.Parts.{AreUpToNext, AreBetweenLevels, Extends}
use Rattle.slice_border.proofs.Neighbours.{neighbours_at}
use Rattle.slice_bool.proofs.Climbing.{next_level, last_level}
use Rattle.slice_bool.proofs.border.push_level.Goals as goal
use Rattle.slice_bool.proofs.border.push_level.Goals.{then-i-levels+in_ok-push_slab_pieces, else-i-levels}

abbrev none : Level
none = record { n = pos 0; d = pos 0 }

pub push_slab_pieces-requires-clause-neighbours : goal.push_slab_pieces-requires-clause-neighbours
push_slab_pieces-requires-clause-neighbours c =
    neighbours_at c.args.sweep.now.edges.now c.args.levels.now c.args.i none none c.if-i-levels.true c.requires.levels

pub returns-clause-pieces : goal.returns-clause-pieces
returns-clause-pieces c =
    let es = c.args.sweep.now.edges.now in
    let shape = c.args.sweep.now.shape.now in
    let ls : List Level = c.args.levels.now in
    let i : ℕ = c.args.i in
    let l : Level = get_or ls i none in
    let u : Level = get_or ls (i + 1) none in
    let old : List Piece = c.args.out.now.items in
    let mid : List Piece = c.push_flat_pieces.new.out.items in
    elim c.if-i-levels.branch [
      | then-i-levels+in_ok-push_slab_pieces w ↦
          let bs : List (List ℕ) = c.in_ok-above.above.bundles.items in
          let are : AreBundles es l u bs = c.in_ok-above.ensures.bundles w.if-i-levels.true in
          let new : List Piece = w.push_slab_pieces.new.out.items in
          let between : Extends (AreBetweenLevels es shape l u) mid new =
          (slab_pieces es shape l u bs, (bs, are, refl), w.in_ok-push_slab_pieces.ensures) in
          subst (Extends (AreUpToNext es shape (drop i ls)) old) (sym (ap (λ v. v.items) w.out-is))
          (next_level es shape ls i none none old mid new w.if-i-levels.true c.in_ok-push_flat_pieces.ensures between)
      | else-i-levels w ↦
          subst (Extends (AreUpToNext es shape (drop i ls)) old) (sym (ap (λ v. v.items) w.out-is))
          (last_level es shape ls i none old mid c.requires.there w.if-i-levels.false c.in_ok-push_flat_pieces.ensures)
    ]

pub rise-requires-clause-within : goal.rise-requires-clause-within
rise-requires-clause-within c = c.requires.within

pub rise-requires-clause-levels : goal.rise-requires-clause-levels
rise-requires-clause-levels c = c.requires.levels

pub rise-requires-clause-there : goal.rise-requires-clause-there
rise-requires-clause-there c = c.requires.there

pub rise-requires-clause-active : goal.rise-requires-clause-active
rise-requires-clause-active c = c.requires.active

pub edges_near-requires-clause-within : goal.edges_near-requires-clause-within
edges_near-requires-clause-within c = c.args.sweep.now.within

pub edges_near-requires-clause-at : goal.edges_near-requires-clause-at
edges_near-requires-clause-at c = c.requires.within c.args.i none c.requires.there

pub edges_near-requires-clause-numbers : goal.edges_near-requires-clause-numbers
edges_near-requires-clause-numbers c =
    subst (IsPermutation (touching 0 c.args.sweep.now.edges.now (get_or c.args.levels.now c.args.i none)))
    (sym c.touching.ensures) c.in_ok-rise.ensures.live

pub side_above-requires-clause-levels : goal.side_above-requires-clause-levels
side_above-requires-clause-levels c = c.requires.levels

pub side_above-requires-clause-bundles : goal.side_above-requires-clause-bundles
side_above-requires-clause-bundles c = c.in_ok-rise.ensures.bundles

pub side_above-requires-clause-stands : goal.side_above-requires-clause-stands
side_above-requires-clause-stands c = c.in_ok-rise.ensures.stands

pub side_above-requires-clause-tally : goal.side_above-requires-clause-tally
side_above-requires-clause-tally c = c.requires.tally

pub push_flat_pieces-requires-clause-at : goal.push_flat_pieces-requires-clause-at
push_flat_pieces-requires-clause-at c = c.requires.within c.args.i none c.requires.there

pub push_flat_pieces-requires-clause-near : goal.push_flat_pieces-requires-clause-near
push_flat_pieces-requires-clause-near c = c.in_ok-near.ensures

pub push_flat_pieces-requires-clause-sides : goal.push_flat_pieces-requires-clause-sides
push_flat_pieces-requires-clause-sides c = record { below = c.requires.below; above = c.in_ok-above.ensures.above }

pub push_slab_pieces-requires-clause-lower : goal.push_slab_pieces-requires-clause-lower
push_slab_pieces-requires-clause-lower c = c.requires.within c.args.i none c.requires.there

pub push_slab_pieces-requires-clause-upper : goal.push_slab_pieces-requires-clause-upper
push_slab_pieces-requires-clause-upper c = c.requires.within (c.args.i + 1) none c.if-i-levels.true

pub push_slab_pieces-requires-clause-bundles : goal.push_slab_pieces-requires-clause-bundles
push_slab_pieces-requires-clause-bundles c = c.in_ok-above.ensures.bundles c.if-i-levels.true

pub push_slab_pieces-requires-clause-values : goal.push_slab_pieces-requires-clause-values
push_slab_pieces-requires-clause-values c = c.in_ok-above.ensures.above.values

pub returns-clause-active : goal.returns-clause-active
returns-clause-active c = c.in_ok-above.ensures.stands

pub returns-clause-tally : goal.returns-clause-tally
returns-clause-tally c = c.in_ok-above.ensures.tally

pub returns-clause-below : goal.returns-clause-below
returns-clause-below c = c.in_ok-above.ensures.below
