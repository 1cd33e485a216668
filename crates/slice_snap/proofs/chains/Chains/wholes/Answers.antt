-- A piece is a chain's whole where it isn't gone; at the end all pieces were seen.
use Rattle.std.proofs.Common.{◌<◌, ◌≤◌, List, Bool, length, ap, ap₂, ◌∙◌, arith}
use Rattle.std.proofs.lemmas.List.{take_all}
use Rattle.slice_pieces.specs.declared.piece.Piece.{Piece}
use Rattle.slice_snap.specs.Chains.{kept}
use Rattle.slice_snap.proofs.ChainLinks.{one_pushed, none_pushed, gone_read}
use Rattle.slice_snap.proofs.chains.Chains.wholes.Goals as goal
use Rattle.slice_snap.proofs.chains.Chains.wholes.Goals.{then-not-index+in_ok-push, else-not-index}

pub index-requires : goal.index-requires
index-requires c =
    omega (arith, c.places-test.true, c.len-place-end.ensures, c.requires.gone, c.args.self.now.wholes.ok.0)

pub places-preserved : goal.places-preserved
places-preserved c =
    let gs : List Bool = c.args.self.now.gone.items in
    let qs : List Piece = c.args.self.now.wholes.items in
    let there : c.places.place < length qs =
    omega (arith, c.places-test.true, c.len-place-end.ensures, c.args.self.now.wholes.ok.0) in
    let marked : c.places.place < length gs = omega (arith, there, c.requires.gone) in
    elim c.if-not-index.branch [
      | then-not-index+in_ok-push w ↦
          one_pushed gs qs c.places.wholes.items c.if-not-index.wholes.items c.places.place
          w.index-then-not-index.result.now marked there c.places.invariant
          (gone_read gs c.places.place c.index.result.now marked c.index.ensures ∙ w.if-not-index.true)
          w.index-then-not-index.ensures (ap (λ v. v.items) w.wholes-is ∙ w.in_ok-push.ensures.items)
      | else-not-index w ↦
          none_pushed gs qs c.places.wholes.items c.if-not-index.wholes.items c.places.place marked there
          c.places.invariant
          (gone_read gs c.places.place c.index.result.now marked c.index.ensures ∙ w.if-not-index.false)
          (ap (λ v. v.items) w.wholes-is)
    ]

pub returns : goal.returns
returns c =
    let gs : List Bool = c.args.self.now.gone.items in
    let qs : List Piece = c.args.self.now.wholes.items in
    let past : length qs ≤ c.places.place =
    omega (arith, c.places-test.false, c.len-place-end.ensures, c.args.self.now.wholes.ok.0) in
    c.places.invariant ∙ ap₂ kept (take_all c.places.place gs (omega (arith, past, c.requires.gone)))
    (take_all c.places.place qs past)
