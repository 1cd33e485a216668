-- The left end, then the right one.
use Rattle.std.proofs.Common.{◌≡◌, ◌++◌, ◌∷◌, [], List, ℤ, ap, ap₂, ◌∙◌, append_assoc}
use Rattle.slice_pieces.specs.declared.piece.Spot.{Spot}
use Rattle.slice_border.specs.Pieces.{whole_spot}
use Rattle.slice_border.specs.declared.stop.Stop.{Stop}
use Rattle.slice_border.specs.Stops.{spots_in}
use Rattle.slice_border.proofs.Stopping.{spots-append}
use Rattle.slice_outlines.proofs.Bits.{coordinate}
use Rattle.slice_outlines.proofs.stops.push_ends.Goals as goal

pub whole_spot-requires-clause-x : goal.whole_spot-requires-clause-x
whole_spot-requires-clause-x c = rw (coordinate c.args.e.now.left c.args.e.now.left_size) c.args.e.now.left_size

pub whole_spot-requires-clause-at : goal.whole_spot-requires-clause-at
whole_spot-requires-clause-at c = c.requires.at

pub whole_spot-requires-2-clause-x : goal.whole_spot-requires-2-clause-x
whole_spot-requires-2-clause-x c = rw (coordinate c.args.e.now.right c.args.e.now.right_size) c.args.e.now.right_size

pub whole_spot-requires-2-clause-at : goal.whole_spot-requires-2-clause-at
whole_spot-requires-2-clause-at c = c.requires.at

pub returns : goal.returns
returns c =
    let e = c.args.e.now in
    let at = c.args.at.now in
    let out : List Stop = c.args.out.now.items in
    let first : List Stop = c.push.new.self.items in
    let s : Stop = c.whole_spot.result in
    let t : Stop = c.whole_spot-2.result in
    let left : s.spot ≡ whole_spot e.left at = c.whole_spot.ensures
    ∙ ap (λ (x : ℤ). whole_spot x at) (coordinate e.left e.left_size) in
    let right : t.spot ≡ whole_spot e.right at = c.whole_spot-2.ensures
    ∙ ap (λ (x : ℤ). whole_spot x at) (coordinate e.right e.right_size) in
    ap spots_in c.in_ok-push-2.ensures.items ∙ spots-append first (t ∷ [])
    ∙ ap (λ (ss : List Spot). ss ++ (t.spot ∷ [])) (ap spots_in c.in_ok-push.ensures.items ∙ spots-append out (s ∷ []))
    ∙ append_assoc (spots_in out) (s.spot ∷ []) (t.spot ∷ [])
    ∙ ap₂ (λ (a b : Spot). spots_in out ++ (a ∷ (b ∷ []))) left right
