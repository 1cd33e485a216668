-- A strand's spot comes behind those of the strands to its left.
use Rattle.std.proofs.Common.{◌+◌, ◌++◌, ◌∷◌, ℕ, List, drop, sym, ap, ◌∙◌}
use Rattle.std.proofs.lemmas.List.{append-nil, at_drop_more, drop_all}
use Rattle.slice_pieces.specs.declared.piece.Spot.{Spot}
use Rattle.slice_border.specs.declared.stop.Stop.{Stop}
use Rattle.slice_outlines.specs.declared.mark.Mark.{Mark}
use Rattle.slice_outlines.specs.Marks.{no_mark}
use Rattle.slice_border.specs.Stops.{spots_in}
use Rattle.slice_outlines.specs.Stops.{mark_spots}
use Rattle.slice_border.proofs.Stopping.{kept_step}
use Rattle.slice_outlines.proofs.stops.push_strands.Goals as goal

pub marks-preserved : goal.marks-preserved
marks-preserved c =
    let ms = c.args.marks.now in
    let i : ℕ = c.marks.mark-index in
    let out : List Stop = c.marks.out.items in
    let spots = mark_spots c.args.edges.now c.args.at.now in
    let rest : List Spot = spots (drop (i + 1) ms) in
    ap (λ (ss : List Stop). spots_in ss ++ rest) c.in_ok-push.ensures.items
    ∙ kept_step out c.stop_of.result rest _
    (ap (λ (s : Spot). spots_in out ++ (s ∷ rest)) c.stop_of.ensures
    ∙ ap (λ (ss : List Spot). spots_in out ++ ss) (sym (at_drop_more spots ms i no_mark c.marks-test.true))
    ∙ c.marks.invariant)

pub returns : goal.returns
returns c =
    let before : List Spot = spots_in c.marks.out.items in
    sym (append-nil before)
    ∙ ap (λ (ms : List Mark). before ++ mark_spots c.args.edges.now c.args.at.now ms)
    (sym (drop_all c.marks.mark-index c.args.marks.now c.marks-test.false))
    ∙ c.marks.invariant
