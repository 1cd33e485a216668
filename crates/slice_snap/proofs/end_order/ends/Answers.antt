-- Each piece gives its end.
use Rattle.std.proofs.Common.{◌≡◌, ℕ, ◌<◌, ◌∷◌, [], ◌++◌, List, length, take, get_or, map, sym, ap, ap₂, ◌∙◌, subst}
use Rattle.std.specs.List.{All}
use Rattle.std.specs.List.Sorted.{IsPermutation}
use Rattle.std.proofs.lemmas.List.{take_all, take_more, map-append}
use Rattle.std.proofs.lemmas.List.Elements.{All-push}
use Rattle.std.proofs.lemmas.List.Sorted.{IsPermutation-refl}
use Rattle.slice_pieces.specs.declared.piece.Spot.{Spot}
use Rattle.slice_snap.specs.declared.end.End.{End}
use Rattle.slice_snap.specs.Chains.{no_piece, piece_at}
use Rattle.slice_snap.specs.EndOrder.{end_of, spots_in, IsEndOf}
use Rattle.slice_snap.proofs.end_order.ends.Goals as goal

pub pieces-preserved : goal.pieces-preserved
pieces-preserved c =
    let start = c.args.start in
    let qs = c.args.pieces.now in
    let i = c.pieces.place in
    let ends = c.pieces.ends.items in
    let e = c.end_at.result in
    let items = c.in_ok-push.ensures.items in
    record {
      spots = ap spots_in items ∙ map-append (λ (e : End). e.spot) ends (e ∷ [])
          ∙ ap₂ (λ (xs : List Spot) (s : Spot). xs ++ (s ∷ [])) c.pieces.invariant.spots c.end_at.ensures.spot
          ∙ sym (ap (map (end_of start)) (take_more qs i no_piece c.pieces-test.true)
          ∙ map-append (end_of start) (take i qs) (get_or qs i no_piece ∷ []));
      each = subst (All (IsEndOf start qs)) (sym items)
          (All-push (IsEndOf start qs) ends e c.pieces.invariant.each (record {
            there = subst (λ (k : ℕ). k < length qs) (sym c.end_at.ensures.place) c.pieces-test.true;
            is = subst (λ (k : ℕ). e.spot ≡ end_of start (piece_at qs k)) (sym c.end_at.ensures.place)
                c.end_at.ensures.spot;
          }));
    }

pub returns : goal.returns
returns c = record {
  all = subst (λ (xs : List Spot). IsPermutation xs (spots_in c.pieces.ends.items))
      (c.pieces.invariant.spots
      ∙ ap (map (end_of c.args.start)) (take_all c.pieces.place c.args.pieces.now c.pieces-test.false))
      (IsPermutation-refl (spots_in c.pieces.ends.items));
  each = c.pieces.invariant.each;
}
