use Rattle.std.proofs.Common.{◌≡◌, ap, sym, ◌∙◌, ◌≤◌, ◌+◌, drop, take, length, subst, Ok}
use Rattle.scad_lex.specs.Tokens.{after, onto, tokens_from, start, Refuses}
use Rattle.scad_lex.proofs.Pieces.{room_left, piece_read, refused_later, end_read, after-line, after-col}
use Rattle.scad_lex.proofs.scanner.lex.Goals as goal

pub returns-in-Err-clause-refused : goal.returns-in-Err-clause-refused
returns-in-Err-clause-refused c =
    let later : Refuses (tokens_from 0 c.pieces.at c.behind-rest.result.now) c.in-Err.fault =
    c.in-Err.ensures.refused in
    refused_later c.pieces.list.items (tokens_from 0 c.pieces.at c.behind-rest.result.now) _ c.in-Err.fault
    (ap (λ r. onto c.pieces.list.items (tokens_from 0 c.pieces.at r)) c.behind-rest.ensures
    ∙ c.pieces.invariant.so_far ∙ ap (tokens_from 0 start) c.without_mark-text.ensures.value)
    later

pub pieces-preserved : goal.pieces-preserved
pieces-preserved c =
    let moved : c.after-at.result ≡ after c.pieces.at (take c.in-Ok.len c.behind-rest.result.now) = c.after-at.ensures
    ∙ ap (after c.pieces.at) c.first.ensures in
    record {
      so_far = ap (λ p. onto c.read_piece.new.list.items
          (tokens_from 0 p (drop (c.pieces.done + c.in-Ok.len) c.without_mark-text.result.now))) moved
          ∙ piece_read _ _ c.pieces.done c.in-Ok.len c.pieces.at _ _ _ c.behind-rest.ensures c.pieces.invariant.so_far
          c.in-Ok.ensures.read;
      line = room_left _ _ c.pieces.done c.in-Ok.len c.pieces.at.line _ c.behind-rest.ensures
          (subst (λ p. p.line ≤ c.pieces.at.line + length (take c.in-Ok.len c.behind-rest.result.now)) (sym moved)
          (after-line c.pieces.at (take c.in-Ok.len c.behind-rest.result.now))) c.pieces.invariant.line;
      col = room_left _ _ c.pieces.done c.in-Ok.len c.pieces.at.col _ c.behind-rest.ensures
          (subst (λ p. p.col ≤ c.pieces.at.col + length (take c.in-Ok.len c.behind-rest.result.now)) (sym moved)
          (after-col c.pieces.at (take c.in-Ok.len c.behind-rest.result.now))) c.pieces.invariant.col;
    }

pub returns-clause-found : goal.returns-clause-found
returns-clause-found c =
    ap (tokens_from 0 start) (sym c.without_mark-text.ensures.value)
    ∙ sym (end_read c.without_mark-text.result.now c.pieces.done c.pieces.at c.pieces.list.items _ c.pieces-test.false
    c.pieces.invariant.so_far)
    ∙ ap (λ all. Ok (all, c.pieces.at)) (sym c.shrink_to_fit.ensures.items)
