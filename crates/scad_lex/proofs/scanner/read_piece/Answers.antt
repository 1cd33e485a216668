use Rattle.std.proofs.Common.{ap, sym, ◌∙◌, [], ◌∷◌, subst, Err, take, drop, length}
use Rattle.scad_lex.specs.Front.{IsWithin}
use Rattle.scad_lex.specs.Tokens.{after, onto, tokens_from}
use Rattle.scad_lex.specs.declared.fault.LexFault.TheVariants.{BadText}
use Rattle.scad_lex.proofs.Pieces.{gap_at, cut_at, bad_at, large_at, onto-onto}
use Rattle.scad_lex.proofs.scanner.read_piece.Goals as goal

pub returns-in-Gap-clause-read : goal.returns-in-Gap-clause-read
returns-in-Gap-clause-read c =
    ap (onto c.args.list.now.items)
    (sym (gap_at c.args.at c.args.rest.now c.in-Gap.n c.requires.some
    (subst (λ f. IsWithin f (length c.args.rest.now)) c.in-Gap.is c.in_ok-n.ensures.bound).0
    (sym c.in_ok-n.ensures.value ∙ c.in-Gap.is)))

pub returns-in_ok-push-in-Cut-clause-read : goal.returns-in_ok-push-in-Cut-clause-read
returns-in_ok-push-in-Cut-clause-read c =
    ap (λ xs. onto xs (tokens_from 0 (after c.args.at (take c.in-Cut.n c.args.rest.now))
    (drop c.in-Cut.n c.args.rest.now))) c.in_ok-push-in-Cut.ensures.items
    ∙ sym (onto-onto c.args.list.now.items (record { kind = c.in-Cut.kind; at = c.args.at } ∷ [])
    (tokens_from 0 (after c.args.at (take c.in-Cut.n c.args.rest.now)) (drop c.in-Cut.n c.args.rest.now)))
    ∙ ap (onto c.args.list.now.items)
    (sym (cut_at c.args.at c.args.rest.now c.in-Cut.kind c.in-Cut.n c.requires.some
    (subst (λ f. IsWithin f (length c.args.rest.now)) c.in-Cut.is c.in_ok-n.ensures.bound).0
    (sym c.in_ok-n.ensures.value ∙ c.in-Cut.is)))

pub returns-in-Bad-clause-refused : goal.returns-in-Bad-clause-refused
returns-in-Bad-clause-refused c =
    bad_at c.args.at c.args.rest.now c.in-Bad.n c.requires.some (sym c.in_ok-n.ensures.value ∙ c.in-Bad.is)
    ∙ ap (λ p. Err (BadText p)) (sym (c.after.ensures ∙ ap (after c.args.at) c.first.ensures))

pub returns-in-TooLarge-clause-refused : goal.returns-in-TooLarge-clause-refused
returns-in-TooLarge-clause-refused c =
    large_at c.args.at c.args.rest.now c.requires.some (sym c.in_ok-n.ensures.value ∙ c.in-TooLarge.is)
