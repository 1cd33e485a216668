-- The next byte goes behind those before it, and at the end all are there.
use Rattle.std.proofs.Common.{◌≡◌, ℕ, ◌+◌, ◌<◌, ◌++◌, ◌∷◌, [], List, length, get_or, drop, sym, ap, ◌∙◌}
use Rattle.std.proofs.lemmas.List.{append-nil, append_assoc, drop_more, drop_all}
use Rattle.scad_machine.proofs.echo_lines.push_bytes.Goals as goal

next-byte : (before later all bytes : List ℕ) (i b : ℕ) → i < length bytes → b ≡ get_or bytes i 0
    → later ≡ before ++ b ∷ [] → before ++ drop i bytes ≡ all → later ++ drop (i + 1) bytes ≡ all
next-byte before later all bytes i b below is grown so_far =
    ap (λ t. t ++ drop (i + 1) bytes) grown
    ∙ append_assoc before (b ∷ []) (drop (i + 1) bytes)
    ∙ ap (λ c. before ++ c ∷ drop (i + 1) bytes) is
    ∙ ap (λ t. before ++ t) (sym (drop_more bytes i 0 below))
    ∙ so_far

pub bytes-preserved : goal.bytes-preserved
bytes-preserved c =
    next-byte c.bytes.out.items _ _ c.args.bytes.now c.bytes.b-index c.from.result c.bytes-test.true c.from.ensures
    c.in_ok-push.ensures.items c.bytes.invariant

pub returns : goal.returns
returns c =
    sym (append-nil c.bytes.out.items)
    ∙ ap (λ t. c.bytes.out.items ++ t) (sym (drop_all c.bytes.b-index c.args.bytes.now c.bytes-test.false))
    ∙ c.bytes.invariant
