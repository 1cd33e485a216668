-- The bytes of the next character go behind those before it.
use Rattle.std.proofs.Common.{List, ℕ, ◌+◌, ◌++◌, ◌∙◌, drop, refl, ap, string_bytes, encode_utf8, encode_utf8_all}
use Rattle.std.proofs.lemmas.List.{append_assoc}
use Rattle.text_scan.proofs.Printed.{next}
use Rattle.scad_value.proofs.text.encoded.Goals as goal

pub chars-preserved : goal.chars-preserved
chars-preserved c =
    let so_far : List ℕ = string_bytes c.chars.text in
    let rest : List ℕ = encode_utf8_all (drop (c.chars.c-index + 1) c.args.chars.now) in
    ap (λ bytes. bytes ++ rest) c.in_ok-push.ensures.bytes
    ∙ append_assoc so_far (encode_utf8 c.c-item.result) rest
    ∙ ap (λ bytes. so_far ++ bytes)
    (next encode_utf8_all {there = c.args.chars.now} refl c.chars-test.true c.c-item.is)
    ∙ c.chars.invariant
