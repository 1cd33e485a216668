-- The text of the next value goes behind those before it.
use Rattle.std.proofs.Common.{◌≡◌, ◌+◌, ◌++◌, drop, ap, sym, ◌∙◌, append_assoc}
use Rattle.std.proofs.lemmas.List.{append-nil}
use Rattle.scad_value.specs.View.{datum_of, elements}
use Rattle.scad_value.proofs.Rows.{elements-drop, elements-drop_all}
use Rattle.scad_builtin.specs.Strings.{bare_text, joined_texts}
use Rattle.scad_builtin.proofs.string.joined_texts.Goals as goal

pub loop-value-preserved : goal.loop-value-preserved
loop-value-preserved c =
    let args = c.args.args.now in
    let i = c.loop-value.value-index in
    let chars = c.loop-value.chars.items in
    let rest = joined_texts (elements (drop (i + 1) args)) in
    let pushed : c.push_bare.new.onto.items ++ rest ≡ chars ++ (bare_text (datum_of c.value-item.result) ++ rest) =
    rw c.in_ok-push_bare.ensures.ok (simp append_assoc) in
    pushed ∙ sym (ap (λ es. chars ++ joined_texts es)
    (elements-drop args i c.value-item.result c.loop-value-test.true c.value-item.is)) ∙ c.loop-value.invariant

pub returns-clause-ok : goal.returns-clause-ok
returns-clause-ok c =
    let chars = c.loop-value.chars.items in
    sym (append-nil chars)
    ∙ ap (λ es. chars ++ joined_texts es)
    (sym (elements-drop_all c.args.args.now c.loop-value.value-index c.loop-value-test.false))
    ∙ c.loop-value.invariant
