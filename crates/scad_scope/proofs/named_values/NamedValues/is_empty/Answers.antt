use Rattle.std.proofs.Common.{sym, ap, ◌∙◌, arith, ◌++◌, map, option_map, vec_len}
use Rattle.std.proofs.lemmas.List.{append-nil}
use Rattle.scad_scope.specs.FrameNames.{named, few_in, is_nil, more_in, named_in, or_none}
use Rattle.scad_scope.proofs.HeldNames.{nil-counted, none-front, some-front}
use Rattle.scad_scope.proofs.named_values.NamedValues.is_empty.Goals as goal

pub returns-then-is_empty : goal.returns-then-is_empty
unfolding named_in
returns-then-is_empty c =
    let n = c.args.self.now in
    let few = c.is_empty.ensures ∙ nil-counted named n.few.items (vec_len n.few) (omega arith) in
    c.is_empty-then-is_empty.ensures
    ∙ ap (λ m. is_nil (map named m)) c.deref.ensures
    ∙ ap (λ m. is_nil (or_none (option_map (λ b. map named b.value) m))) (sym c.in-Some.is)
    ∙ none-front (few_in n) (more_in n) (sym few ∙ c.if-is_empty.true)

pub returns-else-is_empty : goal.returns-else-is_empty
unfolding named_in
returns-else-is_empty c =
    let n = c.args.self.now in
    let few = c.is_empty.ensures ∙ nil-counted named n.few.items (vec_len n.few) (omega arith) in
    c.if-is_empty.false ∙ some-front (few_in n) (more_in n) (sym few ∙ c.if-is_empty.false)

pub returns-in-None : goal.returns-in-None
unfolding named_in
returns-in-None c =
    let n = c.args.self.now in
    c.is_empty-in-None.ensures ∙ nil-counted named n.few.items (vec_len n.few) (omega arith)
    ∙ ap is_nil (sym (append-nil (few_in n)))
    ∙ ap (λ m. is_nil (few_in n ++ or_none (option_map (λ b. map named b.value) m))) (sym c.in-None.is)
