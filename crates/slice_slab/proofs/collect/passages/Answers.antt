-- An edge that reaches both heights gives its passage.
use Rattle.std.proofs.Common.{◌≡◌, refl, ◌∷◌, [], ◌++◌, ◌+◌, drop, sym, ap, ◌∙◌, subst, List, ℕ}
use Rattle.std.specs.List.{All}
use Rattle.std.proofs.lemmas.List.Elements.{All-push}
use Rattle.slice_slab.specs.declared.passage.Passage.{Passage}
use Rattle.slice_bundles.specs.Bundles.{reaching}
use Rattle.slice_slab.specs.Passages.{numbers_of, IsPassageOf}
use Rattle.slice_bundles.proofs.Loops.{mapped_step, pass_step, last_step}
use Rattle.slice_slab.proofs.Steps.{reaching_yes, reaching_no}
use Rattle.slice_slab.proofs.collect.passages.Goals as goal
use Rattle.slice_slab.proofs.collect.passages.Goals.{then-reaches_at+in_ok-push, else-reaches_at}

pub reaches_at-requires-clause-within : goal.reaches_at-requires-clause-within
reaches_at-requires-clause-within c = c.requires.within

pub reaches_at-requires-clause-lower : goal.reaches_at-requires-clause-lower
reaches_at-requires-clause-lower c = c.requires.lower

pub reaches_at-requires-clause-upper : goal.reaches_at-requires-clause-upper
reaches_at-requires-clause-upper c = c.requires.upper

pub reaches_at-requires-clause-there : goal.reaches_at-requires-clause-there
reaches_at-requires-clause-there c = c.edges-test.true

pub passage-requires-clause-within : goal.passage-requires-clause-within
passage-requires-clause-within c = c.requires.within

pub passage-requires-clause-few : goal.passage-requires-clause-few
passage-requires-clause-few c = c.requires.few

pub passage-requires-clause-at : goal.passage-requires-clause-at
passage-requires-clause-at c = c.requires.lower

pub passage-requires-clause-rises : goal.passage-requires-clause-rises
passage-requires-clause-rises c = c.reaches_at.ensures.rises c.if-reaches_at.true

pub edges-preserved : goal.edges-preserved
edges-preserved c =
    let es = c.args.edges.now in
    let out = c.edges.out.items in
    let rest : List ℕ = reaching (c.edges.i + 1) (drop (c.edges.i + 1) es) c.args.lower.now c.args.upper.now in
    elim c.if-reaches_at.branch [
      | then-reaches_at+in_ok-push w ↦
          let items : c.if-reaches_at.out.items ≡ out ++ (w.passage.result ∷ []) = ap (λ v. v.items) w.out-is
          ∙ w.in_ok-push.ensures.items in
          record {
            numbers = ap (λ (xs : List Passage). numbers_of xs ++ rest) items
                ∙ mapped_step (λ (p : Passage). p.number) out w.passage.result c.edges.i _ rest _
                w.passage.ensures.number (reaching_yes es c.edges.i c.args.lower.now c.args.upper.now c.edges-test.true
                (sym c.reaches_at.ensures.value ∙ w.if-reaches_at.true)) c.edges.invariant.numbers;
            passages = subst (All (IsPassageOf es c.args.lower.now)) (sym items)
                (All-push (IsPassageOf es c.args.lower.now) out w.passage.result c.edges.invariant.passages
                w.passage.ensures.passage);
          }
      | else-reaches_at w ↦
          let items : c.if-reaches_at.out.items ≡ out = ap (λ v. v.items) w.out-is in
          record {
            numbers = ap (λ (xs : List Passage). numbers_of xs ++ rest) items
                ∙ pass_step (numbers_of out) _ rest _ (reaching_no es c.edges.i c.args.lower.now c.args.upper.now
                c.edges-test.true (sym c.reaches_at.ensures.value ∙ w.if-reaches_at.false)) c.edges.invariant.numbers;
            passages = subst (All (IsPassageOf es c.args.lower.now)) (sym items) c.edges.invariant.passages;
          }
    ]

pub returns-clause-numbers : goal.returns-clause-numbers
returns-clause-numbers c =
    last_step (λ es. reaching c.edges.i es c.args.lower.now c.args.upper.now) _ _ c.args.edges.now c.edges.i refl
    c.edges-test.false c.edges.invariant.numbers

pub returns-clause-passages : goal.returns-clause-passages
returns-clause-passages c = c.edges.invariant.passages
