-- An edge that reaches both heights gives its passage, the number of another is kept.
use Rattle.std.proofs.Common.{◌≡◌, refl, ◌∷◌, [], ◌++◌, ◌+◌, drop, get_or, filter, not, Bool, sym, ap, ◌∙◌, subst, List, ℕ}
use Rattle.std.specs.List.{All}
use Rattle.std.proofs.lemmas.List.Elements.{All-push}
use Rattle.slice_slab.specs.declared.passage.Passage.{Passage}
use Rattle.slice_bundles.specs.Bundles.{edge_at, reaches}
use Rattle.slice_slab.specs.Passages.{numbers_of, IsPassageOf}
use Rattle.slice_bundles.proofs.Loops.{mapped_step, put_step, pass_step, last_step, filter_yes, filter_no}
use Rattle.slice_slab.proofs.collect.passages_among.Goals as goal
use Rattle.slice_slab.proofs.collect.passages_among.Goals.{then-reaches_at+in_ok-push, else-reaches_at+in_ok-push-2}

pub reaches_at-requires-clause-within : goal.reaches_at-requires-clause-within
reaches_at-requires-clause-within c = c.requires.within

pub reaches_at-requires-clause-lower : goal.reaches_at-requires-clause-lower
reaches_at-requires-clause-lower c = c.requires.lower

pub reaches_at-requires-clause-upper : goal.reaches_at-requires-clause-upper
reaches_at-requires-clause-upper c = c.requires.upper

pub passage-requires-clause-within : goal.passage-requires-clause-within
passage-requires-clause-within c = c.requires.within

pub passage-requires-clause-few : goal.passage-requires-clause-few
passage-requires-clause-few c = c.requires.few

pub passage-requires-clause-at : goal.passage-requires-clause-at
passage-requires-clause-at c = c.requires.lower

pub passage-requires-clause-rises : goal.passage-requires-clause-rises
passage-requires-clause-rises c = c.reaches_at.ensures.rises c.if-reaches_at.true

pub numbers-preserved : goal.numbers-preserved
numbers-preserved c =
    let es = c.args.edges.now in
    let ks = c.args.numbers.now in
    let i = c.numbers.k-index in
    let out = c.numbers.out.items in
    let others = c.numbers.others.items in
    let yes : ℕ → Bool = λ k. reaches (edge_at es k) c.args.lower.now c.args.upper.now in
    let no : ℕ → Bool = λ k. not (yes k) in
    let value = sym c.reaches_at.ensures.value in
    elim c.if-reaches_at.branch [
      | then-reaches_at+in_ok-push w ↦
          let items : c.if-reaches_at.out.items ≡ out ++ (w.passage.result ∷ []) = ap (λ v. v.items) w.out-is
          ∙ w.in_ok-push.ensures.items in
          let reached = value ∙ w.if-reaches_at.true in
          record {
            numbers = ap (λ (xs : List Passage). numbers_of xs ++ filter yes (drop (i + 1) ks)) items
                ∙ mapped_step (λ (p : Passage). p.number) out w.passage.result (get_or ks i 0) _ _ _
                w.passage.ensures.number (filter_yes yes ks i c.numbers-test.true reached) c.numbers.invariant.numbers;
            passages = subst (All (IsPassageOf es c.args.lower.now)) (sym items)
                (All-push (IsPassageOf es c.args.lower.now) out w.passage.result c.numbers.invariant.passages
                w.passage.ensures.passage);
            others = ap (λ v. v.items ++ filter no (drop (i + 1) ks)) w.others-is
                ∙ pass_step others _ _ _ (filter_no no ks i c.numbers-test.true (ap not reached))
                c.numbers.invariant.others;
          }
      | else-reaches_at+in_ok-push-2 w ↦
          let items : c.if-reaches_at.out.items ≡ out = ap (λ v. v.items) w.out-is in
          let missed = value ∙ w.if-reaches_at.false in
          record {
            numbers = ap (λ (xs : List Passage). numbers_of xs ++ filter yes (drop (i + 1) ks)) items
                ∙ pass_step (numbers_of out) _ _ _ (filter_no yes ks i c.numbers-test.true missed)
                c.numbers.invariant.numbers;
            passages = subst (All (IsPassageOf es c.args.lower.now)) (sym items) c.numbers.invariant.passages;
            others = ap (λ v. v.items ++ filter no (drop (i + 1) ks)) w.others-is
                ∙ ap (λ (ns : List ℕ). ns ++ filter no (drop (i + 1) ks)) w.in_ok-push-2.ensures.items
                ∙ put_step others (get_or ks i 0) _ _ _ (filter_yes no ks i c.numbers-test.true (ap not missed))
                c.numbers.invariant.others;
          }
    ]

pub returns-clause-numbers : goal.returns-clause-numbers
returns-clause-numbers c =
    last_step (filter (λ k. reaches (edge_at c.args.edges.now k) c.args.lower.now c.args.upper.now)) _ _
    c.args.numbers.now c.numbers.k-index refl c.numbers-test.false c.numbers.invariant.numbers

pub returns-clause-others : goal.returns-clause-others
returns-clause-others c =
    last_step (filter (λ k. not (reaches (edge_at c.args.edges.now k) c.args.lower.now c.args.upper.now))) _ _
    c.args.numbers.now c.numbers.k-index refl c.numbers-test.false c.numbers.invariant.others

pub returns-clause-passages : goal.returns-clause-passages
returns-clause-passages c = c.numbers.invariant.passages
