-- The number of a flat edge on the level is kept.
use Rattle.std.proofs.Common.{◌∷◌, [], ◌++◌, ◌+◌, ℕ, Bool, cond, drop, get_or, filter, sym, ap, ◌∙◌, List, append_assoc}
use Rattle.std.proofs.lemmas.List.{append-nil, at_drop_more, drop_all}
use Rattle.slice_bundles.specs.Bundles.{edge_at}
use Rattle.slice_border.specs.Pieces.{is_flat_at}
use Rattle.slice_bool.proofs.near.flats.Goals as goal
use Rattle.slice_bool.proofs.near.flats.Goals.{then-is_flat_at+in_ok-push, else-is_flat_at}

pub numbers-preserved : goal.numbers-preserved
numbers-preserved c =
    let ks : List ℕ = c.args.numbers.now in
    let i = c.numbers.k-index in
    let k : ℕ = get_or ks i 0 in
    let out : List ℕ = c.numbers.out.items in
    let flat : ℕ → Bool = λ k. is_flat_at (edge_at c.args.edges.now k) c.args.at.now in
    let more : List ℕ = filter flat (drop (i + 1) ks) in
    let step = at_drop_more (filter flat) ks i 0 c.numbers-test.true in
    let value = sym c.is_flat_at.ensures in
    elim c.if-is_flat_at.branch [
      | then-is_flat_at+in_ok-push w ↦
          ap (λ v. v.items ++ more) w.out-is ∙ ap (λ (ns : List ℕ). ns ++ more) w.in_ok-push.ensures.items
          ∙ append_assoc out (k ∷ []) more
          ∙ ap (λ (ns : List ℕ). out ++ ns)
          (sym (step ∙ ap (λ (t : Bool). cond t (k ∷ more) more) (value ∙ w.if-is_flat_at.true)))
          ∙ c.numbers.invariant
      | else-is_flat_at w ↦
          ap (λ v. v.items ++ more) w.out-is
          ∙ ap (λ (ns : List ℕ). out ++ ns)
          (sym (step ∙ ap (λ (t : Bool). cond t (k ∷ more) more) (value ∙ w.if-is_flat_at.false)))
          ∙ c.numbers.invariant
    ]

pub returns : goal.returns
returns c =
    let flat : ℕ → Bool = λ k. is_flat_at (edge_at c.args.edges.now k) c.args.at.now in
    sym (append-nil c.numbers.out.items)
    ∙ ap (λ (ks : List ℕ). c.numbers.out.items ++ filter flat ks)
    (sym (drop_all c.numbers.k-index c.args.numbers.now c.numbers-test.false))
    ∙ c.numbers.invariant
