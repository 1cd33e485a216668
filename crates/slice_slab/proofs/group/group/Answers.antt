-- A passage goes to the numbers so far, which become a bundle where it ends one.
use Rattle.std.proofs.Common.{◌≡◌, refl, ◌∷◌, [], ◌++◌, ◌+◌, drop, get_or, sym, ap, ap₂, ◌∙◌, List, ℕ}
use Rattle.slice_slab.specs.declared.passage.Passage.{Passage}
use Rattle.slice_slab.specs.Passages.{bundles_of}
use Rattle.slice_bundles.specs.Joined.{prefixed}
use Rattle.slice_bundles.proofs.Loops.{last_step}
use Rattle.slice_slab.proofs.Steps.{close_step, open_step}
use Rattle.slice_slab.proofs.group.group.Goals as goal
use Rattle.slice_slab.proofs.group.group.Goals.{then-is_last+in_ok-close, else-is_last}

pub passages-preserved : goal.passages-preserved
passages-preserved c =
    let d : Passage = c.index-passages-i.result in
    let ks : List ℕ = c.passages.current.items in
    let more : c.push.new.self.items ≡ ks ++ ((get_or c.args.passages.now c.passages.i d).number ∷ []) =
    c.in_ok-push.ensures.items in
    elim c.if-is_last.branch [
      | then-is_last+in_ok-close w ↦
          let out : c.if-is_last.out.items ≡ c.passages.out.items ++ (c.push.new.self.items ∷ []) = ap (λ v. v.items)
          w.out-is ∙ w.in_ok-close.ensures.out in
          let current : c.if-is_last.current.items ≡ [] = ap (λ v. v.items) w.current-is ∙ w.in_ok-close.ensures.current
          in
          ap₂ (λ (xs : List (List ℕ)) (ys : List ℕ). xs ++ prefixed ys
          (bundles_of (drop (c.passages.i + 1) c.args.passages.now)))
          (out ∙ ap (λ (ys : List ℕ). c.passages.out.items ++ (ys ∷ [])) more) current
          ∙ close_step c.passages.out.items ks c.args.passages.now c.passages.i d (bundles_of c.args.passages.now)
          c.passages-test.true (sym c.is_last.ensures ∙ w.if-is_last.true) c.passages.invariant
      | else-is_last w ↦
          let out : c.if-is_last.out.items ≡ c.passages.out.items = ap (λ v. v.items) w.out-is in
          let current : c.if-is_last.current.items ≡ c.push.new.self.items = ap (λ v. v.items) w.current-is in
          ap₂ (λ (xs : List (List ℕ)) (ys : List ℕ). xs ++ prefixed ys
          (bundles_of (drop (c.passages.i + 1) c.args.passages.now))) out (current ∙ more)
          ∙ open_step c.passages.out.items ks c.args.passages.now c.passages.i d (bundles_of c.args.passages.now)
          c.passages-test.true (sym c.is_last.ensures ∙ w.if-is_last.false) c.passages.invariant
    ]

pub returns : goal.returns
returns c = last_step (λ ps. prefixed c.passages.current.items (bundles_of ps)) _ _ c.args.passages.now c.passages.i refl
    c.passages-test.false c.passages.invariant
