-- A ray goes to the numbers so far, which become a bundle where it ends one.
use Rattle.std.proofs.Common.{◌≡◌, refl, ◌∷◌, [], ◌++◌, ◌+◌, drop, get_or, sym, ap, ap₂, ◌∙◌, List, ℕ}
use Rattle.slice_sweep.specs.declared.ray.Ray.{Ray}
use Rattle.slice_bundles.specs.Joined.{prefixed}
use Rattle.slice_bundles.proofs.Loops.{last_step}
use Rattle.slice_sweep.specs.Rays.{bundles_of}
use Rattle.slice_sweep.proofs.RaySteps.{close_step, open_step}
use Rattle.slice_sweep.proofs.coinciding.group.Goals as goal
use Rattle.slice_sweep.proofs.coinciding.group.Goals.{then-is_last+in_ok-close, else-is_last+in_ok-push}

pub rays-preserved : goal.rays-preserved
rays-preserved c =
    let d : Ray = c.index-rays-i.result in
    let ks : List ℕ = c.rays.current.items in
    let k : ℕ = (get_or c.args.rays.now c.rays.i d).number in
    elim c.if-is_last.branch [
      | then-is_last+in_ok-close w ↦
          let out : c.if-is_last.out.items ≡ c.rays.out.items ++ ((ks ++ (k ∷ [])) ∷ []) = ap (λ v. v.items)
          w.out-is ∙ w.in_ok-close.ensures.out in
          let current : c.if-is_last.current.items ≡ [] = ap (λ v. v.items) w.current-is ∙ w.in_ok-close.ensures.current
          in
          ap₂ (λ (xs : List (List ℕ)) (ys : List ℕ). xs ++ prefixed ys
          (bundles_of (drop (c.rays.i + 1) c.args.rays.now))) out current
          ∙ close_step c.rays.out.items ks c.args.rays.now c.rays.i d (bundles_of c.args.rays.now)
          c.rays-test.true (sym c.is_last.ensures ∙ w.if-is_last.true) c.rays.invariant
      | else-is_last+in_ok-push w ↦
          let out : c.if-is_last.out.items ≡ c.rays.out.items = ap (λ v. v.items) w.out-is in
          let current : c.if-is_last.current.items ≡ ks ++ (k ∷ []) = ap (λ v. v.items) w.current-is
          ∙ w.in_ok-push.ensures.items in
          ap₂ (λ (xs : List (List ℕ)) (ys : List ℕ). xs ++ prefixed ys
          (bundles_of (drop (c.rays.i + 1) c.args.rays.now))) out current
          ∙ open_step c.rays.out.items ks c.args.rays.now c.rays.i d (bundles_of c.args.rays.now)
          c.rays-test.true (sym c.is_last.ensures ∙ w.if-is_last.false) c.rays.invariant
    ]

pub returns : goal.returns
returns c = last_step (λ rs. prefixed c.rays.current.items (bundles_of rs)) _ _ c.args.rays.now c.rays.i refl
    c.rays-test.false c.rays.invariant
