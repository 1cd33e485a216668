-- An edge that goes up gives its ray.
use Rattle.std.proofs.Common.{◌≡◌, refl, ◌∷◌, [], ◌++◌, ◌+◌, drop, arith, get_or, filter, Bool, sym, ap, ◌∙◌, subst, List, ℕ}
use Rattle.std.specs.List.{All}
use Rattle.std.proofs.lemmas.List.Elements.{All-push}
use Rattle.slice_bundles.specs.Bundles.{edge_at, reaches}
use Rattle.slice_bundles.proofs.Loops.{mapped_step, pass_step, last_step, filter_yes, filter_no}
use Rattle.slice_sweep.specs.declared.ray.Ray.{Ray}
use Rattle.slice_sweep.specs.Rays.{numbers_of, IsRayOf}
use Rattle.slice_sweep.proofs.leave.gather.Goals as goal
use Rattle.slice_sweep.proofs.leave.gather.Goals.{then-goes_up+in_ok-push, else-goes_up}

pub numbers-init : goal.numbers-init
numbers-init c =
    let s = c.args.step.now in
    let items = c.clear.ensures.items in
    record {
      numbers = ap (λ (rs : List Ray). numbers_of rs
          ++ filter (λ k. reaches (edge_at s.edges.now k) s.lower.now s.upper.now) c.args.numbers.now) items;
      rays = subst (All (IsRayOf s.edges.now)) (sym items) (λ k d o. absurd (omega (arith, o)));
    }

pub goes_up-requires : goal.goes_up-requires
goes_up-requires c = record { there = c.requires.there c.numbers.k-index 0 c.numbers-test.true }

pub ray-requires-clause-within : goal.ray-requires-clause-within
ray-requires-clause-within c = c.args.step.now.within

pub ray-requires-clause-there : goal.ray-requires-clause-there
ray-requires-clause-there c = c.requires.there c.numbers.k-index 0 c.numbers-test.true

pub ray-requires-clause-rises : goal.ray-requires-clause-rises
ray-requires-clause-rises c = c.goes_up.ensures.rises c.if-goes_up.true

pub numbers-preserved : goal.numbers-preserved
numbers-preserved c =
    let s = c.args.step.now in
    let ks = c.args.numbers.now in
    let i = c.numbers.k-index in
    let out = c.numbers.rays.items in
    let up : ℕ → Bool = λ k. reaches (edge_at s.edges.now k) s.lower.now s.upper.now in
    elim c.if-goes_up.branch [
      | then-goes_up+in_ok-push w ↦
          let items : c.if-goes_up.rays.items ≡ out ++ (w.ray.result ∷ []) = ap (λ v. v.items) w.rays-is
          ∙ w.in_ok-push.ensures.items in
          record {
            numbers = ap (λ (rs : List Ray). numbers_of rs ++ filter up (drop (i + 1) ks)) items
                ∙ mapped_step (λ (r : Ray). r.number) out w.ray.result (get_or ks i 0) _ _ _ w.ray.ensures.number
                (filter_yes up ks i c.numbers-test.true (sym c.goes_up.ensures.value ∙ w.if-goes_up.true))
                c.numbers.invariant.numbers;
            rays = subst (All (IsRayOf s.edges.now)) (sym items)
                (All-push (IsRayOf s.edges.now) out w.ray.result c.numbers.invariant.rays w.ray.ensures.ray);
          }
      | else-goes_up w ↦
          let items : c.if-goes_up.rays.items ≡ out = ap (λ v. v.items) w.rays-is in
          record {
            numbers = ap (λ (rs : List Ray). numbers_of rs ++ filter up (drop (i + 1) ks)) items
                ∙ pass_step (numbers_of out) _ _ _
                (filter_no up ks i c.numbers-test.true (sym c.goes_up.ensures.value ∙ w.if-goes_up.false))
                c.numbers.invariant.numbers;
            rays = subst (All (IsRayOf s.edges.now)) (sym items) c.numbers.invariant.rays;
          }
    ]

pub returns-clause-numbers : goal.returns-clause-numbers
returns-clause-numbers c =
    let s = c.args.step.now in
    last_step (filter (λ k. reaches (edge_at s.edges.now k) s.lower.now s.upper.now)) _ _ c.args.numbers.now
    c.numbers.k-index refl c.numbers-test.false c.numbers.invariant.numbers

pub returns-clause-rays : goal.returns-clause-rays
returns-clause-rays c = c.numbers.invariant.rays
