-- One more that lies aside.
use Rattle.std.proofs.Common.{◌≡◌, ℕ, List, get_or, inl, inr, sym, subst, arith}
use Rattle.std.proofs.lemmas.Bool.{cases_lt}
use Rattle.std.proofs.lemmas.List.{get_or_read}
use Rattle.slice_outlines.specs.declared.flat.Flat.{Flat}
use Rattle.slice_outlines.specs.Flats.{LiesAside}
use Rattle.slice_outlines.proofs.aside.in_way.Goals as goal

pub flats-init : goal.flats-init
flats-init c = λ k d o. absurd (omega (arith, o))

pub flats-preserved : goal.flats-preserved
flats-preserved c = λ k d o.
    let s = c.args.s.now.spot in
    let fs : List Flat = c.args.flats.now in
    let i : ℕ = c.flats.e-index in
    let e : Flat = c.e-item.result in
    elim (cases_lt k i) [
      | inl h ↦ c.flats.invariant k d h
      | inr h ↦
          let same : k ≡ i = omega (arith, o, h) in
          subst (λ (j : ℕ). LiesAside s.at s (get_or fs j d)) (sym same)
          (subst (LiesAside s.at s) (get_or_read fs i e c.flats-test.true c.e-item.is d)
          (c.is_aside.ensures c.if-not-is_aside.false))
    ]

pub returns : goal.returns
returns c = λ t k d o. c.flats.invariant k d (omega (arith, o, c.flats-test.false))
