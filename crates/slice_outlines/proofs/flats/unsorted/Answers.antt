-- A flat edge comes behind those before it.
use Rattle.std.proofs.Common.{◌+◌, ◌++◌, ℕ, List, drop, refl, sym, ap, subst, arith, ◌∙◌, append_assoc, All}
use Rattle.slice_outlines.specs.declared.flat.Flat.{Flat}
use Rattle.slice_outlines.specs.Flats.{numbers_of, flat_numbers, IsFlatOf}
use Rattle.slice_outlines.proofs.Joining.{numbers_step}
use Rattle.slice_outlines.proofs.flats.unsorted.Goals as goal

pub edges-preserved : goal.edges-preserved
edges-preserved c =
    let es = c.args.edges.now in
    let i : ℕ = c.edges.i in
    let rest : List ℕ = flat_numbers (i + 1) (drop (i + 1) es) in
    record {
      all = ap (λ (ks : List ℕ). ks ++ rest) c.in_ok-push_flat.ensures.numbers
          ∙ append_assoc (numbers_of c.edges.out.items) _ rest
          ∙ ap (λ (ks : List ℕ). numbers_of c.edges.out.items ++ ks) (numbers_step es i c.edges-test.true)
          ∙ c.edges.invariant.all;
      each = c.in_ok-push_flat.ensures.each es c.edges-test.true refl c.edges.invariant.each;
    }

pub edges-init : goal.edges-init
edges-init c =
    let items = c.new-out.ensures.items in
    record {
      all = ap (λ (fs : List Flat). numbers_of fs ++ flat_numbers 0 c.args.edges.now) items;
      each = subst (All (IsFlatOf c.args.edges.now)) (sym items) (λ k d o. absurd (omega (arith, o)));
    }

pub push_flat-requires : goal.push_flat-requires
push_flat-requires c = record { within = c.requires.within c.edges.i _ c.edges-test.true }

pub returns-clause-each : goal.returns-clause-each
returns-clause-each c = c.edges.invariant.each
