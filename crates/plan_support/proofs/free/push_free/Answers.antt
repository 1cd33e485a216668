-- A hole is passed, or the last of a run is kept.
use Rattle.std.proofs.Common.{◌≡◌, ◌++◌, ◌<◌, ◌+◌, ℤ, FitsSigned, to_z, get_or, length, sym}
use Rattle.std.proofs.Common.{subst, ap, ◌∙◌, List, rules, arith, pos, ◌+ℤ◌, ◌-ℤ◌, ◌<ℤ◌}
use lib.Signed.{◌≤ℤ◌}
use Rattle.std.specs.Int.{int_max}
use Rattle.std.proofs.lemmas.Int.{to_z-of_z}
use Rattle.scad_geom.proofs.Casts.{by_cast}
use Rattle.plan_infill.specs.declared.run.Run.{Run}
use Rattle.plan_support.specs.Free.{some_run, AddsFree}
use Rattle.plan_support.specs.Near.{HasPlaces}
use Rattle.plan_support.proofs.HoleRests.{FreedUpTo, freed_more, freed_all}
use Rattle.plan_support.proofs.Widened.{read_less, read_least, place_of}
use Rattle.plan_support.proofs.free.push_free.Goals as goal
use Rattle.plan_support.proofs.free.push_free.Goals.{then-holes-test+else-holes-i, else-holes-test}
use mir.Syntax.{w32, w64}

abbrev none : Run
none = record { from = pos 0; to = pos 0 }

pub holes-preserved : goal.holes-preserved
holes-preserved c =
    let from = to_z w64 c.holes.from-bits in
    let hole = get_or c.args.holes.now c.holes.i none in
    let hole_fits : FitsSigned w32 hole.to = search rules in
    let next : c.max-from.result ≡ int_max from (hole.to +ℤ pos 1) =
    c.max-from.ensures.value ∙ ap (int_max from) (by_cast w64 c.behind.type_inv c.behind.ensures) in
    let ends : hole.to <ℤ c.args.run.to =
    read_less hole.to c.args.run.to hole_fits (record { sfits = c.type_inv.run.1.0.1 }) c.if-holes-i.true in
    let out : c.push_some.new.out.items ≡ c.holes.out.items ++ some_run from (hole.from -ℤ pos 1) =
    c.in_ok-push_some.ensures
    ∙ ap (λ (z : ℤ). c.holes.out.items ++ some_run from z)
    (by_cast w64 c.before-in-holes.type_inv c.before-in-holes.ensures.value) in
    subst (λ (z : ℤ). FreedUpTo c.args.out.now.items c.args.run c.args.holes.now (c.holes.i + 1) z
    c.push_some.new.out.items)
    (sym (to_z-of_z w64 c.max-from.result (record { sfits = c.max-from.type_inv })))
    (subst (FreedUpTo c.args.out.now.items c.args.run c.args.holes.now (c.holes.i + 1) c.max-from.result) (sym out)
    (freed_more c.args.out.now.items c.args.run c.args.holes.now c.holes.i from c.holes.out.items none c.requires.holes
    c.holes.invariant c.max-from.result c.holes-test.true ends next))

pub returns : goal.returns
returns c =
    let from = to_z w64 c.holes.from-bits in
    let hole = get_or c.args.holes.now c.holes.i none in
    let from_fits : FitsSigned w32 c.args.run.from = search rules in
    let to_fits : FitsSigned w32 c.args.run.to = search rules in
    let out : c.push_some-2.new.out.items ≡ c.holes.out.items ++ some_run from c.end_before.result =
    c.in_ok-push_some-2.ensures
    ∙ ap (λ (z : ℤ). c.holes.out.items ++ some_run from z)
    (to_z-of_z w64 c.end_before.result (record { sfits = c.end_before.type_inv })) in
    let places : HasPlaces c.args.run = record {
      from = place_of c.args.run.from from_fits;
      to = place_of c.args.run.to to_fits;
    } in
    let last : c.holes.i < length c.args.holes.now → c.args.run.to ≤ℤ hole.to = elim c.holes-test.branch [
      | then-holes-test+else-holes-i w ↦
          (λ l. let hole_fits : FitsSigned w32 hole.to = search rules in
          read_least hole.to c.args.run.to hole_fits to_fits w.if-holes-i.false)
      | else-holes-test w ↦ (λ l. absurd (omega (arith, l, w.holes-test.false)))
    ] in
    subst (λ (os : List Run). AddsFree c.args.out.now.items c.args.run c.args.holes.now os c.holes.i) (sym out)
    (freed_all c.args.out.now.items c.args.run c.args.holes.now c.holes.i from c.holes.out.items none c.requires.holes
    c.holes.invariant c.end_before.result places c.end_before.ensures last)
