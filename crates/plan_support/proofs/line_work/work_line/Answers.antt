-- The work is kept one layer after another, down to the first.
use Rattle.std.proofs.Common.{◌≡◌, ℕ, ℤ, to_z, of_z, ◌+◌, ◌-◌, ◌<◌, ◌≤◌, ◌++◌}
use Rattle.std.proofs.Common.{min, List, [], length, get_or, sym, subst, ap, ◌∙◌, arith}
use Rattle.std.specs.Prelude.{◌||◌}
use Rattle.std.proofs.lemmas.Int.{to_z-of_z}
use Rattle.std.proofs.lemmas.List.Elements.{All-get_or}
use Rattle.plan_infill.specs.declared.run.Run.{Run}
use Rattle.plan_support.specs.declared.line.Want.{Want}
use Rattle.plan_support.specs.Rows.{Row, AreApart, AreRows, runs_at}
use Rattle.plan_support.specs.On.{is_on}
use Rattle.plan_support.specs.Lines.{HasLine, wanted_of, greatest_count}
use Rattle.plan_support.proofs.LineWork.{AboveFrom, above_start, above_more, line_of, runs_apart}
use Rattle.plan_support.proofs.line_work.work_line.Goals as goal
use mir.Syntax.{w32}

-- all layers are passed, and the lists kept under another name
line_done : (layers : List (List Row)) (y z : ℤ) (want : Want) (number n count : ℕ) (above : List Run)
    (kept lists : List (List Run)) → z ≡ y → n ≤ 0 → lists ≡ kept → AboveFrom layers z want n above count kept
    → HasLine layers y want (record { number = number; count = count; covers = lists })
line_done layers y z want number n count above kept lists same none is a =
    line_of layers y want above (record { number = number; count = count; covers = lists })
    (subst (λ (ls : List (List Run)). AboveFrom layers y want 0 above count ls) (sym is)
    (subst (λ (k : ℕ). AboveFrom layers y want k above count kept) (omega (arith, none))
    (subst (λ (x : ℤ). AboveFrom layers x want n above count kept) same a)))

pub layers-init : goal.layers-init
layers-init c =
    let layers = c.args.layers.now in
    let y = to_z w32 (of_z w32 c.args.y) in
    record {
      within = omega arith;
      above = subst
          (λ (ls : List (List Run)). AboveFrom layers y c.args.want (length layers) c.new-above.result.items 0 ls)
          (sym c.new-covers.ensures)
          (subst (λ (rs : List Run). AboveFrom layers y c.args.want (length layers) rs 0 [])
          (sym c.new-above.ensures.items) (above_start layers y c.args.want));
    }

pub runs_of-requires-clause-layer : goal.runs_of-requires-clause-layer
runs_of-requires-clause-layer c =
    let within = c.layers.invariant.within in
    let some = c.layers-test.true in
    omega (arith, within, some)

pub with_runs-requires-clause-runs : goal.with_runs-requires-clause-runs
with_runs-requires-clause-runs c =
    let y_fits = c.ranges.y in
    let n = c.layers.n - 1 in
    let within = c.layers.invariant.within in
    let some = c.layers-test.true in
    let l : n < length c.args.layers.now = omega (arith, within, some) in
    let e : c.runs_of.result.now ≡ runs_at c.args.y (get_or c.args.layers.now n []) =
    simp to_z-of_z at c.runs_of.ensures in
    subst AreApart (sym e) (runs_apart c.args.y (get_or c.args.layers.now n [])
    (All-get_or AreRows c.args.layers.now n [] l c.requires).each)

pub layers-preserved : goal.layers-preserved
layers-preserved c =
    let y_fits = c.ranges.y in
    let layers = c.args.layers.now in
    let y = c.args.y in
    let want = c.args.want in
    let n = c.layers.n - 1 in
    let within = c.layers.invariant.within in
    let some = c.layers-test.true in
    let l : n < length layers = omega (arith, within, some) in
    let m : n ≤ length layers = omega (arith, l) in
    let e : c.runs_of.result.now ≡ runs_at y (get_or layers n []) = simp to_z-of_z at c.runs_of.ensures in
    let above = c.layers.above.items in
    let before : AboveFrom layers y want c.layers.n above c.layers.count c.layers.covers =
    simp to_z-of_z at c.layers.invariant.above in
    let up : c.layers.n ≡ n + 1 = omega (arith, some) in
    let here = subst (λ k. AboveFrom layers y want k above c.layers.count c.layers.covers) up before in
    let total : c.added-count.result ≡ min (c.layers.count + length above) greatest_count =
    c.added-count.ensures
    ∙ ap (λ (rs : List Run). min (c.layers.count + length rs) greatest_count) c.as_slice-below.ensures.value in
    let lists : c.push_wanted.new.covers ≡ c.layers.covers ++ wanted_of want above =
    c.in_ok-push_wanted.ensures
    ∙ ap (λ (rs : List Run). c.layers.covers ++ wanted_of want rs) c.as_slice-below.ensures.value in
    let after : AboveFrom layers y want n c.in_ok-above.above.items c.added-count.result c.push_wanted.new.covers =
    above_more layers y want n above c.layers.count c.layers.covers here l c.in_ok-above.above.items
    c.added-count.result c.push_wanted.new.covers c.in_ok-above.ensures.apart
    (λ x. c.in_ok-above.ensures.on x ∙ ap (λ (rs : List Run). is_on above x || is_on rs x) e) total lists in
    simp to_z-of_z (record { within = m; above = after })

pub returns-clause-line : goal.returns-clause-line
returns-clause-line c =
    line_done c.args.layers.now c.args.y (to_z w32 (of_z w32 c.args.y)) c.args.want c.args.number c.layers.n
    c.layers.count c.layers.above.items c.layers.covers c.shrink_to_fit.new.self
    (to_z-of_z w32 c.args.y c.ranges.y) c.layers-test.false c.shrink_to_fit.ensures c.layers.invariant.above
