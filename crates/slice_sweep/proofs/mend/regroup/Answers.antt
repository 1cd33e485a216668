-- The bundles of the edges that go on stand in the place of the group.
use Rattle.std.proofs.Common.{◌≡◌, ◌+◌, ◌-◌, ◌<◌, ◌≤◌, ◌++◌, ◌∙◌, drop, filter, refl, sym, ap, subst, arith, rules, List, ℕ, length, All, IsPermutation}
use Rattle.std.specs.List.{concat}
use Rattle.slice_bundles.specs.Bundles.{edge_at, reaches}
use Rattle.slice_bundles.specs.KeptOrder.{IsSamePlaceAt, AllStand}
use Rattle.slice_sweep.specs.declared.strand.Strand.{Strand}
use Rattle.slice_sweep.specs.Strands.{numbers_in, fresh}
use Rattle.slice_sweep.specs.Mending.{AreMendedTo, KeepTimes}
use Rattle.slice_sweep.proofs.Weakening.{length_fresh, weakened_length}
use Rattle.slice_sweep.proofs.Groups.{group_there, group_together, placed_by, regrouped_by}
use Rattle.slice_sweep.proofs.Blocks.{keys_before, keys_stay}
use Rattle.slice_sweep.proofs.mend.regroup.Goals as goal
use Rattle.slice_sweep.proofs.mend.regroup.Goals.{In_ok-replace}

at_most : (a b : ℕ) → a < b → a ≤ b
at_most a b h = omega arith

below_all : (a b n : ℕ) → a < b → b ≤ n → a ≤ n
below_all a b n h i = omega arith

no_less : (a b : ℕ) → a ≤ a + b
no_less a b = omega arith

pub leaving-requires-clause-there : goal.leaving-requires-clause-there
leaving-requires-clause-there c =
    let s = c.args.step.now in
    let split = subst (λ (xs : List Strand). c.members.new.numbers.items ++ numbers_in (drop c.args.to xs)
    ≡ numbers_in (drop c.args.from xs)) c.deref.ensures.value c.in_ok-members.ensures in
    subst (All (λ k. k < length s.edges.now)) (sym c.deref-2.ensures.value)
    (group_there s.edges.now s.lower.now s.upper.now s.lower_within c.requires.neighbours c.args.from c.args.to
    c.args.strands.now.items c.requires.mended c.requires.group c.members.new.numbers.items split)

pub leaving-requires-clause-together : goal.leaving-requires-clause-together
leaving-requires-clause-together c =
    let s = c.args.step.now in
    let split = subst (λ (xs : List Strand). c.members.new.numbers.items ++ numbers_in (drop c.args.to xs)
    ≡ numbers_in (drop c.args.from xs)) c.deref.ensures.value c.in_ok-members.ensures in
    subst (λ (ks : List ℕ). AllStand (IsSamePlaceAt s.lower.now) s.edges.now ks ks) (sym c.deref-2.ensures.value)
    (group_together s.edges.now s.lower.now s.upper.now s.lower_within c.requires.neighbours c.args.from c.args.to
    c.args.strands.now.items c.requires.mended c.requires.group c.members.new.numbers.items split)

pub replace-requires-clause-to : goal.replace-requires-clause-to
replace-requires-clause-to c =
    let q = c.requires.group in
    let some = q.some in
    let within = q.within in
    let size = weakened_length c.args.strands.now.items c.weaken.new.strands.items c.args.from
    (omega (arith, some, within)) c.weaken.ensures in
    omega (arith, within, size)

pub members-requires-clause-from : goal.members-requires-clause-from
members-requires-clause-from c = at_most c.args.from c.args.to c.requires.group.some

pub members-requires-clause-to : goal.members-requires-clause-to
members-requires-clause-to c =
    subst (λ (L : List Strand). c.args.to ≤ length L) (sym c.deref.ensures.value) c.requires.group.within

pub weaken-requires : goal.weaken-requires
weaken-requires c =
    below_all c.args.from c.args.to (length c.args.strands.now.items) c.requires.group.some c.requires.group.within

pub replace-requires-clause-from : goal.replace-requires-clause-from
replace-requires-clause-from c = at_most c.args.from c.args.to c.requires.group.some

pub returns-clause-behind : goal.returns-clause-behind
returns-clause-behind c = no_less c.args.from c.len.result

put : (c : In_ok-replace)
    → AreMendedTo c.args.step.now.edges.now c.args.step.now.lower.now c.args.step.now.upper.now
    (c.args.from + c.len.result) c.replace.new.strands.items
    × KeepTimes c.args.step.now.edges.now c.args.step.now.lower.now c.args.step.now.upper.now
    c.args.strands.now.items c.replace.new.strands.items
    × (length c.replace.new.strands.items - (c.args.from + c.len.result)
    < length c.args.strands.now.items - c.args.from)
put c =
    let s = c.args.step.now in
    let L : List Strand = c.args.strands.now.items in
    let split = subst (λ (xs : List Strand). c.members.new.numbers.items ++ numbers_in (drop c.args.to xs)
    ≡ numbers_in (drop c.args.from xs)) c.deref.ensures.value c.in_ok-members.ensures in
    let same = subst (λ (ks : List ℕ). IsPermutation
    (filter (λ k. reaches (edge_at s.edges.now k) s.lower.now s.upper.now) ks) (concat c.in_ok-bundles.bundles.items))
    c.deref-2.ensures.value c.in_ok-bundles.ensures.members in
    let long : c.len.result ≡ length c.in_ok-bundles.bundles.items = search rules in
    let size = long ∙ sym (length_fresh c.in_ok-bundles.bundles.items) in
    regrouped_by s.edges.now s.lower.now s.upper.now s.lower_within c.requires.neighbours c.args.from c.args.to L
    c.requires.mended c.requires.group c.members.new.numbers.items split c.in_ok-bundles.bundles.items
    c.in_ok-bundles.ensures.ranked same c.weaken.new.strands.items
    (fresh c.in_ok-bundles.bundles.items) c.replace.new.strands.items (c.args.from + c.len.result) c.weaken.ensures refl
    c.in_ok-replace.ensures (ap (λ (n : ℕ). c.args.from + n) size)

pub returns-clause-mended : goal.returns-clause-mended
returns-clause-mended c = (put c).0

pub returns-clause-numbers : goal.returns-clause-numbers
returns-clause-numbers c = (put c).1

pub returns-clause-fewer : goal.returns-clause-fewer
returns-clause-fewer c = (put c).2

pub returns-clause-told : goal.returns-clause-told
returns-clause-told c all cs gone o a =
    let s = c.args.step.now in
    let L : List Strand = c.args.strands.now.items in
    let split = subst (λ (xs : List Strand). c.members.new.numbers.items ++ numbers_in (drop c.args.to xs)
    ≡ numbers_in (drop c.args.from xs)) c.deref.ensures.value c.in_ok-members.ensures in
    let same = subst (λ (ks : List ℕ). IsPermutation
    (filter (λ k. reaches (edge_at s.edges.now k) s.lower.now s.upper.now) ks) (concat c.in_ok-bundles.bundles.items))
    c.deref-2.ensures.value c.in_ok-bundles.ensures.members in
    let long : c.len.result ≡ length c.in_ok-bundles.bundles.items = search rules in
    let size = long ∙ sym (length_fresh c.in_ok-bundles.bundles.items) in
    placed_by s.edges.now s.lower.now s.upper.now s.lower_within c.requires.neighbours c.args.from c.args.to L
    c.requires.mended c.requires.group c.members.new.numbers.items split c.in_ok-bundles.bundles.items
    c.in_ok-bundles.ensures.ranked same c.weaken.new.strands.items
    (fresh c.in_ok-bundles.bundles.items) c.replace.new.strands.items (c.args.from + c.len.result) c.weaken.ensures refl
    c.in_ok-replace.ensures (ap (λ (n : ℕ). c.args.from + n) size) all cs gone o a

pub returns-clause-low : goal.returns-clause-low
returns-clause-low c h =
    let L : List Strand = c.args.strands.now.items in
    let q = c.requires.group in
    let some = q.some in
    let within = q.within in
    let bs = c.in_ok-bundles.bundles.items in
    let here : c.args.from ≤ length L = omega (arith, some, within) in
    let long : c.len.result ≡ length bs = search rules in
    c.forget.ensures L c.replace.new.strands.items h
    (keys_before L c.weaken.new.strands.items c.args.from here c.weaken.ensures c.replace.new.strands.items _
    c.in_ok-replace.ensures)
    (λ e. keys_stay L c.weaken.new.strands.items c.args.from here c.weaken.ensures c.replace.new.strands.items bs
    c.args.to within (omega (arith, long, e)) c.in_ok-replace.ensures)
