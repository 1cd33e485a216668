-- The leaf goes in or out with its number.
use Rattle.std.proofs.Common.{◌≡◌, ℕ, List, get_or, ap, ◌∙◌}
use Rattle.std.specs.Prelude.{ℤ, pos, ◌+ℤ◌, ◌==◌, if◌then◌else◌}
use Rattle.slice_border.specs.Tally.{IsTally}
use Rattle.slice_border.specs.Keeping.{in_by}
use Rattle.slice_border.proofs.Keeping.{keeps_set, keeps_as, passed}
use Rattle.slice_border.proofs.tally.turn.Goals as goal

pub returns-then-inside-before-clause-held : goal.returns-then-inside-before-clause-held
returns-then-inside-before-clause-held c =
    let old : List ℤ = c.args.turns.now.items in
    let new : List ℤ = c.add.new.turns.items in
    let leaf : ℕ = c.args.leaf in
    let by : ℤ = c.args.by in
    let moved : IsTally new (λ k. get_or old k (pos 0) +ℤ (if leaf == k then by else pos 0)) =
    λ k. c.add.ensures.turns k ∙ ap (λ (z : ℤ). get_or old k (pos 0) +ℤ (if leaf == k then z else pos 0))
    (passed c.args.by c.requires.by) in
    let inside : c.is_inside-inside.result ≡ in_by new leaf =
    c.is_inside-inside.ensures ∙ ap (λ (ws : List ℤ). in_by ws leaf) c.deref-2.ensures.value in
    keeps_set old new leaf by moved c.args.held.now c.set.new.self c.is_inside-inside.result inside
    c.set.ensures.ready c.set.ensures.leaves c.set.ensures.shows

pub returns-else-inside-before-clause-held : goal.returns-else-inside-before-clause-held
returns-else-inside-before-clause-held c =
    let old : List ℤ = c.args.turns.now.items in
    let new : List ℤ = c.add.new.turns.items in
    let leaf : ℕ = c.args.leaf in
    let by : ℤ = c.args.by in
    let moved : IsTally new (λ k. get_or old k (pos 0) +ℤ (if leaf == k then by else pos 0)) =
    λ k. c.add.ensures.turns k ∙ ap (λ (z : ℤ). get_or old k (pos 0) +ℤ (if leaf == k then z else pos 0))
    (passed c.args.by c.requires.by) in
    let before : c.is_inside-before.result ≡ in_by old leaf =
    c.is_inside-before.ensures ∙ ap (λ (ws : List ℤ). in_by ws leaf) c.deref.ensures.value in
    let inside : c.is_inside-inside.result ≡ in_by new leaf =
    c.is_inside-inside.ensures ∙ ap (λ (ws : List ℤ). in_by ws leaf) c.deref-2.ensures.value in
    keeps_as old new leaf by moved c.args.held.now c.is_inside-before.result c.is_inside-inside.result before inside
    c.if-inside-before.false c.requires.ready
