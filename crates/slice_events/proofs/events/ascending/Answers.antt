-- Sorting and dropping repeats leaves the levels.
use Rattle.std.proofs.Common.{sym, ap, ◌∙◌, subst}
use Rattle.std.proofs.lemmas.Result.{IfOk-weaker}
use Rattle.slice_events.specs.Levels.{AreLevels}
use Rattle.slice_events.specs.Collection.{levels_in, is_lower}
use Rattle.slice_events.specs.Distinct.{distinct_by}
use Rattle.slice_events.proofs.Ascending.{sorted_levels, arranged_sound, arranged_complete}
use Rattle.slice_events.proofs.events.ascending.Goals as goal

pub returns-clause-levels : goal.returns-clause-levels
returns-clause-levels c =
    let edges = c.args.edges.now in
    let others = levels_in c.args.heights.items in
    let all = c.push_ends.new.out.items in
    let arranged = c.in_ok-push_ends.ensures.ok in
    IfOk-weaker c.distinct.result _ _
    (λ v e. subst (AreLevels edges) (sym (e ∙ ap (λ hs. distinct_by is_lower (levels_in hs)) c.deref.ensures.value))
    (sorted_levels edges all c.sort.new.heights.items
    (arranged_sound edges others (levels_in all) c.requires.heights arranged)
    (arranged_complete edges others all c.requires.heights arranged)
    c.in_ok-sort.ensures.permutation c.in_ok-sort.ensures.sorted))
    c.distinct.ensures.value
