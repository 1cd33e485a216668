-- All stays are compared.
use Rattle.std.proofs.Common.{List, All, sym, subst}
use Rattle.std.specs.List.Sorted.{IsPermutation}
use Rattle.std.proofs.lemmas.Result.{on_ok_weaker}
use Rattle.slice_events.specs.declared.line.Line.{Line}
use Rattle.slice_events.specs.declared.stay.Stay.{Stay}
use Rattle.slice_events.specs.Lines.{edges_in}
use Rattle.slice_events.specs.Stays.{all_stays, IsStayOf}
use Rattle.slice_events.specs.Yields.{yield_among, HasRoom, HasYielded}
use Rattle.slice_events.proofs.Finding.{stays_right, room_for_all, found_all}
use Rattle.slice_events.proofs.events.find.Goals as goal

pub compare_all-requires-clause-stays : goal.compare_all-requires-clause-stays
compare_all-requires-clause-stays c =
    let lines : List Line = c.in_ok-lines.lines.items in
    let stays : List Stay = c.in_ok-stays.stays.items in
    let tall = c.bucket_height.result in
    let arranged = subst (λ (ls : List Line). IsPermutation (all_stays tall 0 (edges_in ls)) stays) c.deref.ensures.value c.in_ok-stays.ensures.permutation in
    subst (λ (ls : List Line). All (IsStayOf (edges_in ls)) c.deref-4.result.now) (sym c.deref-3.ensures.value)
    (subst (λ (ss : List Stay). All (IsStayOf (edges_in lines)) ss) (sym c.deref-4.ensures.value)
    (stays_right (edges_in lines) tall stays arranged))

pub compare_all-requires-clause-room : goal.compare_all-requires-clause-room
compare_all-requires-clause-room c =
    let lines : List Line = c.in_ok-lines.lines.items in
    let stays : List Stay = c.in_ok-stays.stays.items in
    let tall = c.bucket_height.result in
    let arranged = subst (λ (ls : List Line). IsPermutation (all_stays tall 0 (edges_in ls)) stays) c.deref.ensures.value c.in_ok-stays.ensures.permutation in
    subst (λ (ls : List Line). HasRoom c.args.found.now (yield_among (edges_in ls) c.deref-4.result.now))
    (sym c.deref-3.ensures.value)
    (subst (λ (ss : List Stay). HasRoom c.args.found.now (yield_among (edges_in lines) ss))
    (sym c.deref-4.ensures.value)
    (room_for_all c.args.edges.now lines tall stays c.args.found.now c.requires.within c.requires.few
    c.bucket_height.ensures c.in_ok-lines.ensures arranged c.requires.first))

pub returns : goal.returns
returns c =
    let lines : List Line = c.in_ok-lines.lines.items in
    let stays : List Stay = c.in_ok-stays.stays.items in
    let tall = c.bucket_height.result in
    let arranged = subst (λ (ls : List Line). IsPermutation (all_stays tall 0 (edges_in ls)) stays) c.deref.ensures.value c.in_ok-stays.ensures.permutation in
    let after = c.compare_all.new.found in
    on_ok_weaker c.compare_all.result
    (λ y. found_all c.args.edges.now lines tall stays c.args.found.now c.requires.within c.requires.few
    c.bucket_height.ensures c.in_ok-lines.ensures arranged c.requires.first after
    (subst (λ (ls : List Line). HasYielded c.args.found.now after (yield_among (edges_in ls) stays))
    c.deref-3.ensures.value
    (subst (λ (ss : List Stay). HasYielded c.args.found.now after (yield_among (edges_in c.deref-3.result.now) ss))
    c.deref-4.ensures.value y)))
    c.compare_all.ensures
