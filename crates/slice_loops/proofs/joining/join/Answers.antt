-- Each loop that is drawn adds its outline; where no edge remains all are made.
use Rattle.std.proofs.Common.{◌+◌, List, sym, ap, ◌∙◌, subst}
use Rattle.scad_geom.specs.declared.point.Pt.{Pt}
use Rattle.scad_geom.specs.declared.point.Edge.{Edge}
use Rattle.slice_loops.specs.declared.remainder.Remaining.{Remaining}
use Rattle.slice_loops.proofs.LoopByLoop.{Drawn, none_drawn, one_drawn, passed_by, all_drawn}
use Rattle.slice_loops.proofs.joining.join.Goals as goal
use Rattle.slice_loops.proofs.joining.join.Goals.{then-not-is_taken+in_ok-push_outline, else-not-is_taken}

pub places-init : goal.places-init
places-init c =
    none_drawn c.args.edges.now c.in_ok-left.left c.new-outlines.result.items c.len-place-end.result
    c.new-outlines.ensures.items
    c.in_ok-left.ensures.order c.in_ok-left.ensures.all c.requires.balanced c.len-place-end.ensures

pub places-preserved : goal.places-preserved
places-preserved c =
    let edges : List Edge = c.args.edges.now in
    let place = c.places.place in
    let end = c.len-place-end.result in
    let outlines : List (List Pt) = c.if-not-is_taken.outlines.items in
    let Now : Remaining → List (List Pt) → Type 0 = λ r os. Drawn edges r os (place + 1) end in
    elim c.if-not-is_taken.branch [
      | then-not-is_taken+in_ok-push_outline w ↦
          subst (λ (r : Remaining). Now r outlines) (sym w.left-is)
          (subst (Now w.push_outline.new.left) (sym (ap (λ v. v.items) w.outlines-is))
          (one_drawn edges c.places.left w.push_outline.new.left c.places.outlines.items
          w.push_outline.new.outlines.items place end c.places.invariant
          w.in_ok-push_outline.ensures.added w.in_ok-push_outline.ensures.order w.in_ok-push_outline.ensures.balanced
          w.in_ok-push_outline.ensures.taken w.in_ok-push_outline.ensures.least))
      | else-not-is_taken w ↦
          subst (λ (r : Remaining). Now r outlines) (sym w.left-is)
          (subst (Now c.places.left) (sym (ap (λ v. v.items) w.outlines-is))
          (passed_by edges c.places.left c.places.outlines.items place end c.places.invariant
          (sym c.is_taken.ensures ∙ w.if-not-is_taken.false)))
    ]

pub returns : goal.returns
returns c = all_drawn c.args.edges.now c.places.left c.places.outlines.items c.places.place c.len-place-end.result
    c.places.invariant c.places-test.false
