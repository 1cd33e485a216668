-- An operation's cell comes first, then those of its members.
use Rattle.std.proofs.Common.{arith, ◌<◌, ◌+◌, ◌++◌, ◌∷◌, [], ℕ, true, false, not, List, length, drop, get_or, subst, sym, ap, ap₂, ◌∙◌}
use Rattle.std.proofs.lemmas.List.{drop_more}
use Rattle.std.proofs.lemmas.Result.{on_ok_weaker}
use Rattle.scad_geom.specs.declared.shape.Shape.{Shape}
use Rattle.scad_geom.specs.Shape.{has_items}
use Rattle.slice_held.specs.declared.cell.Cell.{Cell}
use Rattle.slice_held.specs.Cells.{HasPlaceUnder}
use Rattle.slice_held.specs.Layout.{blank, cells_of, cells_of_all}
use Rattle.slice_held.specs.Held.{Adds}
use Rattle.slice_held.proofs.Rows.{cells_union, cells_inter, cells_diff}
use denote.Param.Weighed.{most}
use Rattle.scad_geom.proofs.shape.Shape.TheLaws.{the_size}
use Rattle.slice_held.proofs.Sizes.{first_smaller, rest_smaller, union_smaller, inter_smaller}
use Rattle.slice_held.proofs.Adding.{IsAdding, adds_member, adds_members, adds_rest, place_under, place_after}
use Rattle.slice_held.proofs.kept_shape.Held.+add.Goals as goal

pub add-push-requires-clause-blank : goal.add-push-requires-clause-blank
add-push-requires-clause-blank t c = c.requires.blank

pub add-push-requires-clause-place : goal.add-push-requires-clause-place
add-push-requires-clause-place t c =
    subst (λ (b : Cell). HasPlaceUnder c.args.self.now.cells.items b.parent) (sym c.blank.ensures) c.requires.place

pub add-push-requires-clause-none : goal.add-push-requires-clause-none
add-push-requires-clause-none t c = ap (λ (b : Cell). b.count) c.blank.ensures

pub add-push-requires-in-Leaf-clause-blank : goal.add-push-requires-in-Leaf-clause-blank
add-push-requires-in-Leaf-clause-blank t c = c.requires.blank

pub add-push-requires-in-Leaf-clause-place : goal.add-push-requires-in-Leaf-clause-place
add-push-requires-in-Leaf-clause-place t c =
    subst (λ (b : Cell). HasPlaceUnder c.args.self.now.cells.items b.parent)
    (sym c.blank-in-Leaf.ensures) c.requires.place

pub add-push-requires-in-Leaf-clause-none : goal.add-push-requires-in-Leaf-clause-none
add-push-requires-in-Leaf-clause-none t c = ap (λ (b : Cell). b.count) c.blank-in-Leaf.ensures

pub add-push-requires-in-Union-clause-blank : goal.add-push-requires-in-Union-clause-blank
add-push-requires-in-Union-clause-blank t c = c.requires.blank

pub add-push-requires-in-Union-clause-place : goal.add-push-requires-in-Union-clause-place
add-push-requires-in-Union-clause-place t c =
    subst (λ (b : Cell). HasPlaceUnder c.args.self.now.cells.items b.parent)
    (sym c.blank-in-Union.ensures) c.requires.place

pub add-push-requires-in-Union-clause-none : goal.add-push-requires-in-Union-clause-none
add-push-requires-in-Union-clause-none t c = ap (λ (b : Cell). b.count) c.blank-in-Union.ensures

pub add-push-requires-in-Inter-clause-blank : goal.add-push-requires-in-Inter-clause-blank
add-push-requires-in-Inter-clause-blank t c = c.requires.blank

pub add-push-requires-in-Inter-clause-place : goal.add-push-requires-in-Inter-clause-place
add-push-requires-in-Inter-clause-place t c =
    subst (λ (b : Cell). HasPlaceUnder c.args.self.now.cells.items b.parent)
    (sym c.blank-in-Inter.ensures) c.requires.place

pub add-push-requires-in-Inter-clause-none : goal.add-push-requires-in-Inter-clause-none
add-push-requires-in-Inter-clause-none t c = ap (λ (b : Cell). b.count) c.blank-in-Inter.ensures

pub add-push-requires-in-Diff-clause-blank : goal.add-push-requires-in-Diff-clause-blank
add-push-requires-in-Diff-clause-blank t c = c.requires.blank

pub add-push-requires-in-Diff-clause-place : goal.add-push-requires-in-Diff-clause-place
add-push-requires-in-Diff-clause-place t c =
    subst (λ (b : Cell). HasPlaceUnder c.args.self.now.cells.items b.parent)
    (sym c.blank-in-Diff.ensures) c.requires.place

pub add-push-requires-in-Diff-clause-none : goal.add-push-requires-in-Diff-clause-none
add-push-requires-in-Diff-clause-none t c = ap (λ (b : Cell). b.count) c.blank-in-Diff.ensures

pub add-add_all-requires : goal.add-add_all-requires
add-add_all-requires t c =
    let ok = c.in_ok-number-in-Union in
    let place = place_under c.blank-in-Union.result ok.number c.args.self.now c.push-in-Union.new.self ok.ensures.adds
    (ap (λ (c : Cell). c.leaf) c.blank-in-Union.ensures) ok.ensures.number in
    let lower : most the_size c.deref.result.now < the_size c.args.shape.now =
    subst (λ (xs : List Shape). most the_size xs < the_size c.args.shape.now) (sym c.deref.ensures.value)
    (subst (λ (s : Shape). most the_size c.in-Union.members.items < the_size s) (sym c.in-Union.is)
    (union_smaller c.in-Union.members)) in
    (omega (arith, c.decreases, lower), (ok.ensures.adds.blank, place))

pub add-add_all-requires-in-Inter : goal.add-add_all-requires-in-Inter
add-add_all-requires-in-Inter t c =
    let ok = c.in_ok-number-in-Inter in
    let place = place_under c.blank-in-Inter.result ok.number c.args.self.now c.push-in-Inter.new.self ok.ensures.adds
    (ap (λ (c : Cell). c.leaf) c.blank-in-Inter.ensures) ok.ensures.number in
    let lower : most the_size c.deref-in-Inter-2.result.now < the_size c.args.shape.now =
    subst (λ (xs : List Shape). most the_size xs < the_size c.args.shape.now) (sym c.deref-in-Inter-2.ensures.value)
    (subst (λ (s : Shape). most the_size c.in-Inter.members.items < the_size s) (sym c.in-Inter.is)
    (inter_smaller c.in-Inter.members)) in
    (omega (arith, c.decreases, lower), (ok.ensures.adds.blank, place))

pub add-add-requires : goal.add-add-requires
add-add-requires t c =
    let ok = c.in_ok-number-in-Diff in
    let place = place_under c.blank-in-Diff.result ok.number c.args.self.now c.push-in-Diff.new.self ok.ensures.adds
    (ap (λ (c : Cell). c.leaf) c.blank-in-Diff.ensures) ok.ensures.number in
    let lower : the_size c.deref-in-Diff.result.now < the_size c.args.shape.now =
    subst (λ (s : Shape). the_size s < the_size c.args.shape.now) (sym c.deref-in-Diff.ensures)
    (subst (λ (s : Shape). the_size c.in-Diff.first.value < the_size s) (sym c.in-Diff.is)
    (first_smaller c.in-Diff.first c.in-Diff.rest)) in
    (omega (arith, c.decreases, lower), (ok.ensures.adds.blank, place))

pub add-add_all-requires-in-Diff : goal.add-add_all-requires-in-Diff
add-add_all-requires-in-Diff t c =
    let n = c.in_ok-number-in-Diff.number in
    let g = c.push-in-Diff.new.self in
    let under = place_under c.blank-in-Diff.result n c.args.self.now g c.in_ok-number-in-Diff.ensures.adds
    (ap (λ (c : Cell). c.leaf) c.blank-in-Diff.ensures) c.in_ok-number-in-Diff.ensures.number in
    let place = place_after (cells_of n false (length g.cells.items) c.deref-in-Diff.result.now) n g c.add.new.self
    c.in_ok-add-in-Diff.ensures under in
    let lower : most the_size c.deref-in-Diff-2.result.now < the_size c.args.shape.now =
    subst (λ (xs : List Shape). most the_size xs < the_size c.args.shape.now) (sym c.deref-in-Diff-2.ensures.value)
    (subst (λ (s : Shape). most the_size c.in-Diff.rest.items < the_size s) (sym c.in-Diff.is)
    (rest_smaller c.in-Diff.first c.in-Diff.rest)) in
    (omega (arith, c.decreases, lower), (c.in_ok-add-in-Diff.ensures.blank, place))

pub add-returns-in_ok-push-in-Empty : goal.add-returns-in_ok-push-in-Empty
add-returns-in_ok-push-in-Empty t c =
    let h = c.args.self.now in
    let is = ap (λ (a : Cell). a ∷ []) c.blank.ensures
    ∙ ap (cells_of c.args.parent c.args.raises (length h.cells.items)) (sym c.in-Empty.is) in
    subst (λ (cs : List Cell). Adds cs h c.push.new.self) is c.in_ok-push-in-Empty.ensures.adds

pub add-returns-in_ok-push-in-Leaf : goal.add-returns-in_ok-push-in-Leaf
add-returns-in_ok-push-in-Leaf t c =
    let h = c.args.self.now in
    let is = ap (λ (a : Cell). a ∷ []) c.blank-in-Leaf.ensures
    ∙ ap (cells_of c.args.parent c.args.raises (length h.cells.items)) (sym c.in-Leaf.is) in
    subst (λ (cs : List Cell). Adds cs h c.push-in-Leaf.new.self) is c.in_ok-push-in-Leaf.ensures.adds

pub add-returns-in_ok-number-in-Union : goal.add-returns-in_ok-number-in-Union
add-returns-in_ok-number-in-Union t c =
    let h = c.args.self.now in
    let k = c.add_all.new.self in
    let at : ℕ = length h.cells.items in
    let ok = c.in_ok-number-in-Union in
    let is = ap₂ (λ (a : Cell) (ms : List Shape). a ∷ cells_of_all (at + 1) true
    (at + 1) ms) c.blank-in-Union.ensures c.deref.ensures.value
    ∙ sym (cells_union c.args.parent c.args.raises at c.in-Union.members)
    ∙ ap (cells_of c.args.parent c.args.raises at) (sym c.in-Union.is) in
    on_ok_weaker c.add_all.result
    (λ a. subst (λ (cs : List Cell). Adds cs h k) is
    (adds_members c.blank-in-Union.result ok.number true c.deref.result.now h c.push-in-Union.new.self k
    ok.ensures.adds ok.ensures.number a))
    c.add_all.ensures

pub add-returns-in_ok-number-in-Inter : goal.add-returns-in_ok-number-in-Inter
add-returns-in_ok-number-in-Inter t c =
    let h = c.args.self.now in
    let k = c.add_all-in-Inter.new.self in
    let at : ℕ = length h.cells.items in
    let ok = c.in_ok-number-in-Inter in
    let first = c.blank-in-Inter.ensures
    ∙ ap (λ b. blank c.args.parent c.args.raises b 0) (c.has_none.ensures ∙ ap (λ (ms : List Shape). not
    (has_items ms)) c.deref-in-Inter.ensures.value) in
    let is = ap₂ (λ (a : Cell) (ms : List Shape). a ∷ cells_of_all (at + 1) false
    (at + 1) ms) first c.deref-in-Inter-2.ensures.value
    ∙ sym (cells_inter c.args.parent c.args.raises at c.in-Inter.members)
    ∙ ap (cells_of c.args.parent c.args.raises at) (sym c.in-Inter.is) in
    on_ok_weaker c.add_all-in-Inter.result
    (λ a. subst (λ (cs : List Cell). Adds cs h k) is
    (adds_members c.blank-in-Inter.result ok.number false c.deref-in-Inter-2.result.now h c.push-in-Inter.new.self k
    ok.ensures.adds ok.ensures.number a))
    c.add_all-in-Inter.ensures

pub add-returns-in_ok-add-in-Diff : goal.add-returns-in_ok-add-in-Diff
add-returns-in_ok-add-in-Diff t c =
    let h = c.args.self.now in
    let k = c.add_all-in-Diff.new.self in
    let at : ℕ = length h.cells.items in
    let ok = c.in_ok-number-in-Diff in
    let first = c.deref-in-Diff.result.now in
    let rest = c.deref-in-Diff-2.result.now in
    let is = ap₂ (λ (a : Cell) (f : Shape). a ∷ (cells_of (at + 1) false (at + 1) f
    ++ cells_of_all (at + 1) true (at + 1 + length (cells_of (at + 1) false
    (at + 1) f)) rest)) c.blank-in-Diff.ensures c.deref-in-Diff.ensures
    ∙ ap (λ (ms : List Shape). blank c.args.parent c.args.raises false 0 ∷ (cells_of (at + 1) false
    (at + 1) c.in-Diff.first.value
    ++ cells_of_all (at + 1) true (at + 1 + length (cells_of (at + 1) false
    (at + 1) c.in-Diff.first.value)) ms)) c.deref-in-Diff-2.ensures.value
    ∙ sym (cells_diff c.args.parent c.args.raises at c.in-Diff.first c.in-Diff.rest)
    ∙ ap (cells_of c.args.parent c.args.raises at) (sym c.in-Diff.is) in
    on_ok_weaker c.add_all-in-Diff.result
    (λ a. subst (λ (cs : List Cell). Adds cs h k) is
    (adds_rest c.blank-in-Diff.result ok.number first rest h c.push-in-Diff.new.self c.add.new.self k ok.ensures.adds
    ok.ensures.number
    c.in_ok-add-in-Diff.ensures a))
    c.add_all-in-Diff.ensures

pub add_all-members-preserved : goal.add_all-members-preserved
add_all-members-preserved t c =
    let h = c.args.self.now in
    let g = c.members.self in
    let p = c.args.parent in
    let r = c.args.raises in
    let ms : List Shape = c.args.members.now in
    let i : ℕ = c.members.member-index in
    let s : Shape = c.member-item.result in
    let step = drop_more ms i s c.members-test.true in
    adds_member p r ms (drop (i + 1) ms) (get_or ms i s) h g c.add.new.self
    (subst (λ (rest : List Shape). IsAdding p r ms rest h g) step c.members.invariant)
    (subst (λ (s : Shape). Adds (cells_of p r (length g.cells.items) s) g c.add.new.self) c.member-item.is
    c.in_ok-add.ensures)
