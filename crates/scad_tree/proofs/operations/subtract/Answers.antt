use Rattle.std.proofs.Common.{◌≡◌, ◌∙◌, true, false, ap, ap₂, sym, subst, arith}
use Rattle.scad_tree.specs.View.{solid_of, solids}
use Rattle.scad_tree.specs.Normal.{is_nothing, is_normal, without, subtracted}
use Rattle.scad_tree.proofs.NormalForm.{subtracted_none, subtracted_empty, subtracted_full, first_and_rest, without_normal, normal_kept}
use Rattle.scad_tree.proofs.operations.subtract.Goals as goal

pub returns-then-len-lt1 : goal.returns-then-len-lt1
returns-then-len-lt1 c = c.empty.ensures ∙ sym (subtracted_none c.args.members.items
    (omega (arith, c.len.ensures, c.if-len-lt1.true, c.args.members.ok.0)))

pub returns-then-is_empty : goal.returns-then-is_empty
returns-then-is_empty c =
    let all = first_and_rest c.args.members.items c.remove.result c.remove.new.self.items
    (omega (arith, c.len.ensures, c.if-len-lt1.false, c.args.members.ok.0)) c.remove.ensures.value
    c.remove.ensures.by_index.2 in
    let empty : is_nothing (solid_of c.remove.result) ≡ true = ap (λ n. is_nothing (solid_of n))
    (sym c.into_node-first.ensures.same) ∙ sym c.is_empty.ensures ∙ c.if-is_empty.true in
    c.empty-then-is_empty.ensures ∙ sym (ap (λ ns. subtracted (solids ns)) all ∙ subtracted_empty c.remove.result
    c.remove.new.self.items empty)

pub from_normal-requires : goal.from_normal-requires
from_normal-requires c =
    let normal = ap (λ n. is_normal (solid_of n)) c.into_node-first.ensures.same ∙ c.into_node-first.ensures.normal in
    let kept = normal_kept (solid_of c.into_node-first.result) normal (sym c.is_empty.ensures ∙ c.if-is_empty.false) in
    subst (λ s. is_normal s ≡ true) (sym c.in_ok-without.ensures) (without_normal (solid_of c.into_node-first.result)
    (solids c.in_ok-rest.rest.items) kept c.in_ok-rest.ensures.kept)

pub returns : goal.returns
returns c =
    let all = first_and_rest c.args.members.items c.remove.result c.remove.new.self.items
    (omega (arith, c.len.ensures, c.if-len-lt1.false, c.args.members.ok.0)) c.remove.ensures.value
    c.remove.ensures.by_index.2 in
    let same = c.into_node-first.ensures.same in
    let full : is_nothing (solid_of c.remove.result) ≡ false = ap (λ n. is_nothing (solid_of n)) (sym same) ∙ sym
    c.is_empty.ensures ∙ c.if-is_empty.false in
    ap solid_of c.from_normal.ensures ∙ c.in_ok-without.ensures
    ∙ ap₂ (λ n ss. without (solid_of n) ss) same c.in_ok-rest.ensures.full
    ∙ sym (ap (λ ns. subtracted (solids ns)) all ∙ subtracted_full c.remove.result c.remove.new.self.items full)
