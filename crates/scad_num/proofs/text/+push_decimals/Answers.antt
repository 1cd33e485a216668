-- A decimal stands in front of those that are appended behind it.
use Rattle.std.proofs.Common.{◌≡◌, ◌+◌, ◌-◌, ◌*◌, ◌/◌, ◌%◌, ℕ, List, [], ◌∷◌, ◌++◌, ap, sym, ◌∙◌, arith, length, length-append, append_assoc, append-nil}
use Rattle.scad_num.specs.Number.{one}
use Rattle.scad_num.specs.Text.{decimals_of}
use Rattle.scad_num.proofs.Decimals.{no_places, no_parts, next_decimal}
use Rattle.scad_num.proofs.text.+push_decimals.Goals as goal
use Rattle.scad_num.proofs.text.+push_decimals.Goals.{else-places-gt0-via-then-places-gt0+else-parts-gt0, else-places-gt0-via-else-places-gt0}

pub overflow_mul-parts : goal.overflow_mul-parts
overflow_mul-parts t c = omega arith

pub overflow_cast-parts : goal.overflow_cast-parts
overflow_cast-parts t c = omega arith

pub overflow_add-parts : goal.overflow_add-parts
overflow_add-parts t c = omega arith

pub push-requires : goal.push-requires
push-requires t c = omega arith

pub overflow_sub-places : goal.overflow_sub-places
overflow_sub-places t c = omega arith

pub overflow_mul-parts-then-parts-gt0 : goal.overflow_mul-parts-then-parts-gt0
overflow_mul-parts-then-parts-gt0 t c = omega arith

pub push_decimals-requires : goal.push_decimals-requires
push_decimals-requires t c =
    let room = length-append c.args.out.now ((48 + c.args.parts * 10 / one) ∷ []) in
    (omega arith, (omega (arith, ap length c.push.ensures, room), omega arith))

pub returns-then-parts-gt0 : goal.returns-then-parts-gt0
returns-then-parts-gt0 t c =
    let behind : List ℕ = decimals_of (c.args.places - 1) (c.args.parts * 10 % one) in
    c.push_decimals.ensures ∙ ap (λ before. before ++ behind) c.push.ensures
    ∙ append_assoc c.args.out.now ((48 + c.args.parts * 10 / one) ∷ []) behind
    ∙ ap (λ decimals. c.args.out.now ++ decimals)
    (sym (next_decimal c.args.places c.args.parts c.if-places-gt0.true c.if-parts-gt0.true))

pub returns-else-places-gt0 : goal.returns-else-places-gt0
returns-else-places-gt0 t c =
    let none : decimals_of c.args.places c.args.parts ≡ [] = elim c.else-places-gt0.branch [
      | else-places-gt0-via-then-places-gt0+else-parts-gt0 w ↦ no_parts c.args.places c.args.parts w.if-parts-gt0.false
      | else-places-gt0-via-else-places-gt0 w ↦ no_places c.args.places c.args.parts w.if-places-gt0.false
    ] in
    sym (ap (λ decimals. c.args.out.now ++ decimals) none ∙ append-nil c.args.out.now)
