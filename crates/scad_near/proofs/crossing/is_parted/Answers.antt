-- Five tests one after the other are their conjunction.
use Rattle.std.proofs.Common.{◌≡◌, Bool, true, false, ℤ, pos, to_z, of_z, refl, sym, ap, ◌∙◌}
use Rattle.std.specs.Prelude.{◌&&◌, int_lt, int_le}
use Rattle.std.proofs.lemmas.Int.{to_z-of_z}
use Rattle.scad_near.specs.Tests.{is_parted}
use Rattle.scad_near.proofs.crossing.is_parted.Goals.{Joined-to-from, Joined-to-le0, Joined-start-le0}
use Rattle.scad_near.proofs.crossing.is_parted.Goals.{then-to-from, else-to-from, then-to-le0, else-to-le0}
use Rattle.scad_near.proofs.crossing.is_parted.Goals.{then-start-le0, else-start-le0}
use Rattle.scad_near.proofs.crossing.is_parted.Goals as goal
use mir.Syntax.{w64}

if_true : {v p q : Bool} → p ≡ true → v ≡ q → v ≡ (p && q)
if_true {q = q} holds is = is ∙ sym (ap (λ p. p && q) holds)

if_false : {v p : Bool} (q : Bool) → p ≡ false → v ≡ p → v ≡ (p && q)
if_false q fails is = is ∙ fails ∙ sym (ap (λ p. p && q) fails)

-- a number as the code has it
abbrev kept : ℤ → ℤ
kept z = to_z w64 (of_z w64 z)

first : (c : Joined-to-from)
    → c.if-to-from.value ≡ (int_lt (kept c.args.to) (kept c.args.from) && int_le (kept c.args.to) (pos 0))
first c = elim c.if-to-from.branch [
  | then-to-from w ↦ if_true w.if-to-from.true w.value-is
  | else-to-from w ↦ if_false _ w.if-to-from.false w.value-is
]

second : (c : Joined-to-le0) → c.if-to-le0.value ≡ (c.if-to-from.value && int_le (kept c.args.start) (pos 0))
second c = elim c.if-to-le0.branch [
  | then-to-le0 w ↦ if_true w.if-to-le0.true w.value-is
  | else-to-le0 w ↦ if_false _ w.if-to-le0.false w.value-is
]

third : (c : Joined-start-le0) → c.if-start-le0.value ≡ (c.if-to-le0.value && int_le (pos 0) (kept c.args.from))
third c = elim c.if-start-le0.branch [
  | then-start-le0 w ↦ if_true w.if-start-le0.true w.value-is
  | else-start-le0 w ↦ if_false _ w.if-start-le0.false w.value-is
]

nested : (p q r s t : Bool) → ((((p && q) && r) && s) && t) ≡ (p && (q && (r && (s && t))))
nested false q r s t = refl
nested true false r s t = refl
nested true true false s t = refl
nested true true true s t = refl

in_parts : (to start from end : ℤ)
    → ((((int_lt to from && int_le to (pos 0)) && int_le start (pos 0)) && int_le (pos 0) from) && int_le (pos 0) end)
    ≡ is_parted to start from end
unfolding is_parted
in_parts to start from end =
    nested (int_lt to from) (int_le to (pos 0)) (int_le start (pos 0)) (int_le (pos 0) from) (int_le (pos 0) end)

together : (c : Joined-start-le0)
    → (c.if-start-le0.value && int_le (pos 0) (kept c.args.end))
    ≡ is_parted c.args.to c.args.start c.args.from c.args.end
together c =
    let before = second c.before ∙ ap (λ p. p && int_le (kept c.args.start) (pos 0)) (first c.before.before) in
    let all = third c ∙ ap (λ p. p && int_le (pos 0) (kept c.args.from)) before in
    ap (λ p. p && int_le (pos 0) (kept c.args.end)) all
    ∙ in_parts (kept c.args.to) (kept c.args.start) (kept c.args.from) (kept c.args.end)
    ∙ ap (λ z. is_parted z (kept c.args.start) (kept c.args.from) (kept c.args.end))
    (to_z-of_z w64 c.args.to c.ranges.to)
    ∙ ap (λ z. is_parted c.args.to z (kept c.args.from) (kept c.args.end)) (to_z-of_z w64 c.args.start c.ranges.start)
    ∙ ap (λ z. is_parted c.args.to c.args.start z (kept c.args.end)) (to_z-of_z w64 c.args.from c.ranges.from)
    ∙ ap (is_parted c.args.to c.args.start c.args.from) (to_z-of_z w64 c.args.end c.ranges.end)

pub returns-then-from-ge0 : goal.returns-then-from-ge0
returns-then-from-ge0 c = if_true c.if-from-ge0.true refl ∙ together c.before

pub returns-else-from-ge0 : goal.returns-else-from-ge0
returns-else-from-ge0 c = if_false (int_le (pos 0) (kept c.args.end)) c.if-from-ge0.false refl ∙ together c.before
