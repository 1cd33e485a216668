use Rattle.std.proofs.Common.{◌≡◌, ◌≢◌, ◌∷◌, true, ℤ, pos, negsuc, ◌+ℤ◌, ◌<ℤ◌, Some, ap, ◌∙◌, arith}
use Rattle.std.proofs.lemmas.Int.{ints}
use Rattle.scad_num.specs.Number.{most}
use Rattle.scad_value.specs.Datum.{number}
use Rattle.scad_operations.specs.Runs.{is_past, numbers_left}
use Rattle.scad_operations.proofs.RunsLeft.{left-last, left-next, low-past, high-past}
use Rattle.scad_operations.proofs.sequence.after.Goals as goal
use Rattle.scad_operations.proofs.sequence.after.Goals.{then-next-via-then-next, then-next-via-else-next+then-next-gt-MOST}

-- past the numbers of the language a number is past the end
pub returns-then-next : goal.returns-then-next
returns-then-next c =
    let n : ℤ = c.args.n in
    let s : ℤ = c.args.step in
    let b : ℤ = c.args.end in
    let some : s ≢ pos 0 = λ e. c.if-millionths-eq0.false (omega (arith, ints)) in
    let past : is_past (n +ℤ s) s b ≡ true =
    elim c.then-next.branch [
      | then-next-via-then-next w ↦
          (let low : (n +ℤ s) <ℤ negsuc 999999999999999 = omega (arith, ints) in
          low-past n s b c.requires c.millionths-2.ensures.in_range c.millionths-last.ensures.in_range low)
      | then-next-via-else-next+then-next-gt-MOST w ↦
          (let high : pos most <ℤ (n +ℤ s) = omega (arith, ints) in
          high-past n s b c.requires c.millionths-2.ensures.in_range c.millionths-last.ensures.in_range high)
    ] in
    left-last n s b c.requires past some

pub returns : goal.returns
returns c =
    let n : ℤ = c.args.n in
    let s : ℤ = c.args.step in
    let k : ℤ = c.within.result in
    let some : s ≢ pos 0 = λ e. c.if-millionths-eq0.false (omega (arith, ints)) in
    let is : n +ℤ s ≡ k = omega (arith, ints) in
    left-next n s c.args.end c.requires some ∙ ap (λ (m : ℤ). number n ∷ numbers_left (Some m) s c.args.end) is
