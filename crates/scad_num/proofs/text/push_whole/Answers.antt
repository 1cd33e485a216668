-- At most ten digits are added.
use Rattle.std.proofs.Common.{◌++◌, ap, ◌∙◌, arith, length, length-append}
use Rattle.std.specs.Fmt.{decimal}
use Rattle.scad_num.proofs.Decimals.{whole_digits}
use Rattle.scad_num.proofs.text.push_whole.Goals as goal

pub returns-clause-digits : goal.returns-clause-digits
returns-clause-digits c = c.extend_from_slice.ensures ∙ ap (λ text. c.args.out.now ++ text)
    (c.as_bytes.ensures.value ∙ c.format.ensures.text)

pub returns-clause-length : goal.returns-clause-length
returns-clause-length c =
    omega (
      arith,
      ap length (returns-clause-digits c),
      length-append c.args.out.now (decimal c.args.n),
      whole_digits c.args.n c.requires.range,
      c.requires.room,
    )
