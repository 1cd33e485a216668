use Rattle.text_scan.proofs.Printed.{three}
use Rattle.cli_text.proofs.hatches.push_hatches_line.Goals as goal

pub returns : goal.returns
returns c = three c.push_hatches_start.ensures c.number.ensures c.push_each_hatch.ensures
