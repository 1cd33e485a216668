use Rattle.text_scan.proofs.Printed.{two}
use Rattle.cli_text.proofs.hatches.push_hatch.Goals as goal

pub returns : goal.returns
returns c = two c.push_point.ensures c.push_point-2.ensures
