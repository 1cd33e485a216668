use Rattle.text_scan.proofs.Printed.{three}
use Rattle.cli_text.proofs.writer.push_head.Goals as goal

pub returns : goal.returns
returns c = three c.push_head_start.ensures c.number.ensures c.push_head_end.ensures
