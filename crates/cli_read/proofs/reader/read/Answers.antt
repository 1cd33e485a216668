use Rattle.cli_read.proofs.Texts.{said, whole}
use Rattle.cli_read.proofs.reader.read.Goals as goal

pub returns-clause-said : goal.returns-clause-said
returns-clause-said c = said c.args.bytes.now c.all_of.result c.all_of.ensures

pub returns-clause-whole : goal.returns-clause-whole
returns-clause-whole c = whole c.args.bytes.now c.all_of.result c.all_of.ensures
