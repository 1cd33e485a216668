use Rattle.std.proofs.Common.{◌≡◌, length, rules}
use Rattle.std.proofs.lemmas.Result.{on_ok_weaker, on_err_weaker}
use Rattle.text_scan.proofs.Printed.{whole_text, cut_back}
use Rattle.cli_text.proofs.writer.write_head.Goals as goal

pub returns-clause-ok : goal.returns-clause-ok
returns-clause-ok c =
    on_ok_weaker c.hand_back.result (λ held. whole_text c.behind-printer.ensures c.push_head.ensures held)
    c.hand_back.ensures.ok

pub returns-clause-err : goal.returns-clause-err
returns-clause-err c =
    let long : c.len-kept.result ≡ length c.args.out.now.items = search rules in
    on_err_weaker c.hand_back.result (λ cut. cut_back long c.behind-printer.ensures c.push_head.ensures cut)
    c.hand_back.ensures.err
