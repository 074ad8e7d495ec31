use Rattle.std.proofs.Common.{◌+◌, length}
use Rattle.cert_checker.proofs.table_lines.take_row.Goals as goal

pub returns-in-New-clause-weighed : goal.returns-in-New-clause-weighed
returns-in-New-clause-weighed c = c.in_ok-add_row.ensures.weighed (length c.args.evidence.now.values.items + 1)
