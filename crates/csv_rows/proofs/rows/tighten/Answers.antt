use Rattle.std.proofs.Common.{sym}
use Rattle.csv_rows.proofs.rows.tighten.Goals as goal

pub returns-then-not-some_loose : goal.returns-then-not-some_loose
returns-then-not-some_loose c = sym (c.some_loose.ensures c.if-not-some_loose.true)
