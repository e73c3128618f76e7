use Rattle.csv.specs.Records.{fields_of}
use Rattle.run_check.proofs.run_table.RowFacts.{end_gives}
use Rattle.run_check.proofs.run_table.run_rows.end_in.Goals as goal

pub returns-in-Some-clause-gives : goal.returns-in-Some-clause-gives
returns-in-Some-clause-gives c = end_gives c.args.net.now c.args.packet (fields_of c.args.row.now) c.text_at.result.now c.in-Some.time c.text_at.ensures c.in-Some.ensures.value
