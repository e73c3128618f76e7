use Rattle.csv.specs.Records.{fields_of}
use Rattle.run_check.proofs.run_table.RowFacts.{work_gives, work_unknown}
use Rattle.run_check.proofs.run_table.run_rows.work_in.Goals as goal

pub returns-in-Some-server_named-clause-gives : goal.returns-in-Some-server_named-clause-gives
returns-in-Some-server_named-clause-gives c =
    work_gives c.args.net.now c.args.packet (fields_of c.args.row.now) c.text_at.result.now c.text_at-2.result.now c.text_at-3.result.now c.text_at-4.result.now c.text_at-5.result.now c.in-Some.which c.in-Some-time_in.start c.in-Some-time_in-2.end c.in-Some-number_in.bits
    c.in-Some-server_named.server c.text_at.ensures c.text_at-2.ensures c.text_at-3.ensures c.text_at-4.ensures c.in-Some.ensures c.in-Some-time_in.ensures.value c.in-Some-time_in-2.ensures.value c.in-Some-number_in.ensures c.text_at-5.ensures c.in-Some-server_named.ensures

pub returns-in-None-clause-wrong : goal.returns-in-None-clause-wrong
returns-in-None-clause-wrong c =
    work_unknown c.args.net.now c.args.packet (fields_of c.args.row.now) c.text_at.result.now c.text_at-2.result.now c.text_at-3.result.now c.text_at-4.result.now c.text_at-5.result.now c.in-Some.which c.in-Some-time_in.start c.in-Some-time_in-2.end c.in-Some-number_in.bits
    c.text_at.ensures c.text_at-2.ensures c.text_at-3.ensures c.text_at-4.ensures c.in-Some.ensures c.in-Some-time_in.ensures.value c.in-Some-time_in-2.ensures.value c.in-Some-number_in.ensures c.text_at-5.ensures c.in-None.ensures
