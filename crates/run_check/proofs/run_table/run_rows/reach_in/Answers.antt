use Rattle.csv.specs.Records.{fields_of}
use Rattle.run_check.proofs.run_table.RowFacts.{reach_gives, reach_unknown}
use Rattle.run_check.proofs.run_table.run_rows.reach_in.Goals as goal

pub returns-in-Some-server_named-clause-gives : goal.returns-in-Some-server_named-clause-gives
returns-in-Some-server_named-clause-gives c =
    reach_gives c.args.net.now c.args.packet (fields_of c.args.row.now) c.text_at.result.now c.text_at-2.result.now c.text_at-3.result.now c.in-Some.time c.in-Some-index_in.which
    c.in-Some-server_named.server c.text_at.ensures c.text_at-2.ensures c.in-Some.ensures.value c.in-Some-index_in.ensures c.text_at-3.ensures c.in-Some-server_named.ensures

pub returns-in-None-clause-wrong : goal.returns-in-None-clause-wrong
returns-in-None-clause-wrong c =
    reach_unknown c.args.net.now c.args.packet (fields_of c.args.row.now) c.text_at.result.now c.text_at-2.result.now c.text_at-3.result.now c.in-Some.time c.in-Some-index_in.which
    c.text_at.ensures c.text_at-2.ensures c.in-Some.ensures.value c.in-Some-index_in.ensures c.text_at-3.ensures c.in-None.ensures
