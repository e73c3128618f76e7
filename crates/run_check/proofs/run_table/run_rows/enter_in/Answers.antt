use Rattle.csv.specs.Records.{fields_of}
use Rattle.run_check.proofs.run_table.RowFacts.{enter_gives, enter_unknown}
use Rattle.run_check.proofs.run_table.run_rows.enter_in.Goals as goal

pub returns-in-Some-flow_named-clause-gives : goal.returns-in-Some-flow_named-clause-gives
returns-in-Some-flow_named-clause-gives c =
    enter_gives c.args.net.now c.args.packet (fields_of c.args.row.now) c.text_at.result.now c.text_at-2.result.now c.text_at-3.result.now c.in-Some.time c.in-Some-bits_in.bits
    c.in-Some-flow_named.flow c.text_at.ensures c.text_at-2.ensures c.in-Some.ensures.value c.in-Some-bits_in.ensures.value c.text_at-3.ensures c.in-Some-flow_named.ensures

pub returns-in-None-clause-wrong : goal.returns-in-None-clause-wrong
returns-in-None-clause-wrong c =
    enter_unknown c.args.net.now c.args.packet (fields_of c.args.row.now) c.text_at.result.now c.text_at-2.result.now c.text_at-3.result.now c.in-Some.time c.in-Some-bits_in.bits
    c.text_at.ensures c.text_at-2.ensures c.in-Some.ensures.value c.in-Some-bits_in.ensures.value c.text_at-3.ensures c.in-None.ensures
