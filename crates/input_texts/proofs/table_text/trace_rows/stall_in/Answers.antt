use Rattle.std.proofs.Common.{sym, ◌∙◌}
use Rattle.csv.specs.Records.{fields_of}
use Rattle.input_texts.proofs.table_text.TraceFacts.{stall_gives, stall_unknown}
use Rattle.input_texts.proofs.table_text.trace_rows.stall_in.Goals as goal

pub returns-in-Some-server_named-clause-gives : goal.returns-in-Some-server_named-clause-gives
returns-in-Some-server_named-clause-gives c =
    stall_gives c.args.net.now (fields_of c.args.row.now) c.text_at.result.now c.text_at-2.result.now c.text_at-3.result.now c.in-Some.start c.in-Some-number_in.end c.in-Some-server_named.server
    c.text_at.ensures c.text_at-2.ensures c.text_at-3.ensures c.in-Some.ensures.value c.in-Some-number_in.ensures (sym c.is_less.ensures.test ∙ c.if-not-is_less.false) c.in-Some-server_named.ensures

pub returns-in-None-clause-wrong : goal.returns-in-None-clause-wrong
returns-in-None-clause-wrong c =
    stall_unknown c.args.net.now (fields_of c.args.row.now) c.text_at.result.now c.text_at-2.result.now c.text_at-3.result.now c.in-Some.start c.in-Some-number_in.end
    c.text_at.ensures c.text_at-2.ensures c.text_at-3.ensures c.in-Some.ensures.value c.in-Some-number_in.ensures (sym c.is_less.ensures.test ∙ c.if-not-is_less.false) c.in-None.ensures
