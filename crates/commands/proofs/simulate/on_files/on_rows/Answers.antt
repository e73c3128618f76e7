use Rattle.std.proofs.lemmas.Result.{IfOk-weaker}
use Rattle.command_replies.proofs.BadTraces.{on_told}
use Rattle.outcomes.specs.Stages.{stops, goes_on}
use Rattle.command_replies.specs.View.{status_of}
use Rattle.input_texts.specs.table_text.Rows.{rows_of}
use Rattle.command_replies.specs.Replies.{table_fault_reply}
use Rattle.command_replies.proofs.run_findings.Reports.{refused}
use Rattle.commands.proofs.FileCounts.{none_on_rows}
use Rattle.commands.proofs.simulate.Counting.{of_trace}
use Rattle.commands.proofs.simulate.Named.{named}
use Rattle.commands.proofs.simulate.on_files.on_rows.Goals as goal

pub on_network-requires-clause-named : goal.on_network-requires-clause-named
on_network-requires-clause-named g c =
    named c.args.net.now (rows_of c.args.trace_bytes.now) c.in-Ok.trace c.in-Ok.ensures.ok

pub returns-in-Ok-clause-reply : goal.returns-in-Ok-clause-reply
returns-in-Ok-clause-reply g c =
    IfOk-weaker c.on_network.result _ _
    (λ r on. goes_on c.in-Ok.trace record { reads = c.in-Ok.ensures.ok; keeps = c.packets-kept.ensures.kept } on)
    c.on_network.ensures.reply

pub returns-in-Ok-clause-counts : goal.returns-in-Ok-clause-counts
returns-in-Ok-clause-counts g c =
    of_trace c.args.net.now c.args.trace_bytes.now c.in-Ok.trace (status_of c.on_network.result) c.args.steps.now
    c.on_network.new.steps c.requires.accepted c.in-Ok.ensures.ok c.on_network.ensures.counts

pub returns-in-Err-clause-reply : goal.returns-in-Err-clause-reply
returns-in-Err-clause-reply g c =
    IfOk-weaker c.on_table_fault.result _ _ (λ r bad. stops bad)
    (on_told c.args.net.now c.args.trace_file.now c.args.trace_bytes.now c.in-Err.fault c.on_table_fault.result
    c.in-Err.ensures.fault c.on_table_fault.ensures.reply c.on_table_fault.ensures.told)

pub returns-in-Err-clause-counts : goal.returns-in-Err-clause-counts
returns-in-Err-clause-counts g c =
    none_on_rows _ c.args.net.now (status_of c.on_table_fault.result) c.args.steps.now
    (refused c.on_table_fault.result (table_fault_reply c.args.trace_file.now c.in-Err.fault) (λ e. cc) (λ e. cc)
    c.on_table_fault.ensures.reply)
