use Rattle.std.proofs.Common.{arith}
use Rattle.std.proofs.lemmas.Result.{IfOk-weaker}
use Rattle.command_replies.specs.View.{status_of}
use Rattle.command_replies.specs.Replies.{table_fault_reply}
use Rattle.outcomes.specs.Stages.{stops, goes_on}
use Rattle.command_replies.proofs.BadTraces.{on_told}
use Rattle.command_replies.proofs.Statuses.{refused}
use Rattle.commands.proofs.measure.Counting.{no_burst}
use Rattle.commands.proofs.measure.on_files.on_rows.Goals as goal

pub returns-in-Ok-clause-reply : goal.returns-in-Ok-clause-reply
returns-in-Ok-clause-reply g c =
    IfOk-weaker c.on_trace.result _ _ (λ r on. goes_on c.in-Ok.trace c.in-Ok.ensures.ok on) c.on_trace.ensures.reply

pub returns-in-Err-clause-reply : goal.returns-in-Err-clause-reply
returns-in-Err-clause-reply g c =
    IfOk-weaker c.on_table_fault.result _ _ (λ r bad. stops bad)
    (on_told c.args.net.now c.args.trace_file.now c.args.trace_bytes.now c.in-Err.fault c.on_table_fault.result
    c.in-Err.ensures.fault c.on_table_fault.ensures.reply c.on_table_fault.ensures.told)

-- ---- what is counted
pub returns-in-Ok-clause-counts : goal.returns-in-Ok-clause-counts
returns-in-Ok-clause-counts g c = c.on_trace.ensures.counts

pub returns-in-Err-clause-counts : goal.returns-in-Err-clause-counts
returns-in-Err-clause-counts g c =
    let told = c.on_table_fault in
    no_burst (status_of told.result) _ _
    (refused told.result (table_fault_reply c.args.trace_file.now c.in-Err.fault) (λ k. cc) told.ensures.reply) (omega arith) (omega arith)
