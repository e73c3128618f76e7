use Rattle.std.proofs.lemmas.Result.{IfOk-weaker}
use Rattle.outcomes.specs.Stages.{stops, goes_on}
use Rattle.command_replies.specs.View.{status_of}
use Rattle.input_texts.specs.table_text.Rows.{rows_of}
use Rattle.run_check.proofs.run_table.Recorded.{runs_read_are_recorded}
use Rattle.command_replies.proofs.run_findings.Reports.{refused}
use Rattle.commands.specs.check.Checked.{run_fault_reply}
use Rattle.commands.proofs.FileCounts.{none_on_rows}
use Rattle.commands.proofs.check.Counting.{of_run}
use Rattle.commands.proofs.check.OnFaults.{on_told}
use Rattle.commands.proofs.check.on_files.on_rows.Goals as goal

pub on_network-requires-clause-recorded : goal.on_network-requires-clause-recorded
on_network-requires-clause-recorded g c =
    runs_read_are_recorded c.args.net.now (rows_of c.args.run_bytes.now) c.in-Ok.run' c.in-Ok.ensures.ok

pub returns-in-Ok-clause-reply : goal.returns-in-Ok-clause-reply
returns-in-Ok-clause-reply g c =
    IfOk-weaker c.on_network.result _ _ (λ r on. goes_on c.in-Ok.run' c.in-Ok.ensures.ok on) c.on_network.ensures.reply

pub returns-in-Ok-clause-counts : goal.returns-in-Ok-clause-counts
returns-in-Ok-clause-counts g c =
    of_run c.args.net.now c.args.run_bytes.now c.in-Ok.run' (status_of c.on_network.result) c.args.steps.now
    c.on_network.new.steps c.requires.accepted c.in-Ok.ensures.ok c.on_network.ensures.counts

pub returns-in-Err-clause-reply : goal.returns-in-Err-clause-reply
returns-in-Err-clause-reply g c =
    IfOk-weaker c.on_run_fault.result _ _ (λ r bad. stops bad)
    (on_told c.args.net.now c.args.run_file.now c.args.run_bytes.now c.in-Err.fault c.on_run_fault.result
    c.in-Err.ensures.fault c.on_run_fault.ensures.reply c.on_run_fault.ensures.told)

pub returns-in-Err-clause-counts : goal.returns-in-Err-clause-counts
returns-in-Err-clause-counts g c =
    none_on_rows _ c.args.net.now (status_of c.on_run_fault.result) c.args.steps.now
    (refused c.on_run_fault.result (run_fault_reply c.args.run_file.now c.in-Err.fault) (λ e. cc) (λ e. cc)
    c.on_run_fault.ensures.reply)
