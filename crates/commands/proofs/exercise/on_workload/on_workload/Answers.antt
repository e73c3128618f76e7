use Rattle.std.proofs.Common.{subst}
use Rattle.std.proofs.lemmas.Result.{IfOk-weaker}
use Rattle.net_model.specs.Networks.{Net}
use Rattle.outcomes.specs.Stages.{goes_on}
use Rattle.command_replies.specs.View.{reply_of, status_of}
use Rattle.command_replies.specs.run_findings.CellCounts.{CountsOnCells}
use Rattle.commands.proofs.Stopped.{at_status, stopped_counts}
use Rattle.commands.proofs.exercise.Replying.{in_order, beside, stopped, is_named, is_free}
use Rattle.commands.proofs.exercise.on_workload.on_workload.Goals as goal

pub simulated-requires-clause-named : goal.simulated-requires-clause-named
simulated-requires-clause-named g c = is_named c.args.seed c.args.net.now c.args.trace.now c.requires

pub simulated-requires-clause-free : goal.simulated-requires-clause-free
simulated-requires-clause-free g c = is_free c.args.seed c.args.net.now c.args.trace.now c.requires

pub returns-in-Ok-clause-reply : goal.returns-in-Ok-clause-reply
returns-in-Ok-clause-reply g c =
    let t = c.in-Ok.ensures.table in
    IfOk-weaker c.simulated.result _ _
    (λ r told. in_order c.args.seed c.args.net.now t.order (reply_of r) c.requires.net t.ordered
    (goes_on _ t.table
    (c.keeps_curves.ensures, beside c.args.seed c.args.net.now c.args.trace.now _ (reply_of r) c.requires told)))
    c.simulated.ensures

pub returns-in-Ok-clause-counts : goal.returns-in-Ok-clause-counts
returns-in-Ok-clause-counts g c =
    let P : Net → Type 0 = λ n. CountsOnCells n (status_of c.simulated.result) c.args.steps.now c.table_of.new.steps in
    subst P c.requires.net
    (at_status c.args.net.now (status_of c.simulated.result) _ _ c.in-Ok.ensures.counts)

pub returns-in-Err-clause-reply : goal.returns-in-Err-clause-reply
returns-in-Err-clause-reply g c =
    IfOk-weaker c.in-Err.told _ _
    (λ r h. stopped c.args.seed c.args.net.now (reply_of r) c.requires.net h) c.in-Err.ensures.stopped

pub returns-in-Err-clause-counts : goal.returns-in-Err-clause-counts
returns-in-Err-clause-counts g c =
    let P : Net → Type 0 = λ n. CountsOnCells n (status_of c.in-Err.told) c.args.steps.now c.table_of.new.steps in
    subst P c.requires.net
    (stopped_counts c.args.net.now c.in-Err.told _ _ c.in-Err.ensures.counts c.in-Err.ensures.stopped)
