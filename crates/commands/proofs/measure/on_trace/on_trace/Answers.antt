use Rattle.std.proofs.Common.{arith}
use Rattle.std.proofs.lemmas.Result.{IfOk-weaker}
use Rattle.command_replies.specs.View.{status_of}
use Rattle.outcomes.specs.Stages.{stops, goes_on}
use Rattle.command_replies.proofs.Statuses.{refused}
use Rattle.commands.specs.measure.OnMeasures.{unknown_flow}
use Rattle.commands.proofs.measure.Counting.{no_burst}
use Rattle.commands.proofs.measure.on_trace.on_trace.Goals as goal

pub returns-in-Some-clause-reply : goal.returns-in-Some-clause-reply
returns-in-Some-clause-reply g c =
    IfOk-weaker c.on_flow.result _ _
    (λ r on. goes_on c.in-Some.flow c.in-Some.ensures on) c.on_flow.ensures.reply

pub returns-in-None-clause-reply : goal.returns-in-None-clause-reply
returns-in-None-clause-reply g c =
    IfOk-weaker c.unknown_flow.result _ _
    (λ r e. stops record { unknown = c.in-None.ensures; is = e }) c.unknown_flow.ensures

-- ---- what is counted
pub returns-in-Some-clause-counts : goal.returns-in-Some-clause-counts
returns-in-Some-clause-counts g c = c.on_flow.ensures.counts

pub returns-in-None-clause-counts : goal.returns-in-None-clause-counts
returns-in-None-clause-counts g c =
    no_burst (status_of c.unknown_flow.result) _ _
    (refused c.unknown_flow.result (unknown_flow c.args.name.now) (λ k. cc) c.unknown_flow.ensures) (omega arith) (omega arith)
