use Rattle.std.proofs.Common.{arith}
use Rattle.arrival_lines.proofs.Heights.{backlog_is}
use Rattle.arrival_lines.proofs.Leasts.{stay_none}
use Rattle.arrival_lines.proofs.queues.stay_at.Goals as goal

pub returns-in_err-excess : goal.returns-in_err-excess
returns-in_err-excess c = λ parts are.
    stay_none parts c.args.service c.args.longest c.excess.result c.from_residual.result c.from_residual.ensures c.in_err-excess.was (c.excess.ensures parts are)

pub returns : goal.returns
returns c = λ parts are.
    let over = c.in_ok-excess.ensures parts are in (
      record { some = omega arith; over = c.in_ok-excess.excess; excess = over; is = c.delay.ensures },
      backlog_is parts c.args.steps.now c.in_ok-excess.excess c.args.service c.args.longest c.backlog.result (omega arith) are over (c.backlog.ensures parts are),
    )
