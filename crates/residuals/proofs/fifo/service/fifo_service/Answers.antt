use Rattle.upp_limits.specs.declared.op_kind.OpKind.TheVariants.{FifoLeft}
use Rattle.plain_operators.proofs.CurveCalls.{applied_seen}
use Rattle.residuals.proofs.fifo.service.fifo_service.Goals as goal

pub returns-clause-answer : goal.returns-clause-answer
returns-clause-answer g c =
    applied_seen (FifoLeft c.args.theta) c.args.beta.now c.args.cross.now c.fifo_left.result c.intact.result
    c.intact.ensures.same c.fifo_left.ensures.value
    c.fifo_left.ensures.limits c.intact.ensures.kept
