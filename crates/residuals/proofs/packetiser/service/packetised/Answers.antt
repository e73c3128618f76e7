use Rattle.upp_limits.specs.declared.op_kind.OpKind.TheVariants.{PosMinus}
use Rattle.plain_operators.proofs.CurveCalls.{applied_seen}
use Rattle.residuals.proofs.packetiser.service.packetised.Goals as goal

pub returns-clause-answer : goal.returns-clause-answer
returns-clause-answer g c =
    applied_seen (PosMinus c.args.l) c.args.beta.now c.args.beta.now c.pos_minus.result c.intact.result
    c.intact.ensures.same c.pos_minus.ensures.value
    c.pos_minus.ensures.limits c.intact.ensures.kept
