use Rattle.upp_limits.specs.declared.op_kind.OpKind.TheVariants.{RunSup}
use Rattle.curve_call.proofs.FirstGate.{first_gate}
use Rattle.plain_operators.proofs.running.supremum_curve.run_sup.Goals as goal

pub returns-in-None-clause-limits : goal.returns-in-None-clause-limits
returns-in-None-clause-limits g c =
    let f = c.args.f.now in first_gate RunSup f f c.least_number.ensures.kept c.least_number.ensures.kept tt (λ h. h) c.in-None.ensures.number
