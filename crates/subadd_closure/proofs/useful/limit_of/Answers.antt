use Rattle.subadd_closure.proofs.UsefulPairs.{limit_sum}
use Rattle.subadd_closure.proofs.useful.limit_of.Goals as goal

pub returns-in-Ok : goal.returns-in-Ok
returns-in-Ok c =
    limit_sum c.args.x.now c.args.y.now c.in-Fin.a c.in-Fin-end_of.b c.args.end c.in-Ok.limit c.end_of.result c.end_of-2.result
    c.in-Fin.is c.in-Fin-end_of.is c.in-Ok.ensures.value c.end_of.ensures c.end_of-2.ensures
