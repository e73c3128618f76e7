use Rattle.std.proofs.Common.{arith}
use Rattle.cell_eval.proofs.LastServices.{still_serves}
use Rattle.cell_eval.proofs.recent.Recent.found.Goals as goal

pub returns-clause-found : goal.returns-clause-found
returns-clause-found g c =
    let first = c.tick.ensures in
    let second = c.tick-2.ensures in
    let third = c.tick-3.ensures in
    still_serves c.args.service.now c.args.higher.now c.args.lower c.again.result c.args.steps.now c.tick-3.new.self c.in-Some.last
    (c.is_of.ensures c.if-not-is_of.false) (omega (arith, first, second, third)) c.again.ensures
