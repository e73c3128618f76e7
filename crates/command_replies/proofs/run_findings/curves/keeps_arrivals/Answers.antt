use Rattle.std.proofs.Common.{below_more}
use Rattle.std.specs.Prelude.{IsTrue}
use Rattle.net_cells.specs.Numbered.{is_live}
use Rattle.command_replies.specs.run_findings.Curves.{HasArrival}
use Rattle.command_replies.proofs.run_findings.curves.keeps_arrivals.Goals as goal

pub loop-number-preserved : goal.loop-number-preserved
loop-number-preserved c =
    below_more (λ flow. IsTrue (is_live c.args.net.now flow) → HasArrival c.args.net.now flow) c.loop-number.number
    c.loop-number.invariant c.keeps_arrival.ensures
