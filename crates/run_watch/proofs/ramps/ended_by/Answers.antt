use Rattle.std.proofs.Common.{arith, sym}
use Rattle.run_watch.proofs.RampLists.{all_by, one_by, none_by}
use Rattle.run_watch.proofs.ramps.ended_by.Goals as goal

pub returns-then-past-ramps : goal.returns-then-past-ramps
returns-then-past-ramps c = all_by c.args.ramps.now c.args.t c.args.past c.requires.ended (omega arith)

pub returns-then-ends_by : goal.returns-then-ends_by
returns-then-ends_by c =
    one_by c.args.ramps.now c.args.t c.args.past c.index-ramps-past.result c.requires.ramps c.requires.time c.requires.ended (omega arith) c.index-ramps-past.is (sym c.if-ends_by.ensures)

pub returns-else-ends_by : goal.returns-else-ends_by
returns-else-ends_by c =
    none_by c.args.ramps.now c.args.t c.args.past c.index-ramps-past.result c.requires.ramps c.requires.ended (omega arith) c.index-ramps-past.is (sym c.if-ends_by.ensures)
