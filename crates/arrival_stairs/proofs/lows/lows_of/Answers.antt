use Rattle.std.proofs.Common.{◌-◌, length, arith, refl}
use Rattle.arrival_stairs.proofs.Lowest.{low_more}
use Rattle.arrival_heights.proofs.Concave.{no_line}
use Rattle.arrival_stairs.proofs.lows.lows_of.Goals as goal

pub loop-i-preserved : goal.loop-i-preserved
loop-i-preserved c =
    low_more c.args.steps.now c.args.end c.loop-i.i c.loop-i.least c.level_at.result c.min-least.result (length c.args.steps.now - 1 - c.loop-i.i) no_line
    c.loop-i.lows.items c.push.new.self.items (omega arith) refl c.level_at.ensures.is c.level_at.ensures.small c.min-least.ensures c.in_ok-push.ensures.items c.loop-i.invariant
