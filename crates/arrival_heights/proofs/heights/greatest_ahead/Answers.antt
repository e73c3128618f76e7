use Rattle.std.proofs.Common.{arith, sym}
use Rattle.arrival_heights.proofs.Most.{no_height, most_none, most_take}
use Rattle.arrival_heights.proofs.heights.greatest_ahead.Goals as goal

pub loop-height-init : goal.loop-height-init
loop-height-init c = sym (most_none c.args.rate)

pub loop-height-preserved : goal.loop-height-preserved
loop-height-preserved c =
    let e = most_take c.args.rate c.args.heights.now c.loop-height.height-index no_height c.loop-height-test.true in
    omega (arith, e, c.loop-height.invariant, c.greater-most.ensures, c.ahead.ensures)
