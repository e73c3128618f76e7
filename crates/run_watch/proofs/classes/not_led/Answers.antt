use Rattle.run_watch.proofs.ClassTimes.{none_led, one_led, all_led}
use Rattle.run_watch.proofs.classes.not_led.Goals as goal

pub loop-t-init : goal.loop-t-init
loop-t-init c = none_led c.args.side c.args.end c.args.period c.args.times.now c.new-found.result.items c.new-found.ensures.items

pub loop-t-preserved : goal.loop-t-preserved
loop-t-preserved c =
    one_led c.args.side c.args.end c.args.period c.args.times.now c.loop-t.found.items c.push_not_led.new.found.items c.loop-t.t-index c.t-item.result c.loop-t-test.true c.t-item.is c.in_ok-push_not_led.ensures c.loop-t.invariant

pub returns : goal.returns
returns c = all_led c.args.side c.args.end c.args.period c.args.times.now c.loop-t.found.items c.loop-t.t-index c.loop-t-test.false c.loop-t.invariant
