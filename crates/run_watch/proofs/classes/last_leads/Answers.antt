use Rattle.std.proofs.Common.{◌-◌, ◌<◌, length, arith}
use Rattle.run_watch.proofs.ClassTimes.{led_by}
use Rattle.run_watch.proofs.classes.last_leads.Goals as goal

pub returns : goal.returns
returns c = λ h.
    let ls = c.args.found.now in
    let inside : length ls - 1 < length ls = omega (arith, c.if-count-eq0.false) in
    led_by c.args.side c.args.end c.args.period ls (length ls - 1) c.index-found-count.result c.args.t inside c.index-found-count.is (c.leads.ensures h)
