use Rattle.std.proofs.Common.{arith}
use Rattle.curve_deviation.proofs.PeriodsFound.{narrow_with}
use Rattle.curve_deviation.proofs.HorizontalCall.{ready, deviation_is}
use Rattle.curve_deviation.proofs.horizontals.deviation_in.Goals as goal

pub last_time-end-requires-clause-narrow : goal.last_time-end-requires-clause-narrow
last_time-end-requires-clause-narrow c =
    let n = c.args.periods.now in
    narrow_with c.args.f.now c.args.g.now n.first 0 n.first n.second c.keeps.ensures c.keeps-2.ensures (omega arith) (omega arith) c.requires.frame.gauge

pub last_time-end-requires-clause-until : goal.last_time-end-requires-clause-until
last_time-end-requires-clause-until c = c.requires.found.until

pub longest_lag-requires : goal.longest_lag-requires
longest_lag-requires c =
    let R = ready c.args.f.now c.args.g.now c.args.periods.now c.args.frame.now c.last_time-end.result c.requires.both c.requires.found c.requires.frame c.last_time-end.ensures in
    (R.first, (R.second, ((c.requires.both.first_rises, c.requires.both.second_rises), (R.time, (R.at, R.low, R.before, R.reached)))))

pub returns : goal.returns
returns c =
    deviation_is c.args.f.now c.args.g.now c.args.periods.now c.args.frame.now c.last_time-end.result c.longest_lag.result c.requires.both c.requires.known c.requires.found c.requires.frame c.last_time-end.ensures c.longest_lag.ensures
