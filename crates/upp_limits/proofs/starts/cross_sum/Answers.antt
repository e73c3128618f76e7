use Rattle.std.proofs.Common.{arith, ◌<◌, ◌^◌}
use Rattle.upp_limits.specs.Long.{long_value}
use Rattle.upp_limits.proofs.LongCrosses.{sum_is}
use Rattle.upp_limits.proofs.starts.cross_sum.Goals as goal

pub returns : goal.returns
returns c =
    let n : c.args.n < 2 ^ 128 = omega arith in
    sum_is c.args.a c.args.b c.args.n c.args.p c.args.q c.args.v
    (long_value c.of.result) (long_value c.times.result) (long_value c.times-moved.result) (long_value c.of-2.result) (long_value c.times-2.result) (long_value c.plus.result) (long_value c.times-3.result)
    c.requires.a c.requires.b n c.requires.p c.requires.q c.requires.v
    c.of.ensures c.times.ensures c.times-moved.ensures c.of-2.ensures c.times-2.ensures c.plus.ensures c.times-3.ensures
