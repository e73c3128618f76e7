use Rattle.upp_limits.specs.Long.{long_value}
use Rattle.upp_limits.proofs.LongCrosses.{end_is}
use Rattle.upp_limits.proofs.starts.cross_end.Goals as goal

pub returns : goal.returns
returns c =
    end_is c.args.u c.args.b c.args.q (long_value c.of.result) (long_value c.times.result) (long_value c.times-2.result)
    c.requires.u c.requires.b c.requires.q c.of.ensures c.times.ensures c.times-2.ensures
