use Rattle.std.proofs.Common.{ap, ◌∙◌}
use Rattle.rational.specs.Rational.{◌+ℚ◌}
use Rattle.curve_call.proofs.OwnPeriods.{named_fits, named_windows}
use Rattle.curve_call.proofs.bounds.own_end.Goals as goal

pub sum-requires : goal.sum-requires
sum-requires c = let w = c.requires in named_fits w.0 c.args.from c.args.period c.own_period.result c.args.c.now w.1 c.own_period.ensures

pub returns : goal.returns
returns c = record {
  end = c.sum.ensures ∙ ap (λ x. c.args.from +ℚ x) c.own_period.ensures;
  windows = λ z zero L is. named_windows z c.args.from c.args.period c.own_period.result c.sum.result c.args.c.now zero L c.own_period.ensures c.sum.ensures is;
}
