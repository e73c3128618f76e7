use Rattle.std.proofs.Common.{refl}
use Rattle.rational.specs.Rational.{◌+ℚ◌}
use Rattle.curve_call.specs.Bounds.{own_or}
use Rattle.plain_operators.proofs.pointwise.Leanings.{slow_span, fast_span}
use Rattle.plain_operators.proofs.pointwise.leaning.own_lines.Goals as goal

pub own_under-requires : goal.own_under-requires
own_under-requires c =
    let w = c.requires in
    let own = own_or c.args.period c.args.slow.now in
    slow_span w.0 c.args.from c.args.period own (c.args.from +ℚ own) c.args.slow.now c.args.fast.now w.1 refl refl

pub own_over-requires : goal.own_over-requires
own_over-requires c =
    let w = c.requires in
    let own = own_or c.args.period c.args.fast.now in
    fast_span w.0 c.args.from c.args.period own (c.args.from +ℚ own) c.args.slow.now c.args.fast.now w.1 refl refl

pub returns : goal.returns
returns c = record { low_rate = c.in_ok-slope.ensures; high_rate = c.in_ok-steeper.ensures; under = c.in_ok-top.ensures; over = c.in_ok-bottom.ensures }
