use Rattle.std.proofs.Common.{arith}
use Rattle.rational.specs.Rational.{◌+ℚ◌}
use Rattle.curve_call.proofs.LeastNumber.{compared_window, gap_answer, times_small}
use Rattle.curve_call.proofs.BoundedNumber.{low_is}
use Rattle.curve_call.proofs.bounds.low_over.Goals as goal

pub gap_at-requires : goal.gap_at-requires
gap_at-requires c =
    let w = c.requires.window in
    let (V, W, T) = compared_window w.0 c.args.from c.args.period c.args.slow.now c.args.fast.now w.1.first.curve w.1.second.curve w.1 in
    (w.0, c.args.from +ℚ c.args.period, V, W, T)

pub least_times-requires-clause-fits : goal.least_times-requires-clause-fits
least_times-requires-clause-fits c =
    let w = c.requires.window in
    let (V, W, T) = compared_window w.0 c.args.from c.args.period c.args.slow.now c.args.fast.now w.1.first.curve w.1.second.curve w.1 in
    times_small w.0 (c.args.from +ℚ c.args.period) c.in-Is.gap c.args.lead 6 w.1.limited (omega arith)
    (gap_answer w.0 c.in-Is.gap (c.in-Is.ensures.sizes w.0 (c.args.from +ℚ c.args.period) V W T)) w.2 c.requires.some

pub returns-in-Is : goal.returns-in-Is
returns-in-Is c = λ k enough.
    let w = c.requires.window in
    low_is w.0 c.args.from c.args.period c.args.slow.now c.args.fast.now c.in-Is.gap c.args.lead c.least_times.result w.1 c.in-Is.ensures.gap c.requires.lead c.least_times.ensures k enough

pub returns-in_default : goal.returns-in_default
returns-in_default c = λ k enough. omega arith
