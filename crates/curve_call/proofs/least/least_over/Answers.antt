use Rattle.std.proofs.Common.{arith, pos, subst}
use Rattle.rational.specs.Rational.{◌*ℚ◌, ◌≤ℚ◌, int}
use Rattle.upp_limits.specs.Windows.{IsLeast}
use Rattle.curve_call.proofs.LeastNumber.{largest_finite, gap_answer, times_small}
use Rattle.rational.specs.Rational.{◌+ℚ◌}
use Rattle.curve_call.proofs.least.least_over.Goals as goal

pub lead_over-requires-clause-first : goal.lead_over-requires-clause-first
lead_over-requires-clause-first c = (largest_finite c.args.from c.requires.gap.0 c.args.gap c.args.slow.now c.args.fast.now c.requires.gap.1).0

pub lead_over-requires-clause-second : goal.lead_over-requires-clause-second
lead_over-requires-clause-second c = (largest_finite c.args.from c.requires.gap.0 c.args.gap c.args.slow.now c.args.fast.now c.requires.gap.1).1

pub lead_over-requires-clause-window : goal.lead_over-requires-clause-window
lead_over-requires-clause-window c = (c.requires.window.0, c.requires.window.1)

pub least_times-requires-clause-fits : goal.least_times-requires-clause-fits
least_times-requires-clause-fits c =
    let w = c.requires.window in
    times_small w.0 (c.args.from +ℚ c.args.period) c.args.gap c.lead_over.result 6 w.1.limited (omega arith) (gap_answer w.0 c.args.gap w.2) (c.lead_over.ensures.sizes w.0 w.1) c.lead_over.ensures.some

pub returns : goal.returns
returns c = subst (λ e. IsLeast (λ k. c.args.gap ≤ℚ int (pos k) *ℚ e) c.least_times.result) c.lead_over.ensures.value c.least_times.ensures
