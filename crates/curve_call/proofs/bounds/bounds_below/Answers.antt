use Rattle.std.proofs.Common.{arith}
use Rattle.rational.specs.Rational.{◌+ℚ◌}
use Rattle.curve_call.proofs.LeastNumber.{times_small}
use Rattle.curve_call.proofs.BoundedNumber.{bounds_are}
use Rattle.curve_call.proofs.bounds.bounds_below.Goals as goal

pub lead_over-lead-requires-clause-first : goal.lead_over-lead-requires-clause-first
lead_over-lead-requires-clause-first c = c.in_ok-most.ensures.first

pub lead_over-lead-requires-clause-second : goal.lead_over-lead-requires-clause-second
lead_over-lead-requires-clause-second c = c.in_ok-most.ensures.second

pub low_over-requires-clause-window : goal.low_over-requires-clause-window
low_over-requires-clause-window c = let w = c.requires.window in (w.0, w.1, c.lead_over-lead.ensures.sizes w.0 w.1)

pub least_times-requires-clause-fits : goal.least_times-requires-clause-fits
least_times-requires-clause-fits c =
    let w = c.requires.window in
    times_small w.0 (c.args.from +ℚ c.args.period) c.in_ok-most.most c.lead_over-lead.result 15 w.1.limited (omega arith) (c.in_ok-most.ensures.sizes w.0 w.1) (c.lead_over-lead.ensures.sizes w.0 w.1) c.lead_over-lead.ensures.some

pub returns : goal.returns
returns c =
    let w = c.requires.window in
    bounds_are w.0 c.args.from c.args.period c.args.slow.now c.args.fast.now c.in_ok-most.most c.lead_over-lead.result record { low = c.low_over.result; high = c.least_times.result } c.requires.slower w.1 c.in_ok-most.ensures
    c.lead_over-lead.ensures.value c.least_times.ensures c.low_over.ensures
