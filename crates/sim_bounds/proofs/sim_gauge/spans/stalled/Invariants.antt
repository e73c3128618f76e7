use Rattle.std.proofs.Common.{◌≡◌, drop}
use Rattle.std.specs.Prelude.{pos}
use Rattle.rational.specs.Rational.{int, ◌+ℚ◌}
use Rattle.net_model.specs.stated_runs.FromTraces.{stalls_at}
use Rattle.sim_bounds.specs.Horizons.{stalled_for}
use Rattle.sim_bounds.specs.sim_gauge.Steps.{StallsFit}
use Rattle.sim_bounds.proofs.sim_gauge.spans.stalled.Given as goal

abbrev pub invariant-loop-stall : goal.invariant-loop-stall
invariant-loop-stall l = record {
  sum : l.sum +ℚ stalled_for (stalls_at l.server (drop l.stall-index l.stalls)) ≡ stalled_for (stalls_at l.server l.stalls);
  fits : StallsFit (int (pos 0)) (stalls_at l.server l.stalls) → StallsFit l.sum (stalls_at l.server (drop l.stall-index l.stalls));
}
