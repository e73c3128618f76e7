use Rattle.std.proofs.Common.{subst}
use Rattle.upp_limits.specs.Limits.{joined}
use Rattle.upp_limits.specs.Gathered.{Gathers}
use Rattle.std.specs.Prelude.{[], ◌∷◌}
use Rattle.net_model.specs.Views.{flows_of}
use Rattle.sim_bounds.specs.Gauge.{numbers_of_curves, arrivals_of}
use Rattle.sim_bounds.proofs.window_numbers.Loops.{next_part, last_part, held_part, arrival_parts}
use Rattle.sim_bounds.proofs.window_numbers.curves.with_arrivals.Goals as goal

pub loop-flow-preserved : goal.loop-flow-preserved
loop-flow-preserved c = λ n h.
    let (m, k, w) = c.loop-flow.invariant n h in (
      joined m (numbers_of_curves c.args.end (arrivals_of (flows_of (c.flow-item.result ∷ [])))),
      c.in-Some.ensures.value m k,
      next_part _ _ (arrival_parts c.args.end) c.args.flows.now c.loop-flow.flow-index c.flow-item.result m _ c.loop-flow-test.true c.flow-item.is w,
    )

pub returns-clause-value : goal.returns-clause-value
returns-clause-value c = λ n h.
    let (m, k, w) = c.loop-flow.invariant n h in
    subst (Gathers c.loop-flow.found) (last_part _ _ (arrival_parts c.args.end) c.args.flows.now c.loop-flow.flow-index m _ c.loop-flow-test.false w) k

pub returns-in-None-clause-fits : goal.returns-in-None-clause-fits
returns-in-None-clause-fits c = λ z h.
    c.in-None.ensures.fits z (held_part _ _ (arrival_parts c.args.end) z c.args.end c.args.flows.now c.loop-flow.flow-index c.flow-item.result c.loop-flow-test.true c.flow-item.is h)
