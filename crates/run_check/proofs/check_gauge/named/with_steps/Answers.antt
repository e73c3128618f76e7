use Rattle.std.proofs.Common.{subst}
use Rattle.upp_limits.specs.Limits.{joined}
use Rattle.upp_limits.specs.Gathered.{Gathers}
use Rattle.sim_bounds.proofs.window_numbers.Loops.{next_part, last_part}
use Rattle.run_check.specs.check_gauge.Named.{step_numbers}
use Rattle.run_check.proofs.check_gauge.Loops.{step_parts}
use Rattle.run_check.proofs.check_gauge.named.with_steps.Goals as goal

pub loop-step-preserved : goal.loop-step-preserved
loop-step-preserved c = λ n h.
    let (m, k, w) = c.loop-step.invariant n h in (
      joined m (step_numbers c.step-item.result),
      c.in-Some.ensures.value m k,
      next_part _ _ step_parts c.args.steps.now c.loop-step.step-index c.step-item.result m _ c.loop-step-test.true c.step-item.is w,
    )

pub returns-clause-value : goal.returns-clause-value
returns-clause-value c = λ n h.
    let (m, k, w) = c.loop-step.invariant n h in
    subst (Gathers c.loop-step.found) (last_part _ _ step_parts c.args.steps.now c.loop-step.step-index m _ c.loop-step-test.false w) k
