use Rattle.std.proofs.Common.{length, sym, ap, ◌∙◌, arith, ◌≤◌}
use Rattle.std.proofs.lemmas.List.{drop_all}
use Rattle.rational.specs.MinMax.{max_q}
use Rattle.sim_bounds.specs.Horizons.{latest_of}
use Rattle.run_check.specs.check_gauge.Runs.{step_end}
use Rattle.run_check.proofs.check_gauge.Loops.{one_before}
use Rattle.run_check.proofs.check_gauge.times.latest.Goals as goal

pub loop-i-init : goal.loop-i-init
loop-i-init c =
    let xs = c.args.steps.now in
    let all : length xs ≤ length xs = omega arith in
    c.zero-latest.ensures ∙ ap (latest_of step_end) (sym (drop_all (length xs) xs all))

pub loop-i-preserved : goal.loop-i-preserved
loop-i-preserved c =
    let xs = c.args.steps.now in
    let x = c.index-steps-i.result in
    let i = c.loop-i.i in
    c.greater-latest.ensures ∙ ap (λ t. max_q t c.loop-i.latest) c.step_end.ensures ∙ ap (max_q (step_end x)) c.loop-i.invariant
    ∙ ap (latest_of step_end) (sym (one_before xs i x c.loop-i-test.true c.loop-i.auto.i c.index-steps-i.is))
