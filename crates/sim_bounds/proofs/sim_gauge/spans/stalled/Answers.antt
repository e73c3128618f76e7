use Rattle.std.proofs.Common.{◌≡◌, ◌+◌, ◌∙◌, sym, ap, subst, arith, drop}
use Rattle.std.proofs.lemmas.List.{drop_all}
use Rattle.rational.specs.Rational.{◌+ℚ◌}
use Rattle.rational.proofs.Laws.{antisym, add_zero}
use Rattle.rational.proofs.Linear.{with1}
use Rattle.net_model.specs.declared.trace.Stall.{Stall}
use Rattle.net_model.specs.stated_runs.FromTraces.{stalls_at}
use Rattle.sim_bounds.specs.Horizons.{stalled_for}
use Rattle.sim_bounds.specs.sim_gauge.Steps.{StallsFit}
use Rattle.sim_bounds.proofs.sim_gauge.Parts.{stalled_step, fits_step, stall_elsewhere}
use Rattle.sim_bounds.proofs.sim_gauge.spans.stalled.Goals.{then-stall-server+in-Some, else-stall-server}
use Rattle.sim_bounds.proofs.sim_gauge.spans.stalled.Goals as goal

pub loop-stall-init : goal.loop-stall-init
loop-stall-init c =
    let t = stalled_for (stalls_at c.args.server c.args.stalls.now) in
    rw (c.zero-sum.ensures) record { sum = antisym (with1 t (λ o. omega (arith, o.le, o.lt, o.same))); fits = λ h. h }

pub loop-stall-preserved : goal.loop-stall-preserved
loop-stall-preserved c =
    let xs = c.args.stalls.now in
    let s = c.args.server in
    let i = c.loop-stall.stall-index in
    let x = c.stall-item.result in
    let k = c.loop-stall.invariant in
    elim c.if-stall-server.branch [
      | then-stall-server+in-Some w ↦
          rw (w.sum-is) record {
            sum = stalled_step s xs i x c.loop-stall.sum w.in-Some.more _ c.loop-stall-test.true c.stall-item.is w.if-stall-server.true w.in-Some.ensures.value k.sum;
            fits = λ h. fits_step s xs i x c.loop-stall.sum w.in-Some.more c.loop-stall-test.true c.stall-item.is w.if-stall-server.true w.in-Some.ensures.value (k.fits h);
          }
      | else-stall-server w ↦
          let e : stalls_at s (drop i xs) ≡ stalls_at s (drop (i + 1) xs) =
          stall_elsewhere s xs i x c.loop-stall-test.true (λ q. w.if-stall-server.false (ap (λ (y : Stall). y.server) c.stall-item.is ∙ q)) in
          rw (w.sum-is) record {
            sum = ap (λ ys. c.loop-stall.sum +ℚ stalled_for ys) (sym e) ∙ k.sum;
            fits = λ h. subst (λ ys. StallsFit c.loop-stall.sum ys) e (k.fits h);
          }
    ]

pub returns-clause-value : goal.returns-clause-value
returns-clause-value c =
    let xs = c.args.stalls.now in
    let s = c.args.server in
    sym (add_zero c.loop-stall.sum) ∙ ap (λ ys. c.loop-stall.sum +ℚ stalled_for (stalls_at s ys)) (sym (drop_all c.loop-stall.stall-index xs c.loop-stall-test.false))
    ∙ c.loop-stall.invariant.sum
