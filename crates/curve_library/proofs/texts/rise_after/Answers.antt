use Rattle.std.proofs.Common.{refl, true≢false, sym, ◌∙◌}
use Rattle.curve_library.proofs.TextLoops.{rise_on, rise_off, rise_end}
use Rattle.curve_library.proofs.texts.rise_after.Goals as goal

pub returns-then-not-is_less : goal.returns-then-not-is_less
returns-then-not-is_less c = (
  λ h. absurd (true≢false (sym h)),
  λ h. absurd (rise_off c.args.first c.loop-p.last c.args.rest.now c.loop-p.p-index c.p-item.result c.loop-p.invariant c.loop-p-test.true c.p-item.is
      (λ k. true≢false (sym (c.is_less.ensures.less.1 k) ∙ c.if-not-is_less.true)) h),
)

pub loop-p-preserved : goal.loop-p-preserved
loop-p-preserved c =
    rise_on c.args.first c.loop-p.last c.args.rest.now c.loop-p.p-index c.p-item.result c.loop-p.invariant c.loop-p-test.true c.p-item.is (c.is_less.ensures.less.0 c.if-not-is_less.false)

pub returns : goal.returns
returns c = (λ h. rise_end c.args.first c.loop-p.last c.args.rest.now c.loop-p.p-index c.loop-p.invariant c.loop-p-test.false, λ h. refl)
