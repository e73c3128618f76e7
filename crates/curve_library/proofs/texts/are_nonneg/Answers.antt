use Rattle.std.proofs.Common.{refl, true≢false, sym, ◌∙◌}
use Rattle.curve_library.specs.Listed.{IsNonnegText}
use Rattle.curve_library.proofs.TextLoops.{all_on, all_off, all_end}
use Rattle.curve_library.proofs.texts.are_nonneg.Goals as goal

pub returns-then-not-is_nonneg_text : goal.returns-then-not-is_nonneg_text
returns-then-not-is_nonneg_text c = (
  λ h. absurd (true≢false (sym h)),
  λ h. absurd (all_off IsNonnegText c.args.pieces.now c.loop-p.p-index c.p-item.result c.loop-p.invariant c.loop-p-test.true c.p-item.is
      (λ k. true≢false (sym (c.is_nonneg_text.ensures.1 k) ∙ c.if-not-is_nonneg_text.true)) h),
)

pub loop-p-preserved : goal.loop-p-preserved
loop-p-preserved c =
    all_on IsNonnegText c.args.pieces.now c.loop-p.p-index c.p-item.result c.loop-p.invariant c.loop-p-test.true c.p-item.is (c.is_nonneg_text.ensures.0 c.if-not-is_nonneg_text.false)

pub returns : goal.returns
returns c = (λ h. all_end IsNonnegText c.args.pieces.now c.loop-p.p-index c.loop-p.invariant c.loop-p-test.false, λ h. refl)
