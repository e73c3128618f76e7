use Rattle.std.proofs.Common.{refl, true≢false, sym, subst, ◌∙◌}
use Rattle.rational.specs.Rational.{◌+ℚ◌, ◌<ℚ◌}
use Rattle.rational.proofs.Laws.{one_mul}
use Rattle.curve_library.specs.declared.texts.PieceText.{PieceText}
use Rattle.curve_library.proofs.TextLoops.{all_on, all_off, all_end}
use Rattle.curve_library.proofs.texts.are_before.Goals as goal

pub returns-then-not-is_after : goal.returns-then-not-is_after
returns-then-not-is_after c =
    let end = c.args.rank +ℚ c.args.period in (
      λ h. absurd (true≢false (sym h)),
      λ h. absurd (all_off (λ (p : PieceText). p.x <ℚ end) c.args.pieces.now c.loop-p.p-index c.p-item.result c.loop-p.invariant c.loop-p-test.true c.p-item.is
          (λ k. true≢false (sym (c.is_after.ensures.1 (subst (λ d. c.p-item.result.x <ℚ c.args.rank +ℚ d) (sym (one_mul c.args.period)) k)) ∙ c.if-not-is_after.true)) h),
    )

pub loop-p-preserved : goal.loop-p-preserved
loop-p-preserved c =
    let end = c.args.rank +ℚ c.args.period in
    all_on (λ (p : PieceText). p.x <ℚ end) c.args.pieces.now c.loop-p.p-index c.p-item.result c.loop-p.invariant c.loop-p-test.true c.p-item.is
    (subst (λ d. c.p-item.result.x <ℚ c.args.rank +ℚ d) (one_mul c.args.period) (c.is_after.ensures.0 c.if-not-is_after.false))

pub returns : goal.returns
returns c = (λ h. all_end (λ (p : PieceText). p.x <ℚ c.args.rank +ℚ c.args.period) c.args.pieces.now c.loop-p.p-index c.loop-p.invariant c.loop-p-test.false, λ h. refl)
