use Rattle.std.proofs.Common.{refl, sym, true≢false}
use Rattle.run_watch.proofs.ShortWindows.{marks, too_near, too_far, short_here}
use Rattle.run_watch.proofs.windows.is_short_by.Goals as goal

pub returns-then-is_less : goal.returns-then-is_less
returns-then-is_less c =
    let m = marks c.args.s.now c.args.a.now c.args.b.now c.rule_of-rule.result c.mark_of-from.result c.mark_of-to.result c.rule_of-rule.ensures c.mark_of-from.ensures c.mark_of-to.ensures in (
      λ h. absurd (true≢false (sym h)),
      λ h. absurd (too_near c.args.s.now c.args.a.now c.args.b.now c.rule_of-rule.result c.mark_of-from.result c.mark_of-to.result c.sum.result m c.sum.ensures (c.if-is_less.ensures.less.0 refl) h),
    )

pub returns-then-is_past : goal.returns-then-is_past
returns-then-is_past c =
    let m = marks c.args.s.now c.args.a.now c.args.b.now c.rule_of-rule.result c.mark_of-from.result c.mark_of-to.result c.rule_of-rule.ensures c.mark_of-from.ensures c.mark_of-to.ensures in (
      λ h. absurd (true≢false (sym h)),
      λ h. absurd (too_far c.args.s.now c.args.a.now c.args.b.now c.rule_of-rule.result c.mark_of-from.result c.mark_of-to.result m (c.if-is_past.ensures.0 refl) h),
    )

pub returns : goal.returns
returns c =
    let m = marks c.args.s.now c.args.a.now c.args.b.now c.rule_of-rule.result c.mark_of-from.result c.mark_of-to.result c.rule_of-rule.ensures c.mark_of-from.ensures c.mark_of-to.ensures in
    let is = short_here c.args.s.now c.args.a.now c.args.b.now c.rule_of-rule.result c.mark_of-from.result c.mark_of-to.result c.sum.result c.sum-2.result m c.sum.ensures
    (λ l. true≢false (sym (c.if-is_less.ensures.less.1 l))) (λ p. true≢false (sym (c.if-is_past.ensures.1 p))) c.sum-2.ensures in
    (λ h. is.0 (c.is_less-2.ensures.less.0 h), λ h. c.is_less-2.ensures.less.1 (is.1 h))
