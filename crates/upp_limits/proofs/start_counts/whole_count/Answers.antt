use Rattle.std.proofs.Common.{sym, subst, refl, true≢false}
use Rattle.rational.specs.Rational.{◌<ℚ◌}
use Rattle.rational.proofs.Laws.{le_of_not_lt}
use Rattle.upp_limits.proofs.WholeCounts.{whole_none, whole_exact, whole_more}
use Rattle.upp_limits.proofs.start_counts.whole_count.Goals as goal

pub returns-then-not-is_less : goal.returns-then-not-is_less
returns-then-not-is_less c =
    whole_none c.args.gap c.args.period c.requires.some
    (le_of_not_lt (λ h. true≢false (sym (c.if-not-is_less.ensures.less.1 (subst (λ y. y <ℚ c.args.gap) (sym c.zero.ensures) h)))))

pub returns-then-top-bottom-eq0 : goal.returns-then-top-bottom-eq0
returns-then-top-bottom-eq0 c =
    let some = subst (λ y. y <ℚ c.args.gap) c.zero.ensures (c.if-not-is_less.ensures.less.0 refl) in
    whole_exact c.args.gap c.args.period _ _ some c.requires.some c.requires.whole c.requires.period c.numerator_size-top.ensures.value c.numerator_size-bottom.ensures.value c.if-top-bottom-eq0.true

pub returns-else-top-bottom-eq0 : goal.returns-else-top-bottom-eq0
returns-else-top-bottom-eq0 c =
    let some = subst (λ y. y <ℚ c.args.gap) c.zero.ensures (c.if-not-is_less.ensures.less.0 refl) in
    whole_more c.args.gap c.args.period _ _ some c.requires.some c.requires.whole c.requires.period c.numerator_size-top.ensures.value c.numerator_size-bottom.ensures.value c.if-top-bottom-eq0.false
