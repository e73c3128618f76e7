use Rattle.std.proofs.Common.{refl, sym, subst, true≢false}
use Rattle.rational.specs.Rational.{ℚ, ◌<ℚ◌}
use Rattle.rational.proofs.Laws.{le_of_not_lt, not_zero}
use Rattle.plain_operators.proofs.pointwise.Leanings.{times_is, times_none}
use Rattle.plain_operators.proofs.pointwise.leaning.times_over.Goals as goal

pub returns-then-not-is_less-2 : goal.returns-then-not-is_less-2
returns-then-not-is_less-2 c = times_none c.args.gap c.args.lead c.zero-zero.result c.zero-zero.ensures (le_of_not_lt (λ h. true≢false (sym (c.if-not-is_less-2.ensures.less.1 h))))

pub div-requires : goal.div-requires
div-requires c = not_zero c.args.lead (subst (λ (z : ℚ). z <ℚ c.args.lead) c.zero-zero.ensures (c.if-not-is_less.ensures.less.0 refl))

pub returns-in-Ok : goal.returns-in-Ok
returns-in-Ok c =
    times_is c.args.gap c.args.lead c.in-Ok.number c.size_up.result (subst (λ (z : ℚ). z <ℚ c.args.lead) c.zero-zero.ensures (c.if-not-is_less.ensures.less.0 refl)) c.in-Ok.ensures.value c.size_up.ensures
