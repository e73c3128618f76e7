use Rattle.upp_limits.proofs.LongProducts.{by_halves}
use Rattle.upp_limits.proofs.long.long_step.Goals as goal

pub returns : goal.returns
returns c =
    by_halves c.args.a c.args.m c.args.c
    c.halves-a_low.result.0 c.halves-a_low.result.1 c.halves-m_low.result.0 c.halves-m_low.result.1 c.halves-c_low.result.0 c.halves-c_low.result.1
    c.short_step-first.result.0 c.short_step-first.result.1 c.short_step-middle.result.0 c.short_step-middle.result.1
    c.short_step-second.result.0 c.short_step-second.result.1 c.short_step-third.result.0 c.short_step-third.result.1
    c.whole.result c.whole-2.result
    c.halves-a_low.ensures c.halves-m_low.ensures c.halves-c_low.ensures
    c.short_step-first.ensures c.short_step-middle.ensures c.short_step-second.ensures c.short_step-third.ensures
    c.whole.ensures c.whole-2.ensures
