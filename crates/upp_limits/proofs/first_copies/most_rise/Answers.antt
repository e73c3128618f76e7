use Rattle.upp_limits.proofs.Operands.{curve_period}
use Rattle.std.proofs.Common.{subst, sym, ◌∙◌}
use Rattle.upp_limits.specs.Periods.{HasPeriod}
use Rattle.upp_limits.proofs.first_copies.most_rise.Goals as goal

pub rise_before-requires : goal.rise_before-requires
rise_before-requires c = subst HasPeriod (sym c.tail.ensures.tail ∙ c.in-Periodic.is) (curve_period c.args.c.now c.tail.ensures.kept)
