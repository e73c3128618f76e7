use Rattle.std.proofs.Common.{sym, subst}
use Rattle.upp_normal.specs.Ahead.{HasWindow}
use Rattle.curve_call.proofs.gaps.window_gap.Goals as goal

pub returns-clause-sizes : goal.returns-clause-sizes
returns-clause-sizes c = λ z V W T. c.side_gap.ensures.sizes z (subst (HasWindow z c.args.end) (sym c.of.ensures) V) (subst (HasWindow z c.args.end) (sym c.of-2.ensures) W) T
