use Rattle.std.specs.Prelude.{None}
use Rattle.std.proofs.Common.{sym, subst}
use Rattle.rational.specs.Rational.{◌≤ℚ◌}
use Rattle.upp_curve.specs.Curve.{value_at}
use Rattle.curve_conv.specs.Stretches.{IsAhead, PartRow, part_row_sum}
use Rattle.curve_conv.proofs.PairStretches.{none_ahead}
use Rattle.curve_conv.proofs.parts.part_row.Goals as goal

pub returns-in-None-clause-ahead : goal.returns-in-None-clause-ahead
returns-in-None-clause-ahead c =
    rw (c.in-None.is, c.nothing.ensures)
    (none_ahead (PartRow None (λ u. c.args.low ≤ℚ u)) (part_row_sum None (value_at c.args.s.now.second.now) (λ u. c.args.low ≤ℚ u)) c.args.s.now.end c.args.t (λ u i. i))

pub returns-in-Some-clause-ahead : goal.returns-in-Some-clause-ahead
returns-in-Some-clause-ahead c =
    subst (λ o. IsAhead (PartRow o (λ u. c.args.low ≤ℚ u)) (part_row_sum o (value_at c.args.s.now.second.now) (λ u. c.args.low ≤ℚ u)) c.args.s.now.end c.args.t c.row.result) (sym c.in-Some.is) c.row.ensures.ahead
