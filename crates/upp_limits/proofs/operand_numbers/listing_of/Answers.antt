use Rattle.std.proofs.Common.{◌≡◌, subst, sym}
use Rattle.upp_curve.specs.affine_segment.Pieces.{StartsAtZero}
use Rattle.upp_limits.specs.Periods.{HasPeriod}
use Rattle.upp_limits.specs.Spans.{end_of}
use Rattle.upp_limits.proofs.Operands.{curve_period}
use Rattle.upp_limits.proofs.operand_numbers.listing_of.Goals as goal

pub returns-clause-listed : goal.returns-clause-listed
returns-clause-listed c = record {
  starts = subst StartsAtZero (sym c.pieces.ensures.pieces) c.pieces.ensures.kept.normal.raw.starts;
  after = subst (λ t. c.after_last-after.result ≡ end_of t) (sym c.tail.ensures.tail) c.after_last-after.ensures;
}

pub returns-clause-period : goal.returns-clause-period
returns-clause-period c = subst HasPeriod (sym c.tail.ensures.tail) (curve_period c.args.c.now c.pieces.ensures.kept)
