-- What first in, first out leaves of a finite service grows from zero.
use Rattle.upp_limits.specs.declared.op_kind.OpKind.TheVariants.{FifoLeft}
use Rattle.upp_curve.specs.Curve.{value_at}
use Rattle.plain_operators.proofs.CurveCalls.{growing_answers}
use Rattle.residuals.specs.fifo.Growth.{FifoServiceGrows, FifoCurveGrows}

pub service_grows : FifoServiceGrows
service_grows β cross R θ low finite is = growing_answers (FifoLeft θ) β cross R (low, finite) is

pub curve_grows : FifoCurveGrows
curve_grows β cross c θ low finite made = record {
  curve = made.made.curve;
  grows = service_grows (value_at β) (value_at cross) (value_at c) θ low finite made.made.answers;
}
