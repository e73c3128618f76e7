-- The curve that the call makes serves the flow, since its values are what the others leave.
use Rattle.upp_curve.specs.Curve.{value_at}
use Rattle.residuals.specs.fifo.Curves.{FifoCurveServes}
use Rattle.residuals.proofs.fifo.FifoClasses.{fifo_serves}

pub curve_serves : FifoCurveServes
curve_serves server end view Q f others queue β cross c θ made lawful of_queue parts keeps serves nonneg =
    fifo_serves server end view Q f others queue (value_at β) (value_at cross) (value_at c) θ lawful of_queue parts
    keeps serves nonneg made.made.answers
