use Rattle.upp_curve.specs.Curve.{value_at}
use Rattle.residuals.proofs.fifo.TestStarts.{rising_nonneg}
use Rattle.curve_tests.proofs.fifo_services.service.Goals as goal

pub horizontal-requires-clause-finite : goal.horizontal-requires-clause-finite
horizontal-requires-clause-finite g c = c.is_finite.ensures.0 c.if-not-is_finite.false

pub horizontal-requires-clause-rising : goal.horizontal-requires-clause-rising
horizontal-requires-clause-rising g c =
    (c.is_rising-2.ensures.0 c.if-not-is_rising-2.false, c.is_rising.ensures.0 c.if-not-is_rising.false)

pub fifo_service-requires-clause-finite : goal.fifo_service-requires-clause-finite
fifo_service-requires-clause-finite g c = c.is_finite.ensures.0 c.if-not-is_finite.false

pub fifo_service-requires-clause-rising : goal.fifo_service-requires-clause-rising
fifo_service-requires-clause-rising g c = c.is_rising.ensures.0 c.if-not-is_rising.false

pub fifo_service-requires-clause-nonneg : goal.fifo_service-requires-clause-nonneg
fifo_service-requires-clause-nonneg g c =
    rising_nonneg (value_at c.args.beta.now) (c.is_rising.ensures.0 c.if-not-is_rising.false)
    (c.starts_high.ensures c.if-not-starts_high.false)
