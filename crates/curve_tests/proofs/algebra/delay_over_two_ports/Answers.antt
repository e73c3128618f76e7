use Rattle.curve_tests.proofs.algebra.delay_over_two_ports.Goals as goal

pub horizontal-requires-clause-finite : goal.horizontal-requires-clause-finite
horizontal-requires-clause-finite g c = c.is_finite.ensures.0 c.if-not-is_finite.false

pub horizontal-requires-clause-rising : goal.horizontal-requires-clause-rising
horizontal-requires-clause-rising g c = (c.is_rising.ensures.0 c.if-not-is_rising.false, c.is_rising-else-not-is_rising.ensures.0 c.if-not-is_rising-2.false)
