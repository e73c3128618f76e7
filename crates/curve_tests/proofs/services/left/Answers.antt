use Rattle.curve_tests.proofs.services.left.Goals as goal

pub packetised-requires : goal.packetised-requires
packetised-requires g c = c.is_finite.ensures.0 c.if-not-is_finite.false

pub drr_service-requires-clause-finite : goal.drr_service-requires-clause-finite
drr_service-requires-clause-finite g c = c.is_finite.ensures.0 c.if-not-is_finite.false

pub priority_service-requires : goal.priority_service-requires
priority_service-requires g c = c.is_finite.ensures.0 c.if-not-is_finite.false
