use Rattle.curve_tests.proofs.endings.excess.Goals as goal

pub pos_diff-requires : goal.pos_diff-requires
pos_diff-requires g c = c.is_finite.ensures.0 c.if-is_finite.true
