use Rattle.std.proofs.Common.{refl}
use Rattle.measure_curve.proofs.Answers.{wide_by_reach, width_test}
use Rattle.measure_curve.proofs.packets.is_wide.Goals as goal

pub returns-then-reach : goal.returns-then-reach
returns-then-reach c = λ ps g b. (
  λ y. wide_by_reach c.args.sizes.now ps c.args.bits c.max-reach.result g b c.max-reach.ensures c.if-reach.true,
  λ w. refl,
)

pub returns : goal.returns
returns c = λ ps g b.
    width_test c.args.sizes.now ps c.args.bits c.max-reach.result c.saturating_mul.result g b c.max-reach.ensures c.if-reach.false c.saturating_mul.ensures
