use Rattle.std.proofs.Common.{refl, arith}
use Rattle.rational.specs.Rational.{◌<ℚ◌, ◌≤ℚ◌, le_q}
use Rattle.rational.proofs.Over.{le_q_out}
use Rattle.rational.proofs.MinMax.{le_q_not}
use Rattle.simulator.proofs.run_measures.Gauging.{counted_own, counted_none}
use Rattle.rational.proofs.Compared.{least_by_test}
use Rattle.simulator.proofs.run_measures.gauge.level.Goals as goal

pub returns-then-is_less : goal.returns-then-is_less
returns-then-is_less c =
    let later : c.args.left_at <ℚ c.args.time = c.if-is_less.ensures.less.0 refl in
    let none = counted_none (le_q c.args.time c.args.left_at) c.args.left (le_q_not c.args.time c.args.left_at later) in
    omega (arith, none)

pub returns : goal.returns
returns c =
    let not_later : c.args.time ≤ℚ c.args.left_at = least_by_test c.args.left_at c.args.time c.if-is_less.ensures.less in
    let own = counted_own (le_q c.args.time c.args.left_at) c.args.left (le_q_out c.args.time c.args.left_at not_later) in
    let same = c.from.ensures in
    omega (arith, own, same)
