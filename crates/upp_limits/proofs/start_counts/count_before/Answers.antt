use Rattle.std.proofs.Common.{arith, ◌≡◌}
use Rattle.rational.specs.Rational.{◌-ℚ◌, ◌/ℚ◌}
use Rattle.min_plus.specs.WholeUp.{whole_up}
use Rattle.upp_limits.proofs.Rounding.{cap_kept}
use Rattle.upp_limits.proofs.start_counts.count_before.Goals as goal

pub returns-in-Some : goal.returns-in-Some
returns-in-Some c =
    let n : c.in-Some.n ≡ whole_up ((c.args.end -ℚ c.args.x) /ℚ c.args.period) = c.in-Some.ensures in
    cap_kept c.in-Some.n (whole_up ((c.args.end -ℚ c.args.x) /ℚ c.args.period)) n (omega arith)
