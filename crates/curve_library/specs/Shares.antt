-- A time as a whole number of periods and a rest.
use Rattle.std.specs.Prelude.{◌≡◌, ℕ, ◌+◌, ◌*◌, ◌/◌, ◌<◌, ◌^◌, pos, nat_abs}
use Rattle.rational.specs.Rational.{ℚ, den, int, ◌-ℚ◌, ◌*ℚ◌, ◌/ℚ◌}
use Rattle.rational.specs.Gauge.{lcm}
use Rattle.rational.specs.Whole.{whole_part}
use Rattle.curve_library.specs.declared.shares.Share.{Share}

-- n is so many times the divisor, and a rest below it; the count is at most 2 ^ 127 - 1
pub record IsQuotient (n by : ℕ) (p : ℕ × ℕ) : Type 0 where
  pub is : p.0 * by + p.1 ≡ n
  pub below : p.1 < by
  pub size : p.0 < 2 ^ 127

-- on the common grid of a time and a period: the grid's denominator, the period's numerator there, and how many whole
-- periods lie in the time are at most 2 ^ 127 - 1
pub record SharesFit (time period : ℚ) : Type 0 where
  pub grid : lcm (den time) (den period) < 2 ^ 127
  pub step : nat_abs period.num * (lcm (den time) (den period) / den period) < 2 ^ 127
  pub count : whole_part (time /ℚ period) < 2 ^ 127

pub record AreShares (time period : ℚ) (s : Share) : Type 0 where
  pub count : s.count ≡ whole_part (time /ℚ period)
  pub rest : s.rest ≡ time -ℚ int (pos (whole_part (time /ℚ period))) *ℚ period
  pub fits : SharesFit time period
