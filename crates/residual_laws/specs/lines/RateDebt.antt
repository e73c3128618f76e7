-- A rate with a debt: what a server gives by t that works at the rate and has to do so many bits of something else
-- first. With a debt of rate times latency it is the rate after the latency. (Le Boudec and Thiran, rate-latency
-- functions.)
use Rattle.rational.specs.Rational.{ℚ, ◌*ℚ◌, ◌-ℚ◌, ◌≤ℚ◌}
use Rattle.rational.specs.MinMax.{max_q}
use Rattle.rational.specs.Extended.{Ext}
use Rattle.rational.specs.declared.Extended.TheVariants.{Fin}
use Rattle.min_plus.specs.Functions.{zero_q, IsRising}
use Rattle.min_plus.specs.Formulas.{bucket_value}
use Rattle.run_laws.specs.Weaker.{IsNowhereAbove}

-- rate t - debt, or 0 where that is less
abbrev pub rate_debt_value : ℚ → ℚ → ℚ → Ext
rate_debt_value rate debt t = Fin (max_q zero_q (rate *ℚ t -ℚ debt))

-- from 0 on β is at least that, of a debt from 0 on
pub record IsAtLeastRate (β : ℚ → Ext) (rate debt : ℚ) : Type 0 where
  pub debt_on : zero_q ≤ℚ debt
  pub below : IsNowhereAbove (rate_debt_value rate debt) β

-- ---- laws
-- a rate from 0 on never falls
abbrev pub RateDebtRises : Type 0
RateDebtRises = (rate debt : ℚ) → zero_q ≤ℚ rate → IsRising (rate_debt_value rate debt)

-- a lesser rate with a greater debt gives no more
abbrev pub RateDebtsCompare : Type 0
RateDebtsCompare = (rate debt slower greater : ℚ) → slower ≤ℚ rate → debt ≤ℚ greater →
    IsNowhereAbove (rate_debt_value slower greater) (rate_debt_value rate debt)

-- a lesser burst with a lesser rate brings no more
abbrev pub LinesCompare : Type 0
LinesCompare = (burst rate greater faster : ℚ) → burst ≤ℚ greater → rate ≤ℚ faster →
    IsNowhereAbove (bucket_value burst rate) (bucket_value greater faster)
