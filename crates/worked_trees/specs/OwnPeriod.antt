-- A class of packets that gets less since its own backlogged period began than what the server leaves it: others wait
-- there at that time already. (Le Boudec and Thiran, section 6.2, count from the server's backlogged period; the view
-- is our own.)
use Rattle.std.specs.Prelude.{◌≡◌, ℕ, List, [], ◌∷◌}
use Rattle.rational.specs.Rational.{ℚ, ◌-ℚ◌, ◌/ℚ◌, ◌≤ℚ◌, ◌<ℚ◌}
use Rattle.rational.specs.Extended.{Ext, ◌+ₑ◌}
use Rattle.rational.specs.declared.Extended.TheVariants.{Fin}
use Rattle.min_plus.specs.Formulas.{bucket_value}
use Rattle.run_laws.specs.Cards.{Card, Class, all, of_queue, whole, ServerStep, Arrives, Works, Leaves}
use Rattle.run_laws.specs.Servers.{Priority}
use Rattle.run_laws.specs.Allows.{IsLawfulView}
use Rattle.run_laws.specs.Counts.{arrived, worked, departed}
use Rattle.run_laws.specs.Premises.{KeepsArrivals, KeepsService, IsZeroAtStart}
use Rattle.run_laws.specs.Backlogged.{IsBacklogged}
use Rattle.run_laws.specs.Serves.{IsServed}
use Rattle.run_laws.specs.Examples.{paced_server}
use Rattle.residual_laws.specs.RestLaws.{others, IsRestService, RestServesSincePeriodOf}
use Rattle.residual_laws.specs.lines.RateDebt.{rate_debt_value}

-- ---- a priority server of two queues that works 3 bits a unit of time; the class is its second queue
abbrev pub second : Class
second = of_queue 1

-- flow 0 in the first queue, flow 1 in the second
abbrev pub card : ℕ → ℕ → ℕ → Card
card packet queue bits = record { packet = packet; flow = queue; queue = queue; bits = bits }

-- when the last packet comes: 13/4
abbrev pub comes_last : ℚ
comes_last = whole 13 /ℚ whole 4

-- a packet of the class is worked on from 0 to 3, and another one comes later; the first queue's come at 0 and 3, wait,
-- and go before that one
abbrev pub passed_by : List ServerStep
passed_by =
    Arrives (card 0 1 9) (whole 0) ∷ Works (card 0 1 9) (whole 0) (whole 3) (whole 9) ∷ Arrives (card 1 0 3) (whole 0)
    ∷ Leaves (card 0 1 9) (whole 3) ∷ Arrives (card 2 0 3) (whole 3) ∷ Works (card 1 0 3) (whole 3) (whole 4) (whole 3)
    ∷ Arrives (card 3 1 1) comes_last ∷ Leaves (card 1 0 3) (whole 4)
    ∷ Works (card 2 0 3) (whole 4) (whole 5) (whole 3) ∷ Leaves (card 2 0 3) (whole 5) ∷ []

-- ---- the curves
-- 3 t; 3 + t; and what that leaves: 2 t - 3, or 0 where that is less
abbrev pub service : ℚ → Ext
service = rate_debt_value (whole 3) (whole 0)

abbrev pub brought : ℚ → Ext
brought = bucket_value (whole 3) (whole 1)

abbrev pub left : ℚ → Ext
left = rate_debt_value (whole 2) (whole 3)

pub record OwnPeriodIsTooShort : Type 0 where
  -- all that `rest_serves` asks, and at 5 something of the class has not left
  pub lawful : IsLawfulView (paced_server (Priority 2) 3) (whole 5) passed_by
  pub works : KeepsService service (whole 5) passed_by
  pub from_zero : IsZeroAtStart service
  pub others_keep : KeepsArrivals (others second) brought passed_by
  pub is_left : IsRestService service brought left
  pub waits : departed second passed_by (whole 5) <ℚ arrived second passed_by (whole 5)
  -- from 3 until its last packet comes, all that came of the class is worked off
  pub idle : (x : ℚ) → whole 3 ≤ℚ x → x ≤ℚ comes_last → arrived second passed_by x ≡ worked second passed_by x
  -- the server's backlogged period at 5 is from 0 on, the class's own from its last packet on, and no other
  pub of_server : IsBacklogged all passed_by (whole 0) (whole 5)
  pub of_class : IsBacklogged second passed_by comes_last (whole 5)
  pub no_other : (s : ℚ) → IsBacklogged second passed_by s (whole 5) → s ≡ comes_last
  -- since the server's began the class is served
  pub since_server : IsServed second left passed_by (whole 5) (whole 0)
  -- since its own 19/2 bits of it would be worked by 5; there are 9
  pub claimed : (Fin (arrived second passed_by comes_last) +ₑ left (whole 5 -ℚ comes_last)) ≡ Fin (whole 19 /ℚ whole 2)
  pub done : worked second passed_by (whole 5) ≡ whole 9
  -- so the law does not hold with the class's own period
  pub not_since_own : ¬ RestServesSincePeriodOf (λ C. C)
