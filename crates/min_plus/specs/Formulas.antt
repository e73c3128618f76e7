-- The four kinds of function that a formula gives. (Le Boudec and Thiran: token bucket, stair and rate-latency
-- functions. The gate is our own.)
use Rattle.std.specs.Prelude.{◌≡◌, pos, suc}
use Rattle.rational.specs.Rational.{ℚ, ◌+ℚ◌, ◌-ℚ◌, ◌*ℚ◌, ◌/ℚ◌, ◌≤ℚ◌, int}
use Rattle.rational.specs.MinMax.{max_q}
use Rattle.rational.specs.Whole.{whole_part}
use Rattle.rational.specs.Extended.{Ext}
use Rattle.rational.specs.declared.Extended.TheVariants.{Fin}
use Rattle.min_plus.specs.Functions.{zero_q}
use Rattle.min_plus.specs.Pointwise.{excess}
use Rattle.min_plus.specs.WholeUp.{whole_up}

-- a token bucket: burst + rate t
abbrev pub bucket_value : ℚ → ℚ → ℚ → Ext
bucket_value burst rate t = Fin (burst +ℚ rate *ℚ t)

-- one packet each period, each up to the jitter early: packet (floor ((t + jitter) / period) + 1)
abbrev pub stair_value : ℚ → ℚ → ℚ → ℚ → Ext
stair_value packet period jitter t = Fin (packet *ℚ int (pos (suc (whole_part ((t +ℚ jitter) /ℚ period)))))

-- a rate after a latency: rate max (0, t - latency)
abbrev pub rate_latency_value : ℚ → ℚ → ℚ → Ext
rate_latency_value rate latency t = Fin (rate *ℚ max_q zero_q (t -ℚ latency))

-- a rate while a gate is open, for one slot at the end of each cycle:
-- rate max (floor (t / cycle) slot, t - ceil (t / cycle) (cycle - slot))
abbrev pub gate_value : ℚ → ℚ → ℚ → ℚ → Ext
gate_value rate cycle slot t =
    Fin (rate *ℚ max_q (int (pos (whole_part (t /ℚ cycle))) *ℚ slot)
    (t -ℚ int (pos (whole_up (t /ℚ cycle))) *ℚ (cycle -ℚ slot)))

-- ---- functions with these values at each time from 0 on
pub record IsBucket (burst rate : ℚ) (f : ℚ → Ext) : Type 0 where
  pub is : (t : ℚ) → zero_q ≤ℚ t → f t ≡ bucket_value burst rate t

pub record IsService (rate latency : ℚ) (g : ℚ → Ext) : Type 0 where
  pub is : (t : ℚ) → zero_q ≤ℚ t → g t ≡ rate_latency_value rate latency t

-- less one packet
pub record IsPacketised (rate latency packet : ℚ) (p : ℚ → Ext) : Type 0 where
  pub is : (t : ℚ) → zero_q ≤ℚ t → p t ≡ excess (rate_latency_value rate latency t) (Fin packet)
