-- The delay of what parts bring at a service. (Le Boudec and Thiran, chapter 1: of an arrival curve and a rate-latency service curve.)
use Rattle.std.specs.Prelude.{◌≡◌, ◌⊎◌, ℕ, ◌+◌, ◌*◌, ◌^◌, ◌<◌, List}
use Rattle.std.specs.Int.{div_ceil}
use Rattle.rational.specs.Rational.{ℚ, ◌+ℚ◌, ◌≤ℚ◌}
use Rattle.rational.specs.Extended.{Ext, ◌≤ₑ◌}
use Rattle.rational.specs.declared.Extended.TheVariants.{Fin}
use Rattle.min_plus.specs.Functions.{zero_q}
use Rattle.min_plus.specs.Deviations.{IsHorizontalDeviation}
use Rattle.arrival_lines.specs.Grid.{micros, parts_value}
use Rattle.arrival_lines.specs.Services.{IsServed}
use Rattle.arrival_lines.specs.Excess.{IsExcess, IsEndless}
use Rattle.arrival_lines.specs.declared.grid.Part.{Part}
use Rattle.arrival_lines.specs.declared.grid.Service.{Service}

-- the time in which the excess and the debt are worked off at the rate, in picoseconds, rounded up
pub record IsDelayAt (parts : List Part) (service : Service) (d : ℕ) : Type 0 where
  pub some : 0 < service.rate
  pub over : ℕ
  pub excess : IsExcess parts service.rate over
  pub is : d ≡ div_ceil ((over + service.debt) * 10 ^ 12) service.rate

-- there is no delay: nothing is served, or the parts come above each number over the rate
abbrev pub IsNever : List Part → Service → Type 0
IsNever parts service = (service.rate ≡ 0) ⊎ IsEndless parts service.rate

-- ---- what it promises
-- a function that is from 0 on at most the sum of the parts
pub record IsBrought (f : ℚ → Ext) (parts : List Part) : Type 0 where
  pub brought : (t : ℚ) → zero_q ≤ℚ t → f t ≤ₑ Fin (parts_value parts t)

-- what the parts bring is served after each wait of so many picoseconds or more; so the horizontal deviation is no greater
pub record IsServedIn (parts : List Part) (service : Service) (d : ℕ) : Type 0 where
  pub reached : (f g : ℚ → Ext) → IsBrought f parts → IsServed g service → (t wait : ℚ) → zero_q ≤ℚ t → micros d ≤ℚ wait
      → f t ≤ₑ g (t +ℚ wait)
  pub deviation : (f g : ℚ → Ext) (h : Ext) → IsBrought f parts → IsServed g service → IsHorizontalDeviation f g h
      → h ≤ₑ Fin (micros d)
