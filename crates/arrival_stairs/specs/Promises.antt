-- What a delay and a backlog promise of bundles of stairs at a service. (Le Boudec and Thiran, chapter 1: the
-- horizontal and the vertical deviation.)
use Rattle.std.specs.Prelude.{◌≡◌, ℕ, ◌<◌, List, length, get_or}
use Rattle.rational.specs.Rational.{ℚ, ◌+ℚ◌, ◌≤ℚ◌}
use Rattle.rational.specs.Extended.{Ext, ◌≤ₑ◌, ◌-ₑ◌}
use Rattle.rational.specs.declared.Extended.TheVariants.{Fin}
use Rattle.min_plus.specs.Functions.{zero_q, whole}
use Rattle.min_plus.specs.Pointwise.{packetised}
use Rattle.min_plus.specs.Deviations.{IsHorizontalDeviation, IsVerticalDeviation}
use Rattle.arrival_lines.specs.Grid.{bits, micros}
use Rattle.arrival_lines.specs.Services.{IsServed}
use Rattle.arrival_lines.specs.declared.grid.Service.{Service}
use Rattle.arrival_stairs.specs.Stairs.{bundles_at}
use Rattle.arrival_stairs.specs.declared.stairs.Bundle.{Bundle}

-- a function that is from 0 on at most the sum of the bundles
pub record IsBrought (f : ℚ → Ext) (bundles : List Bundle) : Type 0 where
  pub brought : (t : ℚ) → zero_q ≤ℚ t → f t ≤ₑ Fin (bundles_at bundles t)

-- what the bundles bring is served after each wait of so many picoseconds or more; so the horizontal deviation is no
-- greater
pub record AreServedIn (bundles : List Bundle) (service : Service) (d : ℕ) : Type 0 where
  pub reached : (f g : ℚ → Ext) → IsBrought f bundles → IsServed g service → (t wait : ℚ) → zero_q ≤ℚ t
      → micros d ≤ℚ wait → f t ≤ₑ g (t +ℚ wait)
  pub deviation : (f g : ℚ → Ext) (h : Ext) → IsBrought f bundles → IsServed g service → IsHorizontalDeviation f g h
      → h ≤ₑ Fin (micros d)

-- of what the bundles bring no more than so many bits wait, with one packet of so many grains not yet passed on; so the
-- vertical deviation is no greater
pub record HoldAtMost (bundles : List Bundle) (service : Service) (longest b : ℕ) : Type 0 where
  pub within : (f g : ℚ → Ext) → IsBrought f bundles → IsServed g service → (t level : ℚ) → zero_q ≤ℚ t
      → packetised g (bits longest) t ≡ Fin level → f t -ₑ level ≤ₑ Fin (whole b)
  pub deviation : (f g : ℚ → Ext) (v : Ext) → IsBrought f bundles → IsServed g service
      → IsVerticalDeviation f (packetised g (bits longest)) v → v ≤ₑ Fin (whole b)

-- ---- of several services
pub record IsKeptDelay (bundles : List Bundle) (services : List Service) (d : ℕ) : Type 0 where
  pub place : ℕ
  pub inside : place < length services
  pub is : (e : Service) → AreServedIn bundles (get_or services place e) d

pub record IsKeptBacklog (bundles : List Bundle) (services : List Service) (longest b : ℕ) : Type 0 where
  pub place : ℕ
  pub inside : place < length services
  pub is : (e : Service) → HoldAtMost bundles (get_or services place e) longest b
