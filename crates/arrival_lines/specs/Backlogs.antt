-- The backlog of what parts bring at a service, with one packet not yet passed on. (Le Boudec and Thiran, chapter 1: the vertical
-- deviation.)
use Rattle.std.specs.Prelude.{◌≡◌, ◌⊎◌, ℕ, ◌+◌, ◌-◌, ◌*◌, ◌<◌, ◌≤◌, List, length, get_or}
use Rattle.std.specs.Int.{div_ceil}
use Rattle.rational.specs.Rational.{ℚ, ◌+ℚ◌, ◌-ℚ◌, ◌*ℚ◌, ◌≤ℚ◌, ◌<ℚ◌}
use Rattle.rational.specs.MinMax.{max_q}
use Rattle.rational.specs.Extended.{Ext, ◌≤ₑ◌, ◌-ₑ◌}
use Rattle.rational.specs.declared.Extended.TheVariants.{Fin}
use Rattle.min_plus.specs.Functions.{zero_q, whole}
use Rattle.min_plus.specs.Pointwise.{packetised}
use Rattle.min_plus.specs.Deviations.{IsVerticalDeviation}
use Rattle.arrival_lines.specs.Grid.{bits, speed, parts_value}
use Rattle.arrival_lines.specs.Services.{IsServed}
use Rattle.arrival_lines.specs.Delays.{IsBrought}
use Rattle.arrival_lines.specs.declared.grid.Line.{Line}
use Rattle.arrival_lines.specs.declared.grid.Part.{Part}
use Rattle.arrival_lines.specs.declared.grid.Service.{Service}

-- a service with a packet of so many grains taken off: its rate for the time, less its debt and the packet, and at least 0
abbrev pub passed_value : Service → ℕ → ℚ → ℚ
passed_value service longest t = max_q zero_q (speed service.rate *ℚ t -ℚ bits (service.debt + longest))

-- the supremum of what the parts bring less that, rounded up to bits: it is nowhere more, and at some time less than a bit below
pub record IsBacklogAt (parts : List Part) (service : Service) (longest b : ℕ) : Type 0 where
  pub over : (t : ℚ) → zero_q ≤ℚ t → parts_value parts t ≤ℚ whole b +ℚ passed_value service longest t
  pub at : ℚ
  pub on : zero_q ≤ℚ at
  pub near : whole b +ℚ passed_value service longest at <ℚ parts_value parts at +ℚ whole 1

-- ---- what it promises
-- of what the parts bring no more than so many bits wait; so the vertical deviation is no greater
pub record HoldsAtMost (parts : List Part) (service : Service) (longest b : ℕ) : Type 0 where
  pub within : (f g : ℚ → Ext) → IsBrought f parts → IsServed g service → (t level : ℚ) → zero_q ≤ℚ t
      → packetised g (bits longest) t ≡ Fin level → f t -ₑ level ≤ₑ Fin (whole b)
  pub deviation : (f g : ℚ → Ext) (v : Ext) → IsBrought f parts → IsServed g service
      → IsVerticalDeviation f (packetised g (bits longest)) v → v ≤ₑ Fin (whole b)

-- ---- by the steps
-- what a step comes to in the time in which so many grains are served at the rate, in bits, rounded up
abbrev pub height_of : Line → ℕ → ℕ → ℕ
height_of step waiting rate = div_ceil (step.burst + div_ceil (step.rate * waiting) rate) 1024

-- a later step is lower than another when so many grains are served at the rate
abbrev pub Falls : Line → Line → (waiting rate : ℕ) → Type 0
Falls step later waiting rate = (later.burst - step.burst) * rate < (step.rate - later.rate) * waiting

-- no step from one on has a lesser height
pub record IsLowest (steps : List Line) (slow waiting rate m : ℕ) : Type 0 where
  pub least : (k : ℕ) (d : Line) → slow ≤ k → k < length steps
      → height_of (get_or steps m d) waiting rate ≤ height_of (get_or steps k d) waiting rate

-- one of the first i steps that is no faster than the service
pub record IsSlow (steps : List Line) (service : Service) (i k : ℕ) : Type 0 where
  pub inside : k < i
  pub slow : (d : Line) → (get_or steps k d).rate ≤ service.rate

-- the least of the excess, the debt and the packet, in bits, rounded up, and of the heights of these
pub record IsLeastHeight (steps : List Line) (i x : ℕ) (service : Service) (longest b : ℕ) : Type 0 where
  pub plain : b ≤ div_ceil (x + (service.debt + longest)) 1024
  pub each : (k : ℕ) (d : Line) → IsSlow steps service i k → b ≤ height_of (get_or steps k d) (service.debt + longest) service.rate
  pub one : (b ≡ div_ceil (x + (service.debt + longest)) 1024)
      ⊎ ((k : ℕ) × IsSlow steps service i k × ((d : Line) → b ≡ height_of (get_or steps k d) (service.debt + longest) service.rate))
