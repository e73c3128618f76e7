-- Which limit a gauge and a tally are over, and what a call is refused with for it. Own choice.
use Rattle.std.specs.Prelude.{ℕ, ◌<◌, ◌≤◌, ◌^◌}
use Rattle.upp_limits.specs.declared.own_limits.OverLimit.{OverLimit}
use Rattle.upp_limits.specs.declared.own_limits.OverLimit.TheVariants.{TooMany, TooWide}
use Rattle.upp_limits.specs.declared.op_kind.OpFault.{OpFault}
use Rattle.upp_limits.specs.declared.op_kind.OpFault.TheVariants as faults

-- the gauge is looked at first
abbrev pub IsPassed : ℕ → ℕ → OverLimit → Type 0
IsPassed gauge tally TooWide = 2 ^ 120 ≤ gauge
IsPassed gauge tally TooMany = (gauge < 2 ^ 120) × (2 ^ 20 < tally)

abbrev pub fault_of : OverLimit → OpFault
fault_of TooWide = faults.TooWide
fault_of TooMany = faults.TooMany
