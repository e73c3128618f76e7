-- The numbers that a curve of a kind is made of.
use Rattle.std.specs.Prelude.{◌≡◌}
use Rattle.rational.specs.Rational.{ℚ, ◌-ℚ◌, ◌*ℚ◌, neg_ℚ}
use Rattle.rational.specs.Ratio.{SumFits}
use Rattle.curve_library.specs.declared.gates.GateNumbers.{GateNumbers}

-- of a gate: the time that it is closed, the rate times that time, and the rate times the slot
pub record AreGateNumbers (rate cycle slot : ℚ) (n : GateNumbers) : Type 0 where
  pub closed : n.closed ≡ cycle -ℚ slot
  pub missed : n.missed ≡ rate *ℚ (cycle -ℚ slot)
  pub rise : n.rise ≡ rate *ℚ slot

-- the steps to the second step of a stair: when it comes, and how high it is
pub record SecondFits (period late first rise : ℚ) : Type 0 where
  pub start : SumFits period (neg_ℚ late)
  pub level : SumFits first rise
