-- A backlogged period of a class of packets at a server. (Le Boudec and Thiran: backlogged period.)
use Rattle.std.specs.Prelude.{List}
use Rattle.rational.specs.Rational.{ℚ, ◌≤ℚ◌, ◌<ℚ◌}
use Rattle.run_laws.specs.Cards.{Class, ServerStep}
use Rattle.run_laws.specs.Counts.{arrived, worked}

-- at s all that had arrived of the class was worked, and all through the open window from s to t something of it is
-- still to be worked
pub record IsBacklogged (C : Class) (view : List ServerStep) (s t : ℚ) : Type 0 where
  pub begins : s <ℚ t
  pub caught_up : arrived C view s ≤ℚ worked C view s
  pub busy : (x : ℚ) → s <ℚ x → x <ℚ t → worked C view x <ℚ arrived C view x
