-- A run: a list of steps, in the order in which they are recorded, and the time at which the record ends.
use Rattle.std.specs.Prelude.{List}
use Rattle.rational.specs.Rational.{ℚ}
use Rattle.run_laws.specs.declared.steps.Step.{Step}

pub record SpecRun : Type 0 where
  pub steps : List Step
  pub end : ℚ
