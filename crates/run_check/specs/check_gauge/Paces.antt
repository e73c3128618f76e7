-- Which steps on the way to the paces of works have to fit. Own choice.
use Rattle.std.specs.Prelude.{List}
use Rattle.std.specs.List.{AllByRecursion}
use Rattle.rational.specs.Rational.{ℚ, ◌-ℚ◌, neg_ℚ, ◌/ℚ◌, ◌<ℚ◌}
use Rattle.rational.specs.Ratio.{IsSmall, SumFits}
use Rattle.run_laws.specs.declared.steps.Step.{Step}
use Rattle.run_laws.specs.declared.steps.Step.TheVariants.{Enter, Reach, Work, Leave, Visit}

-- how long a work takes, and its pace
pub record WorkFits (a b w : ℚ) : Type 0 where
  pub time : SumFits b (neg_ℚ a)
  pub pace : IsSmall (w /ℚ (b -ℚ a))

abbrev pub PaceFits : Step → Type 0
PaceFits (Enter f p t b) = Unit {0}
PaceFits (Reach s p t) = Unit {0}
PaceFits (Work s p a b w) = a <ℚ b → WorkFits a b w
PaceFits (Leave s p t) = Unit {0}
PaceFits (Visit s q t) = Unit {0}

abbrev pub PacesFit : List Step → Type 0
PacesFit xs = AllByRecursion PaceFits xs
