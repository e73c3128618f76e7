-- What holds of the packets of lawful runs.
use Rattle.run_laws.specs.Lawful.{IsLawful}
use Rattle.run_laws.specs.Routes.{Routes}
use Rattle.run_laws.specs.Runs.{SpecRun}
use Rattle.simulator.specs.run_measures.Numbered.{AreNumberedFrom}

-- those of a lawful run are numbered in the order in which they enter
abbrev pub LawfulRunsAreNumbered : Type 0
LawfulRunsAreNumbered = (net : Routes) (run : SpecRun) → IsLawful net run → AreNumberedFrom 0 run.steps
