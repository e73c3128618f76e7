-- What the status of a report tells of its run.
use Rattle.std.specs.Prelude.{◌≡◌, ◌⊎◌, ◌↔◌, ℕ}
use Rattle.upp_curve.specs.Curve.{value_at}
use Rattle.run_laws.specs.Runs.{SpecRun}
use Rattle.run_laws.specs.RunPremises.{KeepsPremises}
use Rattle.net_model.specs.Networks.{Net}
use Rattle.net_model.specs.NetRoutes.{routes_of}
use Rattle.net_cells.specs.Numbered.{packet, arrival, service}

-- the status of a report: without a breach, or with one
abbrev pub IsOfReport : ℕ → Type 0
IsOfReport status = (status ≡ 0) ⊎ (status ≡ 9)

-- the run keeps each flow's longest packet and arrival curve, and each server's service curve
abbrev pub Keeps : Net → SpecRun → Type 0
Keeps net run =
    KeepsPremises (routes_of net) (packet net) (λ i. value_at (arrival net i)) (λ s. value_at (service net s)) run

-- the status tells whether the run of a report keeps them
pub record StatusTells (net : Net) (run : SpecRun) (status : ℕ) : Type 0 where
  pub keeps : (status ≡ 0) ↔ Keeps net run
  pub breaks : (status ≡ 9) ↔ (¬ Keeps net run)
