-- The runs of a network. (Le Boudec and Thiran; that work may be at any pace in version 1, and at most at its server's rate
-- in version 2, is our own choice.)
use Rattle.upp_curve.specs.Curve.{value_at}
use Rattle.run_laws.specs.Runs.{SpecRun}
use Rattle.run_laws.specs.Lawful.{IsLawful}
use Rattle.run_laws.specs.RunPremises.{KeepsPremises}
use Rattle.net_model.specs.Networks.{Net}
pub use Rattle.net_model.specs.NetRoutes.{hops_along, pace_for, route_for, server_for, link_for, routes_of}
use Rattle.net_cells.specs.Numbered.{packet, arrival, service}

-- it is lawful, and keeps each flow's longest packet and arrival curve, and each server's service curve
pub record IsRunOf (net : Net) (run : SpecRun) : Type 0 where
  pub lawful : IsLawful (routes_of net) run
  pub keeps : KeepsPremises (routes_of net) (packet net)
      (λ i. value_at (arrival net i)) (λ s. value_at (service net s)) run
