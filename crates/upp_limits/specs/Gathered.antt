-- What the code keeps of the numbers that it has seen: their sizes, each up to the largest u128. Own choice.
use Rattle.rational.specs.Gauge.{Kept, common_den, bound_of}
use Rattle.upp_limits.specs.declared.gathered.Gathered.{Gathered}
use Rattle.upp_limits.specs.Limits.{Numbers, twice}

pub record Gathers (g : Gathered) (n : Numbers) : Type 0 where
  pub dv : Kept g.dv (common_den n.values)
  pub dt : Kept g.dt (common_den n.times)
  pub ds : Kept g.ds (common_den n.slopes)
  pub steepness : Kept g.steepness (bound_of (twice n.slopes))
  pub largest : Kept g.largest (bound_of n.values)
