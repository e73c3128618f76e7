-- The numbers of a network's service curves, and of its arrival curves.
use Rattle.std.proofs.Common.{map, sym, subst}
use Rattle.rational.specs.Rational.{ℚ}
use Rattle.upp_limits.specs.Limits.{Numbers, Sizes}
use Rattle.upp_limits.specs.Sized.{HeldBy}
use Rattle.upp_limits.proofs.Operands.{held_left, held_right}
use Rattle.net_model.specs.Networks.{Net, NetServer}
use Rattle.sim_bounds.specs.Gauge.{numbers_of_curves, arrivals_of, curves_of}
use Rattle.sim_bounds.proofs.window_numbers.SameGathered.{curves_split}

abbrev pub services : Net → ℚ → Numbers
services net end = numbers_of_curves end (map (λ (s : NetServer). s.service) net.servers)

abbrev pub arrivals : Net → ℚ → Numbers
arrivals net end = numbers_of_curves end (arrivals_of net.flows)

-- sizes that hold the numbers of all curves hold these
pub record CurvesHeld (net : Net) (end : ℚ) : Type 0 where
  pub sizes : Sizes
  pub services : HeldBy sizes end (services net end)
  pub arrivals : HeldBy sizes end (arrivals net end)

pub held_apart : (z : Sizes) (net : Net) (end : ℚ) → HeldBy z end (numbers_of_curves end (curves_of net)) → CurvesHeld net end
held_apart z net end held =
    let parts = subst (HeldBy z end) (sym (curves_split end (map (λ (s : NetServer). s.service) net.servers) (arrivals_of net.flows))) held in
    record { sizes = z; services = held_left z end (services net end) (arrivals net end) parts; arrivals = held_right z end (services net end) (arrivals net end) parts }
