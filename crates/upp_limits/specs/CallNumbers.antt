-- What the code keeps of the sizes of a call: its gauge, and the grids of its times and of its values. Own choice.
use Rattle.std.specs.Prelude.{◌≡◌}
use Rattle.upp_limits.specs.declared.call_sizes.CallNumbers.{CallNumbers}
use Rattle.upp_limits.specs.Limits.{Sizes, gauge_of}
use Rattle.upp_limits.specs.Sized.{grid_of}

pub record AreCallNumbers (z : Sizes) (n : CallNumbers) : Type 0 where
  pub gauge : n.gauge ≡ gauge_of z
  pub times : n.times ≡ z.dt
  pub values : n.values ≡ grid_of z
