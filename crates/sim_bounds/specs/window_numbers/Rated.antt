-- The gauge of times whose grid is made finer by a factor. (Own choice.)
use Rattle.std.specs.Prelude.{ℕ, ◌*◌}
use Rattle.upp_limits.specs.Limits.{Sizes}

unfoldable pub gauge_with : ℕ → Sizes → ℕ
gauge_with r z = 64 * (z.largest * z.steepness * z.dv * (z.dt * r) * z.ds * z.ds)
