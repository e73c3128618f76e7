-- The curves that an element's closure is convolved with and lowered by: a lattice, and the value 0 at 0. (Bouillard,
-- Boyer and Le Corronc: the copies of a periodic part.)
use Rattle.std.specs.Prelude.{◌≡◌, [], ◌∷◌, None}
use Rattle.rational.specs.Rational.{ℚ, ◌≤ℚ◌, ◌<ℚ◌}
use Rattle.rational.specs.declared.Extended.TheVariants.{Fin}
use Rattle.upp_curve.specs.declared.curve.Tail.TheVariants.{Periodic}
use Rattle.upp_curve.specs.Curve.{SpecCurve, value_at}
use Rattle.min_plus.specs.Functions.{zero_q}
use Rattle.min_plus.specs.closure_laws.Star.{origin}
use Rattle.min_plus.specs.closure_laws.ClosureLaws.{IsLattice}
use Rattle.subadd_closure.specs.ElementCurves.{point_at_zero}

-- n c at n d for each natural n
abbrev pub lattice_curve : ℚ → ℚ → SpecCurve
lattice_curve d c = record {
  pieces = record { x = zero_q; at = Fin zero_q; line = None } ∷ [];
  tail = Periodic zero_q d c;
}

-- 0 at 0
abbrev pub origin_curve : SpecCurve
origin_curve = point_at_zero zero_q

-- the two curves have those values
pub record LatticeValues : Type 0 where
  pub lattice : (d c : ℚ) → zero_q <ℚ d → IsLattice d c (value_at (lattice_curve d c))
  pub origin : (t : ℚ) → zero_q ≤ℚ t → value_at origin_curve t ≡ origin t
