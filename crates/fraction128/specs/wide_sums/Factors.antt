-- Products of factors, and a number over one in lowest terms. Textbook.
use Rattle.std.specs.Prelude.{◌≡◌, ℕ, ◌*◌, ◌<◌, ◌^◌, List, [], ◌∷◌}
use Rattle.rational.specs.Gcd.{gcd}
use Rattle.rational.specs.Gauge.{Kept}

abbrev pub IsFactor : ℕ → Type 0
IsFactor f = (0 < f) × (f < 2 ^ 127)

abbrev pub product : List ℕ → ℕ
product [] = 1
product (f ∷ fs) = f * product fs

-- n / p is t / d in lowest terms, where b is d as far as a u128 can tell
pub record IsReduced (n p t b : ℕ) : Type 0 where
  pub bottom : ℕ
  pub kept : Kept b bottom
  pub same : n * bottom ≡ t * p
  pub lowest : gcd t bottom ≡ 1
