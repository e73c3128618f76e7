-- Finite values are no infinity, and are one where they are equal. (Both belong to rational.)
use Rattle.std.specs.Prelude.{◌≡◌, Bool, true, false}
use Rattle.std.proofs.Common.{ap, true≢false}
use Rattle.rational.specs.Rational.{ℚ}
use Rattle.rational.specs.Extended.{Ext}
use Rattle.rational.specs.declared.Extended.TheVariants.{Fin, Inf}

pub no_inf : {x : ℚ} → Fin x ≡ Inf → ⊥
no_inf {x} e = true≢false (ap is_fin e)
  where
    is_fin : Ext → Bool
    is_fin (Fin y) = true
    is_fin Inf = false
