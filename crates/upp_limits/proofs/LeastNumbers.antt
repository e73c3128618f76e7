-- Least numbers are unique.
use Rattle.std.specs.Prelude.{◌≡◌, ℕ}
use Rattle.std.proofs.Common.{arith, inl, inr}
use Rattle.std.proofs.lemmas.Bool.{cases_lt}
use Rattle.upp_limits.specs.Windows.{IsLeast}

pub least_unique : (P : ℕ → Type 0) (i j : ℕ) → IsLeast P i → IsLeast P j → i ≡ j
least_unique P i j h k = elim (cases_lt i j) [
  | inl l ↦ absurd (k.least i l h.meets)
  | inr l ↦ elim (cases_lt j i) [
    | inl m ↦ absurd (h.least j m k.meets)
    | inr m ↦ omega arith
  ]
]
