-- Quotients rounded up.
use Rattle.std.specs.Prelude.{ℕ, ◌+◌, ◌*◌, ◌<◌, ◌≤◌}
use Rattle.std.proofs.Common.{arith, inl, inr}
use Rattle.std.specs.Int.{div_ceil}
use Rattle.std.proofs.lemmas.Bool.{cases_lt}
use Rattle.std.proofs.lemmas.Grind.{div_ceil_times}
use Rattle.std.proofs.Math.Nat.{mul-le-mul_right}

pub ceil_most : (n d q : ℕ) → 0 < d → n ≤ q * d → div_ceil n d ≤ q
ceil_most n d q some h = elim (cases_lt q (div_ceil n d)) [
  | inr l ↦ l
  | inl l ↦
      let a : div_ceil n d * d < n + d = (div_ceil_times n d some).1 in
      let b : (q + 1) * d ≤ div_ceil n d * d = mul-le-mul_right d (omega (arith, l)) in
      absurd (omega (arith, a, b, h))
]

pub ceil_order : (n m d : ℕ) → 0 < d → n ≤ m → div_ceil n d ≤ div_ceil m d
ceil_order n m d some h = let a : m ≤ div_ceil m d * d = (div_ceil_times m d some).0 in ceil_most n d (div_ceil m d) some (omega (arith, a, h))
