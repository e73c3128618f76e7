-- Whole numbers as rationals, and the sizes of packets.
use Rattle.std.specs.Prelude.{◌≡◌, ℕ, suc, ◌+◌, ◌*◌, ◌≤◌, pos}
use Rattle.std.proofs.Common.{arith, sym}
use native.Mathlib.Nat.{mul-le-mul_right}
use Rattle.rational.specs.Rational.{int, ◌+ℚ◌, ◌*ℚ◌, ◌≤ℚ◌, ◌<ℚ◌}
use Rattle.rational.proofs.Linear.{with1, with2, with3}
use Rattle.rational.proofs.Integers.{int_mul}
use Rattle.run_laws.specs.Cards.{Card, whole, size}

pub whole_nonneg : (n : ℕ) → int (pos 0) ≤ℚ whole n
whole_nonneg n = with1 (whole n) (λ k. omega (arith, k.le, k.lt, k.same))

pub whole_le : (m n : ℕ) → m ≤ n → whole m ≤ℚ whole n
whole_le m n h = with2 (whole m) (whole n) (λ c. omega (arith, c.le, c.lt, c.same, mul-le-mul_right (suc c.low) h))

pub whole_lt : (m n : ℕ) → suc m ≤ n → whole m <ℚ whole n
whole_lt m n h = with2 (whole m) (whole n) (λ c. omega (arith, c.le, c.lt, c.same, mul-le-mul_right (suc c.low) h))

pub whole_sum : (m n : ℕ) → whole (m + n) ≡ whole m +ℚ whole n
whole_sum m n = with3 (whole m) (whole n) (whole (m + n)) (λ c. omega (arith, c.le, c.lt, c.same))

pub whole_times : (m n : ℕ) → whole (m * n) ≡ whole m *ℚ whole n
whole_times m n = sym (int_mul (pos m) (pos n))

pub size_nonneg : (c : Card) → int (pos 0) ≤ℚ size c
size_nonneg c = whole_nonneg c.bits

pub size_pos : (c : Card) → 1 ≤ c.bits → int (pos 0) <ℚ size c
size_pos c h = whole_lt 0 c.bits h

pub size_most : (c : Card) (bits : ℕ) → c.bits ≤ bits → size c ≤ℚ whole bits
size_most c bits h = whole_le c.bits bits h
