-- A product by halves of 64 bits, and by digits of 128 bits.
use Rattle.std.specs.Prelude.{◌≡◌, ℕ, ◌+◌, ◌*◌, ◌^◌}
use Rattle.std.proofs.Common.{arith, ap}

-- the four products of halves, each with what the one before carries
halves_poly : (B a0 a1 m0 m1 c0 c1 p0 p1 q0 q1 r0 r1 s0 s1 : ℕ)
    → p0 + B * p1 ≡ a0 * m0 + c0 → q0 + B * q1 ≡ a0 * m1 + p1 + c1 → r0 + B * r1 ≡ a1 * m0 + q0 → s0 + B * s1 ≡ a1 * m1 + q1 + r1
    → (p0 + B * r0) + B * B * (s0 + B * s1) ≡ (a0 + B * a1) * (m0 + B * m1) + (c0 + B * c1)
halves_poly B a0 a1 m0 m1 c0 c1 p0 p1 q0 q1 r0 r1 s0 s1 p q r s =
    omega (arith, ap (λ n. B * n) q, ap (λ n. B * n) r, ap (λ n. B * (B * n)) s)

pub by_halves : (a m c a0 a1 m0 m1 c0 c1 p0 p1 q0 q1 r0 r1 s0 s1 low high : ℕ)
    → a0 + 2 ^ 64 * a1 ≡ a → m0 + 2 ^ 64 * m1 ≡ m → c0 + 2 ^ 64 * c1 ≡ c
    → p0 + 2 ^ 64 * p1 ≡ a0 * m0 + c0 + 0 → q0 + 2 ^ 64 * q1 ≡ a0 * m1 + p1 + c1 → r0 + 2 ^ 64 * r1 ≡ a1 * m0 + q0 + 0 → s0 + 2 ^ 64 * s1 ≡ a1 * m1 + q1 + r1
    → low ≡ p0 + 2 ^ 64 * r0 → high ≡ s0 + 2 ^ 64 * s1 → low + 2 ^ 128 * high ≡ a * m + c
by_halves a m c a0 a1 m0 m1 c0 c1 p0 p1 q0 q1 r0 r1 s0 s1 low high ea em ec p q r s l h =
    let e = halves_poly (2 ^ 64) a0 a1 m0 m1 c0 c1 p0 p1 q0 q1 r0 r1 s0 s1 (omega arith) q (omega arith) s in
    rw (l, h, ← ea, ← em, ← ec) e
