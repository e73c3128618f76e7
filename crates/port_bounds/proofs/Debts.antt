-- The numbers of services fit 64 bits.
use Rattle.std.proofs.Common.{◌≡◌, ◌<◌, ◌≤◌, ◌+◌, ◌-◌, ◌*◌, ◌/◌, ◌^◌, ◌⊎◌, ℕ, arith, Option, Some, None, inl, inr}
use Rattle.std.specs.Int.{div_ceil}
use Rattle.std.proofs.Math.Nat.{mul-le-mul, mul-le-mul_left, div-le_of_le-mul}
use Rattle.arrival_lines.specs.declared.grid.Service.{Service}
use Rattle.tree_network.specs.declared.network.Gate.{Gate}
use Rattle.tree_network.specs.declared.network.Port.{Port}
use Rattle.tree_network.specs.Networks.{PortIsInRange, GateIsInRange, fastest, longest_time}
use Rattle.port_bounds.specs.Ports.{port_service, late_debt, closed_debt, rate_behind}

ceil_le : (n d m : ℕ) → n ≤ d * m → div_ceil n d ≤ m + 1
ceil_le n d m h =
    let q = div-le_of_le-mul d h in
    omega (arith, q)

-- ---- of a port
late_small : (port : Port) → PortIsInRange port → late_debt port ≤ 1024 * 10 ^ 15 + 1
unfolding fastest longest_time
late_small port range =
    let rate : port.rate ≤ 1024 * 10 ^ 12 = omega (arith, range.rate, range.pace) in
    ceil_le (port.rate * port.latency) (10 ^ 12) (1024 * 10 ^ 15) (mul-le-mul rate range.latency)

share_at_most : (rate part whole : ℕ) → part ≤ whole → rate * part / whole ≤ rate
share_at_most rate part whole h =
    let more : rate * part ≤ whole * rate = omega (arith, mul-le-mul_left rate h) in
    div-le_of_le-mul whole more

pub rate_at_most : (gate : Option Gate) (rate : ℕ) → GateIsInRange gate → rate_behind gate rate ≤ rate
rate_at_most None rate range = omega arith
rate_at_most (Some gate) rate range = share_at_most rate gate.slot gate.cycle range.1

closed_small : (gate : Option Gate) (rate : ℕ) → GateIsInRange gate → rate ≤ 1024 * 10 ^ 12 → closed_debt gate rate ≤ 1024 * 10 ^ 15 + 1
unfolding longest_time
closed_small None rate range h = omega arith
closed_small (Some gate) rate range h =
    let slower : rate * gate.slot / gate.cycle ≤ 1024 * 10 ^ 12 = omega (arith, share_at_most rate gate.slot gate.cycle range.1, h) in
    let closed : gate.cycle - gate.slot ≤ 10 ^ 15 = omega (arith, range.2) in
    ceil_le (rate * gate.slot / gate.cycle * (gate.cycle - gate.slot)) (10 ^ 12) (1024 * 10 ^ 15) (mul-le-mul slower closed)

pub own_rate_small : (port : Port) → PortIsInRange port → (port_service port).rate < 2 ^ 61
unfolding fastest
own_rate_small port range =
    let slower = rate_at_most port.gate port.rate range.gate in
    omega (arith, slower, range.rate, range.pace)

pub own_debt_small : (port : Port) → PortIsInRange port → (port_service port).debt < 2 ^ 61
unfolding fastest
own_debt_small port range =
    let late = late_small port range in
    let closed = closed_small port.gate port.rate range.gate (omega (arith, range.rate, range.pace)) in
    omega (arith, late, closed)

-- ---- of a share
-- what is owed, and the share of the debt
owed_small : (debt Q F l Λ : ℕ) → Q ≤ F → Λ ≤ 2 ^ 27 → F ≤ 2 ^ 27 → l ≤ Λ
    → debt * Q + 1024 * (Q * (Λ - l) + (F - Q) * (Q + l)) ≤ F * (debt + 2 ^ 40)
owed_small debt Q F l Λ part few all own =
    let first = mul-le-mul_left debt part in
    let others = mul-le-mul part (let h : Λ - l ≤ 2 ^ 27 = omega (arith, few) in h) in
    let visits = mul-le-mul (let h : F - Q ≤ F = omega arith in h) (let h : Q + l ≤ 2 ^ 28 = omega (arith, part, few, all, own) in h) in
    omega (arith, first, others, visits)

pub share_debt_small : (debt Q F l Λ : ℕ) → Q ≤ F → Λ ≤ 2 ^ 27 → F ≤ 2 ^ 27 → l ≤ Λ
    → div_ceil (debt * Q + 1024 * (Q * (Λ - l) + (F - Q) * (Q + l))) F ≤ debt + 2 ^ 40 + 1
share_debt_small debt Q F l Λ part few all own = ceil_le _ F (debt + 2 ^ 40) (owed_small debt Q F l Λ part few all own)

pub share_fits : (own : Service) (Q F l Λ owed : ℕ) → own.rate < 2 ^ 61 → own.debt < 2 ^ 61 → Q ≤ F → Λ ≤ 2 ^ 27 → F ≤ 2 ^ 27 → l ≤ Λ
    → owed ≡ 1024 * (Q * (Λ - l) + (F - Q) * (Q + l))
    → (2 ^ 64 ≤ own.rate * Q / F) ⊎ (2 ^ 64 ≤ div_ceil (own.debt * Q + owed) F) ⊎ (2 ^ 128 ≤ own.debt * Q + owed) → ⊥
share_fits own Q F l Λ owed rate debt part few all frame is (inl h) = omega (arith, share_at_most own.rate Q F part, h, rate)
share_fits own Q F l Λ owed rate debt part few all frame is (inr (inl h)) =
    let n = ceil_le (own.debt * Q + owed) F (own.debt + 2 ^ 40) (rw is (owed_small own.debt Q F l Λ part few all frame)) in
    omega (arith, n, h, debt)
share_fits own Q F l Λ owed rate debt part few all frame is (inr (inr h)) =
    let n : own.debt * Q + owed ≤ F * (own.debt + 2 ^ 40) = rw is (owed_small own.debt Q F l Λ part few all frame) in
    let m = mul-le-mul all (let k : own.debt + 2 ^ 40 ≤ 2 ^ 62 = omega (arith, debt) in k) in
    omega (arith, n, m, h)
