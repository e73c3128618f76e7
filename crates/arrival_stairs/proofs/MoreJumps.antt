-- Bundles do not jump less often up to a later time.
use Rattle.std.specs.Prelude.{ℕ, ◌+◌, ◌*◌, ◌/◌, ◌<◌, ◌≤◌, List, [], ◌∷◌, All}
use Rattle.std.proofs.Common.{arith, inl, inr}
use Rattle.std.specs.List.{sum_by}
use Rattle.std.proofs.lemmas.Bool.{cases_lt}
use Rattle.std.proofs.lemmas.List.Elements.{All-head, All-tail}
use Rattle.std.proofs.lemmas.List.Sums.{sum_by-cons}
use Rattle.std.proofs.Math.Nat.{le-div_iff_mul-le, div-mul-le_self}
use Rattle.arrival_stairs.specs.Jumps.{stair_jump_count, bundle_jump_count, jump_count}
use Rattle.arrival_stairs.specs.Stairs.{IsStair}
use Rattle.arrival_stairs.specs.declared.stairs.Bundle.{Bundle}
use Rattle.arrival_stairs.specs.declared.stairs.Stair.{Stair}

stair_more : (s : Stair) (m n : ℕ) → IsStair s → m ≤ n → stair_jump_count m s ≤ stair_jump_count n s
stair_more s m n is h =
    let a : (m + s.jitter) / s.gap * s.gap ≤ m + s.jitter = div-mul-le_self (m + s.jitter) s.gap in
    let b : (m + s.jitter) / s.gap ≤ (n + s.jitter) / s.gap = (le-div_iff_mul-le is.some_gap).1 (omega (arith, a, h)) in
    omega (arith, b)

stairs_more : (ss : List Stair) (m n : ℕ) → All IsStair ss → m ≤ n → sum_by (stair_jump_count m) ss ≤ sum_by (stair_jump_count n) ss
stairs_more [] m n all h = omega arith
stairs_more (s ∷ ss) m n all h =
    let a = stair_more s m n (All-head IsStair s ss all) h in
    let b = stairs_more ss m n (All-tail IsStair s ss all) h in
    let c = sum_by-cons (stair_jump_count m) s ss in
    let d = sum_by-cons (stair_jump_count n) s ss in
    omega (arith, a, b, c, d)

pub jumps_more : (bundles : List Bundle) (m n : ℕ) → All (λ b. All IsStair b.stairs.items) bundles → m ≤ n → jump_count m bundles ≤ jump_count n bundles
jumps_more [] m n all h = omega arith
jumps_more (b ∷ bs) m n all h =
    let a = stairs_more b.stairs.items m n (All-head (λ c. All IsStair c.stairs.items) b bs all) h in
    let e = jumps_more bs m n (All-tail (λ c. All IsStair c.stairs.items) b bs all) h in
    let c = sum_by-cons (bundle_jump_count m) b bs in
    let d = sum_by-cons (bundle_jump_count n) b bs in
    omega (arith, a, e, c, d)

more_than : (a b : ℕ) → (a ≤ b → ⊥) → b < a
more_than a b h = elim (cases_lt b a) [ inl l ↦ l | inr l ↦ absurd (h l) ]

-- nor from the first time on at which they are many
pub many_from : (bundles : List Bundle) (m n limit : ℕ) → All (λ b. All IsStair b.stairs.items) bundles → (jump_count m bundles ≤ limit → ⊥) → m ≤ n
    → limit < jump_count n bundles
many_from bundles m n limit all many h =
    let a = more_than (jump_count m bundles) limit many in
    let b = jumps_more bundles m n all h in
    omega (arith, a, b)
