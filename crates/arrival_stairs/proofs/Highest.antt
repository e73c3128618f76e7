-- What bundles bring by the end, at most: what they bring at 0, and a frame a jump.
use Rattle.std.specs.Prelude.{◌≡◌, ℕ, ◌+◌, ◌*◌, ◌/◌, ◌^◌, ◌<◌, ◌≤◌, List, [], ◌∷◌, All, length, get_or, Option, Some, None, IfSome}
use Rattle.std.proofs.Common.{arith, ap, refl}
use Rattle.std.specs.List.{sum_by}
use Rattle.std.proofs.lemmas.List.Elements.{All-head, All-tail}
use Rattle.std.proofs.lemmas.List.Sums.{sum_by-cons, get_or-le-sum_by}
use Rattle.std.proofs.Math.Nat.{mul-le-mul_right}
use Rattle.arrival_lines.specs.Steps.{burst_with, rate_with, most_burst, most_rate}
use Rattle.arrival_lines.specs.declared.grid.Line.{Line}
use Rattle.arrival_stairs.specs.Jumps.{stair_jump_count, bundle_jump_count, jump_count}
use Rattle.arrival_stairs.specs.Stairs.{stair_level, bundle_level, bundle_part, levels_at, IsStair, AreBundles}
use Rattle.arrival_stairs.specs.Turns.{burst_until, rate_until, flat_line, IsSmallLine}
use Rattle.arrival_stairs.specs.declared.stairs.Bundle.{Bundle}
use Rattle.arrival_stairs.specs.declared.stairs.Stair.{Stair}
use Rattle.arrival_stairs.proofs.Risen.{later_quotient}

-- ---- of a stair, and of some
stair_most : (end : ℕ) (s : Stair) → IsStair s → stair_level end s ≤ stair_level 0 s + stair_jump_count end s * 2 ^ 35
stair_most end s is =
    let z : 0 + s.jitter ≡ s.jitter = omega arith in
    let e = ap (λ m. m / s.gap) z in
    let h = later_quotient s.jitter (end + s.jitter) s.gap is.some_gap (omega arith) in
    let f : (end + s.jitter) / s.gap + 1 ≡ ((0 + s.jitter) / s.gap + 1) + stair_jump_count end s = omega (arith, e, h) in
    let g = ap (λ m. s.frame * m) f in
    let small = is.frame in
    let k : s.frame * stair_jump_count end s ≤ 2 ^ 35 * stair_jump_count end s = mul-le-mul_right (stair_jump_count end s) (omega (arith, small)) in
    omega (arith, g, k)

stairs_most : (end : ℕ) (stairs : List Stair) → All IsStair stairs → sum_by (stair_level end) stairs ≤ sum_by (stair_level 0) stairs + sum_by (stair_jump_count end) stairs * 2 ^ 35
stairs_most end [] all = omega arith
stairs_most end (s ∷ ss) all =
    let a = stair_most end s (All-head IsStair s ss all) in
    let b = stairs_most end ss (All-tail IsStair s ss all) in
    let e = sum_by-cons (stair_level end) s ss in
    let f = sum_by-cons (stair_level 0) s ss in
    let g = sum_by-cons (stair_jump_count end) s ss in
    omega (arith, a, b, e, f, g)

-- ---- of bundles
burst_more : (a b d : ℕ) (pace : Option Line) → a ≤ b + d → burst_with (flat_line a) pace ≤ burst_with (flat_line b) pace + d
burst_more a b d None h = omega (arith, h)
burst_more a b d (Some pace) h = omega (arith, h)

same_rate : (a b : ℕ) (pace : Option Line) → rate_with (flat_line a) pace ≡ rate_with (flat_line b) pace
same_rate a b None = refl
same_rate a b (Some pace) = refl

bursts_most : (end : ℕ) (bundles : List Bundle) → All (λ b. All IsStair b.stairs.items) bundles
    → sum_by (burst_until end) bundles ≤ sum_by most_burst (levels_at bundles 0) + jump_count end bundles * 2 ^ 35
bursts_most end [] all = omega arith
bursts_most end (b ∷ bs) all =
    let a = stairs_most end b.stairs.items (All-head (λ (c : Bundle). All IsStair c.stairs.items) b bs all) in
    let h = burst_more (bundle_level end b) (bundle_level 0 b) (bundle_jump_count end b * 2 ^ 35) b.pace a in
    let c = bursts_most end bs (All-tail (λ (c : Bundle). All IsStair c.stairs.items) b bs all) in
    let e = sum_by-cons (burst_until end) b bs in
    let f = sum_by-cons most_burst (bundle_part 0 b) (levels_at bs 0) in
    let g = sum_by-cons (bundle_jump_count end) b bs in
    omega (arith, h, c, e, f, g)

rates_same : (end : ℕ) (bundles : List Bundle) → sum_by (rate_until end) bundles ≡ sum_by most_rate (levels_at bundles 0)
rates_same end [] = refl
rates_same end (b ∷ bs) =
    let h = same_rate (bundle_level end b) (bundle_level 0 b) b.pace in
    let c = rates_same end bs in
    let e = sum_by-cons (rate_until end) b bs in
    let f = sum_by-cons most_rate (bundle_part 0 b) (levels_at bs 0) in
    omega (arith, h, c, e, f)

pub bursts_small : (end : ℕ) (bundles : List Bundle) → AreBundles bundles → jump_count end bundles ≤ 2 ^ 20 → sum_by (burst_until end) bundles < 2 ^ 62
bursts_small end bundles are few =
    let a = bursts_most end bundles are.stairs in
    let b = are.bursts in
    omega (arith, a, b, few)

pub rates_small : (end : ℕ) (bundles : List Bundle) → AreBundles bundles → sum_by (rate_until end) bundles < 2 ^ 62
rates_small end bundles are =
    let a = rates_same end bundles in
    let b = are.rates in
    omega (arith, a, b)

-- ---- of one of them
level_within : (level : ℕ) (pace : Option Line) → level ≤ burst_with (flat_line level) pace
level_within level None = omega arith
level_within level (Some pace) = omega arith

pub level_small : (end : ℕ) (bundles : List Bundle) (i : ℕ) (d : Bundle) → i < length bundles → AreBundles bundles → jump_count end bundles ≤ 2 ^ 20
    → bundle_level end (get_or bundles i d) < 2 ^ 62
level_small end bundles i d inside are few =
    let a = bursts_small end bundles are few in
    let b = get_or-le-sum_by (burst_until end) bundles i d inside in
    let c = level_within (bundle_level end (get_or bundles i d)) (get_or bundles i d).pace in
    omega (arith, a, b, c)

small_by_most : (level : ℕ) (pace : Option Line) → burst_with (flat_line level) pace < 2 ^ 62 → rate_with (flat_line level) pace < 2 ^ 62 → IfSome pace IsSmallLine
small_by_most level None b r = tt
small_by_most level (Some pace) b r = record { burst = omega (arith, b); rate = omega (arith, r) }

pub pace_small : (end : ℕ) (bundles : List Bundle) (i : ℕ) (d : Bundle) → i < length bundles → AreBundles bundles → jump_count end bundles ≤ 2 ^ 20
    → IfSome (get_or bundles i d).pace IsSmallLine
pace_small end bundles i d inside are few =
    let a = bursts_small end bundles are few in
    let b = rates_small end bundles are in
    let e = get_or-le-sum_by (burst_until end) bundles i d inside in
    let f = get_or-le-sum_by (rate_until end) bundles i d inside in
    small_by_most (bundle_level end (get_or bundles i d)) (get_or bundles i d).pace (omega (arith, a, e)) (omega (arith, b, f))
