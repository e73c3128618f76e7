-- What bundles bring at 0.
use Rattle.std.specs.Prelude.{◌≡◌, ℕ, ◌+◌, ◌^◌, ◌<◌, ◌≤◌, List, [], ◌∷◌, length, get_or, take, Option, Some, None}
use Rattle.std.proofs.Common.{arith, ap}
use Rattle.std.specs.List.{sum_by}
use Rattle.std.proofs.lemmas.List.{get_or-map, length-map}
use Rattle.std.proofs.lemmas.List.Sums.{sum_by_more_le, get_or-le-sum_by}
use Rattle.arrival_lines.specs.Steps.{burst_with, most_burst}
use Rattle.arrival_lines.specs.declared.grid.Line.{Line}
use Rattle.arrival_heights.proofs.Small.{no_part}
use Rattle.arrival_stairs.specs.Stairs.{stair_level, bundle_level, bundle_part, levels_at, AreBundles}
use Rattle.arrival_stairs.specs.declared.stairs.Bundle.{Bundle}
use Rattle.arrival_stairs.specs.declared.stairs.Stair.{Stair}

abbrev pub no_stair : Stair
no_stair = record { frame = 0; gap = 0; jitter = 0 }

-- where there is a bundle there is a first
pub some_bundle : (bundles : List Bundle) (p : ℕ) → p < length bundles → Bundle
some_bundle [] p h = absurd (omega (arith, h))
some_bundle (b ∷ bs) p h = b

-- ---- of one bundle
pub start_fits : (stairs : List Stair) (i level : ℕ) → i < length stairs → sum_by (stair_level 0) stairs < 2 ^ 62 → level ≡ sum_by (stair_level 0) (take i stairs)
    → level + stair_level 0 (get_or stairs i no_stair) < 2 ^ 62
start_fits stairs i level inside small e = let more = sum_by_more_le (stair_level 0) stairs i no_stair inside in omega (arith, more, e, small)

-- ---- of all
pub burst_within : (level : ℕ) (pace : Option Line) → level ≤ burst_with record { burst = level; rate = 0 } pace
burst_within level None = omega arith
burst_within level (Some p) = omega arith

pub level_small : (bundles : List Bundle) (i : ℕ) (d : Bundle) → i < length bundles → AreBundles bundles → bundle_level 0 (get_or bundles i d) < 2 ^ 61
level_small bundles i d inside are =
    let b = get_or bundles i d in
    let e : get_or (levels_at bundles 0) i no_part ≡ bundle_part 0 b = get_or-map (bundle_part 0) bundles i d no_part inside in
    let l = length-map bundles (bundle_part 0) in
    let one = get_or-le-sum_by most_burst (levels_at bundles 0) i no_part (omega (arith, l, inside)) in
    let f = ap most_burst e in
    let w = burst_within (bundle_level 0 b) b.pace in
    let s = are.bursts in
    omega (arith, one, f, w, s)
