-- Bundles do not jump up to 0.
use Rattle.std.specs.Prelude.{◌≡◌, ◌+◌, ◌/◌, List, [], ◌∷◌}
use Rattle.std.proofs.Common.{arith, ap, refl}
use Rattle.std.specs.List.{sum_by}
use Rattle.std.proofs.lemmas.List.Sums.{sum_by-cons}
use Rattle.arrival_stairs.specs.Jumps.{stair_jump_count, bundle_jump_count, jump_count}
use Rattle.arrival_stairs.specs.declared.stairs.Bundle.{Bundle}
use Rattle.arrival_stairs.specs.declared.stairs.Stair.{Stair}

no_stair_jumps : (s : Stair) → stair_jump_count 0 s ≡ 0
no_stair_jumps s = let z : 0 + s.jitter ≡ s.jitter = omega arith in let e = ap (λ m. m / s.gap) z in omega (arith, e)

none_of : (stairs : List Stair) → sum_by (stair_jump_count 0) stairs ≡ 0
none_of [] = refl
none_of (s ∷ ss) =
    let a = no_stair_jumps s in
    let b = none_of ss in
    let e = sum_by-cons (stair_jump_count 0) s ss in
    omega (arith, a, b, e)

pub none_at_0 : (bundles : List Bundle) → jump_count 0 bundles ≡ 0
none_at_0 [] = refl
none_at_0 (b ∷ bs) =
    let a = none_of b.stairs.items in
    let c = none_at_0 bs in
    let e = sum_by-cons (bundle_jump_count 0) b bs in
    omega (arith, a, c, e)
