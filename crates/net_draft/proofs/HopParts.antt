-- The parts of a path entry.
use Rattle.std.specs.List.{position}
use Rattle.std.specs.Str.{IsCharBoundary}
use Rattle.std.proofs.Common.{◌≡◌, ℕ, ◌-◌, ◌^◌, ◌==◌, ◌<◌, min, true, List, get_or, Some, Ok, refl, sym, subst, arith, ◌∙◌}
use Rattle.std.proofs.lemmas.Bool.Decides.{nat_tests}
use Rattle.std.proofs.lemmas.List.Quantifiers.{position-Some}
use Rattle.std.proofs.lemmas.Str.{IsCharBoundary-before_ascii}
use Rattle.std.specs.Str.Parse.{digits_value}
use Rattle.rational.specs.Gauge.{cap}
use Rattle.fraction128.specs.Text.{is_numeral}
use Rattle.net_draft.specs.Hops.{HopText, hop_parts, is_colon}
use Rattle.net_draft.specs.Values.{is_name}

-- the lesser of two limits is what counts
capped : (n v : ℕ) → n ≡ cap v → min n (2 ^ 32 - 1) ≡ min v (2 ^ 32 - 1)
unfolding cap
capped n v e = omega (arith, e)

pub parts_are : (name digits : List ℕ) (n q : ℕ) → is_name name ≡ true → is_numeral digits ≡ true → n ≡ cap (digits_value 10 digits) → q ≡ min n (2 ^ 32 - 1)
    → Ok (let h : HopText = record { name = name; queue = q } in h) ≡ hop_parts name digits
parts_are name digits n q a b e f = rw (a, b, f ∙ capped n (digits_value 10 digits) e) refl

colon_is_ascii : (b : ℕ) → (b == 58) ≡ true → b < 128
colon_is_ascii b h = grind (arith, nat_tests)

-- a text may be cut before its first colon
pub before_colon : (text bytes : List ℕ) (at : ℕ) → bytes ≡ text → Some at ≡ position is_colon bytes → IsCharBoundary text at
before_colon text bytes at same found =
    let p = position-Some is_colon bytes at 0 (sym found) in
    subst (λ t. IsCharBoundary t at) same (IsCharBoundary-before_ascii bytes at p.0 (colon_is_ascii (get_or bytes at 0) p.1))
