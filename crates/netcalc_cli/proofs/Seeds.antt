-- The number of a workload that a word writes.
use Rattle.std.proofs.Common.{◌≡◌, ℕ, ◌^◌, ◌-◌, ◌≤◌, ◌<◌, nat_lt, min, Bool, true, false, List, Option, Some, None}
use Rattle.std.proofs.Common.{refl, sym, ap, ◌∙◌, subst, arith}
use Rattle.std.specs.Str.Parse.{digits_value}
use Rattle.std.proofs.lemmas.Bool.Decides.{nat_tests}
use Rattle.rational.specs.Gauge.{cap}
use Rattle.fraction128.specs.Text.{is_numeral}
use Rattle.netcalc_cli.specs.Words.{in_64_bits, seed_of}

pub within : (n : ℕ) → n < 2 ^ 64 → Some n ≡ in_64_bits n
within n h = let e : nat_lt n (2 ^ 64) ≡ true = grind (arith, nat_tests) in rw e refl

pub past : (n : ℕ) → 2 ^ 64 ≤ n → None ≡ in_64_bits n
past n h = let e : nat_lt n (2 ^ 64) ≡ false = grind (arith, nat_tests) in rw e refl

-- a number that is kept below 2 ^ 128
capped_by : (v : ℕ) (b : Bool) → nat_lt v (2 ^ 64) ≡ b → in_64_bits (cap v) ≡ in_64_bits v
unfolding cap
capped_by v true e =
    let h : v < 2 ^ 64 = grind (arith, nat_tests) in
    let k : min v (2 ^ 128 - 1) ≡ v = omega (arith, h) in
    ap in_64_bits k
capped_by v false e =
    let h : 2 ^ 64 ≤ v = grind (arith, nat_tests) in
    let k : 2 ^ 64 ≤ min v (2 ^ 128 - 1) = omega (arith, h) in
    sym (past (min v (2 ^ 128 - 1)) k) ∙ past v h

pub seed_read : (word bytes : List ℕ) (n : ℕ) (r : Option ℕ) → bytes ≡ word → is_numeral bytes ≡ true
    → n ≡ cap (digits_value 10 bytes) → r ≡ in_64_bits n → r ≡ seed_of word
seed_read word bytes n r same numeral is r_is =
    let there : is_numeral word ≡ true = subst (λ w. is_numeral w ≡ true) same numeral in
    r_is ∙ ap in_64_bits is ∙ capped_by (digits_value 10 bytes) _ refl
    ∙ ap (λ w. in_64_bits (digits_value 10 w)) same ∙ rw there refl
