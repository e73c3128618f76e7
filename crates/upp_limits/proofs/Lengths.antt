-- How large a product is, told by how long its factors are.
use Rattle.std.specs.Prelude.{ℕ, ◌+◌, ◌*◌, ◌<◌, ◌≤◌, ◌^◌}
use Rattle.std.specs.Int.Count.{count_leading_zeros}
use Rattle.std.proofs.Common.{arith, sym, subst}
use Rattle.std.proofs.Math.Nat.{mul-le-mul, pow-le-pow_right}
use Rattle.std.proofs.lemmas.Nat.{leading_length, pow-add}

product_length : (a b i j : ℕ) → a ≤ 2 ^ i → b ≤ 2 ^ j → a * b ≤ 2 ^ (i + j)
product_length a b i j h k = subst (λ m. a * b ≤ m) (sym (pow-add 2 i j)) (mul-le-mul h k)

-- three numbers of 113 binary digits together, and six more
pub narrow_length : (a b c : ℕ) → a < 2 ^ 128 → b < 2 ^ 128 → c < 2 ^ 128 → 271 ≤ count_leading_zeros 128 a + count_leading_zeros 128 b + count_leading_zeros 128 c
    → 64 * (a * b * c) < 2 ^ 120
narrow_length a b c x y z h =
    let (i, p, l, _) = leading_length 128 a x in
    let (j, q, m, _) = leading_length 128 b y in
    let (k, r, n, _) = leading_length 128 c z in
    let two = product_length a b i j (omega (arith, l)) (omega (arith, m)) in
    let all = product_length (a * b) c (i + j) k two (omega (arith, n)) in
    let few : i + j + k ≤ 113 = omega (arith, p, q, r, h) in
    let most : 2 ^ (i + j + k) ≤ 2 ^ 113 = pow-le-pow_right (omega arith) few in
    omega (arith, all, most)

-- three numbers of 20 digits, the last one twice
pub coarse_product : (a b c : ℕ) → a < 2 ^ 20 → b < 2 ^ 20 → c < 2 ^ 20 → a * b * c * c < 2 ^ 128
coarse_product a b c x y z =
    let two = product_length a b 20 20 (omega (arith, x)) (omega (arith, y)) in
    let three = product_length (a * b) c 40 20 two (omega (arith, z)) in
    let four = product_length (a * b * c) c 60 20 three (omega (arith, z)) in
    omega (arith, four)
