-- What a number by its words is, word by word from the lowest or from the highest.
use Rattle.std.proofs.Common.{◌≡◌, ℕ, zero, suc, ◌+◌, ◌-◌, ◌*◌, ◌/◌, ◌%◌, ◌^◌, ◌<◌, ◌≤◌, List, [], ◌∷◌, ◌++◌, length, get_or, drop, sym, ap, ◌∙◌, subst, arith}
use Rattle.std.specs.Prelude.{reverse}
use Rattle.std.proofs.lemmas.List.{drop_more, drop_all, reverse-append}
use Rattle.std.proofs.Math.Nat.{pow-suc}
use Rattle.std.proofs.lemmas.Grind.{pow_more}
use Rattle.fraction128.specs.wide_sums.Words.{number}

-- ---- from the lowest
pub number_at : (ws : List ℕ) (i w : ℕ) → i < length ws → get_or ws i 0 ≡ w → number (drop i ws) ≡ w + 2 ^ 64 * number (drop (i + 1) ws)
number_at ws i w h is = ap number (drop_more ws i 0 h) ∙ ap (λ x. x + 2 ^ 64 * number (drop (i + 1) ws)) is

pub number_past : (ws : List ℕ) (i : ℕ) → length ws ≤ i → number (drop i ws) ≡ 0
number_past ws i h = ap number (drop_all i ws h)

pub word_past : (ws : List ℕ) (i : ℕ) → length ws ≤ i → number (drop i ws) ≡ 0 + 2 ^ 64 * number (drop (i + 1) ws)
word_past ws i h =
    let here = number_past ws i h in
    let next = number_past ws (i + 1) (omega (arith, h)) in
    omega (arith, here, next)

-- the lowest word of what is left goes to the end
pub pushed : (ws : List ℕ) (w r q : ℕ) → r ≡ w + 2 ^ 64 * q
    → number (ws ++ w ∷ []) + (2 ^ 64) ^ length (ws ++ w ∷ []) * q ≡ number ws + (2 ^ 64) ^ length ws * r
pushed [] w r q e = omega (arith, e)
pushed (x ∷ xs) w r q e =
    let before = pushed xs w r q e in
    let one : (2 ^ 64) ^ suc (length xs) ≡ (2 ^ 64) ^ length xs * 2 ^ 64 = pow-suc (2 ^ 64) (length xs) in
    let two : (2 ^ 64) ^ suc (length (xs ++ w ∷ [])) ≡ (2 ^ 64) ^ length (xs ++ w ∷ []) * 2 ^ 64 = pow-suc (2 ^ 64) (length (xs ++ w ∷ [])) in
    rw (one, two) (omega (arith, before))

-- a number times a factor, and another one more: a word more
pub record Grown (ws ms : List ℕ) (i f carry p q w above : ℕ) : Type 0 where
  pub own : number (drop i ws) ≡ p + 2 ^ 64 * number (drop (i + 1) ws)
  pub other : number (drop i ms) ≡ q + 2 ^ 64 * number (drop (i + 1) ms)
  pub value : p * f + carry + q ≡ w + 2 ^ 64 * above

pub times_step : (all ws ms : List ℕ) (i f carry p q w above : ℕ) → Grown ws ms i f carry p q w above
    → number (all ++ w ∷ []) + (2 ^ 64) ^ length (all ++ w ∷ []) * (above + number (drop (i + 1) ws) * f + number (drop (i + 1) ms))
    ≡ number all + (2 ^ 64) ^ length all * (carry + number (drop i ws) * f + number (drop i ms))
times_step all ws ms i f carry p q w above g =
    let own = ap (λ n. n * f) g.own in
    let other = g.other in
    let value = g.value in
    pushed all w (carry + number (drop i ws) * f + number (drop i ms)) (above + number (drop (i + 1) ws) * f + number (drop (i + 1) ms))
    (omega (arith, own, other, value))

-- ---- from the highest
pub number_rest : (ws : List ℕ) (i : ℕ) → number (drop i ws) ≤ number ws
number_rest ws zero = omega arith
number_rest [] (suc i) = omega arith
number_rest (w ∷ ws) (suc i) = let h = number_rest ws i in omega (arith, h)

pub number_above : (ws : List ℕ) (i : ℕ) → 0 < i → 2 ^ 64 * number (drop i ws) ≤ number ws
number_above ws zero h = absurd (omega (arith, h))
number_above [] (suc i) h = omega arith
number_above (w ∷ ws) (suc i) h = let k = number_rest ws i in omega (arith, k)

-- one place lower
pub lower : (ws : List ℕ) (i w : ℕ) → 0 < i → i ≤ length ws → w ≡ get_or ws (i - 1) 0 → number (drop (i - 1) ws) ≡ w + 2 ^ 64 * number (drop i ws)
lower ws i w some h is =
    let back : i - 1 + 1 ≡ i = omega (arith, some) in
    subst (λ k. number (drop (i - 1) ws) ≡ w + 2 ^ 64 * number (drop k ws)) back (number_at ws (i - 1) w (omega (arith, some, h)) (sym is))

pub reversed_end : (ws : List ℕ) (w : ℕ) → number (reverse (ws ++ w ∷ [])) ≡ w + 2 ^ 64 * number (reverse ws)
reversed_end ws w = ap number (reverse-append ws (w ∷ []))

-- long division: a word more
pub divided_more : (qs ys : List ℕ) (whole above by rest w q left : ℕ) → ys ≡ qs ++ q ∷ [] → whole ≡ w + 2 ^ 64 * above
    → above ≡ by * number (reverse qs) + rest → 2 ^ 64 * rest + w ≡ by * q + left → whole ≡ by * number (reverse ys) + left
divided_more qs ys whole above by rest w q left next here before step =
    let last : number (reverse ys) ≡ q + 2 ^ 64 * number (reverse qs) = ap (λ zs. number (reverse zs)) next ∙ reversed_end qs q in
    rw last (omega (arith, here, before, step))

-- and within a word bit by bit: k bits went before
pub bit_goes : (k by q rest left x r : ℕ) → 2 ^ k * x ≡ 2 ^ 64 * (by * q + rest) + left → by ≤ 2 * rest + left / 2 ^ 63 → r ≡ 2 * rest + left / 2 ^ 63 - by
    → 2 ^ (k + 1) * x ≡ 2 ^ 64 * (by * (q * 2 + 1) + r) + 2 * (left % 2 ^ 63)
bit_goes k by q rest left x r before goes is =
    let power : 2 ^ (k + 1) ≡ 2 ^ k * 2 = pow_more 2 k in
    rw power (omega (arith, before, goes, is))

pub bit_stays : (k by q rest left x r : ℕ) → 2 ^ k * x ≡ 2 ^ 64 * (by * q + rest) + left → r ≡ 2 * rest + left / 2 ^ 63
    → 2 ^ (k + 1) * x ≡ 2 ^ 64 * (by * (q * 2) + r) + 2 * (left % 2 ^ 63)
bit_stays k by q rest left x r before is =
    let power : 2 ^ (k + 1) ≡ 2 ^ k * 2 = pow_more 2 k in
    rw power (omega (arith, before, is))

pub bits_done : (k by q rest left x : ℕ) → k ≡ 64 → left < 2 ^ 64 → 2 ^ k * x ≡ 2 ^ 64 * (by * q + rest) + left → x ≡ by * q + rest
bits_done k by q rest left x all less is =
    let end = subst (λ n. 2 ^ n * x ≡ 2 ^ 64 * (by * q + rest) + left) all is in
    omega (arith, end, less)

pub short_more : (k q r : ℕ) → q < 2 ^ k → r ≤ q * 2 + 1 → r < 2 ^ (k + 1)
short_more k q r short is =
    let power : 2 ^ (k + 1) ≡ 2 ^ k * 2 = pow_more 2 k in
    rw power (omega (arith, short, is))

-- ---- one word
-- what a word makes of a factor that is taken apart
pub word_grows : (w f carry more low high : ℕ) → low ≡ w * (f % 2 ^ 64) + carry % 2 ^ 64 + more → high ≡ w * (f / 2 ^ 64) + carry / 2 ^ 64
    → w * f + carry + more ≡ low % 2 ^ 64 + 2 ^ 64 * (high + low / 2 ^ 64)
word_grows w f carry more low high is above =
    let parts : f ≡ 2 ^ 64 * (f / 2 ^ 64) + f % 2 ^ 64 = omega arith in
    let times = ap (λ k. w * k) parts in
    omega (arith, times, is, above)

-- ---- a carry after the words: none, one word, two words
pub carry_none : (ws : List ℕ) (k : ℕ) → k ≤ 0 → number ws ≡ number ws + (2 ^ 64) ^ length ws * k
carry_none ws k h = let none : k ≡ 0 = omega (arith, h) in rw none (omega arith)

pub carry_one : (ws ys : List ℕ) (k : ℕ) → k < 2 ^ 64 → ys ≡ ws ++ k % 2 ^ 64 ∷ [] → number ys ≡ number ws + (2 ^ 64) ^ length ws * k
carry_one ws ys k h is =
    let w = k % 2 ^ 64 in
    let all = pushed ws w k (k / 2 ^ 64) (let e : k ≡ w + 2 ^ 64 * (k / 2 ^ 64) = omega arith in e) in
    let none = ap (λ q. (2 ^ 64) ^ length (ws ++ w ∷ []) * q) (let z : k / 2 ^ 64 ≡ 0 = omega (arith, h) in z) in
    let new = ap number is in
    omega (arith, all, none, new)

pub carry_two : (ws xs ys : List ℕ) (k : ℕ) → xs ≡ ws ++ k % 2 ^ 64 ∷ [] → ys ≡ xs ++ k / 2 ^ 64 ∷ [] → number ys ≡ number ws + (2 ^ 64) ^ length ws * k
carry_two ws xs ys k first second =
    let w = k % 2 ^ 64 in
    let q = k / 2 ^ 64 in
    let low = pushed ws w k q (let e : k ≡ w + 2 ^ 64 * q = omega arith in e) in
    let high = pushed xs q q 0 (let e : q ≡ q + 2 ^ 64 * 0 = omega arith in e) in
    let before = ap (λ zs. number zs + (2 ^ 64) ^ length zs * q) first in
    let new = ap number second in
    omega (arith, low, high, before, new)
