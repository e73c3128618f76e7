-- The numbers of a queue in a round: sums are small, and what is owed is a quotient of whole numbers.
use Rattle.std.specs.Prelude.{◌≡◌, ◌≢◌, ◌+◌, ◌-◌, ◌*◌, ◌<◌, ◌≤◌, ◌^◌, ℕ, zero, suc, ℤ, pos, List, length, sum, ◌↔◌, Result, Ok, Err, IsOk}
use Rattle.std.proofs.Common.{arith, sym, ap, ap₂, ◌∙◌, refl}
use Rattle.std.proofs.lemmas.List.Elements.{All-get_or, All-from_get_or}
use Rattle.std.proofs.lemmas.List.Sums.{sum_by-le}
use Rattle.rational.specs.Rational.{ℚ, ◌+ℚ◌, ◌-ℚ◌, ◌*ℚ◌, ◌/ℚ◌}
use Rattle.rational.specs.Ratio.{ratio, IsSmall}
use Rattle.rational.proofs.Parts.{small_ratio}
use Rattle.rational.proofs.Linear.{with3}
use Rattle.rational.proofs.Quotients.{frac_is_div}
use Rattle.run_laws.specs.Cards.{whole}
use Rattle.run_laws.proofs.Sizes.{whole_sum, whole_times}
use Rattle.fraction128.specs.declared.fault.FracFault.{FracFault}
use Rattle.fraction128.specs.declared.fault.FracFault.TheVariants.{ZeroDen, TooBig}
use Rattle.residuals.specs.calls.DrrCalls.{IsQuantum, AreQueues}
use Rattle.residual_laws.specs.DrrLaws.{owed}
use Rattle.residual_laws.proofs.Owed.{in_sum}

-- ---- sums
pub quanta_small : (quanta longest : List ℕ) → AreQueues quanta longest → sum quanta ≤ 2 ^ 27
quanta_small quanta longest q =
    let most : sum quanta ≤ length quanta * 2 ^ 24 = sum_by-le (λ x. x) (2 ^ 24) quanta
    (All-from_get_or (λ x. x ≤ 2 ^ 24) quanta 0 (λ i h. (All-get_or IsQuantum quanta i 0 h q.each).1)) in
    let few = q.few in
    omega arith

pub sum_some : (quanta longest : List ℕ) (i : ℕ) → AreQueues quanta longest → i < length quanta → 0 < sum quanta
sum_some quanta longest i q h =
    let own = (All-get_or IsQuantum quanta i 0 h q.each).0 in
    let within = in_sum quanta i h in
    omega arith

-- ---- quotients
-- the quotient of two numbers, as `ratio` has it
pub ratio_whole : (n d : ℕ) → 0 < d → ratio (pos n) (pos d) ≡ whole n /ℚ whole d
ratio_whole n zero h = absurd (let no : 0 < 0 = h in omega arith)
ratio_whole n (suc d) h = frac_is_div (pos n) d

rest : (a b c : ℚ) → a ≡ b +ℚ c → b ≡ a -ℚ c
rest a b c h = with3 a b c (λ k. omega (arith, k.le, k.lt, k.same))

whole_less : (m n : ℕ) → n ≤ m → whole (m - n) ≡ whole m -ℚ whole n
whole_less m n h =
    let parts : m ≡ (m - n) + n = omega arith in
    rest (whole m) (whole (m - n)) (whole n) (ap whole parts ∙ whole_sum (m - n) n)

-- what is owed, by whole numbers
pub owed_whole : (Q l F L : ℕ) → Q ≤ F → l ≤ L → whole (Q * (L - l) + (F - Q) * (Q + l)) /ℚ whole F ≡ owed Q l F L
owed_whole Q l F L h k =
    ap (λ (x : ℚ). x /ℚ whole F)
    (whole_sum (Q * (L - l)) ((F - Q) * (Q + l))
    ∙ ap₂ (λ (x y : ℚ). x +ℚ y)
    (whole_times Q (L - l) ∙ ap (λ (x : ℚ). whole Q *ℚ x) (whole_less L l k))
    (whole_times (F - Q) (Q + l) ∙ ap₂ (λ (x y : ℚ). x *ℚ y) (whole_less F Q h) (whole_sum Q l)))

-- ---- a fraction of two numbers of the code
is_ok-no_fault : (r : Result ℚ FracFault) → (r ≡ Err ZeroDen → ⊥) → (r ≡ Err TooBig → ⊥) → IsOk r
is_ok-no_fault (Ok x) h k = refl
is_ok-no_fault (Err ZeroDen) h k = absurd (h refl)
is_ok-no_fault (Err TooBig) h k = absurd (k refl)

pub new_ok : (r : Result ℚ FracFault) (a b : ℤ) (n d : ℕ) → a ≡ pos n → b ≡ pos d → 0 < d → n < 2 ^ 64 → d < 2 ^ 64
    → ((r ≡ Err ZeroDen) ↔ (b ≡ pos 0)) → ((r ≡ Err TooBig) ↔ ((b ≢ pos 0) × ¬ (IsSmall (ratio a b)))) → IsOk r
new_ok r a b n d e f some n_fits d_fits no_den big =
    let none : pos d ≢ pos 0 = λ g. let no : d ≡ 0 = cc in omega arith in
    let small : IsSmall (ratio a b) = rw (e, f) (small_ratio (pos n) (pos d) none (omega arith) (omega arith)) in
    is_ok-no_fault r (λ g. none (sym f ∙ no_den.0 g)) (λ g. (big.0 g).1 small)
