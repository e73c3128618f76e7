-- Numbers of fields.
use Rattle.std.proofs.Common.{◌≡◌, ℕ, zero, suc, ℤ, pos, neg_ℤ, ◌^◌, ◌-◌, ◌≤◌, ◌<◌, nat_lt, min, Bool, true, false, List, Option, None, refl, sym, ap, subst, arith, ◌∙◌}
use Rattle.std.specs.Str.Parse.{digits_value, starts_with_minus}
use Rattle.std.proofs.lemmas.Bool.Decides.{nat_tests}
use Rattle.rational.specs.Gauge.{cap}
use Rattle.rational.specs.Rational.{ℚ, lt_q, ◌≤ℚ◌}
use Rattle.rational.proofs.Over.{lt_q_out}
use Rattle.rational.proofs.Laws.{le_of_not_lt}
use Rattle.min_plus.specs.Functions.{zero_q}
use Rattle.fraction128.specs.Text.{signed_value, is_numeral, unsigned_text}
use Rattle.input_texts.specs.table_text.Fields.{in_64_bits, whole_in}

-- ---- past 64 bits
pos_big : (n : ℕ) → 2 ^ 63 ≤ n → in_64_bits (pos n) ≡ None
pos_big n h = let e : nat_lt n (2 ^ 63) ≡ false = grind (arith, nat_tests) in rw e refl

neg_big : (n : ℕ) → 2 ^ 63 < n → in_64_bits (neg_ℤ (pos n)) ≡ None
neg_big zero h = absurd (omega (arith, h))
neg_big (suc k) h = let e : nat_lt k (2 ^ 63) ≡ false = grind (arith, nat_tests) in rw e refl

big : (minus : Bool) (n : ℕ) → 2 ^ 63 < n → in_64_bits (signed_value minus n) ≡ None
big true n h = neg_big n h
big false n h = pos_big n (omega (arith, h))

capped_by : (minus : Bool) (v : ℕ) (b : Bool) → nat_lt v (2 ^ 128) ≡ b → in_64_bits (signed_value minus (cap v)) ≡ in_64_bits (signed_value minus v)
unfolding cap
capped_by minus v true e = let h : v < 2 ^ 128 = grind (arith, nat_tests) in let k : min v (2 ^ 128 - 1) ≡ v = omega (arith, h) in ap (λ n. in_64_bits (signed_value minus n)) k
capped_by minus v false e =
    let h : 2 ^ 128 ≤ v = grind (arith, nat_tests) in
    big minus (min v (2 ^ 128 - 1)) (omega (arith, h)) ∙ sym (big minus v (omega (arith, h)))

pub whole_read : (text bytes digits : List ℕ) (minus : Bool) (n : ℕ) (r : Option ℤ) → bytes ≡ text → minus ≡ starts_with_minus bytes → digits ≡ unsigned_text bytes
    → is_numeral digits ≡ true → n ≡ cap (digits_value 10 digits) → r ≡ in_64_bits (signed_value minus n) → r ≡ whole_in text
whole_read text bytes digits minus n r eb em ed is en er =
    let numeral : is_numeral (unsigned_text text) ≡ true = subst (λ d. is_numeral d ≡ true) (ed ∙ ap unsigned_text eb) is in
    let m : minus ≡ starts_with_minus text = em ∙ ap starts_with_minus eb in
    let d : digits ≡ unsigned_text text = ed ∙ ap unsigned_text eb in
    er ∙ ap (λ k. in_64_bits (signed_value minus k)) en ∙ capped_by minus (digits_value 10 digits) _ refl ∙ rw (numeral, m, d) refl

-- ---- numbers from 0 on
pub not_below : (x z : ℚ) (b : Bool) → b ≡ false → b ≡ lt_q x z → z ≡ zero_q → zero_q ≤ℚ x
not_below x z b f e ez =
    le_of_not_lt (λ h. let t : lt_q x zero_q ≡ true = lt_q_out x zero_q h in let u : lt_q x zero_q ≡ false = sym (ap (lt_q x) ez) ∙ sym e ∙ f in let bad : ⊥ = cc in bad)
