-- The digits of a number, and the text of a quotient of two: a number of at most 127 bits is the only one with its
-- text. Std writes no more than the last 64 digits of a number, so two larger numbers may have one text.
use Rattle.std.proofs.Common.{◌≡◌, ℕ, zero, suc, ◌+◌, ◌*◌, ◌/◌, ◌%◌, ◌<◌, ◌≤◌, ◌^◌, List, [], ◌∷◌, ◌++◌, length, refl, sym, ap, ◌∙◌, subst, inl, inr, arith, Bool, true, false, cond}
use native.Mathlib.Nat.{pow-suc, pow-zero}
use Rattle.std.specs.Prelude.{◌==◌, ℤ, pos, negsuc, nat_abs, drop}
use Rattle.std.specs.Fmt.{decimal, digits, digits_onto, digit_glyph}
use Rattle.std.specs.Str.Parse.{digits_value}
use Rattle.std.proofs.lemmas.Bool.{cases_lt, ne_eqb, lt-ltb, cond-false}
use Rattle.std.proofs.lemmas.Fmt.{decimal_is_IsNumeral_wide, length-decimal-le_wide}
use Rattle.fraction128.specs.Text.{text_over}
use Rattle.report_text.proofs.Fronts.{lacks, same_front, same_back, not_lacking}

-- ---- bytes from one value to that of the digit 9
abbrev pub AreFrom : ℕ → List ℕ → Type 0
AreFrom low [] = Unit {0}
AreFrom low (c ∷ cs) = ((low ≤ c) × (c ≤ 57)) × AreFrom low cs

are_lower : (low high : ℕ) (xs : List ℕ) → low ≤ high → AreFrom high xs → AreFrom low xs
are_lower low high [] l h = tt
are_lower low high (c ∷ cs) l h = ((omega (arith, h.0.0), h.0.1), are_lower low high cs l h.1)

are-append : (low : ℕ) (xs ys : List ℕ) → AreFrom low xs → AreFrom low ys → AreFrom low (xs ++ ys)
are-append low [] ys h k = k
are-append low (x ∷ xs) ys h k = (h.0, are-append low xs ys h.1 k)

no_slash : (xs : List ℕ) → AreFrom 48 xs → lacks 47 xs ≡ true
no_slash [] h = refl
no_slash (x ∷ xs) h =
    cond-false (x == 47) false (lacks 47 xs) (ne_eqb x 47 (λ e. omega (arith, e, h.0.0))) ∙ no_slash xs h.1

-- ---- digits
glyph : (d : ℕ) → d < 10 → digit_glyph false d ≡ 48 + d
glyph d h = ap (λ (b : Bool). cond b (48 + d) (87 + d)) (lt-ltb d 10 h)

one_digit : (n : ℕ) → (48 ≤ digit_glyph false (n % 10)) × (digit_glyph false (n % 10) ≤ 57)
one_digit n =
    let small : n % 10 < 10 = omega arith in
    (omega (arith, glyph (n % 10) small), omega (arith, glyph (n % 10) small, small))

digits_from : (k n : ℕ) (acc : List ℕ) → AreFrom 48 acc → AreFrom 48 (digits_onto k 10 false n acc)
digits_from zero n acc h = h
digits_from (suc k) n acc h =
    let more : AreFrom 48 (digit_glyph false (n % 10) ∷ acc) = (one_digit n, h) in
    either (n / 10 == 0) (digit_glyph false (n % 10) ∷ acc)
    (digits_onto k 10 false (n / 10) (digit_glyph false (n % 10) ∷ acc))
    more (digits_from k (n / 10) (digit_glyph false (n % 10) ∷ acc) more)
  where
    either : (b : Bool) (xs ys : List ℕ) → AreFrom 48 xs → AreFrom 48 ys → AreFrom 48 (cond b xs ys)
    either true xs ys p q = p
    either false xs ys p q = q

are_digits : (n : ℕ) → AreFrom 48 (decimal n)
unfolding digits
are_digits n = digits_from 64 n [] tt

-- ten times a power of ten is the next
power_next : (k : ℕ) → 10 ^ suc k ≡ 10 ^ k * 10
power_next k = pow-suc 10 k

power_some : (k : ℕ) → 1 ≤ 10 ^ k
power_some zero = omega (arith, pow-zero 10)
power_some (suc k) = omega (arith, power_next k, power_some k)

-- of a number with more digits than are written as many are written as may be
many_digits : (k n : ℕ) (acc : List ℕ) → 10 ^ k ≤ n → length (digits_onto k 10 false n acc) ≡ k + length acc
many_digits zero n acc h = omega arith
many_digits (suc k) n acc h =
    let some = power_some k in
    let next = power_next k in
    let rest : 10 ^ k ≤ n / 10 = omega arith in
    let more : n / 10 ≡ 0 → ⊥ = λ e. omega arith in
    ap length (cond-false (n / 10 == 0) (digit_glyph false (n % 10) ∷ acc)
    (digits_onto k 10 false (n / 10) (digit_glyph false (n % 10) ∷ acc)) (ne_eqb (n / 10) 0 more))
    ∙ many_digits k (n / 10) (digit_glyph false (n % 10) ∷ acc) rest ∙ omega arith

long_decimal : (n : ℕ) → 10 ^ 64 ≤ n → length (decimal n) ≡ 64
unfolding digits
long_decimal n h = many_digits 64 n [] h

same_digits : (m n : ℕ) → m < 2 ^ 127 → decimal m ≡ decimal n → m ≡ n
same_digits m n small e =
    let few : m < 10 ^ 39 = omega (arith, small) in
    let wide : m < 10 ^ 64 = omega (arith, small) in
    elim (cases_lt n (10 ^ 64)) [
      | inl l ↦ sym ((decimal_is_IsNumeral_wide m wide).1) ∙ ap (digits_value 10) e ∙ (decimal_is_IsNumeral_wide n l).1
      | inr l ↦
          let short = length-decimal-le_wide 39 m (omega arith) few wide in
          absurd (omega (arith, short, long_decimal n l, ap length e))
    ]

-- ---- quotients
abbrev quotient_text : ℕ → ℕ → List ℕ
quotient_text n zero = decimal n
quotient_text n (suc k) = decimal n ++ 47 ∷ decimal (suc (suc k))

quotient_bytes : (n k : ℕ) → AreFrom 47 (quotient_text n k)
quotient_bytes n zero = are_lower 47 48 (decimal n) (omega arith) (are_digits n)
quotient_bytes n (suc k) =
    are-append 47 (decimal n) (47 ∷ decimal (suc (suc k))) (are_lower 47 48 (decimal n) (omega arith) (are_digits n))
    ((omega arith, omega arith), are_lower 47 48 (decimal (suc (suc k))) (omega arith) (are_digits (suc (suc k))))

over_pos : (n k : ℕ) → text_over (pos n) k ≡ quotient_text n k
over_pos n zero = refl
over_pos n (suc k) = refl

over_negative : (n k : ℕ) → text_over (negsuc n) k ≡ 45 ∷ quotient_text (suc n) k
over_negative n zero = refl
over_negative n (suc k) = refl

pub text_bytes : (z : ℤ) (k : ℕ) → AreFrom 45 (text_over z k)
text_bytes (pos n) k =
    subst (AreFrom 45) (sym (over_pos n k)) (are_lower 45 47 (quotient_text n k) (omega arith) (quotient_bytes n k))
text_bytes (negsuc n) k =
    subst (AreFrom 45) (sym (over_negative n k))
    ((omega arith, omega arith), are_lower 45 47 (quotient_text (suc n) k) (omega arith) (quotient_bytes (suc n) k))

-- the sizes of the two parts are the same
record SameParts (m n k j : ℕ) : Type 0 where
  tops : m ≡ n
  bottoms : k ≡ j

one_slash : {X : Type 0} (m n k : ℕ) → decimal m ≡ decimal n ++ 47 ∷ decimal (suc (suc k)) → X
one_slash m n k e =
    let none = no_slash (decimal m) (are_digits m) in
    let some = not_lacking 47 (decimal n) (decimal (suc (suc k))) in
    let bad : true ≡ false = sym none ∙ ap (lacks 47) e ∙ some in absurd cc

same_quotient : (m n k j : ℕ) → m < 2 ^ 127 → suc k < 2 ^ 127 → quotient_text m k ≡ quotient_text n j
    → SameParts m n k j
same_quotient m n zero zero h l e = record { tops = same_digits m n h e; bottoms = refl }
same_quotient m n zero (suc j) h l e = one_slash m n j e
same_quotient m n (suc k) zero h l e = one_slash n m k (sym e)
same_quotient m n (suc k) (suc j) h l e =
    let tops = same_front 47 (decimal m) (decimal n) (decimal (suc (suc k))) (decimal (suc (suc j)))
    (no_slash (decimal m) (are_digits m)) (no_slash (decimal n) (are_digits n)) e in
    let bottoms = same_back 47 (decimal m) (decimal n) (decimal (suc (suc k))) (decimal (suc (suc j)))
    (no_slash (decimal m) (are_digits m)) (no_slash (decimal n) (are_digits n)) e in
    record {
      tops = same_digits m n h tops;
      bottoms = let same = same_digits (suc (suc k)) (suc (suc j)) l bottoms in omega (arith, same);
    }

no_sign : {X : Type 0} (n k : ℕ) (rest : List ℕ) → quotient_text n k ≡ 45 ∷ rest → X
no_sign n k rest e = absurd (omega (arith, (subst (AreFrom 47) e (quotient_bytes n k)).0.0))

pub record AreSameNumbers (z w : ℤ) (k j : ℕ) : Type 0 where
  pub tops : z ≡ w
  pub bottoms : k ≡ j

pub same_over : (z w : ℤ) (k j : ℕ) → nat_abs z < 2 ^ 127 → suc k < 2 ^ 127 → text_over z k ≡ text_over w j
    → AreSameNumbers z w k j
same_over (pos m) (pos n) k j h l e =
    let same = same_quotient m n k j h l (sym (over_pos m k) ∙ e ∙ over_pos n j) in
    record { tops = ap pos same.tops; bottoms = same.bottoms }
same_over (pos m) (negsuc n) k j h l e =
    no_sign m k (quotient_text (suc n) j) (sym (over_pos m k) ∙ e ∙ over_negative n j)
same_over (negsuc m) (pos n) k j h l e =
    no_sign n j (quotient_text (suc m) k) (sym (over_pos n j) ∙ sym e ∙ over_negative m k)
same_over (negsuc m) (negsuc n) k j h l e =
    let same = same_quotient (suc m) (suc n) k j h l (ap (drop 1) (sym (over_negative m k) ∙ e ∙ over_negative n j)) in
    record { tops = ap negsuc (let s = same.tops in omega (arith, s)); bottoms = same.bottoms }
