-- What is made of packets of some numbers keeps the sum of their curves.
use Rattle.std.specs.Prelude.{◌≡◌, ◌<◌, ℕ, zero, suc, pos, Bool, true, false, not, ◌&&◌, ◌==◌, List}
use Rattle.std.proofs.Common.{arith, refl, inl, inr, subst}
use Rattle.std.proofs.lemmas.Bool.{cases_Bool, cases_eq, both_ways, eq-eqb, ne_eqb, and_parts}
use Rattle.rational.specs.Rational.{ℚ, int, ◌+ℚ◌, ◌-ℚ◌, ◌≤ℚ◌}
use Rattle.rational.specs.Extended.{Ext, ◌+ₑ◌}
use Rattle.rational.specs.declared.Extended.TheVariants.{Fin}
use Rattle.rational.proofs.Laws.{le_refl}
use Rattle.rational.proofs.ExtendedOrder.{le_ext_trans, add_le_ext}
use Rattle.rational.proofs.Linear.{with1}
use Rattle.run_laws.specs.Cards.{Card, Class, size, ServerStep, Arrives, Works, Leaves, Visits}
use Rattle.run_laws.specs.Counts.{when, total, arrives, within, arrived_in}
use Rattle.run_laws.specs.Premises.{EachArrival, KeepsArrivals}
use Rattle.run_laws.proofs.Arrivals.{arrivals_map, same_arrivals, none_arrive}
use Rattle.run_laws.proofs.Sizes.{size_nonneg}
use Rattle.run_laws.proofs.Sums.{when_false, when_nonneg, each_all, total_le, total_sum, nothing}
use Rattle.net_laws.specs.Sums.{sum_of_curves, with_number, IsSummed}

-- the packets of a class that have another number
abbrev pub other : (Card → ℕ) → ℕ → Class → Class
other number n C c = C c && not (number c == n)

split_when : (a b t : Bool) (x : ℚ) → int (pos 0) ≤ℚ x → when (a && t) x ≤ℚ when ((a && not b) && t) x +ℚ when (b && t) x
split_when true false t x h = rw (when_false false x refl) (with1 (when t x) (λ c. omega (arith, c.le, c.lt, c.same)))
split_when true true t x h = rw (when_false false x refl) (with1 (when t x) (λ c. omega (arith, c.le, c.lt, c.same)))
split_when false b t x h =
    let k = when_nonneg (b && t) x h in
    rw (when_false false x refl) (with1 (when (b && t) x) (λ c. omega (arith, c.le, c.lt, c.same)))

none_more : int (pos 0) ≤ℚ int (pos 0) +ℚ int (pos 0)
none_more = subst (λ (z : ℚ). int (pos 0) ≤ℚ z) nothing (le_refl (int (pos 0)))

split_step : (number : Card → ℕ) (n : ℕ) (C : Class) (p : ℚ → Bool) (x : ServerStep)
    → arrives C p x ≤ℚ arrives (other number n C) p x +ℚ arrives (with_number number n) p x
split_step number n C p (Arrives c t) = split_when (C c) (number c == n) (p t) (size c) (size_nonneg c)
split_step number n C p (Works c a b w) = none_more
split_step number n C p (Leaves c t) = none_more
split_step number n C p (Visits q t) = none_more

split : (number : Card → ℕ) (n : ℕ) (C : Class) (p : ℚ → Bool) (V : List ServerStep)
    → total (arrives C p) V ≤ℚ total (arrives (other number n C) p) V +ℚ total (arrives (with_number number n) p) V
split number n C p V =
    let both = λ (x : ServerStep). arrives (other number n C) p x +ℚ arrives (with_number number n) p x in
    subst (λ (y : ℚ). total (arrives C p) V ≤ℚ y)
    (total_sum both (arrives (other number n C) p) (arrives (with_number number n) p) V (each_all (λ x. both x ≡ arrives (other number n C) p x +ℚ arrives (with_number number n) p x) (λ x. refl) V))
    (total_le (arrives C p) both V (each_all (λ x. arrives C p x ≤ℚ both x) (split_step number n C p) V))

smaller : (number : Card → ℕ) (test : ℕ → Bool) (n : ℕ) (C : Class) (c : Card) → (C c ≡ true → IsSummed number test (suc n) c)
    → other number n C c ≡ true → IsSummed number test n c
smaller number test n C c h e =
    let both = and_parts (C c) (not (number c == n)) e in
    let is = h both.0 in
    let most = is.below in
    elim (cases_eq (number c) n) [
      | inl same ↦ absurd (both_ways (not (number c == n)) (rw (eq-eqb (number c) n same) refl) both.1)
      | inr differs ↦ record { below = omega arith; passes = is.passes }
    ]

-- where the number does not pass the test, the class has no packet of it
none_of_it : (number : Card → ℕ) (test : ℕ → Bool) (n : ℕ) (C : Class) (c : Card) → test n ≡ false
    → (C c ≡ true → IsSummed number test (suc n) c) → C c ≡ other number n C c
none_of_it number test n C c fails h = elim (cases_Bool (C c)) [
  | inr e ↦ rw e refl
  | inl e ↦ elim (cases_eq (number c) n) [
    | inl same ↦ absurd (both_ways (test n) fails (subst (λ (k : ℕ). test k ≡ true) same (h e).passes))
    | inr differs ↦ rw (e, ne_eqb (number c) n differs) refl
  ]
]

pub sums_are_kept : (number : Card → ℕ) (test : ℕ → Bool) (α : ℕ → ℚ → Ext) (n : ℕ) (C : Class) (V : List ServerStep)
    → EachArrival (λ c. C c ≡ true → IsSummed number test n c) V
    → ((k : ℕ) → k < n → test k ≡ true → KeepsArrivals (with_number number k) (α k) V) → KeepsArrivals C (sum_of_curves test α n) V
sums_are_kept number test α zero C V known keeps a b l =
    let none = none_arrive C (within a b) V (arrivals_map (λ c. C c ≡ true → IsSummed number test zero c) (λ c. C c ≡ false) (λ c h. no c h) V known) in
    rw none (le_refl (int (pos 0)))
  where
    no : (c : Card) → (C c ≡ true → IsSummed number test zero c) → C c ≡ false
    no c h = elim (cases_Bool (C c)) [
      | inl e ↦ let k = (h e).below in absurd (omega arith)
      | inr e ↦ e
    ]
sums_are_kept number test α (suc n) C V known keeps a b l =
    let fewer = arrivals_map (λ c. C c ≡ true → IsSummed number test (suc n) c) (λ c. other number n C c ≡ true → IsSummed number test n c) (λ c h. smaller number test n C c h) V known in
    let rest = sums_are_kept number test α n (other number n C) V fewer (λ k m. keeps k (omega arith)) a b l in
    elim (cases_Bool (test n)) [
      | inr e ↦
          let same = same_arrivals C (other number n C) (within a b) V (arrivals_map (λ c. C c ≡ true → IsSummed number test (suc n) c) (λ c. C c ≡ other number n C c) (λ c h. none_of_it number test n C c e h) V known) in
          rw (e, same) rest
      | inl e ↦
          let one = keeps n (omega arith) e a b l in
          let parts = split number n C (within a b) V in
          rw e (le_ext_trans (Fin (arrived_in C V a b)) (Fin (arrived_in (other number n C) V a b) +ₑ Fin (arrived_in (with_number number n) V a b)) (sum_of_curves test α n (b -ℚ a) +ₑ α n (b -ℚ a)) parts
          (add_le_ext (Fin (arrived_in (other number n C) V a b)) (sum_of_curves test α n (b -ℚ a)) (Fin (arrived_in (with_number number n) V a b)) (α n (b -ℚ a)) rest one))
    ]
