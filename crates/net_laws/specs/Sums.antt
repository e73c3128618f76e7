-- Sums of arrival curves: those of some of the flows of a queue, or of the queues before one. (Le Boudec and Thiran,
-- aggregate of flows.)
use Rattle.std.specs.Prelude.{◌≡◌, ◌<◌, ℕ, zero, suc, pos, Bool, true, ◌==◌, List, if◌then◌else◌}
use Rattle.rational.specs.Rational.{ℚ, int}
use Rattle.rational.specs.Extended.{Ext, ◌+ₑ◌}
use Rattle.rational.specs.declared.Extended.TheVariants.{Fin}
use Rattle.run_laws.specs.Cards.{Card, Class, ServerStep}
use Rattle.run_laws.specs.Premises.{EachArrival, KeepsArrivals}

-- the sum of the curves below n that pass a test, in the order of their numbers; 0 over none
abbrev pub sum_of_curves : (ℕ → Bool) → (ℕ → ℚ → Ext) → ℕ → ℚ → Ext
sum_of_curves test α zero t = Fin (int (pos 0))
sum_of_curves test α (suc n) t = if test n then sum_of_curves test α n t +ₑ α n t else sum_of_curves test α n t

-- the packets with a number, as their flow's or their queue's
abbrev pub with_number : (Card → ℕ) → ℕ → Class
with_number number k c = number c == k

-- the packet's number is one of those summed
pub record IsSummed (number : Card → ℕ) (test : ℕ → Bool) (n : ℕ) (c : Card) : Type 0 where
  pub below : number c < n
  pub passes : test (number c) ≡ true

-- what is made of packets of some numbers, as of a queue's flows, of its flows but one, or of the queues before one,
-- keeps the sum of these numbers' curves
abbrev pub SumsAreKept : Type 0
SumsAreKept = (number : Card → ℕ) (test : ℕ → Bool) (α : ℕ → ℚ → Ext) (n : ℕ) (C : Class) (view : List ServerStep) →
    EachArrival (λ c. C c ≡ true → IsSummed number test n c) view →
    ((k : ℕ) → k < n → test k ≡ true → KeepsArrivals (with_number number k) (α k) view) →
    KeepsArrivals C (sum_of_curves test α n) view
