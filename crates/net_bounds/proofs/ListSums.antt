-- What is made of packets of some flows, or of some queues, keeps the sum of their curves.
use Rattle.std.specs.Prelude.{◌≡◌, ℕ, pos, ◌==◌, Bool, true, false, not, ◌&&◌, List, [], ◌∷◌}
use Rattle.std.proofs.Common.{sym, ap, refl, inl, inr, ◌⊎◌}
use Rattle.std.proofs.lemmas.Bool.{cases_Bool, both_ways, eq-eqb, and_parts}
use Rattle.rational.specs.Rational.{ℚ, int, ◌-ℚ◌, ◌≤ℚ◌}
use Rattle.rational.specs.Extended.{Ext, ◌+ₑ◌}
use Rattle.rational.specs.declared.Extended.TheVariants.{Fin}
use Rattle.rational.proofs.Laws.{le_refl}
use Rattle.rational.proofs.ExtendedOrder.{le_ext_trans, same_le_ext, add_le_ext}
use Rattle.run_laws.specs.Cards.{Card, Class, size, ServerStep, Arrives, Works, Leaves, Visits}
use Rattle.run_laws.proofs.Always.{AreAlwaysParts}
use Rattle.run_laws.specs.Counts.{when, arrives, within, arrived_in}
use Rattle.run_laws.specs.Premises.{EachArrival, KeepsArrivals}
use Rattle.run_laws.proofs.Arrivals.{arrivals_map, none_arrive}
use Rattle.run_laws.proofs.Classes.{split_parts}
use Rattle.run_laws.proofs.Parts.{arrivals_parts}
use Rattle.run_laws.proofs.Sizes.{size_nonneg}
use Rattle.run_laws.proofs.Sums.{when_false, when_nonneg, each_all, total_le}
use Rattle.net_laws.specs.Sums.{with_number}
use Rattle.run_laws.proofs.Members.{Has}
use Rattle.net_laws.proofs.Sums.{other}

-- the sum of the values at a time
abbrev pub sum_over : {X : Type 0} → (X → ℚ → Ext) → List X → ℚ → Ext
sum_over α [] t = Fin (int (pos 0))
sum_over α (x ∷ xs) t = α x t +ₑ sum_over α xs t

-- one of them has this number
abbrev pub HasKey : {X : Type 0} → (X → ℕ) → List X → ℕ → Type 0
HasKey key [] n = ⊥
HasKey key (x ∷ xs) n = (key x ≡ n) ⊎ HasKey key xs n

-- the packets of a class with a number, and those with another
abbrev pub own : (Card → ℕ) → ℕ → Class → Class
own number n C c = C c && (number c == n)

pub in_two : (number : Card → ℕ) (n : ℕ) (C : Class) → AreAlwaysParts C (own number n C) (other number n C)
in_two number n C = split_parts C (with_number number n)

own_step : (number : Card → ℕ) (n : ℕ) (C : Class) (p : ℚ → Bool) (x : ServerStep)
    → arrives (own number n C) p x ≤ℚ arrives (with_number number n) p x
own_step number n C p (Arrives c t) = fewer (C c) (number c == n) (p t) (size c) (size_nonneg c)
  where
    fewer : (a b d : Bool) (x : ℚ) → int (pos 0) ≤ℚ x → when ((a && b) && d) x ≤ℚ when (b && d) x
    fewer true b d x h = le_refl (when (b && d) x)
    fewer false b d x h = rw (when_false false x refl) (when_nonneg (b && d) x h)
own_step number n C p (Works c a b w) = le_refl (int (pos 0))
own_step number n C p (Leaves c t) = le_refl (int (pos 0))
own_step number n C p (Visits q t) = le_refl (int (pos 0))

own_less : (number : Card → ℕ) (n : ℕ) (C : Class) (V : List ServerStep) (a b : ℚ)
    → arrived_in (own number n C) V a b ≤ℚ arrived_in (with_number number n) V a b
own_less number n C V a b =
    total_le (arrives (own number n C) (within a b)) (arrives (with_number number n) (within a b)) V
    (each_all (λ x. arrives (own number n C) (within a b) x ≤ℚ arrives (with_number number n) (within a b) x)
    (own_step number n C (within a b)) V)

-- those of another number are of the rest
of_rest : {X : Type 0} (key : X → ℕ) (number : Card → ℕ) (x : X) (xs : List X) (C : Class) (c : Card)
    → (C c ≡ true → HasKey key (x ∷ xs) (number c)) → other number (key x) C c ≡ true → HasKey key xs (number c)
of_rest key number x xs C c h e =
    let both = and_parts (C c) (not (number c == key x)) e in
    elim (h both.0) [
      | inl same ↦ absurd (both_ways (not (number c == key x)) (rw (eq-eqb (number c) (key x) (sym same)) refl) both.1)
      | inr rest ↦ rest
    ]

pub list_keeps : {X : Type 0} (key : X → ℕ) (α : X → ℚ → Ext) (number : Card → ℕ) (xs : List X) (C : Class)
    (V : List ServerStep) → EachArrival (λ c. C c ≡ true → HasKey key xs (number c)) V
    → ((x : X) → Has xs x → KeepsArrivals (with_number number (key x)) (α x) V) → KeepsArrivals C (sum_over α xs) V
list_keeps {X} key α number [] C V known keeps a b l =
    let none = none_arrive C (within a b) V
    (arrivals_map (λ c. C c ≡ true → HasKey key [] (number c)) (λ c. C c ≡ false) no V known) in
    rw none (le_refl (int (pos 0)))
  where
    no : (c : Card) → (C c ≡ true → HasKey key [] (number c)) → C c ≡ false
    no c h = elim (cases_Bool (C c)) [
      | inl e ↦ absurd (h e)
      | inr e ↦ e
    ]
list_keeps {X} key α number (x ∷ xs) C V known keeps a b l =
    let n = key x in
    let D = other number n C in
    let fewer = arrivals_map (λ c. C c ≡ true → HasKey key (x ∷ xs) (number c))
    (λ c. D c ≡ true → HasKey key xs (number c))
    (λ c h. of_rest key number x xs C c h) V known in
    let rest = list_keeps key α number xs D V fewer (λ y m. keeps y (inr m)) a b l in
    let first = le_ext_trans (Fin (arrived_in (own number n C) V a b)) (Fin (arrived_in (with_number number n) V a b))
    (α x (b -ℚ a))
    (own_less number n C V a b) (keeps x (inl refl) a b l) in
    let parts = arrivals_parts C (own number n C) D (within a b) V (in_two number n C) in
    le_ext_trans (Fin (arrived_in C V a b)) (Fin (arrived_in (own number n C) V a b) +ₑ Fin (arrived_in D V a b))
    (α x (b -ℚ a) +ₑ sum_over α xs (b -ℚ a))
    (same_le_ext (ap Fin parts))
    (add_le_ext (Fin (arrived_in (own number n C) V a b)) (α x (b -ℚ a)) (Fin (arrived_in D V a b))
    (sum_over α xs (b -ℚ a)) first rest)
