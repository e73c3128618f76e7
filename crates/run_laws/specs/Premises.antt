-- What is asked of the packets and of the work at one server: sizes, an arrival curve, a service curve.
-- A curve is known by its values, and is asked for them at times from 0 on. (Le Boudec and Thiran; closed windows are
-- our own choice.)
use Rattle.std.specs.Prelude.{◌≡◌, ◌≢◌, ℕ, true, ◌≤◌, List, [], ◌∷◌, pos}
use Rattle.rational.specs.Rational.{ℚ, int, ◌-ℚ◌, ◌≤ℚ◌, ◌<ℚ◌}
use Rattle.rational.specs.Extended.{Ext, ◌≤ₑ◌, ◌+ₑ◌}
use Rattle.rational.specs.declared.Extended.TheVariants.{Fin}
use Rattle.run_laws.specs.Cards.{Card, Class, all, ServerStep, Arrives, Works, Leaves, Visits}
use Rattle.run_laws.specs.Counts.{arrived, arrived_in, worked}

-- of each packet that arrives
abbrev pub EachArrival : (Card → Type 0) → List ServerStep → Type 0
EachArrival P [] = Unit {0}
EachArrival P (Arrives c t ∷ xs) = P c × EachArrival P xs
EachArrival P (Works c a b w ∷ xs) = EachArrival P xs
EachArrival P (Leaves c t ∷ xs) = EachArrival P xs
EachArrival P (Visits q t ∷ xs) = EachArrival P xs

-- each packet of the class that arrives has at most so many bits
abbrev pub KeepsSizes : Class → ℕ → List ServerStep → Type 0
KeepsSizes C bits V = EachArrival (λ c. C c ≡ true → c.bits ≤ bits) V

-- in each closed window at most the curve's value at its length arrives
abbrev pub KeepsArrivals : Class → (ℚ → Ext) → List ServerStep → Type 0
KeepsArrivals C α V = (s t : ℚ) → s ≤ℚ t → Fin (arrived_in C V s t) ≤ₑ α (t -ℚ s)

-- all through the open window from a to b something that has arrived is still to be worked
abbrev pub IsBusy : List ServerStep → ℚ → ℚ → Type 0
IsBusy V a b = (x : ℚ) → a <ℚ x → x <ℚ b → worked all V x <ℚ arrived all V x

-- in each window up to the end in which the server is busy, it works at least the curve's value at its length
abbrev pub KeepsService : (ℚ → Ext) → ℚ → List ServerStep → Type 0
KeepsService β end V = (a b : ℚ) → a <ℚ b → b ≤ℚ end → IsBusy V a b →
    (Fin (worked all V a) +ₑ β (b -ℚ a)) ≤ₑ Fin (worked all V b)

-- a curve that promises nothing at once
abbrev pub IsZeroAtStart : (ℚ → Ext) → Type 0
IsZeroAtStart f = f (int (pos 0)) ≤ₑ Fin (int (pos 0))

-- no packet arrives twice
abbrev pub NoneTwice : List ServerStep → Type 0
NoneTwice [] = Unit {0}
NoneTwice (Arrives c t ∷ xs) = EachArrival (λ d. d.packet ≢ c.packet) xs × NoneTwice xs
NoneTwice (Works c a b w ∷ xs) = NoneTwice xs
NoneTwice (Leaves c t ∷ xs) = NoneTwice xs
NoneTwice (Visits q t ∷ xs) = NoneTwice xs
