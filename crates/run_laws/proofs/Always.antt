-- Classes of packets by what they are of themselves, whatever arrives: of one queue, part of another class, parts of
-- one.
use Rattle.std.specs.Prelude.{◌≡◌, ℕ, Bool, true, false, not, ◌&&◌, ◌||◌}
use Rattle.std.proofs.Common.{refl}
use Rattle.run_laws.specs.Cards.{Card, Class, all}

-- each packet of the class has queue q
abbrev pub IsAlwaysOfQueue : Class → ℕ → Type 0
IsAlwaysOfQueue C q = (c : Card) → C c ≡ true → c.queue ≡ q

-- each packet of the class f is one of Q
abbrev pub IsAlwaysPart : Class → Class → Type 0
IsAlwaysPart f Q = (c : Card) → f c ≡ true → Q c ≡ true

-- each packet of Q is of f or of g, and of one alone
pub record AreAlwaysParts (Q f g : Class) : Type 0 where
  pub of_one : (c : Card) → Q c ≡ (f c || g c)
  pub apart : (c : Card) → (f c && g c) ≡ false

-- a class, and what is not of it
pub always_all : (C : Class) → AreAlwaysParts all C (λ c. not (C c))
always_all C = record { of_one = λ c. one (C c); apart = λ c. two (C c) }
  where
    one : (b : Bool) → true ≡ (b || not b)
    one true = refl
    one false = refl

    two : (b : Bool) → (b && not b) ≡ false
    two true = refl
    two false = refl
