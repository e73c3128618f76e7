-- Classes of packets at one server, by the packets that arrive there: of one queue, part of another class, two parts of
-- one. So a flow is a class of one queue at each server of its path.
use Rattle.std.specs.Prelude.{◌≡◌, ℕ, true, false, ◌&&◌, ◌||◌, List}
use Rattle.run_laws.specs.Cards.{Class, ServerStep}
use Rattle.run_laws.specs.Premises.{EachArrival}

-- each packet of the class that arrives has queue q there, so that they leave in the order in which they arrive
abbrev pub IsOfQueue : Class → ℕ → List ServerStep → Type 0
IsOfQueue C q V = EachArrival (λ c. C c ≡ true → c.queue ≡ q) V

-- each packet of the class f that arrives is one of Q
abbrev pub IsPart : Class → Class → List ServerStep → Type 0
IsPart f Q V = EachArrival (λ c. f c ≡ true → Q c ≡ true) V

-- each packet of Q that arrives is of f or of g, and of one alone
pub record AreParts (Q f g : Class) (V : List ServerStep) : Type 0 where
  pub of_one : EachArrival (λ c. Q c ≡ (f c || g c)) V
  pub apart : EachArrival (λ c. (f c && g c) ≡ false) V
