-- The pace of a server's work, and what leaves in a closed window by it alone. (Le Boudec and Thiran, shaping by a link
-- of fixed rate; that it is stated for works of a pace and for packets is our own choice.)
use Rattle.std.specs.Prelude.{Some, ◌≡◌, ℕ, pos, List, [], ◌∷◌}
use Rattle.rational.specs.Rational.{ℚ, int, ◌+ℚ◌, ◌-ℚ◌, ◌*ℚ◌, ◌≤ℚ◌}
use Rattle.run_laws.specs.Cards.{Class, whole, ServerStep, Arrives, Works, Leaves, Visits}
use Rattle.run_laws.specs.Servers.{Server}
use Rattle.run_laws.specs.Allows.{IsLawfulView}
use Rattle.run_laws.specs.Counts.{departed_in}
use Rattle.run_laws.specs.Premises.{KeepsSizes}

-- no work has more bits than the rate gives in its time
abbrev pub KeepsRate : ℚ → List ServerStep → Type 0
KeepsRate rate [] = Unit {0}
KeepsRate rate (Arrives c t ∷ xs) = KeepsRate rate xs
KeepsRate rate (Works c a b w ∷ xs) = (w ≤ℚ rate *ℚ (b -ℚ a)) × KeepsRate rate xs
KeepsRate rate (Leaves c t ∷ xs) = KeepsRate rate xs
KeepsRate rate (Visits q t ∷ xs) = KeepsRate rate xs

-- so it is in each lawful view of a server with that pace
abbrev pub PaceIsKept : Type 0
PaceIsKept = (server : Server) (end : ℚ) (view : List ServerStep) (rate : ℚ) → IsLawfulView server end view →
    server.pace ≡ Some rate → KeepsRate rate view

-- then what leaves of a class in a closed window is at most the rate times its length, and one packet
abbrev pub OutputFromPace : Type 0
OutputFromPace = (server : Server) (end : ℚ) (view : List ServerStep) (C : Class) (bits : ℕ) (rate s t : ℚ) →
    IsLawfulView server end view → int (pos 0) ≤ℚ rate → KeepsRate rate view → KeepsSizes C bits view → s ≤ℚ t →
    departed_in C view s t ≤ℚ rate *ℚ (t -ℚ s) +ℚ whole bits
