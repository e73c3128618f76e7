-- How long packets stay at a server, and how much is there.
use Rattle.std.specs.Prelude.{ℕ, Bool, true, false, ◌==◌, List, [], ◌∷◌, if◌then◌else◌}
use Rattle.rational.specs.Rational.{ℚ, ◌-ℚ◌}
use Rattle.rational.specs.Extended.{Ext, ◌≤ₑ◌}
use Rattle.rational.specs.declared.Extended.TheVariants.{Fin}
use Rattle.run_laws.specs.Cards.{Class, ServerStep, Arrives, Works, Leaves, Visits}
use Rattle.run_laws.specs.Counts.{arrived_upto, departed}

-- when the packet leaves; the end of the run where it does not
abbrev pub gone_at : ℚ → ℕ → List ServerStep → ℚ
gone_at end packet [] = end
gone_at end packet (Arrives c t ∷ xs) = gone_at end packet xs
gone_at end packet (Works c a b w ∷ xs) = gone_at end packet xs
gone_at end packet (Leaves c t ∷ xs) = if c.packet == packet then t else gone_at end packet xs
gone_at end packet (Visits q t ∷ xs) = gone_at end packet xs

-- x is put first where the test holds
abbrev pub kept : Bool → ℚ → List ℚ → List ℚ
kept true x xs = x ∷ xs
kept false x xs = xs

-- the delay at this server of each packet of the class: its leaving less its arrival
abbrev pub hop_delays : Class → ℚ → List ServerStep → List ℚ
hop_delays C end [] = []
hop_delays C end (Arrives c t ∷ xs) = kept (C c) (gone_at end c.packet xs -ℚ t) (hop_delays C end xs)
hop_delays C end (Works c a b w ∷ xs) = hop_delays C end xs
hop_delays C end (Leaves c t ∷ xs) = hop_delays C end xs
hop_delays C end (Visits q t ∷ xs) = hop_delays C end xs

-- no member is above x; an infinite x says nothing
abbrev pub AreAtMost : Ext → List ℚ → Type 0
AreAtMost x [] = Unit {0}
AreAtMost x (y ∷ ys) = (Fin y ≤ₑ x) × AreAtMost x ys

-- the bits of the class that are there at t: what arrives at t is, and what leaves at t is still
abbrev pub backlog : Class → List ServerStep → ℚ → ℚ
backlog C V t = arrived_upto C V t -ℚ departed C V t
