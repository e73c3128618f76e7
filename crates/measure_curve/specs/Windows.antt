-- How many bits enter in a closed window of time, and how many at most in one of each length. (Le Boudec and Thiran:
-- the minimum arrival curve of a flow. Closed windows are our own choice.)
use Rattle.std.specs.Prelude.{◌≡◌, ℕ, ◌+◌, ◌≤◌, ◌==◌, List, [], ◌∷◌, filter, if◌then◌else◌}
use Rattle.rational.specs.Rational.{ℚ, ◌+ℚ◌, ◌-ℚ◌, ◌≤ℚ◌, ◌<ℚ◌}
use Rattle.rational.specs.Extended.{Ext, ◌≤ₑ◌, ◌<ₑ◌}
use Rattle.rational.specs.declared.Extended.TheVariants.{Fin}
use Rattle.min_plus.specs.Functions.{zero_q}
use Rattle.run_laws.specs.Cards.{whole}
use Rattle.run_laws.specs.Counts.{within}
use Rattle.net_model.specs.declared.trace.TracePacket.{TracePacket}

-- the packets of a flow
abbrev pub of_flow : ℕ → List TracePacket → List TracePacket
of_flow flow = filter (λ p. p.flow == flow)

-- the bits of the packets that enter in the closed window from s to t
abbrev pub bits_in : ℚ → ℚ → List TracePacket → ℕ
bits_in s t [] = 0
bits_in s t (p ∷ ps) = (if within s t p.time then p.bits else 0) + bits_in s t ps

-- v is the most that enter in a window of length d: in no window more do, and in one as many
pub record IsMost (ps : List TracePacket) (d : ℚ) (v : ℕ) : Type 0 where
  pub above : (s : ℚ) → bits_in s (s +ℚ d) ps ≤ v
  pub start : ℚ
  pub taken : bits_in start (start +ℚ d) ps ≡ v

-- the least arrival curve of the packets: at each length that many bits
abbrev pub IsLeastArrival : List TracePacket → (ℚ → Ext) → Type 0
IsLeastArrival ps m = (d : ℚ) → zero_q ≤ℚ d → (v : ℕ) × (m d ≡ Fin (whole v)) × IsMost ps d v

-- the packets keep a curve: in each closed window no more bits enter than its value at the window's length
abbrev pub Keep : List TracePacket → (ℚ → Ext) → Type 0
Keep ps α = (s t : ℚ) → s ≤ℚ t → Fin (whole (bits_in s t ps)) ≤ₑ α (t -ℚ s)

-- it rises at x: each earlier value is less
abbrev pub RisesAt : (ℚ → Ext) → ℚ → Type 0
RisesAt m x = (t : ℚ) → zero_q ≤ℚ t → t <ℚ x → m t <ₑ m x
