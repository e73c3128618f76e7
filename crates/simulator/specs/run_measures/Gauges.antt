-- What is kept of one queue of a run.
use Rattle.std.specs.Prelude.{◌≡◌, ◌⊎◌, ℕ, pos, ◌+◌, ◌<◌, ◌≤◌, ◌^◌, Bool, List, [], length, map, replicate, slice_index_or, slice_set, if◌then◌else◌}
use Rattle.std.specs.declared.vec.Vec.{Vec}
use Rattle.rational.specs.Rational.{ℚ, int, le_q}
use Rattle.run_laws.specs.Servers.{queue_count}
use Rattle.net_model.specs.Networks.{NetServer}
use Rattle.simulator.specs.declared.run_measures.gauge.Gauge.{Gauge}

-- n where the test holds, else 0
abbrev pub counted : Bool → ℕ → ℕ
counted test n = if test then n else 0

-- the bits that are there at a time that is not before the last step: a packet that leaves at a time is there still
abbrev pub level_at : Gauge → ℚ → ℕ
level_at g t = g.present + counted (le_q t g.left_at) g.left

-- c is the greater one of a and b
pub record IsGreater (a b c : ℕ) : Type 0 where
  pub first : a ≤ c
  pub second : b ≤ c
  pub one : (c ≡ a) ⊎ (c ≡ b)

-- a packet of so many bits arrives at a time
pub record Gains (before after : Gauge) (bits : ℕ) (time : ℚ) : Type 0 where
  pub present : after.present ≡ before.present + bits
  pub left : after.left ≡ before.left
  pub left_at : after.left_at ≡ before.left_at
  pub peak : IsGreater before.peak (level_at after time) after.peak

-- and leaves
pub record Loses (before after : Gauge) (bits : ℕ) (time : ℚ) : Type 0 where
  pub present : before.present ≡ after.present + bits
  pub left : after.left ≡ bits
  pub left_at : after.left_at ≡ time
  pub peak : after.peak ≡ before.peak

-- of a queue in which no packet has been
abbrev pub empty_gauge : Gauge
empty_gauge = record { present = 0; left = 0; left_at = int (pos 0); peak = 0 }

-- the bits have room
abbrev pub HasRoom : Gauge → ℕ → Type 0
HasRoom g bits = g.present + bits + g.left < 2 ^ 64

abbrev pub peak_of : Gauge → ℕ
peak_of g = g.peak

-- ---- one row for each server, with one gauge for each of its queues
abbrev pub gauges_of : {Z : Type 0} → List (Vec Gauge Z) → List (List Gauge)
gauges_of = map (λ v. v.items)

abbrev pub gauge_in : List (List Gauge) → ℕ → ℕ → Gauge
gauge_in rows s q = slice_index_or (slice_index_or rows s []) q empty_gauge

abbrev pub with_gauge : List (List Gauge) → ℕ → ℕ → Gauge → List (List Gauge)
with_gauge rows s q g = slice_set rows s (slice_set (slice_index_or rows s []) q g)

-- of a server in which no packet has been
abbrev pub empty_row_of : NetServer → List Gauge
empty_row_of s = replicate (queue_count s.discipline) empty_gauge

-- there is a gauge for queue q of server s
pub record HasGauge (rows : List (List Gauge)) (s q : ℕ) : Type 0 where
  pub server : s < length rows
  pub queue : q < length (slice_index_or rows s [])

-- that gauge changes so, and no other changes
pub record ChangesOne (P : Gauge → Gauge → Type 0) (before after : List (List Gauge)) (s q : ℕ) : Type 0 where
  pub gauge : Gauge
  pub changed : P (gauge_in before s q) gauge
  pub rows : after ≡ with_gauge before s q gauge
