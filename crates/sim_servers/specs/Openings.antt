-- When a server works, as the simulator keeps it: the stalls in the order of their starts, and how many of them are
-- over.
use Rattle.std.specs.Prelude.{Option, ◌≡◌, ℕ, ◌<◌, ◌≤◌, List, length, map, get_or, All, AllPairs}
use Rattle.std.specs.Option.{option_map}
use Rattle.rational.specs.Rational.{ℚ, ◌+ℚ◌, ◌*ℚ◌, ◌≤ℚ◌, ◌<ℚ◌}
use Rattle.run_laws.specs.Cards.{whole}
use Rattle.net_model.specs.stated_runs.Setups as setups
use Rattle.net_model.specs.stated_runs.Setups.{GateTimes, StallTimes, IsGateFor}
use Rattle.net_model.specs.stated_runs.TimeGrids.{HasRoom, IsTime, IsGateTime, AreStallTimes}
use Rattle.sim_servers.specs.declared.opening.Gate.{Gate}
use Rattle.sim_servers.specs.declared.opening.Span.{Span}
use Rattle.sim_servers.specs.declared.opening.Opening.{Opening}

abbrev pub gate_times : Gate → GateTimes
gate_times g = record { cycle = g.cycle; slot = g.slot }

abbrev pub gate_for : Option Gate → Option GateTimes
gate_for = option_map gate_times

abbrev pub stall_times : Span → StallTimes
stall_times s = record { start = s.start; end = s.end }

abbrev pub times_of : Option Gate → List Span → setups.Opening
times_of gate stalls = record { gate = gate_for gate; stalls = map stall_times stalls }

abbrev pub opening_for : Opening → setups.Opening
opening_for o = times_of o.gate o.stalls.items

-- b is where the cycle begins in which t lies
pub record BeginsAt (g : GateTimes) (t b : ℚ) : Type 0 where
  pub count : ℕ
  pub is : b ≡ whole count *ℚ g.cycle
  pub begun : b ≤ℚ t
  pub goes_on : t <ℚ b +ℚ g.cycle

-- stalls that take some time, in the order of their starts
pub record AreInOrder (stalls : List Span) : Type 0 where
  pub sorted : AllPairs (λ (a b : Span). a.start ≤ℚ b.start) stalls
  pub forward : All (λ (a : Span). a.start <ℚ a.end) stalls

-- the first of them are over by t; the others start after t
abbrev pub AreOver : List Span → ℕ → ℚ → Type 0
AreOver stalls passed t = (k : ℕ) (d : Span) → k < passed → (get_or stalls k d).end ≤ℚ t

abbrev pub AreToCome : List Span → ℕ → ℚ → Type 0
AreToCome stalls passed t = (k : ℕ) (d : Span) → passed ≤ k → k < length stalls → t <ℚ (get_or stalls k d).start

-- a gate that can be, and stalls in order
pub record IsInOrder (o : Opening) : Type 0 where
  pub gate : IsGateFor (gate_for o.gate)
  pub stalls : AreInOrder o.stalls.items
  pub within : o.passed ≤ length o.stalls.items

abbrev pub IsOver : Opening → ℚ → Type 0
IsOver o t = AreOver o.stalls.items o.passed t

-- the server opens at t: what is passed is over, and what is not is to come
pub record HasOpened (o : Opening) (t : ℚ) : Type 0 where
  pub open_then : setups.IsOpenAt (opening_for o) t
  pub over : IsOver o t
  pub ahead : AreToCome o.stalls.items o.passed t

-- nothing but the count of stalls passed is another
pub record IsSameOpening (before after : Opening) : Type 0 where
  pub gate : after.gate ≡ before.gate
  pub stalls : after.stalls.items ≡ before.stalls.items

-- ---- room for arithmetic
-- the time t, and those of a gate, are of a grid with room
pub record GateRoom (gate : Option GateTimes) (t : ℚ) : Type 0 where
  pub grid : ℕ
  pub most : ℚ
  pub room : HasRoom grid most
  pub gate_is : IsGateTime grid most gate
  pub time : IsTime grid most t

-- and those of stalls
pub record OpeningRoom (o : setups.Opening) (t : ℚ) : Type 0 where
  pub grid : ℕ
  pub most : ℚ
  pub room : HasRoom grid most
  pub gate : IsGateTime grid most o.gate
  pub stalls : AreStallTimes grid most o.stalls
  pub time : IsTime grid most t
