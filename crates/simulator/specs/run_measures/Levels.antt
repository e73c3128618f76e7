-- What is known of all packets and queues after some steps of a run.
use Rattle.std.specs.Prelude.{◌≡◌, ℕ, ◌<◌, ◌≤◌, [], ◌∷◌, ◌++◌, length, slice_index_or}
use Rattle.rational.specs.Rational.{ℚ}
use Rattle.run_laws.specs.Runs.{SpecRun}
use Rattle.run_laws.specs.Routes.{Routes, route_of, queue_at, first_server}
use Rattle.simulator.specs.declared.run_measures.levels.Levels.{Levels}
use Rattle.simulator.specs.run_measures.Gauges.{Gains, Loses, HasRoom, HasGauge, ChangesOne, gauge_in, gauges_of}
use Rattle.simulator.specs.run_measures.Gauged.{state_after, AreEntered, AreGauged}

-- the flow and the bits of a packet
abbrev pub flow_for : Levels → ℕ → ℕ
flow_for v p = slice_index_or v.flows.items p 0

abbrev pub bits_for : Levels → ℕ → ℕ
bits_for v p = slice_index_or v.bits.items p 0

pub record IsKnown (v : Levels) (p : ℕ) : Type 0 where
  pub flow : p < length v.flows.items
  pub bits : p < length v.bits.items

pub record SamePackets (before after : Levels) : Type 0 where
  pub flows : after.flows.items ≡ before.flows.items
  pub bits : after.bits.items ≡ before.bits.items

-- the queue of a flow at server s
abbrev pub queue_for : Routes → ℕ → ℕ → ℕ
queue_for net flow s = queue_at s (route_of net flow).hops

-- there is that queue's gauge, and so many bits more have room there; or are there
pub record MayGain (net : Routes) (v : Levels) (s flow bits : ℕ) : Type 0 where
  pub has : HasGauge (gauges_of v.rows.items) s (queue_for net flow s)
  pub room : HasRoom (gauge_in (gauges_of v.rows.items) s (queue_for net flow s)) bits

pub record MayLose (net : Routes) (v : Levels) (s flow bits : ℕ) : Type 0 where
  pub has : HasGauge (gauges_of v.rows.items) s (queue_for net flow s)
  pub held : bits ≤ (gauge_in (gauges_of v.rows.items) s (queue_for net flow s)).present

-- they come to it, or leave it
abbrev pub GainsAt : Routes → Levels → Levels → (s flow bits : ℕ) → ℚ → Type 0
GainsAt net before after s flow bits t =
    let q = queue_for net flow s in
    ChangesOne (λ g h. Gains g h bits t) (gauges_of before.rows.items) (gauges_of after.rows.items) s q

abbrev pub LosesAt : Routes → Levels → Levels → (s flow bits : ℕ) → ℚ → Type 0
LosesAt net before after s flow bits t =
    let q = queue_for net flow s in
    ChangesOne (λ g h. Loses g h bits t) (gauges_of before.rows.items) (gauges_of after.rows.items) s q

-- ---- a packet enters
abbrev pub MayEnter : Routes → Levels → (flow bits : ℕ) → Type 0
MayEnter net v flow bits = MayGain net v (first_server (route_of net flow).hops) flow bits

pub record Enters (net : Routes) (before after : Levels) (flow bits : ℕ) (t : ℚ) : Type 0 where
  pub flows : after.flows.items ≡ before.flows.items ++ flow ∷ []
  pub bits_are : after.bits.items ≡ before.bits.items ++ bits ∷ []
  pub gains : GainsAt net before after (first_server (route_of net flow).hops) flow bits t

-- ---- packet p reaches server s, or leaves it
abbrev pub MayReach : Routes → Levels → (s p : ℕ) → Type 0
MayReach net v s p = MayGain net v s (flow_for v p) (bits_for v p)

abbrev pub MayLeave : Routes → Levels → (s p : ℕ) → Type 0
MayLeave net v s p = MayLose net v s (flow_for v p) (bits_for v p)

abbrev pub Reaches : Routes → Levels → Levels → (s p : ℕ) → ℚ → Type 0
Reaches net before after s p t = GainsAt net before after s (flow_for before p) (bits_for before p) t

abbrev pub Leaves : Routes → Levels → Levels → (s p : ℕ) → ℚ → Type 0
Leaves net before after s p t = LosesAt net before after s (flow_for before p) (bits_for before p) t

-- they tell of the first k steps of a lawful run
pub record Tells (net : Routes) (run : SpecRun) (k : ℕ) (v : Levels) : Type 0 where
  pub entered : AreEntered (state_after net run.steps k).entered v.flows.items v.bits.items
  pub gauged : AreGauged net run k (state_after net run.steps k) (gauges_of v.rows.items)
