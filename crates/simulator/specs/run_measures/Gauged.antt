-- What the gauges of the queues tell after some steps of a run.
use Rattle.std.specs.Prelude.{Option, Some, None, ◌≡◌, ◌⊎◌, ℕ, ◌+◌, ◌^◌, ◌<◌, ◌≤◌, List, [], ◌∷◌, length, map, take, drop, slice_index_or}
use Rattle.rational.specs.Rational.{ℚ, ◌+ℚ◌, ◌≤ℚ◌, ◌<ℚ◌}
use Rattle.run_laws.specs.declared.steps.Step.{Step}
use Rattle.run_laws.specs.Runs.{SpecRun}
use Rattle.run_laws.specs.Cards.{Card, Class, of_queue, whole, ServerStep}
use Rattle.run_laws.specs.Servers.{Under, ServerState, queue_count}
use Rattle.run_laws.specs.Delays.{backlog}
use Rattle.run_laws.specs.Routes.{Routes, server_at}
use Rattle.run_laws.specs.Views.{Entry, entry_of, view_from}
use Rattle.run_laws.specs.Lawful.{RunState, state_at, run_start, after_run}
use Rattle.simulator.specs.declared.run_measures.gauge.Gauge.{Gauge}
use Rattle.simulator.specs.run_measures.Gauges.{counted, level_at, gauge_in}
use Rattle.simulator.specs.run_measures.Peaks.{backlog_at}

-- ---- one queue
-- the bits of the packets of a class
abbrev pub bits_of : Class → List Card → ℕ
bits_of C [] = 0
bits_of C (c ∷ cs) = counted (C c) c.bits + bits_of C cs

-- at time t the last packet left; one that is under way leaves later
abbrev pub LeavesLater : Option Under → (t busy : ℚ) → Type 0
LeavesLater None t busy = t ≤ℚ busy
LeavesLater (Some u) t busy = t <ℚ busy

-- so many bits were there at some time
pub record WasThere (so_far : ℚ → ℚ) (end now : ℚ) (bits : ℕ) : Type 0 where
  pub time : ℚ
  pub by_now : time ≤ℚ now
  pub in_run : time ≤ℚ end
  pub there : so_far time ≡ whole bits

-- a gauge of queue q of a server in this state: it tells of the backlog at each time what does not come of later steps
pub record IsGauged (total : ℚ → ℚ) (end : ℚ) (q : ℕ) (σ : ServerState) (later : List ServerStep)
    (g : Gauge) : Type 0 where
  pub so_far : ℚ → ℚ
  pub rest : (t : ℚ) → total t ≡ so_far t +ℚ backlog (of_queue q) later t
  pub present : g.present ≡ bits_of (of_queue q) σ.inside
  pub short : g.left < 2 ^ 32
  pub level : (t : ℚ) → σ.now ≤ℚ t → so_far t ≡ whole (level_at g t)
  pub last : LeavesLater σ.under g.left_at σ.busy
  pub above : (t : ℚ) → so_far t ≤ℚ whole g.peak
  pub reached : (g.peak ≡ 0) ⊎ WasThere so_far end σ.now g.peak

-- ---- all queues
-- the state after so many steps
abbrev pub state_after : Routes → List Step → ℕ → RunState
state_after net xs k = after_run net (run_start net) (take k xs)

-- a packet's number and its bits are below 2^32
pub record AreFew (entered : List Entry) : Type 0 where
  pub few : length entered ≤ 2 ^ 32
  pub short : (p : ℕ) → (entry_of entered p).bits < 2 ^ 32

-- these are the flows and the bits of the packets that have entered
pub record AreEntered (entered : List Entry) (flows bits : List ℕ) : Type 0 where
  pub flows_are : flows ≡ map (λ e. e.flow) entered
  pub bits_are : bits ≡ map (λ e. e.bits) entered
  pub are_few : AreFew entered

-- after the first k steps, in the state r, the gauges tell of each queue
pub record AreGauged (net : Routes) (run : SpecRun) (k : ℕ) (r : RunState) (rows : List (List Gauge)) : Type 0 where
  pub as_many : length rows ≡ length net.servers
  pub row : (s : ℕ) → s < length net.servers →
      length (slice_index_or rows s []) ≡ queue_count (server_at net s).discipline
  pub each : (s q : ℕ) → s < length net.servers → q < queue_count (server_at net s).discipline →
      let later = view_from net s r.entered (drop k run.steps) in
      IsGauged (backlog_at net run s q) run.end q (state_at r s) later (gauge_in rows s q)
