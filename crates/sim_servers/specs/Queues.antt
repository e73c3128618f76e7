-- The scheduler of a server, of any discipline.
use Rattle.std.specs.Prelude.{Some, ◌≡◌, ℕ, length}
use Rattle.rational.specs.Rational.{ℚ}
use Rattle.run_laws.specs.Cards.{Works}
use Rattle.run_laws.specs.Servers as servers
use Rattle.run_laws.specs.Servers.{Under, ServerState}
use Rattle.run_laws.specs.Next.{next}
use Rattle.queue_sched.specs.Waiting.{Waits, WaitsByPriority}
use Rattle.queue_sched.specs.DrrStates.{WaitsInTurn, drr_goes_on}
use Rattle.queue_sched.specs.Moves.{fifo_goes_on, priority_goes_on}
use Rattle.sim_servers.specs.declared.server_queues.ServerQueues.{ServerQueues}
use Rattle.sim_servers.specs.declared.server_queues.ServerQueues.TheVariants.{Fifo, Priority, Drr}

-- the discipline by which it serves its queues
abbrev pub served_by : ServerQueues → servers.Discipline
served_by (Fifo v) = servers.Fifo
served_by (Priority v) = servers.Priority (length v.waiting.lists)
served_by (Drr v) = servers.Drr v.quanta

-- how many packets it has room for
abbrev pub room_of : ServerQueues → ℕ
room_of (Fifo v) = v.nodes
room_of (Priority v) = v.waiting.nodes
room_of (Drr v) = v.waiting.nodes

-- whether it stands for a server in this state
abbrev pub StandFor : ServerQueues → ServerState → Type 0
StandFor (Fifo v) σ = Waits v σ
StandFor (Priority v) σ = WaitsByPriority v σ
StandFor (Drr v) σ = WaitsInTurn v σ

-- more work on the packet under way changes nothing here
pub work_goes_on : (v : ServerQueues) (σ : ServerState) (u : Under) (a b w : ℚ) → StandFor v σ → σ.under ≡ Some u
    → StandFor v (next (served_by v) σ (Works u.card a b w))
work_goes_on (Fifo v) σ u a b w h e = fifo_goes_on v σ u a b w h e
work_goes_on (Priority v) σ u a b w h e = priority_goes_on v σ u a b w h e
work_goes_on (Drr v) σ u a b w h e = drr_goes_on v σ u a b w h e
