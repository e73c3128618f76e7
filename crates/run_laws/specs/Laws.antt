-- The laws of one server, of every discipline and over every lawful view; and what they say of a whole run.
-- Curves are functions of time; an infinite bound says nothing. (Le Boudec and Thiran, chapter 1.)
use Rattle.std.specs.Prelude.{◌≡◌, ◌<◌, ◌≤◌, ℕ, pos, true, List, length}
use Rattle.rational.specs.Rational.{ℚ, int, ◌-ℚ◌, ◌≤ℚ◌}
use Rattle.rational.specs.Extended.{Ext, ◌≤ₑ◌, ◌+ₑ◌}
use Rattle.rational.specs.declared.Extended.TheVariants.{Fin}
use Rattle.min_plus.specs.Convolution.{IsDeconvolution}
use Rattle.min_plus.specs.Deviations.{IsHorizontalDeviation, IsVerticalDeviation}
use Rattle.min_plus.specs.Pointwise.{packetised, shifted}
use Rattle.run_laws.specs.Runs.{SpecRun}
use Rattle.run_laws.specs.Cards.{Class, all, of_flow, of_queue, whole, ServerStep}
use Rattle.run_laws.specs.Classes.{IsOfQueue, IsPart}
use Rattle.run_laws.specs.Servers.{Fifo, Server}
use Rattle.run_laws.specs.Allows.{IsLawfulView}
use Rattle.run_laws.specs.Counts.{departed_in}
use Rattle.run_laws.specs.Premises.{KeepsSizes, KeepsArrivals, KeepsService, IsZeroAtStart, NoneTwice}
use Rattle.min_plus.specs.Functions.{IsRising}
use Rattle.run_laws.specs.Serves.{Serves, ServesPackets}
use Rattle.run_laws.specs.Delays.{hop_delays, AreAtMost, backlog}
use Rattle.run_laws.specs.Routes.{Routes, server_at, route_of, link_at, queue_at}
use Rattle.run_laws.specs.Views.{view}
use Rattle.run_laws.specs.Lawful.{IsLawful}
use Rattle.run_laws.specs.RunPremises.{KeepsPremises}
use Rattle.run_laws.specs.Totals.{is_in, total_curve}
use Rattle.run_laws.specs.Bounds.{IsOneHop, IsEntrance, IsOnlyFlow, IsQueueBounded, IsFlowBounded}

-- a server's curve serves the server as a whole
abbrev pub ServerIsServed : Type 0
ServerIsServed = (server : Server) (end : ℚ) (view : List ServerStep) (β : ℚ → Ext) →
    IsLawfulView server end view → KeepsService β end view → IsZeroAtStart β → Serves all β end view

-- and the one queue of a first in, first out server
abbrev pub FifoQueueIsServed : Type 0
FifoQueueIsServed = (server : Server) (end : ℚ) (view : List ServerStep) (β : ℚ → Ext) →
    IsLawfulView server end view → server.discipline ≡ Fifo → KeepsService β end view → IsZeroAtStart β →
    Serves (of_queue 0) β end view

-- a curve that serves a class serves, less one packet, its whole packets
abbrev pub PacketsAreServed : Type 0
PacketsAreServed = (server : Server) (end : ℚ) (view : List ServerStep) (C : Class) (β : ℚ → Ext) (bits : ℕ) →
    IsLawfulView server end view → KeepsSizes C bits view → Serves C β end view →
    ServesPackets C (packetised β (whole bits)) end view

-- no packet of a class of one queue stays longer than the horizontal deviation
abbrev pub DelayFromService : Type 0
DelayFromService = (server : Server) (end : ℚ) (view : List ServerStep) (C : Class) (queue : ℕ)
    (α β : ℚ → Ext) (delay : Ext) →
    IsLawfulView server end view → IsOfQueue C queue view → KeepsArrivals C α view → Serves C β end view →
    IsRising β → IsHorizontalDeviation α β delay → AreAtMost delay (hop_delays C end view)

-- the backlog is at most the vertical deviation, less one packet
abbrev pub BacklogFromService : Type 0
BacklogFromService = (server : Server) (end : ℚ) (view : List ServerStep) (C : Class) (bits : ℕ)
    (α β : ℚ → Ext) (most : Ext) →
    IsLawfulView server end view → KeepsSizes C bits view → KeepsArrivals C α view → Serves C β end view →
    IsVerticalDeviation α (packetised β (whole bits)) most → (t : ℚ) → t ≤ℚ end → Fin (backlog C view t) ≤ₑ most

-- what leaves in a closed window is at most the deconvolution, less one packet
abbrev pub OutputFromService : Type 0
OutputFromService = (server : Server) (end : ℚ) (view : List ServerStep) (C : Class) (bits : ℕ)
    (α β : ℚ → Ext) (s t : ℚ) (most : Ext) →
    IsLawfulView server end view → KeepsSizes C bits view → KeepsArrivals C α view → Serves C β end view →
    s ≤ℚ t → IsDeconvolution α (packetised β (whole bits)) (t -ℚ s) most → Fin (departed_in C view s t) ≤ₑ most

-- a part f of a queue, as one of its flows, leaves with its own curve, moved left by the queue's horizontal deviation
abbrev pub PartOutputFromService : Type 0
PartOutputFromService = (server : Server) (end : ℚ) (view : List ServerStep) (Q f : Class) (queue : ℕ)
    (α β own : ℚ → Ext) (d : Ext) (s t : ℚ) →
    IsLawfulView server end view → IsOfQueue Q queue view → IsPart f Q view → KeepsArrivals Q α view →
    KeepsArrivals f own view → Serves Q β end view → IsRising β → IsHorizontalDeviation α β d → s ≤ℚ t →
    Fin (departed_in f view s t) ≤ₑ shifted own d (t -ℚ s)

-- where no packet of a class of one queue stays longer than d, at most α, moved left by d, leaves in a closed window
abbrev pub OutputFromDelay : Type 0
OutputFromDelay = (server : Server) (end : ℚ) (view : List ServerStep) (C : Class) (queue : ℕ)
    (α : ℚ → Ext) (d : Ext) (s t : ℚ) →
    IsLawfulView server end view → NoneTwice view → IsOfQueue C queue view → KeepsArrivals C α view →
    Fin (int (pos 0)) ≤ₑ d → AreAtMost d (hop_delays C end view) → s ≤ℚ t →
    Fin (departed_in C view s t) ≤ₑ shifted α d (t -ℚ s)

-- ---- of a run
-- what each server sees of a lawful run is a lawful view
abbrev pub ViewsAreLawful : Type 0
ViewsAreLawful = (net : Routes) (run : SpecRun) (s : ℕ) → IsLawful net run → s < length net.servers →
    IsLawfulView (server_at net s) run.end (view net run s)

-- at each server a flow is a class of one queue, and a part of that queue: the one that its path has there
abbrev pub FlowIsOfOneQueue : Type 0
FlowIsOfOneQueue = (net : Routes) (run : SpecRun) (i s : ℕ) →
    IsOfQueue (of_flow i) (queue_at s (route_of net i).hops) (view net run s)

abbrev pub FlowIsPart : Type 0
FlowIsPart = (net : Routes) (run : SpecRun) (i s : ℕ) →
    IsPart (of_flow i) (of_queue (queue_at s (route_of net i).hops)) (view net run s)

-- a first in, first out server over which one flow passes, and nothing else: the two deviations bound its queue and
-- the flow
abbrev pub OneFlowIsBounded : Type 0
OneFlowIsBounded = (net : Routes) (run : SpecRun) (s i : ℕ) (packet : ℕ → ℕ) (α β : ℕ → ℚ → Ext) (delay most : Ext) →
    IsOnlyFlow net s i → IsLawful net run → KeepsPremises net packet α β run → IsZeroAtStart (β s) → IsRising (β s) →
    IsHorizontalDeviation (α i) (β s) delay → IsVerticalDeviation (α i) (packetised (β s) (whole (packet i))) most →
    IsQueueBounded net run s 0 delay most × IsFlowBounded net run i (delay +ₑ Fin (link_at net s))

-- a first in, first out server at which several flows enter: the two deviations of the sum of their curves bound its
-- queue, and each flow that ends there
abbrev pub SeveralFlowsAreBounded : Type 0
SeveralFlowsAreBounded = (net : Routes) (run : SpecRun) (s bits : ℕ) (packet : ℕ → ℕ) (α β : ℕ → ℚ → Ext)
    (delay most : Ext) →
    IsEntrance net s → IsLawful net run → KeepsPremises net packet α β run → IsZeroAtStart (β s) → IsRising (β s) →
    ((i : ℕ) → is_in net s 0 i ≡ true → packet i ≤ bits) →
    IsHorizontalDeviation (total_curve net s 0 α) (β s) delay →
    IsVerticalDeviation (total_curve net s 0 α) (packetised (β s) (whole bits)) most →
    IsQueueBounded net run s 0 delay most
    × ((i : ℕ) → IsOneHop net i s 0 → IsFlowBounded net run i (delay +ₑ Fin (link_at net s)))
