-- What a queue is served, as a rate with a debt, where the server's curve is at least such a rate, and what others
-- bring is at most a line. (Le Boudec and Thiran, non-preemptive priority and, in section 6.2, blind multiplexing;
-- Bouillard, Boyer and Le Corronc for deficit round robin. Lines in place of curves are own choice.)
use Rattle.std.specs.Prelude.{◌≡◌, ◌≤◌, ◌<◌, ℕ, List, length, get_or, sum}
use Rattle.rational.specs.Rational.{ℚ, ◌+ℚ◌, ◌-ℚ◌, ◌*ℚ◌, ◌≤ℚ◌}
use Rattle.rational.specs.Extended.{Ext}
use Rattle.min_plus.specs.Formulas.{bucket_value}
use Rattle.run_laws.specs.Cards.{Class, whole, of_queue, before_queue, after_queue, ServerStep}
use Rattle.run_laws.specs.Servers.{Fifo, Priority, Drr, Server}
use Rattle.run_laws.specs.Allows.{IsLawfulView}
use Rattle.run_laws.specs.Premises.{KeepsArrivals, KeepsService, KeepsSizes}
use Rattle.run_laws.specs.Serves.{Serves}
use Rattle.residual_laws.specs.DrrLaws.{share, owed}
use Rattle.residual_laws.specs.RestLaws.{others}
use Rattle.residual_laws.specs.lines.RateDebt.{rate_debt_value, IsAtLeastRate}

-- the one queue of a first in, first out server: the rate with the debt itself
abbrev pub FifoLineServes : Type 0
FifoLineServes = (server : Server) (end : ℚ) (view : List ServerStep) (β : ℚ → Ext) (rate debt : ℚ) →
    IsLawfulView server end view → server.discipline ≡ Fifo → KeepsService β end view → IsAtLeastRate β rate debt →
    Serves (of_queue 0) (rate_debt_value rate debt) end view

-- queue i of a priority server: the rate less that of the queues before it, and the debt with their burst and one
-- packet of the queues after it
abbrev pub PriorityLineServes : Type 0
PriorityLineServes = (server : Server) (end : ℚ) (view : List ServerStep) (queues i lower : ℕ) (β : ℚ → Ext)
    (rate debt burst higher : ℚ) →
    IsLawfulView server end view → server.discipline ≡ Priority queues → KeepsService β end view →
    IsAtLeastRate β rate debt → higher ≤ℚ rate → KeepsArrivals (before_queue i) (bucket_value burst higher) view →
    KeepsSizes (after_queue i) lower view →
    Serves (of_queue i) (rate_debt_value (rate -ℚ higher) (debt +ℚ burst +ℚ whole lower)) end view

-- queue i of a deficit round robin server: its share of both, and what is owed
abbrev pub DrrLineServes : Type 0
DrrLineServes = (server : Server) (end : ℚ) (view : List ServerStep) (quanta longest : List ℕ) (i : ℕ) (β : ℚ → Ext)
    (rate debt : ℚ) →
    IsLawfulView server end view → server.discipline ≡ Drr quanta → length longest ≡ length quanta →
    i < length quanta → 1 ≤ get_or quanta i 0 →
    ((q : ℕ) → KeepsSizes (of_queue q) (get_or longest q 0) view) → KeepsService β end view →
    IsAtLeastRate β rate debt →
    let part = share (get_or quanta i 0) (sum quanta) in
    let first = owed (get_or quanta i 0) (get_or longest i 0) (sum quanta) (sum longest) in
    Serves (of_queue i) (rate_debt_value (part *ℚ rate) (part *ℚ debt +ℚ first)) end view

-- a class of packets, as a queue, at a server of any discipline: the rate less that of all others, and the debt with
-- their burst
abbrev pub RestLineServes : Type 0
RestLineServes = (server : Server) (end : ℚ) (view : List ServerStep) (C : Class) (β : ℚ → Ext)
    (rate debt burst brought : ℚ) →
    IsLawfulView server end view → KeepsService β end view → IsAtLeastRate β rate debt → brought ≤ℚ rate →
    KeepsArrivals (others C) (bucket_value burst brought) view →
    Serves C (rate_debt_value (rate -ℚ brought) (debt +ℚ burst)) end view
