-- What the row of a queue without links promises holds in every lawful view of the port.
use Rattle.std.specs.Prelude.{◌≡◌, ◌≤◌, ℕ, pos, true, false, List, [], ◌∷◌, Option, Some, None}
use Rattle.std.proofs.Common.{arith, inl, inr}
use Rattle.std.proofs.lemmas.Bool.{cases_Bool}
use Rattle.rational.specs.Rational.{ℚ, int, ◌-ℚ◌, ◌≤ℚ◌}
use Rattle.rational.specs.Extended.{Ext, ◌≤ₑ◌}
use Rattle.rational.specs.declared.Extended.TheVariants.{Fin}
use Rattle.rational.proofs.Linear.{with1}
use Rattle.min_plus.specs.Functions.{whole}
use Rattle.run_laws.specs.Cards.{Card, Class, of_queue, ServerStep, Arrives, Works, Leaves, Visits}
use Rattle.run_laws.specs.Allows.{MayArrive}
use Rattle.run_laws.specs.Counts.{upto, before, arrived_upto, departed}
use Rattle.run_laws.specs.Premises.{EachArrival}
use Rattle.run_laws.specs.Delays.{hop_delays, AreAtMost, backlog}
use Rattle.run_laws.proofs.Arrivals.{arrivals_map, arrivals_both, none_arrive}
use Rattle.run_laws.proofs.Gone.{left_nonneg}
use Rattle.arrival_lines.specs.Grid.{micros}
use Rattle.arrival_lines.specs.declared.grid.Queue.{Queue}
use Rattle.tree_network.specs.declared.network.Port.{Port}
use Rattle.port_bounds.specs.Ports.{server_of}
use Rattle.port_bounds.specs.Incoming.{Incoming, queue_in}
use Rattle.port_bounds.specs.Promises.{IsSeenAt, IsHeld}
use Rattle.port_bounds.proofs.Brought.{arrive_known}

-- ---- a queue without links
none_delayed : (x : Ext) (C : Class) (end : ℚ) (V : List ServerStep) → EachArrival (λ c. C c ≡ false) V → AreAtMost x (hop_delays C end V)
none_delayed x C end [] h = tt
none_delayed x C end (Arrives c t ∷ V) h = rw h.0 (none_delayed x C end V h.1)
none_delayed x C end (Works c a b w ∷ V) h = none_delayed x C end V h
none_delayed x C end (Leaves c t ∷ V) h = none_delayed x C end V h
none_delayed x C end (Visits q t ∷ V) h = none_delayed x C end V h

none_left : (came gone : ℚ) → came ≡ int (pos 0) → int (pos 0) ≤ℚ gone → came -ℚ gone ≤ℚ whole 0
none_left came gone none on = rw none (with1 gone (λ c. omega (arith, c.le, c.lt, c.same)))

none_held : (C : Class) (V : List ServerStep) (t : ℚ) → EachArrival (λ c. C c ≡ false) V → Fin (backlog C V t) ≤ₑ Fin (whole 0)
none_held C V t none = none_left (arrived_upto C V t) (departed C V t) (none_arrive C (upto t) V none) (left_nonneg C (before t) V)

-- a packet has some bits
no_packet : (port : Port) (queues : List Incoming) (q : ℕ) (end : ℚ) (V : List ServerStep) → IsSeenAt port queues end V → (queue_in queues q).longest ≡ 0
    → EachArrival (λ c. of_queue q c ≡ false) V
no_packet port queues q end V seen empty =
    arrivals_map (λ c. MayArrive (server_of port).discipline c × (of_queue q c ≡ true → c.bits ≤ (queue_in queues q).longest)) (λ c. of_queue q c ≡ false)
    (λ c both. none c both.0.some_bits both.1) V
    (arrivals_both (MayArrive (server_of port).discipline) (λ c. of_queue q c ≡ true → c.bits ≤ (queue_in queues q).longest) V
    (arrive_known (server_of port) end V seen.lawful) (seen.sizes q))
  where
    none : (c : Card) → 1 ≤ c.bits → (of_queue q c ≡ true → c.bits ≤ (queue_in queues q).longest) → of_queue q c ≡ false
    none c some small = elim (cases_Bool (of_queue q c)) [
      | inl e ↦ absurd (let h = small e in omega (arith, h, some, empty))
      | inr e ↦ e
    ]

-- ---- a row
unfoldable pub is_some : Option Queue → Type 0
is_some None = ⊥
is_some (Some queue) = Unit {0}

unfoldable pub queue_of : Option Queue → Queue
queue_of None = record { delay = 0; backlog = 0 }
queue_of (Some queue) = queue

pub empty_is_held : (port : Port) (queues : List Incoming) (q : ℕ) (end : ℚ) (V : List ServerStep) → IsSeenAt port queues end V → (queue_in queues q).longest ≡ 0
    → IsHeld record { delay = 0; backlog = 0 } q end V
empty_is_held port queues q end V seen empty =
    let none = no_packet port queues q end V seen empty in record {
      delays = none_delayed (Fin (micros 0)) (of_queue q) end V none;
      backlogs = λ t l. none_held (of_queue q) V t none;
    }
