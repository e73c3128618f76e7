-- The quanta of a server's queues, where it has some: which queues have one, which packets are within it, and another one.
-- Own choice; packets and quanta are those of Shreedhar and Varghese.
use Rattle.std.specs.Prelude.{ℕ, length, Bool, true, false, nat_le, nat_lt, slice_index, slice_set}
use Rattle.run_laws.specs.Servers.{Discipline, Fifo, Priority, Drr}

-- a queue of a server that has quanta
abbrev pub is_quantum_of : Discipline → ℕ → Bool
is_quantum_of Fifo queue = false
is_quantum_of (Priority n) queue = false
is_quantum_of (Drr quanta) queue = nat_lt queue (length quanta)

-- a packet of so many bits is no longer than the quantum of a queue, where the server has quanta
abbrev pub is_in_quantum : Discipline → (queue bits : ℕ) → Bool
is_in_quantum Fifo queue bits = true
is_in_quantum (Priority n) queue bits = true
is_in_quantum (Drr quanta) queue bits = nat_le bits (slice_index quanta queue)

-- the quantum of a queue, where it has one, is so many bits
abbrev pub set_quantum : ℕ → ℕ → Discipline → Discipline
set_quantum queue bits Fifo = Fifo
set_quantum queue bits (Priority n) = Priority n
set_quantum queue bits (Drr quanta) = Drr (slice_set quanta queue bits)
