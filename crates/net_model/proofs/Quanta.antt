-- Packets within a quantum, and servers with another quantum.
use Rattle.std.proofs.Common.{◌≡◌, ℕ, ◌≤◌, length, true, refl, sym, subst}
use Rattle.std.specs.Prelude.{slice_index, slice_set}
use Rattle.std.proofs.lemmas.Bool.{leb-true, le-leb}
use Rattle.std.proofs.lemmas.List.{length-set}
use Rattle.std.proofs.lemmas.List.Elements.{All-set}
use Rattle.run_laws.specs.Servers.{Discipline, Fifo, Priority, Drr, queue_count}
use Rattle.net_model.specs.Accepted.{IsLength, HasFewQueues, IsInQuantum}
use Rattle.net_model.specs.Quanta.{is_in_quantum, set_quantum}

pub in_quantum : (d : Discipline) (queue bits : ℕ) → is_in_quantum d queue bits ≡ true → IsInQuantum d queue bits
in_quantum Fifo queue bits e = tt
in_quantum (Priority n) queue bits e = tt
in_quantum (Drr quanta) queue bits e = leb-true bits (slice_index quanta queue) e

pub to_quantum : (d : Discipline) (queue bits : ℕ) → IsInQuantum d queue bits → is_in_quantum d queue bits ≡ true
to_quantum Fifo queue bits h = refl
to_quantum (Priority n) queue bits h = refl
to_quantum (Drr quanta) queue bits h = le-leb bits (slice_index quanta queue) h

pub few_quanta : (d : Discipline) (queue bits : ℕ) → IsLength bits → HasFewQueues d → HasFewQueues (set_quantum queue bits d)
few_quanta Fifo queue bits is h = tt
few_quanta (Priority n) queue bits is h = h
few_quanta (Drr quanta) queue bits is h =
    let same : length quanta ≡ length (slice_set quanta queue bits) = sym (length-set quanta queue bits) in
    (subst (λ (n : ℕ). (1 ≤ n) × (n ≤ 8)) same h.0, All-set IsLength quanta queue bits is h.1)

pub as_many : (d : Discipline) (queue bits : ℕ) → queue_count (set_quantum queue bits d) ≡ queue_count d
as_many Fifo queue bits = refl
as_many (Priority n) queue bits = refl
as_many (Drr quanta) queue bits = length-set quanta queue bits
