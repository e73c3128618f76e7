-- Which values an edit may have. Own choice; packets and quanta are those of Shreedhar and Varghese.
use Rattle.std.specs.Prelude.{ℕ, ℤ, pos, ◌^◌, List, [], ◌∷◌, length, map, Option, Some, None, Ok, Err, Bool, true, false, ◌&&◌, nat_le, nat_lt, slice_get, if◌then◌else◌}
use Rattle.std.specs.List.{list_all}
use Rattle.net_model.specs.declared.edit.PathEntry.{PathEntry}
use Rattle.net_model.specs.Networks.{Net, NetServer, NetFlow}
use Rattle.net_model.specs.Plain.{all_differ}
use Rattle.net_model.specs.Quanta.{is_in_quantum}
use Rattle.net_cells.specs.Numbered.{discipline_of, queues}
use Rattle.net_edits.specs.Refusals.{Or, bad_value}
pub use Rattle.net_model.specs.Names.{is_name}

-- ---- numbers
-- a whole number from 0 on that passes a test
abbrev pub whole_that : (ℕ → Bool) → ℤ → Or ℕ
whole_that test (pos n) = if test n then Ok n else Err bad_value
whole_that test _ = Err bad_value

-- a packet or a quantum has 1 to 2^24 bits
abbrev pub is_length : ℕ → Bool
is_length bits = nat_le 1 bits && nat_le bits (2 ^ 24)

-- ---- paths
abbrev pub entry_queues : List PathEntry → List ℕ
entry_queues = map (λ entry. entry.queue)

-- each server has the queue that is beside it
abbrev pub are_queues : Net → (path lanes : List ℕ) → Bool
are_queues net [] lanes = true
are_queues net (s ∷ path) [] = true
are_queues net (s ∷ path) (q ∷ lanes) = nat_lt q (queues net s) && are_queues net path lanes

-- 1 to 16 hops, no server twice, and queues that there are
abbrev pub may_be_path : Net → (path lanes : List ℕ) → Bool
may_be_path net path lanes =
    nat_le 1 (length path) && (nat_le (length path) 16 && (all_differ path && are_queues net path lanes))

-- ---- quanta
-- a packet of so many bits is within the quanta of the queues along a path
abbrev pub fits_along : List NetServer → ℕ → (path lanes : List ℕ) → Bool
fits_along servers bits [] lanes = true
fits_along servers bits (s ∷ path) [] = true
fits_along servers bits (s ∷ path) (q ∷ lanes) =
    is_in_quantum (discipline_of (slice_get servers s)) q bits && fits_along servers bits path lanes

abbrev pub place_fits : List NetServer → Option NetFlow → Bool
place_fits servers None = true
place_fits servers (Some flow) = fits_along servers flow.packet flow.path flow.queues

-- no quantum is below the longest packet of the flows in its queue
abbrev pub quanta_fit : Net → Bool
quanta_fit net = list_all (place_fits net.servers) net.flows
