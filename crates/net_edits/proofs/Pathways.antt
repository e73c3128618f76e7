-- Paths that may be.
use Rattle.std.proofs.Common.{◌≡◌, ◌≢◌, ℕ, zero, suc, ◌<◌, ◌≤◌, List, [], ◌∷◌, length, Option, Some, None, true, refl, arith}
use Rattle.std.specs.Prelude.{◌&&◌, AllPairs, nat_le, nat_lt, slice_get, slice_index}
use Rattle.std.proofs.lemmas.Bool.{and_parts, leb-true, ltb-true}
use Rattle.run_laws.specs.Servers.{queue_count}
use Rattle.net_model.specs.Accepted.{IsHop}
use Rattle.net_model.specs.Networks.{Net, NetServer}
use Rattle.net_model.specs.Plain.{all_differ}
use Rattle.net_model.proofs.PlainNets.{differ}
use Rattle.net_model.specs.Quanta.{is_in_quantum}
use Rattle.net_model.proofs.Quanta.{in_quantum}
use Rattle.net_cells.specs.Numbered.{discipline_of, queues}
use Rattle.net_edits.specs.Values.{are_queues, may_be_path, fits_along}
use Rattle.net_edits.proofs.Fitting.{fits_at}

pub record IsWay (net : Net) (path lanes : List ℕ) : Type 0 where
  pub some : 1 ≤ length path
  pub few : length path ≤ 16
  pub once : AllPairs (λ s t. s ≢ t) path
  pub queues : are_queues net path lanes ≡ true

pub way_of : (net : Net) (path lanes : List ℕ) → may_be_path net path lanes ≡ true → IsWay net path lanes
way_of net path lanes e =
    let first = and_parts (nat_le 1 (length path)) (nat_le (length path) 16 && (all_differ path && are_queues net path lanes)) e in
    let second = and_parts (nat_le (length path) 16) (all_differ path && are_queues net path lanes) first.1 in
    let third = and_parts (all_differ path) (are_queues net path lanes) second.1 in
    record {
      some = leb-true 1 (length path) first.0;
      few = leb-true (length path) 16 second.0;
      once = differ path third.0;
      queues = third.1;
    }

queue_at : (net : Net) (path lanes : List ℕ) (k : ℕ) → are_queues net path lanes ≡ true → k < length path
    → length lanes ≡ length path → slice_index lanes k < queues net (slice_index path k)
queue_at net [] lanes k e within pair = absurd (omega (arith, within))
queue_at net (s ∷ path) [] k e within pair = absurd (omega (arith, pair))
queue_at net (s ∷ path) (q ∷ lanes) zero e within pair =
    ltb-true q (queues net s) (and_parts (nat_lt q (queues net s)) (are_queues net path lanes) e).0
queue_at net (s ∷ path) (q ∷ lanes) (suc k) e within pair =
    queue_at net path lanes k (and_parts (nat_lt q (queues net s)) (are_queues net path lanes) e).1 (omega (arith, within))
    (omega (arith, pair))

-- a queue that there is, in whose quantum a packet is
hop_of : (servers : List NetServer) (s q bits : ℕ) (o : Option NetServer) → slice_get servers s ≡ o
    → q < queue_count (discipline_of o) → is_in_quantum (discipline_of o) q bits ≡ true → IsHop servers s q bits
hop_of servers s q bits None at has takes = absurd (omega (arith, has))
hop_of servers s q bits (Some server) at has takes = record {
  server = server;
  is = at;
  has_queue = has;
  takes = in_quantum server.discipline q bits takes;
}

pub hops_of : (net : Net) (path lanes : List ℕ) (bits : ℕ) → IsWay net path lanes → length lanes ≡ length path
    → fits_along net.servers bits path lanes ≡ true → (k : ℕ) → k < length path
    → IsHop net.servers (slice_index path k) (slice_index lanes k) bits
hops_of net path lanes bits way pair fits k within =
    let s = slice_index path k in
    let q = slice_index lanes k in
    hop_of net.servers s q bits (slice_get net.servers s) refl (queue_at net path lanes k way.queues within pair)
    (fits_at net.servers bits path lanes k fits within pair)
