-- Networks with one server changed still may stand.
use Rattle.std.proofs.Common.{◌≡◌, ◌≢◌, ℕ, ◌<◌, List, length, Option, Some, true, sym, ap, ◌∙◌, subst, inl, inr, arith}
use Rattle.std.specs.Prelude.{Contains, slice_get, slice_set, slice_index}
use Rattle.std.proofs.lemmas.List.{length-set}
use Rattle.std.proofs.lemmas.List.Elements.{All-set, All-contains}
use Rattle.std.proofs.lemmas.Bool.Decides.{eqb_tells}
use Rattle.std.proofs.lemmas.Option.{same_Some}
use Rattle.run_laws.specs.Servers.{Discipline, queue_count}
use Rattle.net_model.specs.Networks.{Net, NetServer, NetFlow}
use Rattle.net_model.specs.Accepted.{IsServer, IsInQuantum, IsHop, IsFlow, IsAccepted}
use Rattle.net_model.proofs.Short.{all_of}
use Rattle.net_model.specs.Quanta.{is_in_quantum}
use Rattle.net_model.proofs.Quanta.{in_quantum}
use Rattle.net_cells.specs.Numbered.{discipline_of}
use Rattle.net_edits.specs.Changed.{put_server}
use Rattle.net_edits.specs.Values.{quanta_fit}
use Rattle.net_edits.proofs.Places.{get-set_same, get-set_other, pairs-set}
use Rattle.net_edits.proofs.Fitting.{taken_at, fits_at, flow_of_fitting}

server_stands : (net : Net) (s : ℕ) (old new : NetServer) → IsAccepted net → slice_get net.servers s ≡ Some old
    → IsServer new → new.name ≡ old.name
    → ((f : NetFlow) → IsFlow net.servers f → Contains net.flows (Some f) → IsFlow (slice_set net.servers s new) f)
    → IsAccepted (put_server net s new)
server_stands net s old new a at is name flows = record {
  version = a.version;
  few_servers = omega (arith, a.few_servers, length-set net.servers s new);
  few_flows = a.few_flows;
  names = (
    pairs-set (λ (m n : NetServer). m.name ≢ n.name) net.servers s old new at (λ z h e. h (sym name ∙ e)) (λ z h e. h (e ∙ name))
        a.names.0,
    a.names.1,
  );
  servers = λ t has.
      All-contains IsServer (slice_set net.servers s new) t
      (All-set IsServer net.servers s new is (all_of IsServer net.servers a.servers)) has;
  flows = λ f has. flows f (a.flows f has) has;
}

-- ---- hops
module _ (servers : List NetServer) (s : ℕ) (old new : NetServer) (at : slice_get servers s ≡ Some old) where
  was_old : (n q bits : ℕ) (h : IsHop servers n q bits) → n ≡ s → h.server ≡ old
  was_old n q bits h e = same_Some h.server old (sym h.is ∙ ap (slice_get servers) e ∙ at)

  now_new : (n : ℕ) → n ≡ s → slice_get (slice_set servers s new) n ≡ Some new
  now_new n e = ap (slice_get (slice_set servers s new)) e ∙ get-set_same servers s new old at

  other_hop : (n q bits : ℕ) → IsHop servers n q bits → n ≢ s → IsHop (slice_set servers s new) n q bits
  other_hop n q bits h differs = record {
    server = h.server;
    is = get-set_other servers s n new differs ∙ h.is;
    has_queue = h.has_queue;
    takes = h.takes;
  }

  -- the same discipline
  same_hop : (n q bits : ℕ) → new.discipline ≡ old.discipline → IsHop servers n q bits → IsHop (slice_set servers s new) n q bits
  same_hop n q bits same h =
      elim (eqb_tells n s) [
        | inl e ↦
            let way : h.server.discipline ≡ new.discipline = ap (λ (t : NetServer). t.discipline) (was_old n q bits h e.1) ∙ sym same in
            record {
              server = new;
              is = now_new n e.1;
              has_queue = subst (λ (d : Discipline). q < queue_count d) way h.has_queue;
              takes = subst (λ (d : Discipline). IsInQuantum d q bits) way h.takes;
            }
        | inr e ↦ other_hop n q bits h e.1
      ]

  -- as many queues, and a packet that is in the quantum
  fitting_hop : (n q bits : ℕ) → queue_count new.discipline ≡ queue_count old.discipline
      → taken_at (slice_set servers s new) bits n q ≡ true → IsHop servers n q bits → IsHop (slice_set servers s new) n q bits
  fitting_hop n q bits many fits h =
      elim (eqb_tells n s) [
        | inl e ↦
            let count : queue_count h.server.discipline ≡ queue_count new.discipline =
            ap (λ (t : NetServer). queue_count t.discipline) (was_old n q bits h e.1) ∙ sym many in
            record {
              server = new;
              is = now_new n e.1;
              has_queue = subst (λ (m : ℕ). q < m) count h.has_queue;
              takes =
                  in_quantum new.discipline q bits
                  (subst (λ (o : Option NetServer). is_in_quantum (discipline_of o) q bits ≡ true) (now_new n e.1) fits);
            }
        | inr e ↦ other_hop n q bits h e.1
      ]

-- ---- networks
-- a flow whose hops may stand on other servers
rehopped : (servers others : List NetServer) (f : NetFlow) → IsFlow servers f
    → ((k : ℕ) → k < length f.path → IsHop others (slice_index f.path k) (slice_index f.queues k) f.packet) → IsFlow others f
rehopped servers others f is hops = record {
  name = is.name;
  packet = is.packet;
  some = is.some;
  few = is.few;
  paired = is.paired;
  hops = hops;
  once = is.once;
  arrival = is.arrival;
}

pub same_discipline : (net : Net) (s : ℕ) (old new : NetServer) → IsAccepted net → slice_get net.servers s ≡ Some old
    → IsServer new → new.name ≡ old.name → new.discipline ≡ old.discipline → IsAccepted (put_server net s new)
same_discipline net s old new a at is name same =
    server_stands net s old new a at is name (λ f h has.
    rehopped net.servers (slice_set net.servers s new) f h (λ k within.
    same_hop net.servers s old new at (slice_index f.path k) (slice_index f.queues k) f.packet same (h.hops k within)))

pub quanta_stand : (net : Net) (s : ℕ) (old new : NetServer) → IsAccepted net → slice_get net.servers s ≡ Some old
    → IsServer new → new.name ≡ old.name → queue_count new.discipline ≡ queue_count old.discipline
    → quanta_fit (put_server net s new) ≡ true → IsAccepted (put_server net s new)
quanta_stand net s old new a at is name many fits =
    server_stands net s old new a at is name (λ f h has.
    let along = flow_of_fitting (slice_set net.servers s new) net.flows f fits has in
    rehopped net.servers (slice_set net.servers s new) f h (λ k within.
    fitting_hop net.servers s old new at (slice_index f.path k) (slice_index f.queues k) f.packet many
    (fits_at (slice_set net.servers s new) f.packet f.path f.queues k along within h.paired) (h.hops k within)))
