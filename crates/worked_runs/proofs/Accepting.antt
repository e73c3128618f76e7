-- That a small network is accepted, and the order of its servers.
use Rattle.std.specs.Prelude.{Contains}
use Rattle.std.proofs.Common.{◌≡◌, ◌≢◌, ℕ, zero, suc, ◌<◌, ◌≤◌, ◌^◌, List, [], ◌∷◌, length, get_or, take, Some, refl, ap, sym, subst, inl, inr}
use Rattle.std.proofs.Common.{arith}
use Rattle.std.proofs.lemmas.Option.{same_Some}
use Rattle.rational.proofs.Integers.{nat_lt, nat_nonneg}
use Rattle.upp_limits.specs.Windows.{IsLeast}
use Rattle.run_laws.specs.Cards.{whole}
use Rattle.run_laws.specs.Servers.{Discipline}
use Rattle.net_model.specs.Accepted.{IsServer, IsHop, IsFlow, HasFewQueues, IsAccepted}
use Rattle.net_model.specs.Names.{IsName, DifferInName}
use Rattle.net_model.specs.Networks.{Net, NetServer, NetFlow}
use Rattle.net_model.specs.Orders.{IsReady, IsOrder}
use Rattle.net_model.specs.Walks.{IsNext}
use Rattle.net_model.proofs.KindsStand.{kinds_may_stand}
use Rattle.net_model.proofs.Short.{no_pairs, one_pair, alone, one_of_two}
use Rattle.worked_runs.specs.Parts.{late_server, bucket_flow}

-- two that end in another byte
pub ends_apart : (a b c d : ℕ) → b < d → (a ∷ b ∷ []) ≢ (c ∷ d ∷ [])
ends_apart a b c d h e = let f : b ≡ d = ap (λ (xs : List ℕ). get_or xs 1 0) e in omega (arith, h, f)

-- ---- servers and flows
pub is_late_server : (name : List ℕ) (link : ℕ) (d : Discipline) → IsName name → HasFewQueues d → IsServer (late_server name link d)
is_late_server name link d named few = record {
  name = named;
  rate = nat_lt 0 100 (omega arith);
  kind = (nat_nonneg 10, refl);
  service = kinds_may_stand.rate_latency (whole 100) (whole 10) (nat_nonneg 100) (nat_nonneg 10);
  link = nat_nonneg link;
  queues = few;
}

-- a flow with one hop
pub is_one_hop_flow : (servers : List NetServer) (name : List ℕ) (queue packet rate : ℕ) → IsName name → 1 ≤ packet → packet ≤ 2 ^ 24
    → IsHop servers 0 queue packet → IsFlow servers (bucket_flow name (0 ∷ []) (queue ∷ []) packet rate)
is_one_hop_flow servers name queue packet rate named some few hop = record {
  name = named;
  packet = (some, few);
  some = omega arith;
  few = omega arith;
  paired = refl;
  hops = hops;
  once = no_pairs (λ s t. s ≢ t) 0;
  arrival = kinds_may_stand.bucket (whole packet) (whole rate) (nat_nonneg packet) (nat_nonneg rate);
}
  where
    hops : (k : ℕ) → k < 1 → IsHop servers (get_or (0 ∷ []) k 0) (get_or (queue ∷ []) k 0) packet
    hops zero within = hop
    hops (suc k) within = absurd (omega (arith, within))

-- ---- one server and one flow
abbrev pub net_of_one : NetServer → NetFlow → Net
net_of_one s f = record { version = 1; servers = s ∷ []; flows = Some f ∷ [] }

pub one_accepted : (s : NetServer) (f : NetFlow) → IsServer s → IsFlow (s ∷ []) f → IsAccepted (net_of_one s f)
one_accepted s f served its_flow = record {
  version = (omega arith, omega arith);
  few_servers = omega arith;
  few_flows = omega arith;
  names = (no_pairs (λ s t. s.name ≢ t.name) s, no_pairs DifferInName (Some f));
  servers = λ t has. subst IsServer (alone s t has) served;
  flows = λ g has. subst (IsFlow (s ∷ [])) (same_Some f g (alone (Some f) (Some g) has)) its_flow;
}

-- ---- one server and two flows
abbrev pub net_of_two : NetServer → (f g : NetFlow) → Net
net_of_two s f g = record { version = 1; servers = s ∷ []; flows = Some f ∷ Some g ∷ [] }

-- what holds of both flows holds of each
of_both : (f g : NetFlow) (P : NetFlow → Type 0) → P f → P g → (h : NetFlow) → Contains (Some f ∷ Some g ∷ []) (Some h) → P h
of_both f g P p q h has = elim (one_of_two (Some f) (Some g) (Some h) has) [
  | inl e ↦ subst P (same_Some f h e) p
  | inr e ↦ subst P (same_Some g h e) q
]

pub two_accepted : (s : NetServer) (f g : NetFlow) → IsServer s → IsFlow (s ∷ []) f → IsFlow (s ∷ []) g → DifferInName (Some f) (Some g)
    → IsAccepted (net_of_two s f g)
two_accepted s f g served first second apart = record {
  version = (omega arith, omega arith);
  few_servers = omega arith;
  few_flows = omega arith;
  names = (no_pairs (λ s t. s.name ≢ t.name) s, one_pair DifferInName (Some f) (Some g) apart);
  servers = λ t has. subst IsServer (alone s t has) served;
  flows = of_both f g (IsFlow (s ∷ [])) first second;
}

-- ---- orders
-- where each path has one hop, no server comes right before another
abbrev pub HasOneHopPaths : Net → Type 0
HasOneHopPaths net = (f : NetFlow) → Contains net.flows (Some f) → length f.path ≡ 1

no_next : (net : Net) → HasOneHopPaths net → (a b : ℕ) → IsNext net a b → ⊥
no_next net short a b h =
    let one = short h.flow h.live in
    let on : suc h.step.hop < length h.flow.path = h.step.on_path in
    absurd (omega (arith, one, on))

-- so that one server is its order
one_server_order : (net : Net) → length net.servers ≡ 1 → HasOneHopPaths net → IsOrder net (0 ∷ [])
one_server_order net one short = record { all = sym one; each = each }
  where
    ready : IsReady net [] 0
    ready = record {
      in_range = omega (arith, one);
      free = λ has. absurd (omega (arith, has.1));
      waits_for_none = λ before next. absurd (no_next net short before 0 next);
    }

    each : (place : ℕ) → place < 1 → IsLeast (IsReady net (take place (0 ∷ []))) (get_or (0 ∷ []) place 0)
    each zero within = record { meets = ready; least = λ other before h. absurd (omega (arith, before)) }
    each (suc place) within = absurd (omega (arith, within))

pub one_ordered : (s : NetServer) (f : NetFlow) → length f.path ≡ 1 → IsOrder (net_of_one s f) (0 ∷ [])
one_ordered s f short = one_server_order (net_of_one s f) refl
    (λ g has. subst (λ (h : NetFlow). length h.path ≡ 1) (same_Some f g (alone (Some f) (Some g) has)) short)

pub two_ordered : (s : NetServer) (f g : NetFlow) → length f.path ≡ 1 → length g.path ≡ 1 → IsOrder (net_of_two s f g) (0 ∷ [])
two_ordered s f g p q = one_server_order (net_of_two s f g) refl (of_both f g (λ h. length h.path ≡ 1) p q)
