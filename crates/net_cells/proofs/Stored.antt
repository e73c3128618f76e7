-- What stands at a number in the lists of a network.
use Rattle.std.proofs.Common.{◌≡◌, ℕ, ◌<◌, ◌≤◌, List, length, get_or, map, refl, sym, ap, ◌∙◌, subst, arith, inl, inr, Option, Some, None, eqb}
use Rattle.std.specs.Prelude.{slice_get, is_some}
use Rattle.std.specs.Option.{option_map}
use Rattle.std.specs.List.{filter, flat_map, range_with_len}
use Rattle.std.proofs.lemmas.Bool.{cases_lt}
use Rattle.std.proofs.lemmas.List.{length-map, get_or-map, get_or_past, get_or_default}
use Rattle.std.proofs.lemmas.Option.{slice_get-get_or, slice_get_past, slice_get_within, get_or_from_slice_get}
use Rattle.net_model.specs.declared.flow.Flow.{Flow}
use Rattle.net_model.specs.declared.server.Server.{Server}
use Rattle.net_model.specs.Networks.{Net, NetFlow, NetServer}
use Rattle.net_model.specs.Accepted.{IsAccepted, IsFlow, IsServer}
use Rattle.net_model.specs.Views.{flow_of, flows_of, server_of, servers_of}
use Rattle.net_cells.specs.Numbered.{flow_at, path_of, path, hops, is_live}
use Rattle.net_cells.specs.Visits.{Visit, visit, visits, is_at, hops_at}
use Rattle.net_cells.proofs.Growing.{filter_flat, flat_same, filter_mapped}

-- ---- flows
pub flow_stored : (net : Net) (fs : List (Option Flow)) (i : ℕ) (x : Option Flow) → flows_of fs ≡ net.flows
    → i < length fs
    → x ≡ get_or fs i x → option_map flow_of x ≡ flow_at net i
flow_stored net fs i x same h is =
    ap (option_map flow_of) is ∙ sym (get_or-map (option_map flow_of) fs i x None h) ∙ ap (λ gs. get_or gs i None) same

pub flow_kept : (net : Net) (i : ℕ) (f : NetFlow) → IsAccepted net → flow_at net i ≡ Some f → IsFlow net.servers f
flow_kept net i f a e =
    elim (cases_lt i (length net.flows)) [
      | inl l ↦ a.flows f (i, l, get_or_default net.flows i (Some f) None l ∙ e)
      | inr l ↦ let bad : None ≡ Some f = sym (get_or_past net.flows i None l) ∙ e in absurd cc
    ]

pub few_hops : (net : Net) (i : ℕ) → IsAccepted net → hops net i ≤ 16
few_hops net i a = by (flow_at net i) refl
  where
    by : (o : Option NetFlow) → flow_at net i ≡ o → length (path_of o) ≤ 16
    by None e = omega arith
    by (Some f) e = (flow_kept net i f a e).few

-- of a flow that stands in the list
pub few_stored : (net : Net) (fs : List (Option Flow)) (i : ℕ) (x : Option Flow) → flows_of fs ≡ net.flows → i < length fs
    → x ≡ get_or fs i x → IsAccepted net → length (path_of (option_map flow_of x)) ≤ 16
few_stored net fs i x same h is a =
    let P : Option NetFlow → Type 0 = λ o. length (path_of o) ≤ 16 in
    subst P (sym (flow_stored net fs i x same h is)) (few_hops net i a)

-- the hops at a server, flow by flow
pub visits_by_flow : (net : Net) (s : ℕ)
    → visits net s ≡ flat_map (λ i. hops_at i (path net i) s) (range_with_len 0 (length net.flows))
visits_by_flow net s =
    filter_flat (is_at net s) (λ i. map (visit i) (range_with_len 0 (hops net i))) (range_with_len 0 (length net.flows))
    ∙ flat_same (λ i. filter (is_at net s) (map (visit i) (range_with_len 0 (hops net i))))
    (λ i. hops_at i (path net i) s)
    (range_with_len 0 (length net.flows))
    (λ i. filter_mapped (is_at net s) (λ (v : Visit). eqb (get_or (path net i) v.hop 0) s) (visit i)
    (range_with_len 0 (hops net i))
    (λ k. refl))

-- ---- servers
pub server_stored : (net : Net) (ss : List Server) (i : ℕ) (x : Server) → servers_of ss ≡ net.servers → i < length ss
    → x ≡ get_or ss i x → slice_get net.servers i ≡ Some (server_of x)
server_stored net ss i x same h is =
    let all = length-map ss server_of in
    sym (ap (λ ts. slice_get ts i) same)
    ∙ slice_get-get_or (servers_of ss) i (server_of x) (omega (arith, h, all))
    ∙ ap Some (get_or-map server_of ss i x (server_of x) h ∙ ap server_of (sym is))

pub server_past : (net : Net) (ss : List Server) (i : ℕ) → servers_of ss ≡ net.servers → length ss ≤ i
    → slice_get net.servers i ≡ None
server_past net ss i same h =
    let count = ap length same in
    let all = length-map ss server_of in
    slice_get_past net.servers i (omega (arith, h, count, all))

pub server_kept : (net : Net) (i : ℕ) (s : NetServer) → IsAccepted net → slice_get net.servers i ≡ Some s → IsServer s
server_kept net i s a e = a.servers s (i, slice_get_within net.servers i s e, get_or_from_slice_get net.servers i s s e)

pub live_stored : (net : Net) (fs : List (Option Flow)) (i : ℕ) (x : Option Flow) → flows_of fs ≡ net.flows
    → i < length fs
    → x ≡ get_or fs i x → is_some x ≡ is_live net i
live_stored net fs i x same h is = same_some x
    ∙ ap (λ (o : Option NetFlow). is_some o) (flow_stored net fs i x same h is)
  where
    same_some : (o : Option Flow) → is_some o ≡ is_some (option_map flow_of o)
    same_some None = refl
    same_some (Some f) = refl
