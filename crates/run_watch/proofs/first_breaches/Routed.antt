-- The routes of a network at a number.
use Rattle.std.specs.Prelude.{◌≡◌, ℕ, ◌<◌, ◌≤◌, List, [], ◌∷◌, length, Option, Some, None, get_or, slice_index}
use Rattle.std.proofs.Common.{arith, refl, sym, ap, ◌∙◌, inl, inr}
use Rattle.std.proofs.lemmas.Bool.{cases_lt}
use Rattle.std.proofs.lemmas.List.{get_or_past}
use Rattle.run_laws.specs.Routes.{Route, route_of, first_server}
use Rattle.net_model.specs.Networks.{Net, NetFlow}
use Rattle.net_model.specs.NetRoutes.{hops_along, route_for, routes_of}
use Rattle.net_model.specs.Accepted.{IsAccepted}
use Rattle.net_cells.specs.Numbered.{flow_at, server_of_hop, path, path_of}
use Rattle.net_cells.proofs.Stored.{flow_kept}
pub use Rattle.net_cells.proofs.Routed.{route_is, live_is}
use Rattle.run_watch.specs.Seen.{AreFirsts}

first_along : (path queues : List ℕ) → length queues ≡ length path → first_server (hops_along path queues) ≡ slice_index path 0
first_along [] qs e = refl
first_along (s ∷ path) [] e = absurd (omega arith)
first_along (s ∷ path) (q ∷ qs) e = refl

-- the first server of a flow's path
pub first_is : (net : Net) (i : ℕ) → IsAccepted net → first_server (route_of (routes_of net) i).hops ≡ server_of_hop net i 0
first_is net i a = ap (λ (r : Route). first_server r.hops) (route_is net i) ∙ go (flow_at net i) refl
  where
    go : (o : Option NetFlow) → flow_at net i ≡ o → first_server (route_for o).hops ≡ server_of_hop net i 0
    go None e = rw e refl
    go (Some f) e = let k = flow_kept net i f a e in rw e (first_along f.path f.queues k.paired)

first_past : (net : Net) (i : ℕ) → length net.flows ≤ i → server_of_hop net i 0 ≡ 0
first_past net i h = ap (λ (o : Option NetFlow). slice_index (path_of o) 0) (get_or_past net.flows i None h)

pub firsts_are : (net : Net) (firsts : List ℕ) (n count : ℕ) → IsAccepted net → count ≡ length net.flows → count ≤ n → n ≤ count → length firsts ≡ n → ((i : ℕ) → i < n → get_or firsts i 0 ≡ server_of_hop net i 0)
    → AreFirsts (routes_of net) firsts
firsts_are net firsts n count a all low high long h flow = first_is net flow a ∙ sym (elim (cases_lt flow n) [
  | inl l ↦ h flow l
  | inr l ↦ get_or_past firsts flow 0 (omega (arith, long, l)) ∙ sym (first_past net flow (omega (arith, all, low, high, l)))
])
