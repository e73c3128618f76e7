-- All flows keep their curves at every hop: along the order of the servers, server by server.
use Rattle.std.specs.Prelude.{◌≡◌, ℕ, zero, suc, ◌<◌, true, Some, List, [], ◌∷◌, length, take}
use Rattle.std.proofs.Common.{arith, sym, ap, ◌∙◌, subst, inl, inr, get_or}
use Rattle.std.proofs.lemmas.Bool.{cases_eq, eq-eqb, ne_eqb}
use Rattle.rational.specs.Rational.{ℚ, ◌-ℚ◌}
use Rattle.rational.specs.Extended.{Ext, ◌≤ₑ◌}
use Rattle.rational.specs.declared.Extended.TheVariants.{Fin}
use Rattle.upp_curve.specs.Curve.{value_at}
use Rattle.run_laws.specs.Runs.{SpecRun}
use Rattle.run_laws.specs.Cards.{of_flow}
use Rattle.run_laws.specs.Counts.{departed_in}
use Rattle.run_laws.specs.RunPremises.{entered_in}
use Rattle.run_laws.specs.Routes.{Hop, route_of, first_server, server_after}
use Rattle.net_laws.specs.Orders as orders
use Rattle.net_laws.specs.Orders.{KeptAt, PassedOn, EntersKept}
use Rattle.net_laws.proofs.Orders.{kept_everywhere}
use Rattle.net_model.specs.Networks.{Net}
use Rattle.net_model.specs.Accepted.{IsAccepted}
use Rattle.net_model.specs.Orders.{IsOrder}
use Rattle.net_model.specs.Walks.{IsNext, IsStep}
use Rattle.net_model.proofs.net_graph.Forward.{has_each_server, goes_forward}
use Rattle.net_cells.specs.declared.cell.Kind.TheVariants.{In, Out}
use Rattle.net_cells.specs.Numbered.{arrival, path, path_of, hops, is_live}
use Rattle.net_cells.specs.Cells.{cell_of}
use Rattle.net_cells.specs.Meanings.{CellTable}
use Rattle.net_cells.specs.Equations.{MeetsEquations}
use Rattle.net_bounds.specs.NetRuns.{routes_of, IsRunOf}
use Rattle.net_bounds.specs.Promises.{seen_by}
use Rattle.net_bounds.proofs.Placed.{place_in, placed, place_of_at}
use Rattle.net_bounds.proofs.Paths.{IsNextPlace, after_is, first_is}
use Rattle.net_bounds.proofs.Routed.{own_queues, live_is, hops_is, live_flow, routed, hop_inside, hop_at, path_is}
use Rattle.net_bounds.proofs.Cells.{values, curve_holds}
use Rattle.net_bounds.proofs.HopCells.{in_first, in_next}
use Rattle.net_bounds.proofs.Arriving.{arrivals, AtServer}
use Rattle.net_bounds.proofs.Hops.{flow_goes_on}
use Rattle.run_laws.proofs.Members.{Has, contains_has}

-- ---- the order goes forward
-- what stands among the first n has its place below n
early : (s : ℕ) (xs : List ℕ) (n : ℕ) → Has (take n xs) s → place_in s xs < n
early s [] zero h = absurd h
early s [] (suc n) h = absurd h
early s (x ∷ xs) zero h = absurd h
early s (x ∷ xs) (suc n) h = elim (cases_eq x s) [
  | inl e ↦ rw (eq-eqb x s e) (omega arith)
  | inr m ↦
      let rest = early s xs n (elim h [ inl e ↦ absurd (m e) | inr k ↦ k ]) in
      rw (ne_eqb x s m) (omega arith)
]

next_place : (net : Net) (i a b : ℕ) → server_after a (route_of (routes_of net) i).hops ≡ Some b
    → IsNextPlace a b (path net i)
next_place net i a b e =
    after_is a b (path net i) (own_queues net i)
    (subst (λ (hs : List Hop). server_after a hs ≡ Some b) (hops_is net i) e)

is_next : (net : Net) (i a b : ℕ) → is_live net i ≡ true → IsNextPlace a b (path net i) → IsNext net a b
is_next net i a b live n =
    let it = live_flow net i live in
    let step : IsStep (path net i) a b = record
    { hop = hop_at net i a; on_path = n.within; from = n.from; to = n.to } in
    record { flow = it.flow; live = it.there; step = subst (λ (p : List ℕ). IsStep p a b) (ap path_of it.is) step }

pub forward : (net : Net) (order : List ℕ) → IsAccepted net → IsOrder net order
    → orders.GoesForward (routes_of net) (λ s. place_in s order)
forward net order acc o i a b live e =
    let n = next_place net i a b e in
    let is_live_flow = sym (live_is net i) ∙ live in
    let inside : b < length net.servers =
    subst (λ (t : ℕ). t < length net.servers) n.to (hop_inside net i (suc (hop_at net i a)) acc n.within) in
    let stands = placed b order (contains_has order b ((has_each_server net order o).each b inside)) in
    let before = goes_forward net order a b (place_in b order) o (is_next net i a b is_live_flow n) stands.within
    stands.is in
    early a order (place_in b order) (contains_has (take (place_in b order) order) a before)

-- ---- where flows enter
pub enters : (net : Net) (at : CellTable) (run : SpecRun) → IsAccepted net → MeetsEquations net at → IsRunOf net run
    → EntersKept (routes_of net) run (arrivals net at)
enters net at run acc meets r i live s t l =
    let on = routed net i acc (sym (live_is net i) ∙ live) in
    let some : 0 < length (path net i) = omega (arith, on.some) in
    let first : first_server (route_of (routes_of net) i).hops ≡ get_or (path net i) 0 0 =
    ap first_server (hops_is net i) ∙ first_is (path net i) (own_queues net i) on.paired in
    let place : hop_at net i (first_server (route_of (routes_of net) i).hops) ≡ 0 =
    ap (hop_at net i) first ∙ place_of_at (path net i) 0 on.apart some in
    let own : arrivals net at i (first_server (route_of (routes_of net) i).hops) ≡ value_at (arrival net i) =
    ap (λ (k : ℕ). values at (cell_of In i k)) place ∙ curve_holds at (cell_of In i 0) _
    (in_first net at i meets some) in
    subst (λ (α : ℚ → Ext). Fin (entered_in i s t run.steps) ≤ₑ α (t -ℚ s)) (sym own) (r.keeps.arrivals i live s t l)

-- ---- from a server to the next ones
pub passed_on : (net : Net) (at : CellTable) (run : SpecRun) (s : ℕ) → IsAccepted net → MeetsEquations net at
    → IsRunOf net run
    → KeptAt (routes_of net) run (arrivals net at) s → PassedOn (routes_of net) run (arrivals net at) s
passed_on net at run s acc meets r kept i next live e a b l =
    let n = next_place net i s next e in
    let k = hop_at net i s in
    let within : k < hops net i = omega (arith, n.within) in
    let on = routed net i acc (sym (live_is net i) ∙ live) in
    let inside : s < length net.servers = subst (λ (t : ℕ). t < length net.servers) n.from
    (hop_inside net i k acc within) in
    let place : hop_at net i next ≡ suc k = ap (hop_at net i) (sym n.to) ∙ place_of_at (path net i) (suc k) on.apart
    n.within in
    let same : arrivals net at i next ≡ values at (cell_of Out i k) =
    ap (λ (j : ℕ). values at (cell_of In i j)) place ∙ curve_holds at (cell_of In i (suc k)) _
    (in_next net at i k meets n.within) in
    subst (λ (α : ℚ → Ext). Fin (departed_in (of_flow i) (seen_by net run s) a b) ≤ₑ α (b -ℚ a)) (sym same)
    (flow_goes_on net at run i k s
    record {
      server = record { accepted = acc; meets = meets; run_of = r; inside = inside; kept = kept };
      within = within;
      is = n.from;
    } n.within a b l)

-- ---- so everywhere
pub at_server : (net : Net) (order : List ℕ) (at : CellTable) (run : SpecRun) (s : ℕ) → IsAccepted net
    → IsOrder net order
    → MeetsEquations net at → IsRunOf net run → s < length net.servers → AtServer net at run s
at_server net order at run s acc o meets r h = record {
  accepted = acc;
  meets = meets;
  run_of = r;
  inside = h;
  kept = kept_everywhere (routes_of net) run (λ t. place_in t order) (arrivals net at) r.lawful
      (λ i live. path_is net i acc live)
      (forward net order acc o) (enters net at run acc meets r) (λ t kept. passed_on net at run t acc meets r kept) s;
}
