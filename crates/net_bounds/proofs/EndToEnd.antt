-- A flow from end to end: no packet takes longer than either of the two delays, nor than the bound.
use Rattle.std.specs.Prelude.{◌≡◌, ℕ, ◌<◌, ◌≤◌, ◌+◌, ◌-◌, ◌==◌, ◌&&◌, true, List, [], ◌∷◌, length, map, Some}
use Rattle.std.proofs.Common.{arith, sym, ap, ◌∙◌, refl, subst}
use Rattle.std.proofs.lemmas.Bool.{and_from}
use Rattle.rational.specs.Extended.{Ext, ◌+ₑ◌}
use Rattle.rational.specs.declared.Extended.TheVariants.{Fin}
use Rattle.min_plus.specs.Deviations.{IsHorizontalDeviation}
use Rattle.run_laws.specs.Runs.{SpecRun}
use Rattle.run_laws.specs.Cards.{of_flow}
use Rattle.run_laws.specs.Premises.{KeepsArrivals}
use Rattle.run_laws.specs.Routes.{Hop, route_of, first_server}
use Rattle.run_laws.specs.Bounds.{IsFlowBounded}
use Rattle.net_laws.specs.Paths.{IsPath, StaysAtMost, IsServedAlong, sum_along, links_along}
use Rattle.net_laws.proofs.PathRuns.{delay_from_hops, delay_from_path_service, path_is_served}
use Rattle.net_laws.proofs.Queues.{of_lesser}
use Rattle.net_model.specs.Networks.{Net}
use Rattle.net_model.specs.Accepted.{IsAccepted}
use Rattle.net_cells.specs.declared.cell.Kind.TheVariants.{In, PathService, Tfa, Sfa, Bound}
use Rattle.net_cells.specs.Numbered.{path, hops, server_of_hop, is_live, link}
use Rattle.net_cells.specs.Cells.{cell_of}
use Rattle.net_cells.specs.Meanings.{number, CellTable, IsNumberIn}
use Rattle.net_cells.specs.NumberSums.{sum_of_numbers}
use Rattle.net_cells.specs.Means.{with_links}
use Rattle.net_cells.specs.Equations.{MeetsEquations}
use Rattle.net_bounds.specs.NetRuns.{routes_of, hops_along, IsRunOf}
use Rattle.net_bounds.specs.TableValues.{HasFunction, HasNumber}
use Rattle.net_bounds.specs.Promises.{seen_by, IsPathKept}
use Rattle.net_bounds.proofs.Paths.{first_is}
use Rattle.net_bounds.proofs.Routed.{own_queues, live_is, hops_is, routed, hop_inside, path_is}
use Rattle.net_bounds.proofs.Cells.{values, curve_from, curve_has, curve_holds}
use Rattle.net_bounds.proofs.FormulaParts.{deviation_reads}
use Rattle.net_bounds.proofs.HopCells.{residual_is}
use Rattle.net_bounds.proofs.Arriving.{AtServer, flow_comes}
use Rattle.net_bounds.proofs.Hops.{AtHop, flow_served}
use Rattle.net_bounds.proofs.Hopwise.{IsRestFrom, stays_along, sum_is}
use Rattle.net_bounds.proofs.Along.{services, IsAlong, AllGrow, path_reads, serves_along, links_are}
use Rattle.net_cells.proofs.TableValues.{has_number}

-- a live flow in a run of a network, all of whose servers are known to keep its curves
pub record AlongPath (net : Net) (at : CellTable) (run : SpecRun) (i : ℕ) : Type 0 where
  pub accepted : IsAccepted net
  pub meets : MeetsEquations net at
  pub run_of : IsRunOf net run
  pub live : is_live net i ≡ true
  pub servers : (s : ℕ) → s < length net.servers → AtServer net at run s

pub at_hop : (net : Net) (at : CellTable) (run : SpecRun) (i k : ℕ) → AlongPath net at run i → k < hops net i
    → AtHop net at run i k (server_of_hop net i k)
at_hop net at run i k w h =
    record { server = w.servers (server_of_hop net i k) (hop_inside net i k w.accepted h); within = h; is = refl }

whole_path : (net : Net) (at : CellTable) (run : SpecRun) (i : ℕ) → AlongPath net at run i
    → IsRestFrom net at run i 0 (path net i)
whole_path net at run i w k l =
    let same : k ≡ 0 + k = omega arith in
    subst (λ (j : ℕ). AtHop net at run i j (server_of_hop net i k)) same (at_hop net at run i k w l)

path_ok : (net : Net) (at : CellTable) (run : SpecRun) (i : ℕ) → AlongPath net at run i
    → IsPath (routes_of net) (route_of (routes_of net) i).hops
path_ok net at run i w = path_is net i w.accepted (live_is net i ∙ w.live)

path_cell : (net : Net) (at : CellTable) (run : SpecRun) (i : ℕ) → AlongPath net at run i
    → (is_live net i && (0 == 0)) ≡ true
path_cell net at run i w = and_from (is_live net i) (0 == 0) w.live refl

-- ---- hop by hop
pub tfa_kept : (net : Net) (at : CellTable) (run : SpecRun) (i : ℕ) → AlongPath net at run i
    → HasNumber at (cell_of Tfa i 0) (IsFlowBounded (routes_of net) run i)
tfa_kept net at run i w =
    let e = w.meets (cell_of Tfa i 0) (path_cell net at run i w) in
    let R = routes_of net in
    let on = routed net i w.accepted w.live in
    let xs = e.means.numbers in
    let hs = hops_along (path net i) (own_queues net i) in
    let stays : StaysAtMost R run i hs xs =
    stays_along net at run i 0 (path net i) (own_queues net i) xs on.paired (whole_path net at run i w) e.means.are in
    let sum : sum_along R hs xs ≡ sum_of_numbers (with_links xs (map (link net) (path net i))) =
    sum_is net at i 0 (path net i) (own_queues net i) xs on.paired e.means.are in
    let bounded : IsFlowBounded R run i (sum_along R (route_of R i).hops xs) =
    delay_from_hops R run i xs w.run_of.lawful (path_ok net at run i w)
    (subst (λ (h : List Hop). StaysAtMost R run i h xs) (sym (hops_is net i)) stays) in
    let is : sum_along R (route_of R i).hops xs ≡ sum_of_numbers (with_links xs (map (link net) (path net i))) =
    ap (λ (h : List Hop). sum_along R h xs) (hops_is net i) ∙ sum in
    has_number at (cell_of Tfa i 0) (IsFlowBounded R run i) e.value e.is
    (subst (IsNumberIn (IsFlowBounded R run i)) (sym e.means.gives) (subst (IsFlowBounded R run i) is bounded))

-- ---- by the service along the path
all_grow : (net : Net) (at : CellTable) (run : SpecRun) (i : ℕ) → AlongPath net at run i → AllGrow net at i
all_grow net at run i w k h = (flow_served net at run i k (server_of_hop net i k) (at_hop net at run i k w h)).grows

pub path_served : (net : Net) (at : CellTable) (run : SpecRun) (i : ℕ) → AlongPath net at run i
    → HasFunction at (cell_of PathService i 0) (IsAlong (services net at i 0 (hops net i - 1)))
path_served net at run i w =
    let e = w.meets (cell_of PathService i 0) (path_cell net at run i w) in
    let on = routed net i w.accepted w.live in
    let first = residual_is net at i 0 w.meets (omega (arith, on.some)) in
    curve_from at (cell_of PathService i 0) (IsAlong (services net at i 0 (hops net i - 1))) e.value e.is
    (path_reads net at i (hops net i - 1) e.value (all_grow net at run i w) (omega (arith, on.some))
    record { value = first.value; is = first.is; holds = tt } e.means)

comes_first : (net : Net) (at : CellTable) (run : SpecRun) (i : ℕ) → AlongPath net at run i
    → KeepsArrivals (of_flow i) (values at (cell_of In i 0))
    (seen_by net run (first_server (route_of (routes_of net) i).hops))
comes_first net at run i w =
    let on = routed net i w.accepted w.live in
    let some : 0 < hops net i = omega (arith, on.some) in
    let first : first_server (route_of (routes_of net) i).hops ≡ server_of_hop net i 0 =
    ap first_server (hops_is net i) ∙ first_is (path net i) (own_queues net i) on.paired in
    let hop = at_hop net at run i 0 w some in
    subst (λ (s : ℕ). KeepsArrivals (of_flow i) (values at (cell_of In i 0)) (seen_by net run s)) (sym first)
    (flow_comes net at run (server_of_hop net i 0) i 0 hop.server some refl)

-- all links of the path
links_of : (net : Net) (ps qs : List ℕ) → length qs ≡ length ps → 1 ≤ length ps
    → sum_of_numbers (map Fin (map (link net) ps)) ≡ Fin (links_along (routes_of net) (hops_along ps qs))
links_of net [] qs e some = absurd (omega (arith, some))
links_of net (s ∷ ps) qs e some = links_are net s ps qs e

-- the flow is served by its services
served_along : (net : Net) (at : CellTable) (run : SpecRun) (i : ℕ) → AlongPath net at run i
    → IsServedAlong (routes_of net) run i (route_of (routes_of net) i).hops (services net at i 0 (hops net i - 1))
served_along net at run i w =
    let on = routed net i w.accepted w.live in
    let some : 1 ≤ hops net i = on.some in
    subst (λ (hs : List Hop). IsServedAlong (routes_of net) run i hs (services net at i 0 (hops net i - 1)))
    (sym (hops_is net i))
    (serves_along net at run i 0 (hops net i - 1) (path net i) (own_queues net i) (omega arith) on.paired
    (whole_path net at run i w))

pub sfa_kept : (net : Net) (at : CellTable) (run : SpecRun) (i : ℕ) → AlongPath net at run i
    → HasNumber at (cell_of Sfa i 0) (IsFlowBounded (routes_of net) run i)
sfa_kept net at run i w =
    let e = w.meets (cell_of Sfa i 0) (path_cell net at run i w) in
    let R = routes_of net in
    let on = routed net i w.accepted w.live in
    let h = e.means.operand in
    let α = values at (cell_of In i 0) in
    let γ = values at (cell_of PathService i 0) in
    let curves = services net at i 0 (hops net i - 1) in
    let is_h : IsHorizontalDeviation α γ h =
    deviation_reads at (cell_of In i 0) (cell_of PathService i 0) IsHorizontalDeviation (number h) e.means.is in
    let along : IsAlong curves γ = curve_holds at (cell_of PathService i 0) (IsAlong curves)
    (path_served net at run i w) in
    let bounded : IsFlowBounded R run i (h +ₑ Fin (links_along R (route_of R i).hops)) =
    delay_from_path_service R run i α γ h curves w.run_of.lawful (path_ok net at run i w) (comes_first net at run i w)
    (served_along net at run i w) along.splits along.grows.rising is_h in
    let is : h +ₑ Fin (links_along R (route_of R i).hops) ≡ sum_of_numbers (with_links (h ∷ []) (map (link net) (path net i))) =
    ap (λ (hs : List Hop). h +ₑ Fin (links_along R hs)) (hops_is net i)
    ∙ ap (λ (x : Ext). h +ₑ x) (sym (links_of net (path net i) (own_queues net i) on.paired on.some)) in
    has_number at (cell_of Sfa i 0) (IsFlowBounded R run i) e.value e.is
    (subst (IsNumberIn (IsFlowBounded R run i)) (sym e.means.gives) (subst (IsFlowBounded R run i) is bounded))

-- ---- and so by the lesser of the two
pub path_kept : (net : Net) (at : CellTable) (run : SpecRun) (i : ℕ) → AlongPath net at run i → IsPathKept net at run i
path_kept net at run i w =
    let R = routes_of net in
    let curves = services net at i 0 (hops net i - 1) in
    let path = path_served net at run i w in
    let along : IsAlong curves (values at (cell_of PathService i 0)) =
    curve_holds at (cell_of PathService i 0) (IsAlong curves) path in
    let tfa = tfa_kept net at run i w in
    let sfa = sfa_kept net at run i w in
    let e = w.meets (cell_of Bound i 0) (path_cell net at run i w) in
    let x = e.means.operand in
    let y = e.means.gives.operand in
    let is_x : tfa.value ≡ x = same tfa.value x (sym tfa.is ∙ e.means.is) in
    let is_y : sfa.value ≡ y = same sfa.value y (sym sfa.is ∙ e.means.gives.is) in
    record {
      served = curve_has at (cell_of PathService i 0) _ _ path
          (path_is_served R run i (values at (cell_of PathService i 0)) curves w.run_of.lawful
          (path_ok net at run i w) (served_along net at run i w) along.splits);
      by_hops = tfa;
      by_service = sfa;
      bound = has_number at (cell_of Bound i 0) (IsFlowBounded R run i) e.value e.is
          (subst (IsNumberIn (IsFlowBounded R run i)) (sym e.means.gives.gives)
          (of_lesser (IsFlowBounded R run i) x y (subst (IsFlowBounded R run i) is_x tfa.holds)
          (subst (IsFlowBounded R run i) is_y sfa.holds)));
    }
  where
    same : (a b : Ext) → Some (number a) ≡ Some (number b) → a ≡ b
    same a b k = cc
