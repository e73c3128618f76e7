-- Along an order without a cycle all flows keep their curves at every server.
use Rattle.std.specs.Prelude.{◌≡◌, ◌<◌, ◌≤◌, ℕ, zero, suc, true}
use Rattle.std.proofs.Common.{arith, subst}
use Rattle.rational.specs.Rational.{ℚ, ◌-ℚ◌, ◌≤ℚ◌}
use Rattle.rational.specs.Extended.{Ext, ◌≤ₑ◌}
use Rattle.rational.specs.declared.Extended.TheVariants.{Fin}
use Rattle.run_laws.specs.Runs.{SpecRun}
use Rattle.run_laws.specs.Cards.{of_flow}
use Rattle.run_laws.specs.Counts.{departed_in}
use Rattle.run_laws.specs.Premises.{KeepsArrivals}
use Rattle.run_laws.specs.RunPremises.{entered_in}
use Rattle.run_laws.specs.Rounds.{count_of}
use Rattle.run_laws.specs.Routes.{Routes, route_of, server_after}
use Rattle.run_laws.specs.Views.{view}
use Rattle.net_laws.specs.Multicast.{NextServers, IsLawfulBy, path_next_servers}
use Rattle.net_laws.proofs.Arcs.{IsReachedIn, IsSpanned}
use Rattle.net_laws.specs.Orders.{EntersKept, KeptAt, KeptEverywhere}
use Rattle.net_laws.proofs.FirstHop.{root_keeps}
use Rattle.net_laws.proofs.Links.{arc_keeps}
use Rattle.net_laws.proofs.PathRuns.{path_runs_are_multicast, spanned_by_paths, some_listed}

-- a server passes its flows' curves on to each next one
abbrev pub PassedOnBy : Routes → NextServers → SpecRun → (ℕ → ℕ → ℚ → Ext) → ℕ → Type 0
PassedOnBy net to run arrival server = (i next : ℕ) → (route_of net i).live ≡ true → 1 ≤ count_of next (to i server)
    → (s t : ℚ) → s ≤ℚ t → Fin (departed_in (of_flow i) (view net run server) s t) ≤ₑ arrival i next (t -ℚ s)

record Network (net : Routes) (to : NextServers) (run : SpecRun) (place : ℕ → ℕ) (arrival : ℕ → ℕ → ℚ → Ext) : Type 0 where
  lawful : IsLawfulBy net to run
  spread : IsSpanned net to
  forward : (i a b : ℕ) → (route_of net i).live ≡ true → 1 ≤ count_of b (to i a) → place a < place b
  enters : EntersKept net run arrival
  passes_on : (server : ℕ) → KeptAt net run arrival server → PassedOnBy net to run arrival server

by_links : (net : Routes) (to : NextServers) (run : SpecRun) (place : ℕ → ℕ) (arrival : ℕ → ℕ → ℚ → Ext) (n : ℕ) → Network net to run place arrival
    → (s : ℕ) → place s < suc n → (i : ℕ) → (route_of net i).live ≡ true → (m : ℕ) → IsReachedIn net to i m s
    → ((a : ℕ) → place a < n → KeptAt net run arrival a) → KeepsArrivals (of_flow i) (arrival i s) (view net run s)
by_links net to run place arrival n w s l i live zero root before =
    root_keeps net to run i s (arrival i s) w.lawful root
    (subst (λ (k : ℕ). (a b : ℚ) → a ≤ℚ b → Fin (entered_in i a b run.steps) ≤ₑ arrival i k (b -ℚ a)) root.first (w.enters i live))
by_links net to run place arrival n w s l i live (suc m) r before =
    let (a, q) = r in
    let once : 1 ≤ count_of s (to i a) = let e = q.1.next in omega arith in
    let sooner : place a < n = let forward = w.forward i a s live once in omega arith in
    arc_keeps net to run i a s (arrival i s) w.lawful q.1 (w.passes_on a (before a sooner) i s live once)

-- at the servers whose place is below n
kept_below : (net : Routes) (to : NextServers) (run : SpecRun) (place : ℕ → ℕ) (arrival : ℕ → ℕ → ℚ → Ext) (n : ℕ) → Network net to run place arrival
    → (s : ℕ) → place s < n → KeptAt net run arrival s
kept_below net to run place arrival zero w s l i live p = absurd (omega arith)
kept_below net to run place arrival (suc n) w s l i live p =
    let (m, reached) = w.spread.reached i live s p in
    by_links net to run place arrival n w s l i live m reached (λ a k. kept_below net to run place arrival n w a k)

pub kept_by : (net : Routes) (to : NextServers) (run : SpecRun) (place : ℕ → ℕ) (arrival : ℕ → ℕ → ℚ → Ext) → IsLawfulBy net to run → IsSpanned net to
    → ((i a b : ℕ) → (route_of net i).live ≡ true → 1 ≤ count_of b (to i a) → place a < place b) → EntersKept net run arrival
    → ((server : ℕ) → KeptAt net run arrival server → PassedOnBy net to run arrival server) → (server : ℕ) → KeptAt net run arrival server
kept_by net to run place arrival lawful spread forward enters passes_on s =
    kept_below net to run place arrival (suc (place s)) record { lawful = lawful; spread = spread; forward = forward; enters = enters; passes_on = passes_on } s (omega arith)

pub kept_everywhere : KeptEverywhere
kept_everywhere net run place arrival lawful paths forward enters passes_on =
    kept_by net (path_next_servers net) run place arrival ((path_runs_are_multicast net run).of_path lawful) (spanned_by_paths net paths)
    (λ i a b live l. forward i a b live (some_listed b (server_after a (route_of net i).hops) l)) enters
    (λ server kept i next live l. passes_on server kept i next live (some_listed next (server_after server (route_of net i).hops) l))
