-- Networks without a cycle: what each server passes on is kept along every path. (Le Boudec and Thiran, feed-forward
-- networks.)
use Rattle.std.specs.Prelude.{Some, ◌≡◌, ◌<◌, ℕ, true}
use Rattle.rational.specs.Rational.{ℚ, ◌-ℚ◌, ◌≤ℚ◌}
use Rattle.rational.specs.Extended.{Ext, ◌≤ₑ◌}
use Rattle.rational.specs.declared.Extended.TheVariants.{Fin}
use Rattle.run_laws.specs.Runs.{SpecRun}
use Rattle.run_laws.specs.Cards.{of_flow}
use Rattle.run_laws.specs.Counts.{departed_in}
use Rattle.run_laws.specs.Premises.{KeepsArrivals}
use Rattle.run_laws.specs.RunPremises.{entered_in}
use Rattle.run_laws.specs.Routes.{Routes, route_of, PassesServer, first_server, server_after}
use Rattle.run_laws.specs.Views.{view}
use Rattle.run_laws.specs.Lawful.{IsLawful}
use Rattle.net_laws.specs.Paths.{IsPath}

-- the places of the servers in an order grow along each path
abbrev pub GoesForward : Routes → (ℕ → ℕ) → Type 0
GoesForward net place = (i a b : ℕ) → (route_of net i).live ≡ true → server_after a (route_of net i).hops ≡ Some b →
    place a < place b

-- a curve for each flow at each server of its path: where the flows enter they keep theirs
abbrev pub EntersKept : Routes → SpecRun → (ℕ → ℕ → ℚ → Ext) → Type 0
EntersKept net run arrival = (i : ℕ) → (route_of net i).live ≡ true → (s t : ℚ) → s ≤ℚ t →
    Fin (entered_in i s t run.steps) ≤ₑ arrival i (first_server (route_of net i).hops) (t -ℚ s)

-- the flows that pass a server keep theirs there
abbrev pub KeptAt : Routes → SpecRun → (ℕ → ℕ → ℚ → Ext) → ℕ → Type 0
KeptAt net run arrival server = (i : ℕ) → (route_of net i).live ≡ true → PassesServer server (route_of net i).hops →
    KeepsArrivals (of_flow i) (arrival i server) (view net run server)

-- they leave it with those of the servers that come next
abbrev pub PassedOn : Routes → SpecRun → (ℕ → ℕ → ℚ → Ext) → ℕ → Type 0
PassedOn net run arrival server = (i next : ℕ) → (route_of net i).live ≡ true →
    server_after server (route_of net i).hops ≡ Some next → (s t : ℚ) → s ≤ℚ t →
    Fin (departed_in (of_flow i) (view net run server) s t) ≤ₑ arrival i next (t -ℚ s)

-- where each server whose flows keep their curves passes them on, all flows keep theirs at every server
abbrev pub KeptEverywhere : Type 0
KeptEverywhere = (net : Routes) (run : SpecRun) (place : ℕ → ℕ) (arrival : ℕ → ℕ → ℚ → Ext) → IsLawful net run →
    ((i : ℕ) → (route_of net i).live ≡ true → IsPath net (route_of net i).hops) → GoesForward net place →
    EntersKept net run arrival → ((server : ℕ) → KeptAt net run arrival server → PassedOn net run arrival server) →
    (server : ℕ) → KeptAt net run arrival server
