-- What numbers promise of a run: no packet stays longer, and no more is there.
use Rattle.std.specs.Prelude.{Some, ◌≡◌, ◌≢◌, ◌<◌, ℕ, pos, true, [], ◌∷◌, length}
use Rattle.rational.specs.Rational.{ℚ, int, ◌≤ℚ◌}
use Rattle.rational.specs.Extended.{Ext, ◌≤ₑ◌}
use Rattle.rational.specs.declared.Extended.TheVariants.{Fin}
use Rattle.run_laws.specs.Runs.{SpecRun}
use Rattle.run_laws.specs.Cards.{of_queue}
use Rattle.run_laws.specs.Delays.{hop_delays, AreAtMost, backlog}
use Rattle.run_laws.specs.Servers.{Fifo}
use Rattle.run_laws.specs.Routes.{Routes, server_at, link_at, route_of, PassesServer, first_server, server_after}
use Rattle.run_laws.specs.Views.{view}
use Rattle.run_laws.specs.FlowDelays.{delays}

-- of queue q of server s: each packet's delay there, and the backlog at each time up to the run's end
pub record IsQueueBounded (net : Routes) (run : SpecRun) (s q : ℕ) (delay most : Ext) : Type 0 where
  pub delays : AreAtMost delay (hop_delays (of_queue q) run.end (view net run s))
  pub backlogs : (t : ℚ) → t ≤ℚ run.end → Fin (backlog (of_queue q) (view net run s) t) ≤ₑ most

-- of a flow: each packet's delay from end to end
abbrev pub IsFlowBounded : Routes → SpecRun → ℕ → Ext → Type 0
IsFlowBounded net run flow bound = AreAtMost bound (delays net run flow)

-- ---- a first in, first out server at which flows enter
-- the path of flow i begins at server s, and does not come back to it
pub record BeginsAt (net : Routes) (i s : ℕ) : Type 0 where
  pub first : first_server (route_of net i).hops ≡ s
  pub never_again : (a : ℕ) → server_after a (route_of net i).hops ≢ Some s

-- the path of flow i is server s alone, and its queue q
pub record IsOneHop (net : Routes) (i s q : ℕ) : Type 0 where
  pub path : (route_of net i).hops ≡ record { server = s; queue = q } ∷ []
  pub link_on : int (pos 0) ≤ℚ link_at net s

-- each live flow that passes server s begins there
pub record IsEntrance (net : Routes) (s : ℕ) : Type 0 where
  pub known : s < length net.servers
  pub is_fifo : (server_at net s).discipline ≡ Fifo
  pub begins : (i : ℕ) → (route_of net i).live ≡ true → PassesServer s (route_of net i).hops → BeginsAt net i s

-- flow i is live and passes server s alone, and no other live flow passes it
pub record IsOnlyFlow (net : Routes) (s i : ℕ) : Type 0 where
  pub known : s < length net.servers
  pub is_fifo : (server_at net s).discipline ≡ Fifo
  pub is_live : (route_of net i).live ≡ true
  pub one_hop : IsOneHop net i s 0
  pub alone : (j : ℕ) → (route_of net j).live ≡ true → PassesServer s (route_of net j).hops → j ≡ i
