-- What is asked of a recorded run before its laws are looked at: its steps name live flows and servers of the network,
-- and its packets, each of some bits, are numbered in the order in which they enter. Own choice.
use Rattle.std.specs.Prelude.{◌≡◌, ℕ, ◌<◌, ◌≤◌, true, List, [], ◌∷◌, length}
use Rattle.run_laws.specs.declared.steps.Step.{Step}
use Rattle.run_laws.specs.declared.steps.Step.TheVariants.{Enter, Reach, Work, Leave, Visit}
use Rattle.run_laws.specs.Routes.{Hop, Routes, route_of, PassesServer}
use Rattle.run_laws.specs.Views.{Entry, entered_after}
use Rattle.net_model.specs.stated_runs.Setups.{AreHopsOf}

-- ---- paths
-- no server twice
abbrev pub PassOnce : List Hop → Type 0
PassOnce [] = Unit {0}
PassOnce (h ∷ hs) = (¬ PassesServer h.server hs) × PassOnce hs

-- some servers of the network, and queues of theirs
pub record IsPath (net : Routes) (hops : List Hop) : Type 0 where
  pub some : 1 ≤ length hops
  pub hops_are : AreHopsOf net hops
  pub once : PassOnce hops

-- each live flow has a path
abbrev pub HasPaths : Routes → Type 0
HasPaths net = (f : ℕ) → (route_of net f).live ≡ true → IsPath net (route_of net f).hops

-- ---- steps
-- a packet with the next number enters on a live flow
pub record IsNextEntry (net : Routes) (entered : List Entry) (flow packet bits : ℕ) : Type 0 where
  pub in_turn : packet ≡ length entered
  pub is_live : (route_of net flow).live ≡ true
  pub some_bits : 1 ≤ bits

abbrev pub IsRecordedStep : Routes → List Entry → Step → Type 0
IsRecordedStep net entered (Enter f p t b) = IsNextEntry net entered f p b
IsRecordedStep net entered (Reach s p t) = s < length net.servers
IsRecordedStep net entered (Work s p a b w) = s < length net.servers
IsRecordedStep net entered (Leave s p t) = s < length net.servers
IsRecordedStep net entered (Visit s q t) = s < length net.servers

-- the steps of a recorded run, after some packets have entered
abbrev pub AreRecorded : Routes → List Entry → List Step → Type 0
AreRecorded net entered [] = Unit {0}
AreRecorded net entered (x ∷ xs) = IsRecordedStep net entered x × AreRecorded net (entered_after entered x) xs
