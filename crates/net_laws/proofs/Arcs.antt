-- How a flow's servers hang together by the lists of next servers: arcs, roots, walks, and flows that come to each of their
-- servers over arcs from the first.
use Rattle.std.specs.Prelude.{◌≡◌, ◌≢◌, ◌<◌, ◌≤◌, ℕ, zero, suc, pos, true, List, [], ◌∷◌, length}
use Rattle.rational.specs.Rational.{int, ◌≤ℚ◌}
use Rattle.run_laws.specs.Rounds.{count_of}
use Rattle.run_laws.specs.Routes.{Hop, Routes, link_at, route_of, PassesServer, first_server}
use Rattle.net_laws.specs.Multicast.{NextServers}

-- for flow i, server b comes once after server a, and after no other, and is not the first
pub record IsArc (net : Routes) (to : NextServers) (i a b : ℕ) : Type 0 where
  pub next : count_of b (to i a) ≡ 1
  pub not_first : first_server (route_of net i).hops ≢ b
  pub only : (c : ℕ) → c ≢ a → count_of b (to i c) ≡ 0

-- flow i begins at server s, and does not come back to it
pub record IsRoot (net : Routes) (to : NextServers) (i s : ℕ) : Type 0 where
  pub first : first_server (route_of net i).hops ≡ s
  pub never_again : (a : ℕ) → count_of s (to i a) ≡ 0

-- no flow goes to a server that it does not pass
abbrev pub StaysInside : Routes → NextServers → Type 0
StaysInside net to = (i a b : ℕ) → 1 ≤ count_of b (to i a) → PassesServer b (route_of net i).hops

-- a flow comes to server s over n links from its first
abbrev pub IsReachedIn : Routes → NextServers → ℕ → ℕ → ℕ → Type 0
IsReachedIn net to i zero s = IsRoot net to i s
IsReachedIn net to i (suc n) s =
    (a : ℕ) × ((a < length net.servers) × IsArc net to i a s × IsReachedIn net to i n a)

-- each live flow comes to each of its servers so, and to no other
pub record IsSpanned (net : Routes) (to : NextServers) : Type 0 where
  pub inside : StaysInside net to
  pub reached : (i : ℕ) → (route_of net i).live ≡ true → (s : ℕ) → PassesServer s (route_of net i).hops →
      (n : ℕ) × IsReachedIn net to i n s

-- servers that a flow goes through one after the other
abbrev pub IsWalk : Routes → NextServers → ℕ → List Hop → Type 0
IsWalk net to i [] = Unit {0}
IsWalk net to i (h ∷ []) = (h.server < length net.servers) × (int (pos 0) ≤ℚ link_at net h.server)
IsWalk net to i (h ∷ g ∷ hs) =
    (h.server < length net.servers) × (int (pos 0) ≤ℚ link_at net h.server) × IsArc net to i h.server g.server ×
    IsWalk net to i (g ∷ hs)
