-- Paths over the servers of a network.
use Rattle.std.proofs.Common.{◌≡◌, ℕ, ◌<◌, ◌≤◌, List, [], ◌∷◌, length, refl, subst, arith, inl, inr, Some}
use Rattle.std.proofs.lemmas.Bool.{cases_eq, eq-eqb, ne_eqb}
use Rattle.run_laws.specs.Servers.{queue_count}
use Rattle.run_laws.specs.Routes.{Hop, Routes, server_at, queue_at, PassesServer, first_of, first_server}
use Rattle.net_model.specs.stated_runs.Setups.{AreHopsOf}
pub use Rattle.run_laws.proofs.Entries.{passes_next as after_passes}

pub record IsPlace (net : Routes) (s q : ℕ) : Type 0 where
  pub known_server : s < length net.servers
  pub known_queue : q < queue_count (server_at net s).discipline

-- a server that a path passes is known, and so is its queue there
pub place_of : (net : Routes) (s : ℕ) (hs : List Hop) → AreHopsOf net hs → PassesServer s hs → IsPlace net s (queue_at s hs)
place_of net s [] a p = absurd p
place_of net s (h ∷ hs) a p = elim (cases_eq h.server s) [
  | inl e ↦
      rw (eq-eqb h.server s e) record {
        known_server = subst (λ t. t < length net.servers) e a.0.known_server;
        known_queue = subst (λ t. h.queue < queue_count (server_at net t).discipline) e a.0.known_queue;
      }
  | inr n ↦
      rw (ne_eqb h.server s n) (place_of net s hs a.1 (elim p [ inl e ↦ absurd (n e) | inr g ↦ g ]))
]

-- the first server of a path that has one
pub first_passes : (hs : List Hop) → 1 ≤ length hs → PassesServer (first_server hs) hs × (first_of hs ≡ Some (first_server hs))
first_passes [] h = absurd (omega (arith, h))
first_passes (h ∷ hs) l = (inl refl, refl)

-- and the server after another one
