-- No queue may be visited where no packet is inside.
use Rattle.std.proofs.Common.{◌≡◌, ℕ, ◌+◌, List, [], ◌∷◌, refl, ap, ◌∙◌, arith}
use Rattle.std.specs.Prelude.{◌≢◌}
use Rattle.std.proofs.lemmas.Bool.{eq-eqb}
use Rattle.run_laws.specs.Servers.{ServerState, head_of}
use Rattle.run_laws.specs.Allows.{MayVisit, IsFirst}
use Rattle.run_laws.specs.Rounds.{count_of, presence}
use Rattle.sim_servers.specs.declared.server_queues.ServerQueues.{ServerQueues}
use Rattle.sim_servers.specs.declared.server_queues.ServerQueues.TheVariants.{Fifo, Priority, Drr}
use Rattle.sim_servers.specs.Queues.{served_by, StandFor}

-- no queue waits where nothing is inside
first_there : (q : ℕ) (ps : List ℕ) → IsFirst q ps → count_of q ps ≢ 0
first_there q [] h e = absurd h
first_there q (p ∷ ps) h e = let one = eq-eqb p q h in let k : count_of q (p ∷ ps) ≡ 1 + count_of q ps = rw one refl in omega (arith, k, e)

pub none_visited : (v : ServerQueues) (σ : ServerState) (q : ℕ) → StandFor v σ → σ.inside ≡ [] → ¬ MayVisit (served_by v) σ q
none_visited (Fifo v) σ q h e m = m
none_visited (Priority v) σ q h e m = m
none_visited (Drr v) σ q h e m =
    let active = ap (λ r. r.active) h.round_is in
    let lists = h.turn.round.lists q in
    let none : count_of q σ.round.active ≡ 0 = ap (count_of q) active ∙ (lists ∙ ap (λ cs. presence (head_of q cs)) e) in
    first_there q σ.round.active m.is_first none
