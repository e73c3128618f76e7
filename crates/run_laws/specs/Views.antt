-- What each server of a network sees of a run.
use Rattle.std.specs.Prelude.{ℕ, ◌==◌, List, [], ◌∷◌, ◌++◌, get_or, if◌then◌else◌}
use Rattle.run_laws.specs.declared.steps.Step.{Step}
use Rattle.run_laws.specs.declared.steps.Step.TheVariants.{Enter, Reach, Work, Leave, Visit}
use Rattle.run_laws.specs.Runs.{SpecRun}
use Rattle.run_laws.specs.Cards.{Card, ServerStep, Arrives, Works, Leaves, Visits}
use Rattle.run_laws.specs.Routes.{Hop, Routes, route_of, queue_at, first_server}

-- a packet that has entered; the k-th has number k
pub record Entry : Type 0 where
  pub flow : ℕ
  pub bits : ℕ

-- packet p
abbrev pub entry_of : List Entry → ℕ → Entry
entry_of entered p = get_or entered p record { flow = 0; bits = 0 }

-- the path of a packet
abbrev pub hops_of : Routes → List Entry → ℕ → List Hop
hops_of net entered p = (route_of net (entry_of entered p).flow).hops

-- the packet as server s sees it
abbrev pub card_of : Routes → List Entry → ℕ → ℕ → Card
card_of net entered p s = record {
  packet = p;
  flow = (entry_of entered p).flow;
  queue = queue_at s (hops_of net entered p);
  bits = (entry_of entered p).bits;
}

-- the packets that have entered after a step
abbrev pub entered_after : List Entry → Step → List Entry
entered_after entered (Enter f p t b) = entered ++ record { flow = f; bits = b } ∷ []
entered_after entered (Reach s p t) = entered
entered_after entered (Work s p a b w) = entered
entered_after entered (Leave s p t) = entered
entered_after entered (Visit s q t) = entered

-- the server at which a step is; an Enter is at its flow's first
abbrev pub server_of : Routes → Step → ℕ
server_of net (Enter f p t b) = first_server (route_of net f).hops
server_of net (Reach s p t) = s
server_of net (Work s p a b w) = s
server_of net (Leave s p t) = s
server_of net (Visit s q t) = s

-- the step as its server sees it; a packet arrives where it enters and where it reaches a server
abbrev pub seen : Routes → List Entry → Step → ServerStep
seen net entered (Enter f p t b) =
    Arrives (card_of net (entered ++ record { flow = f; bits = b } ∷ []) p (first_server (route_of net f).hops)) t
seen net entered (Reach s p t) = Arrives (card_of net entered p s) t
seen net entered (Work s p a b w) = Works (card_of net entered p s) a b w
seen net entered (Leave s p t) = Leaves (card_of net entered p s) t
seen net entered (Visit s q t) = Visits q t

-- the steps of server s among these
abbrev pub view_from : Routes → ℕ → List Entry → List Step → List ServerStep
view_from net s entered [] = []
view_from net s entered (x ∷ xs) =
    if server_of net x == s
    then seen net entered x ∷ view_from net s (entered_after entered x) xs
    else view_from net s (entered_after entered x) xs

-- the steps of server s, in their order
abbrev pub view : Routes → SpecRun → ℕ → List ServerStep
view net run s = view_from net s [] run.steps
