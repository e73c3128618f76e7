-- The packets that arrive at a server of a lawful run: each is of a live flow that passes the server, and keeps its flow's size.
use Rattle.std.specs.Prelude.{◌≡◌, ◌<◌, ◌≤◌, ℕ, true, ◌==◌, List, [], ◌∷◌, length}
use Rattle.std.proofs.Common.{arith, sym, ap, ◌∙◌, refl, inl, inr, subst}
use Rattle.std.proofs.lemmas.Bool.{cases_Bool, eqb-true}
use Rattle.rational.specs.Rational.{ℚ}
use Rattle.run_laws.specs.declared.steps.Step.{Step}
use Rattle.run_laws.specs.declared.steps.Step.TheVariants.{Enter, Reach, Work, Leave, Visit}
use Rattle.run_laws.specs.Runs.{SpecRun}
use Rattle.run_laws.specs.Cards.{ServerStep}
use Rattle.run_laws.specs.Premises.{EachArrival}
use Rattle.run_laws.specs.Routes.{Routes, queue_at, PassesServer}
use Rattle.run_laws.specs.Views.{entry_of, entered_after, server_of, seen, view_from, view}
use Rattle.run_laws.specs.Lawful.{RunState, IsKnown, run_start}
use Rattle.run_laws.proofs.Arrivals.{arrivals_map, AllSizes, IsEntered, IsPassing, rest_sizes, entries_more, enter_passes, passing_entry}
use Rattle.run_laws.proofs.Entries.{EachDue, each_due_at}
use Rattle.run_laws.proofs.Totals.{queue_keeps_total}
use Rattle.net_laws.specs.Multicast.{NextServers, next_run_by, AllAllowedBy, IsLawfulBy}
use Rattle.net_laws.proofs.Arcs.{StaysInside}
use Rattle.tree_runs.specs.Trees.{TreeRoutes, flat, next_servers, IsLawfulTree}
use Rattle.tree_runs.specs.Packets.{KeepsTreeSizes, IsOfTree, PacketsAreOfTrees, TreeQueuesKeepSizes, TreeQueueKeepsTotal}
use Rattle.net_laws.proofs.Dues.{IsDueBy, due_next_by}
use Rattle.tree_runs.proofs.Trees.{hops_are, live_is, stays_inside}

-- ---- what is known of the packets that have entered
record KnowsPackets (net : Routes) (to : NextServers) (packet : ℕ → ℕ) (r : RunState) : Type 0 where
  entries : (p : ℕ) → p < length r.entered → IsEntered net packet (entry_of r.entered p)
  dues : EachDue (IsDueBy to r.entered) r.due

entries_next : (net : Routes) (to : NextServers) (packet : ℕ → ℕ) (r : RunState) (x : Step) (xs : List Step) → IsKnown net r x → AllSizes net packet (x ∷ xs)
    → KnowsPackets net to packet r
    → (p : ℕ) → p < length (entered_after r.entered x) → IsEntered net packet (entry_of (entered_after r.entered x) p)
entries_next net to packet r (Enter f p t b) xs k sizes h =
    entries_more net packet r.entered record { flow = f; bits = b } h.entries record { is_live = k.is_live; small = (sizes f k.is_live).0 refl }
entries_next net to packet r (Reach s p t) xs k sizes h = h.entries
entries_next net to packet r (Work s p a b w) xs k sizes h = h.entries
entries_next net to packet r (Leave s p t) xs k sizes h = h.entries
entries_next net to packet r (Visit s q t) xs k sizes h = h.entries

knows_next : (net : Routes) (to : NextServers) (packet : ℕ → ℕ) (r : RunState) (x : Step) (xs : List Step) → IsKnown net r x → AllSizes net packet (x ∷ xs)
    → KnowsPackets net to packet r → KnowsPackets net to packet (next_run_by net to r x)
knows_next net to packet r x xs k sizes h = record { entries = entries_next net to packet r x xs k sizes h; dues = due_next_by net to r x k h.dues }

-- ---- a packet that arrives at server s
head_passes : (net : Routes) (to : NextServers) (packet : ℕ → ℕ) (r : RunState) (x : Step) (xs : List Step) (V : List ServerStep) → StaysInside net to → IsKnown net r x
    → AllSizes net packet (x ∷ xs) → KnowsPackets net to packet r
    → EachArrival (IsPassing net packet (server_of net x)) V
    → EachArrival (IsPassing net packet (server_of net x)) (seen net r.entered x ∷ V)
head_passes net to packet r (Enter f p t b) xs V inside k sizes h rest =
    (enter_passes net packet r f p t b xs k sizes, rest)
head_passes net to packet r (Reach s p t) xs V inside k sizes h rest =
    let (n, l, e) = k in
    let due = each_due_at (IsDueBy to r.entered) r.due record { packet = p; server = s; time = t } n h.dues l e in
    (passing_entry net packet r.entered p s (h.entries p due.has_entered) (inside (entry_of r.entered p).flow due.left s due.next), rest)
head_passes net to packet r (Work s p a b w) xs V inside k sizes h rest = rest
head_passes net to packet r (Leave s p t) xs V inside k sizes h rest = rest
head_passes net to packet r (Visit s q t) xs V inside k sizes h rest = rest

all_pass_by : (net : Routes) (to : NextServers) (packet : ℕ → ℕ) (end : ℚ) (r : RunState) (xs : List Step) (s : ℕ) → StaysInside net to → AllAllowedBy net to end r xs
    → AllSizes net packet xs → KnowsPackets net to packet r
    → EachArrival (IsPassing net packet s) (view_from net s r.entered xs)
all_pass_by net to packet end r [] s inside a sizes h = tt
all_pass_by net to packet end r (x ∷ xs) s inside a sizes h =
    let rest = all_pass_by net to packet end (next_run_by net to r x) xs s inside a.1 (rest_sizes net packet x xs sizes) (knows_next net to packet r x xs a.0.known sizes h) in
    elim (cases_Bool (server_of net x == s)) [
      | inl e ↦
          let here : server_of net x ≡ s = eqb-true (server_of net x) s e in
          let V = view_from net s (entered_after r.entered x) xs in
          rw e (subst (λ (k : ℕ). EachArrival (IsPassing net packet k) (seen net r.entered x ∷ V)) here
          (head_passes net to packet r x xs V inside a.0.known sizes h (subst (λ (k : ℕ). EachArrival (IsPassing net packet k) V) (sym here) rest)))
      | inr e ↦ rw e rest
    ]

pub passing_at : (net : Routes) (to : NextServers) (run : SpecRun) (packet : ℕ → ℕ) (s : ℕ) → StaysInside net to → IsLawfulBy net to run
    → AllSizes net packet run.steps → EachArrival (IsPassing net packet s) (view net run s)
passing_at net to run packet s inside lawful sizes =
    all_pass_by net to packet run.end (run_start net) run.steps s inside lawful.allowed sizes record { entries = λ p h. absurd (omega arith); dues = tt }

-- ---- over trees
pub tree_passing_at : (net : TreeRoutes) (run : SpecRun) (packet : ℕ → ℕ) (s : ℕ) → IsLawfulTree net run → KeepsTreeSizes net packet run
    → EachArrival (IsPassing (flat net) packet s) (view (flat net) run s)
tree_passing_at net run packet s lawful sizes =
    passing_at (flat net) (next_servers net) run packet s (stays_inside net) lawful (λ i live. sizes i (sym (live_is net i) ∙ live))

pub packets_are_of_trees : PacketsAreOfTrees
packets_are_of_trees net run packet s lawful sizes =
    arrivals_map (IsPassing (flat net) packet s) (IsOfTree net packet s)
    (λ c p. record {
      is_live = sym (live_is net c.flow) ∙ p.is_live;
      passes = subst (PassesServer s) (hops_are net c.flow) p.passes;
      its_queue = p.its_queue ∙ ap (queue_at s) (hops_are net c.flow);
      small = p.small;
    }) (view (flat net) run s) (tree_passing_at net run packet s lawful sizes)

pub tree_queues_keep_sizes : TreeQueuesKeepSizes
tree_queues_keep_sizes net run packet s test bits lawful sizes small =
    arrivals_map (IsOfTree net packet s) (λ c. test c.queue ≡ true → c.bits ≤ bits)
    (λ c own e.
    let most = small c.flow own.is_live own.passes (subst (λ (q : ℕ). test q ≡ true) own.its_queue e) in
    let its = own.small in
    omega arith) (view (flat net) run s) (packets_are_of_trees net run packet s lawful sizes)

pub tree_queue_keeps_total : TreeQueueKeepsTotal
tree_queue_keeps_total net run packet s q α lawful sizes keeps =
    queue_keeps_total (flat net) packet s q α (view (flat net) run s) (tree_passing_at net run packet s lawful sizes) keeps
