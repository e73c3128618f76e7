-- The run over the paced fork is one over the fork.
use Rattle.std.specs.Prelude.{Some, ◌≡◌, ℕ, zero, suc, ◌+◌, ◌-◌, ◌*◌, ◌^◌, ◌<◌, ◌≤◌, true, List, [], ◌∷◌, length, get_or, slice_get}
use Rattle.std.proofs.Common.{arith, sym, ap, ◌∙◌, subst, inl, inr}
use Rattle.std.proofs.lemmas.Bool.{cases_lt}
use Rattle.rational.specs.Rational.{ℚ, ◌+ℚ◌, ◌-ℚ◌, ◌≤ℚ◌, ◌<ℚ◌}
use Rattle.rational.specs.Extended.{Ext, ◌≤ₑ◌}
use Rattle.rational.specs.declared.Extended.TheVariants.{Fin}
use Rattle.rational.proofs.Linear.{with3}
use Rattle.min_plus.specs.Functions.{zero_q}
use Rattle.min_plus.specs.Formulas.{stair_value, rate_latency_value}
use Rattle.run_laws.specs.Cards.{whole, of_queue}
use Rattle.run_laws.specs.Delays.{hop_delays, AreAtMost}
use Rattle.run_laws.specs.Premises.{KeepsService}
use Rattle.run_laws.specs.RunPremises.{KeepsPremises, entered_in}
use Rattle.run_laws.specs.Routes.{route_of}
use Rattle.run_laws.specs.Views.{view}
use Rattle.tree_runs.specs.Trees.{TreeRoutes, flat, IsLawfulTree}
use Rattle.tree_runs.specs.Branches.{delays_to}
use Rattle.worked_trees.specs.PacedFork.{paced_fork, over_the_fork, at_entry}
use Rattle.worked_trees.proofs.PacedForkRun as paced
use Rattle.arrival_lines.specs.Grid.{micros}
use Rattle.arrival_lines.proofs.Units.{micros_add, micros_some}
use Rattle.port_bounds.specs.Ports.{service_curve}
use Rattle.tree_network.specs.Networks.{port_at, no_port, node_at, no_node}
use Rattle.tree_network.specs.declared.network.Network.{Network}
use Rattle.tree_network.specs.declared.network.Port.{Port}
use Rattle.tree_bounds.specs.Tables.{IsTableOf}
use Rattle.tree_bounds.specs.declared.analysis.Table.{Table}
use Rattle.tree_bounds.specs.guarantee.Guarantee.{IsRunOf, IsGuaranteed, frame_of, frame_in, stair_of, stair_in}
use Rattle.tree_bounds.specs.guarantee.Routes.{routes_of}
use Rattle.tree_bounds.proofs.guarantee.Branched as branched
use Rattle.worked_tables.specs.Fork.{IsFork, ForkReachesBound, slow_port}
use Rattle.worked_tables.proofs.ForkNetwork.{its_ports, speed_100, micros_of, is_network, routes_are}

link_is : (net : Network) (f : IsFork net) → slice_get net.links.items 0 ≡ Some f.link
link_is net f = ap (λ ls. slice_get ls 0) f.links

-- ---- what it keeps
frames_are : (net : Network) → IsFork net → frame_of net 0 ≡ 12000
frames_are net f = ap frame_in (link_is net f) ∙ f.over.frame

stair_is : (net : Network) → IsFork net → (t : ℚ) → stair_of net 0 t ≡ at_entry 0 t
stair_is net f t =
    ap (λ l. stair_in l t) (link_is net f)
    ∙ ap (λ n. stair_value (whole n) (micros f.link.gap) (micros f.link.jitter) t) f.over.frame
    ∙ ap (λ n. stair_value (whole 12000) (micros n) (micros f.link.jitter) t) f.over.gap
    ∙ ap (λ n. stair_value (whole 12000) (micros 1000000000) (micros n) t) f.over.jitter
    ∙ ap (λ p. stair_value (whole 12000) p (micros 0) t) (micros_of 1000)
    ∙ ap (λ j. stair_value (whole 12000) (whole 1000) j t) (micros_of 0)

keeps_at : (server link : ℕ) → server < 3
    → KeepsService (service_curve (slow_port link)) over_the_fork.end (view (flat paced_fork) over_the_fork server)
keeps_at server link h =
    let K : (ℚ → Ext) → Type 0 = λ β. KeepsService β over_the_fork.end (view (flat paced_fork) over_the_fork server) in
    subst (λ r. K (λ t. rate_latency_value r (micros 10000000) t)) (sym speed_100)
    (subst (λ l. K (λ t. rate_latency_value (whole 100) l t)) (sym (micros_of 10)) (paced.keeps_service server h))

-- one of these ports, as a server of the run
abbrev IsKeptBy : ℕ → List Port → Type 0
IsKeptBy server ports =
    KeepsService (service_curve (get_or ports server no_port)) over_the_fork.end (view (flat paced_fork) over_the_fork server)

service_kept : (server : ℕ) → server < 3 → IsKeptBy server its_ports
service_kept zero h = keeps_at 0 5000000 h
service_kept (suc zero) h = keeps_at 1 0 h
service_kept (suc (suc zero)) h = keeps_at 2 0 h
service_kept (suc (suc (suc s))) h = absurd (omega (arith, h))

-- what is asked of the flow and of the servers, with a frame of 12000 bits and this stair
pub fork_premises : (frame : ℕ → ℕ) (stair : ℕ → ℚ → Ext) (service : ℕ → ℚ → Ext) → frame 0 ≡ 12000
    → ((t : ℚ) → stair 0 t ≡ at_entry 0 t)
    → ((s : ℕ) → s < 3 → KeepsService (service s) over_the_fork.end (view (flat paced_fork) over_the_fork s))
    → KeepsPremises (flat paced_fork) frame stair service over_the_fork
fork_premises frame stair service frame_is stair_is kept = record { sizes = sizes; arrivals = arrivals; service = kept }
  where
    sizes : (flow : ℕ) → (route_of (flat paced_fork) flow).live ≡ true → ((0 ≡ flow → 12000 ≤ frame flow) × Unit {0})
    sizes zero live = (λ e. omega (arith, frame_is), tt)
    sizes (suc flow) live = absurd (cc)

    arrivals : (flow : ℕ) → (route_of (flat paced_fork) flow).live ≡ true → (s t : ℚ) → s ≤ℚ t
        → Fin (entered_in flow s t over_the_fork.steps) ≤ₑ stair flow (t -ℚ s)
    arrivals zero live s t l =
        subst (λ x. Fin (entered_in 0 s t over_the_fork.steps) ≤ₑ x) (sym (stair_is (t -ℚ s)))
        (paced.keeps_arrivals 0 s t l)
    arrivals (suc flow) live s t l = absurd (cc)

premises : (net : Network) → IsFork net
    → KeepsPremises (flat paced_fork) (frame_of net) (stair_of net) (λ s. service_curve (port_at net s)) over_the_fork
premises net f =
    fork_premises (frame_of net) (stair_of net) (λ s. service_curve (port_at net s)) (frames_are net f) (stair_is net f)
    (λ s h. subst (IsKeptBy s) (sym f.ports) (service_kept s h))

is_run : (net : Network) → IsFork net → IsRunOf net over_the_fork
is_run net f = record {
  lawful = subst (λ r. IsLawfulTree r over_the_fork) (sym (routes_are net f)) paced.is_lawful;
  premises =
      let P : TreeRoutes → Type 0 =
      λ r. KeepsPremises (flat r) (frame_of net) (stair_of net) (λ s. service_curve (port_at net s)) over_the_fork in
      subst P (sym (routes_are net f)) (premises net f);
}

-- ---- and what it reaches
micros_back : (a b : ℕ) → micros a ≤ℚ micros b → a ≤ b
micros_back a b h = elim (cases_lt b a) [
  | inr le ↦ le
  | inl lt ↦
      let e = ap micros (let k : a ≡ b + (a - b) = omega (arith, lt) in k) ∙ micros_add b (a - b) in
      let some = micros_some (a - b) (omega (arith, lt)) in
      absurd (no (micros a) (micros b) (micros (a - b)) h e some)
]
  where
    no : (x y d : ℚ) → x ≤ℚ y → x ≡ y +ℚ d → zero_q <ℚ d → ⊥
    no x y d h e some = with3 x y d (λ c. omega (arith, c.le, c.lt, c.same))

pub the_fork_reaches : ForkReachesBound
the_fork_reaches net f = record {
  network = is_network net f;
  run = is_run net f;
  guaranteed = held;
  its_stay =
      let P : TreeRoutes → Type 0 =
      λ r. hop_delays (of_queue 0) over_the_fork.end (view (flat r) over_the_fork 1) ≡ whole 130 ∷ [] in
      subst P (sym (routes_are net f)) paced.stay;
  its_delay = delay_is;
  no_lesser = λ table bound is e.
      let g = held table is in
      let place : (node_at f.link 1).port ≡ 1 = ap (λ ns. (get_or ns 1 no_node).port) f.over.nodes in
      let inside = subst (λ ns. 1 < length ns) (sym f.over.nodes) (omega arith) in
      let at = g.branches 0 1 bound f.link (link_is net f) inside e in
      let P : ℕ → Type 0 = λ s. AreAtMost (Fin (micros bound)) (delays_to (routes_of net) over_the_fork 0 s) in
      let Q : List ℚ → Type 0 = λ ds. AreAtMost (Fin (micros bound)) ds in
      let most = (subst Q delay_is (subst P place at)).0 in
      micros_back (265 * 10 ^ 6) bound (subst (λ x. x ≤ℚ micros bound) (sym (micros_of 265)) most);
}
  where
    held : (table : Table) → IsTableOf net table → IsGuaranteed net table over_the_fork
    held table is = branched.tables_keep net table over_the_fork (is_network net f) is (is_run net f)

    delay_is : delays_to (routes_of net) over_the_fork 0 1 ≡ whole 265 ∷ []
    delay_is =
        subst (λ (r : TreeRoutes). delays_to r over_the_fork 0 1 ≡ whole 265 ∷ []) (sym (routes_are net f))
        paced.to_the_first
