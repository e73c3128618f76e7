-- One step more.
use Rattle.std.specs.Prelude.{◌≡◌, ℕ, List, [], ◌∷◌, ◌++◌, length}
use Rattle.std.proofs.Common.{sym, ap, ◌∙◌, subst}
use Rattle.std.proofs.lemmas.List.{length_push}
use Rattle.run_laws.specs.declared.steps.Step.{Step}
use Rattle.queue_sched.specs.index_links.Chains.{Chains}
use Rattle.net_model.specs.Networks.{Net}
use Rattle.net_model.specs.Traces.{SpecTrace}
use Rattle.net_model.specs.stated_runs.Setups.{Setup}
use Rattle.net_model.specs.stated_runs.FromTraces.{setup_of}
use Rattle.sim_servers.specs.declared.station.Station.{Station}
use Rattle.sim_servers.specs.declared.sim_states.arrival.Arrival.{Arrival}
use Rattle.simulator.specs.declared.packet_sim.simulation.Simulation.{Simulation}
use Rattle.simulator.specs.packet_sim.Simulating.{IsSimulating}
use Rattle.simulator.specs.packet_sim.Stepping.{HasStepped}

same_all : (S : Setup) (stations : List Station) (links : Chains) (arrivals : List Arrival) (n : ℕ) (xs : List Step)
    (stations' : List Station) (links' : Chains) (arrivals' : List Arrival) (n' : ℕ) (xs' : List Step)
    → stations' ≡ stations → links' ≡ links → arrivals' ≡ arrivals → n' ≡ n → xs' ≡ xs
    → IsSimulating S stations links arrivals n xs → IsSimulating S stations' links' arrivals' n' xs'
same_all S stations links arrivals n xs stations' links' arrivals' n' xs' a b c d e h =
    subst (λ z. IsSimulating S stations' links' arrivals' n' z) (sym e)
    (subst (λ z. IsSimulating S stations' links' arrivals' z xs) (sym d)
    (subst (λ z. IsSimulating S stations' links' z n xs) (sym c)
    (subst (λ z. IsSimulating S stations' z arrivals n xs) (sym b)
    (subst (λ z. IsSimulating S z links arrivals n xs) (sym a) h))))

-- the parts of the simulation after a step x
pub stepped : (net : Net) (trace : SpecTrace) (before after : Simulation) (x : Step) (stations : List Station) (links : Chains) (arrivals : List Arrival) (n : ℕ)
    → after.stations.items ≡ stations → after.links ≡ links → after.arrivals.items ≡ arrivals → after.entered ≡ n
    → after.steps.items ≡ before.steps.items ++ x ∷ []
    → IsSimulating (setup_of net trace) stations links arrivals n (before.steps.items ++ x ∷ [])
    → HasStepped net trace before after
stepped net trace before after x stations links arrivals n a b c d e h = record {
  simulates = same_all (setup_of net trace) stations links arrivals n (before.steps.items ++ x ∷ [])
      after.stations.items after.links after.arrivals.items after.entered after.steps.items a b c d e h;
  one_more = ap length e ∙ length_push before.steps.items x;
}
