-- The first of all that is due, and the end.
use Rattle.std.specs.Prelude.{Some, None, ℕ, List, length}
use Rattle.std.proofs.Common.{subst}
use Rattle.run_laws.specs.declared.steps.Step.{Step}
use Rattle.run_laws.specs.Lawful.{run_start}
use Rattle.queue_sched.specs.index_links.Chains.{Chains}
use Rattle.net_model.specs.stated_runs.Setups.{Setup}
use Rattle.net_model.specs.stated_runs.Simulated.{Follows}
use Rattle.sim_servers.specs.declared.due.Due.{Due}
use Rattle.sim_servers.specs.declared.station.Station.{Station}
use Rattle.sim_servers.specs.declared.sim_states.arrival.Arrival.{Arrival}
use Rattle.sim_servers.specs.sim_states.Running.{IsFirstCandidate}
use Rattle.sim_servers.proofs.sim_states.Firsts.{none_is_due}
use Rattle.sim_servers.proofs.sim_states.SoFar.{follows_whole}
use Rattle.simulator.specs.packet_sim.Simulating.{IsSimulating, IsFirstDue}

pub comes_next : (S : Setup) (stations : List Station) (links : Chains) (arrivals : List Arrival) (n : ℕ) (xs : List Step) (d : Due)
    → IsSimulating S stations links arrivals n xs → IsFirstCandidate S stations links arrivals n (length stations) (Some d)
    → IsFirstDue S stations links arrivals n xs d
comes_next S stations links arrivals n xs d h f = record {
  now = h;
  first = subst (λ k. IsFirstCandidate S stations links arrivals n k (Some d)) h.running.servers.many f;
}

pub has_ended : (S : Setup) (stations : List Station) (links : Chains) (arrivals : List Arrival) (n : ℕ) (xs : List Step)
    → IsSimulating S stations links arrivals n xs → IsFirstCandidate S stations links arrivals n (length stations) None
    → Follows S (run_start S.net) xs
has_ended S stations links arrivals n xs h f =
    follows_whole S xs (run_start S.net) h.running.followed
    (none_is_due S h.setup stations links arrivals n xs h.running
    (subst (λ k. IsFirstCandidate S stations links arrivals n k None) h.running.servers.many f))
