-- The first candidate is the next step; where there is none, nothing is due.
use Rattle.std.specs.Prelude.{Some, None, ◌≡◌, ◌≢◌, ℕ, ◌≤◌, List, [], length}
use Rattle.std.proofs.Common.{arith, sym, ap, ◌∙◌, subst, inl, inr}
use Rattle.rational.specs.Rational.{ℚ, ◌≤ℚ◌}
use Rattle.rational.proofs.Laws.{le_trans, antisym}
use Rattle.run_laws.specs.declared.steps.Step.{Step}
use Rattle.run_laws.specs.Cards.{Card}
use Rattle.std.proofs.lemmas.Bool.{cases_lt}
use Rattle.std.proofs.lemmas.List.{get_or_past}
use Rattle.run_laws.specs.Servers.{Discipline, Fifo, Priority, Drr, Server, ServerState, head_of}
use Rattle.run_laws.specs.Allows.{MayVisit}
use Rattle.run_laws.specs.Rounds.{presence}
use Rattle.run_laws.specs.Routes.{server_at}
use Rattle.run_laws.specs.Lawful.{RunState, state_at}
use Rattle.run_laws.proofs.Rounds.{first_counts}
use Rattle.queue_sched.specs.index_links.Chains.{Chains}
use Rattle.net_model.specs.stated_runs.Setups.{Setup, IsSetup}
use Rattle.net_model.specs.stated_runs.DueSteps.{IsVisited, IsDue, rank_of, step_time, RankAtMost}
use Rattle.net_model.specs.stated_runs.Simulated.{IsNext}
use Rattle.net_model.specs.stated_runs.Laws.{state_after}
use Rattle.net_model.proofs.stated_runs.Turning.{KeepsTurns}
use Rattle.sim_servers.specs.declared.due.Due.{Due}
use Rattle.sim_servers.specs.declared.station.Station.{Station}
use Rattle.sim_servers.specs.Firsts.{place_of}
use Rattle.sim_servers.proofs.Firsts.{rank_trans}
use Rattle.sim_servers.specs.declared.sim_states.arrival.Arrival.{Arrival}
use Rattle.sim_servers.specs.sim_states.Running.{IsRunning, IsFirstCandidate}
use Rattle.sim_servers.proofs.sim_states.SoFar.{IsSound, sound_so_far}
use Rattle.sim_servers.proofs.sim_states.Scan.{covered, IsCovered}

-- a queue that is visited has a packet
pub visit_some : (d : Discipline) (σ : ServerState) (q : ℕ) → MayVisit d σ q → KeepsTurns d σ → σ.inside ≢ []
visit_some Fifo σ q m k e = absurd m
visit_some (Priority n) σ q m k e = absurd m
visit_some (Drr quanta) σ q m k e =
    let one = first_counts q σ.round.active m.is_first in
    let lists = k.turn.round.lists q in
    let none : presence (head_of q σ.inside) ≡ 0 = ap (λ (cs : List Card). presence (head_of q cs)) e in
    omega (arith, one, lists, none)

beyond : (S : Setup) (s q : ℕ) (σ : ServerState) → length S.net.servers ≤ s → ¬ (MayVisit (server_at S.net s).discipline σ q)
beyond S s q σ l m =
    let e : server_at S.net s ≡ record { discipline = Fifo; pace = None } = get_or_past S.net.servers s record { discipline = Fifo; pace = None } l in
    subst (λ (x : Server). MayVisit x.discipline σ q) e m

visit_at : (S : Setup) (r : RunState) → IsSound S r → (s q : ℕ) (t : ℚ) → IsVisited S s (state_at r s) q t → (state_at r s).inside ≢ []
visit_at S r sound s q t v = elim (cases_lt s (length S.net.servers)) [
  | inl l ↦ visit_some (server_at S.net s).discipline (state_at r s) q v.may (sound.turns s l)
  | inr l ↦ absurd (beyond S s q (state_at r s) l v.may)
]

covers_all : (S : Setup) → IsSetup S → (stations : List Station) (links : Chains) (arrivals : List Arrival) (entered : ℕ) (xs : List Step)
    → IsRunning S stations links arrivals entered xs → (y : Step) → IsDue S (state_after S xs) y
    → IsCovered S (state_after S xs) stations links arrivals entered y
covers_all S ok stations links arrivals entered xs h y due =
    covered S stations links arrivals entered xs h y due (λ s q t v. visit_at S (state_after S xs) (sound_so_far S ok xs h.followed) s q t v)

pub none_is_due : (S : Setup) → IsSetup S → (stations : List Station) (links : Chains) (arrivals : List Arrival) (entered : ℕ) (xs : List Step)
    → IsRunning S stations links arrivals entered xs → IsFirstCandidate S stations links arrivals entered (length S.net.servers) None
    → (y : Step) → ¬ (IsDue S (state_after S xs) y)
none_is_due S ok stations links arrivals entered xs h none y due =
    let c = covers_all S ok stations links arrivals entered xs h y due in
    none c.found c.candidate

pub first_is_next : (S : Setup) → IsSetup S → (stations : List Station) (links : Chains) (arrivals : List Arrival) (entered : ℕ) (xs : List Step) (d : Due)
    → IsRunning S stations links arrivals entered xs → IsFirstCandidate S stations links arrivals entered (length S.net.servers) (Some d)
    → (x : Step) → IsDue S (state_after S xs) x → step_time x ≡ d.time → rank_of (state_after S xs) x ≡ place_of d → IsNext S (state_after S xs) x
first_is_next S ok stations links arrivals entered xs d h f x due time rank = record {
  due = due;
  first = λ y i.
      let c = covers_all S ok stations links arrivals entered xs h y i in
      let k = f.1 c.found c.candidate in
      record {
        no_later = subst (λ t. t ≤ℚ step_time y) (sym time) (le_trans k.time c.fits.time);
        in_turn = λ e.
            let de : d.time ≡ step_time y = sym time ∙ e in
            let ab : d.time ≡ c.found.time = antisym (k.time, subst (λ t. c.found.time ≤ℚ t) (sym de) c.fits.time) in
            subst (λ z. RankAtMost z (rank_of (state_after S xs) y)) (sym rank)
            (rank_trans (place_of d) (place_of c.found) (rank_of (state_after S xs) y) (k.in_turn ab) (c.fits.in_turn (sym ab ∙ de)));
      };
}
