-- In a run in which all packets leave, each of them enters before the end.
use Rattle.std.specs.Prelude.{◌≡◌, ℕ, ◌+◌, ◌<◌, ◌≤◌, ◌==◌, List, [], ◌∷◌, ◌++◌, length, None}
use Rattle.std.proofs.Common.{arith, refl, sym, subst, ap, ◌∙◌, inl, inr}
use Rattle.std.proofs.lemmas.Bool.{cases_Bool, eqb-true, eqb-false}
use Rattle.std.proofs.lemmas.List.{length-map, length-set, get_or-map, length_push}
use Rattle.rational.specs.Rational.{ℚ}
use Rattle.run_laws.specs.declared.steps.Step.{Step}
use Rattle.run_laws.specs.declared.steps.Step.TheVariants.{Enter, Reach, Work, Leave, Visit}
use Rattle.run_laws.specs.Runs.{SpecRun}
use Rattle.run_laws.specs.Servers.{Fifo, Server, ServerState, start}
use Rattle.run_laws.specs.Next.{next, after}
use Rattle.run_laws.specs.Routes.{Routes, server_at}
use Rattle.run_laws.specs.Views.{entered_after, server_of, seen, view_from, view}
use Rattle.run_laws.specs.Lawful.{RunState, state_at, next_run, after_run, run_start, AllAllowedInRun, IsLawful}
use Rattle.flow_watch.specs.watch_laws.Entries.{entries}
use Rattle.net_model.proofs.stated_runs.Good.{own_state, other_state}

-- ---- the state of a server after a run is the one after what it sees
states_seen : (net : Routes) (end : ℚ) (r : RunState) (xs : List Step) (s : ℕ) → AllAllowedInRun net end r xs → length r.servers ≡ length net.servers
    → state_at (after_run net r xs) s ≡ after (server_at net s).discipline (state_at r s) (view_from net s r.entered xs)
states_seen net end r [] s a n = refl
states_seen net end r (x ∷ xs) s a n =
    let rest = states_seen net end (next_run net r x) xs s a.1 (length-set r.servers (server_of net x) _ ∙ n) in
    let d = (server_at net s).discipline in
    elim (cases_Bool (server_of net x == s)) [
      | inl e ↦
          let here : server_of net x ≡ s = eqb-true (server_of net x) s e in
          let known : server_of net x < length r.servers = subst (λ (k : ℕ). server_of net x < k) (sym n) a.0.known_server in
          let own : state_at (next_run net r x) s ≡ next d (state_at r s) (seen net r.entered x) =
          subst (λ (i : ℕ). state_at (next_run net r x) i ≡ next (server_at net i).discipline (state_at r i) (seen net r.entered x)) here (own_state net r x known) in
          rw e (rest ∙ ap (λ (σ : ServerState). after d σ (view_from net s (entered_after r.entered x) xs)) own)
      | inr e ↦
          let same = other_state net r x s (λ f. eqb-false (server_of net x) s e (sym f)) in
          rw e (rest ∙ ap (λ (σ : ServerState). after d σ (view_from net s (entered_after r.entered x) xs)) same)
    ]

pub empty_view : (net : Routes) (run : SpecRun) (s : ℕ) → IsLawful net run → s < length net.servers → (state_at (after_run net (run_start net) run.steps) s).inside ≡ []
    → (after (server_at net s).discipline (start (server_at net s).discipline) (view net run s)).inside ≡ []
empty_view net run s L h empty =
    let d = (server_at net s).discipline in
    let n = length-map net.servers (λ (x : Server). start x.discipline) in
    let first : state_at (run_start net) s ≡ start d = get_or-map (λ (x : Server). start x.discipline) net.servers s record { discipline = Fifo; pace = None } (start Fifo) h in
    let all = states_seen net run.end (run_start net) run.steps s L.allowed n ∙ ap (λ (σ : ServerState). after d σ (view net run s)) first in
    subst (λ (σ : ServerState). σ.inside ≡ []) all empty

-- ---- how many they are
pub entries_few : (net : Routes) (flow : ℕ) (r : RunState) (xs : List Step) → length (entries flow xs) + length r.entered ≤ length (after_run net r xs).entered
entries_few net flow r [] = omega arith
entries_few net flow r (Enter f p t b ∷ xs) =
    let rest = entries_few net flow (next_run net r (Enter f p t b)) xs in
    let more : length (r.entered ++ record { flow = f; bits = b } ∷ []) ≡ length r.entered + 1 = length_push r.entered record { flow = f; bits = b } in
    elim (cases_Bool (f == flow)) [ inl e ↦ rw e (omega (arith, rest, more)) | inr e ↦ rw e (omega (arith, rest, more)) ]
entries_few net flow r (Reach s p t ∷ xs) = entries_few net flow (next_run net r (Reach s p t)) xs
entries_few net flow r (Work s p a b w ∷ xs) = entries_few net flow (next_run net r (Work s p a b w)) xs
entries_few net flow r (Leave s p t ∷ xs) = entries_few net flow (next_run net r (Leave s p t)) xs
entries_few net flow r (Visit s q t ∷ xs) = entries_few net flow (next_run net r (Visit s q t)) xs
