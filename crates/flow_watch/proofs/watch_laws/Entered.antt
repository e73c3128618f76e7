-- The packets of a flow of a lawful run enter in the order of time.
use Rattle.std.specs.Prelude.{◌≡◌, ℕ, ◌<◌, ◌==◌, List, [], ◌∷◌, length}
use Rattle.std.proofs.Common.{arith, sym, subst, ap, ◌∙◌, inl, inr}
use Rattle.std.proofs.lemmas.Bool.{cases_Bool, cases_eq, eqb-true}
use Rattle.std.proofs.lemmas.List.{get_or-set_same, length-set, length-map}
use Rattle.rational.specs.Rational.{ℚ, ◌≤ℚ◌}
use Rattle.rational.proofs.Laws.{le_refl, le_trans}
use Rattle.run_laws.specs.declared.steps.Step.{Step}
use Rattle.run_laws.specs.declared.steps.Step.TheVariants.{Enter, Reach, Work, Leave, Visit}
use Rattle.run_laws.specs.Runs.{SpecRun}
use Rattle.run_laws.specs.Cards.{time_of}
use Rattle.run_laws.specs.Servers.{Fifo, Server, ServerState, start}
use Rattle.run_laws.specs.Next.{next}
use Rattle.run_laws.specs.Routes.{Routes, server_at, route_of, first_server}
use Rattle.run_laws.specs.Views.{server_of, seen}
use Rattle.run_laws.specs.Lawful.{RunState, state_at, next_run, AllowsInRun, AllAllowedInRun, run_start, IsLawful}
use Rattle.run_laws.proofs.Cuts.{time_in_order}
use Rattle.flow_watch.specs.declared.watch_laws.entering.Entering.{Entering}
use Rattle.flow_watch.specs.watch_laws.Entries.{entries, EntersFrom}
use Rattle.run_laws.proofs.Views.{other_state}

-- a step does not set a server's clock back
clock_own : (net : Routes) (r : RunState) (x : Step) → server_of net x < length r.servers
    → (state_at (next_run net r x) (server_of net x)).now ≡ time_of (seen net r.entered x)
clock_own net r x h = ap (λ (σ : ServerState). σ.now) (get_or-set_same r.servers (server_of net x) (next (server_at net (server_of net x)).discipline (state_at r (server_of net x)) (seen net r.entered x)) (start Fifo) h)

clock_rises : (net : Routes) (end : ℚ) (r : RunState) (x : Step) (s : ℕ) → AllowsInRun net end r x → length r.servers ≡ length net.servers
    → (state_at r s).now ≤ℚ (state_at (next_run net r x) s).now
clock_rises net end r x s a n = elim (cases_eq s (server_of net x)) [
  | inl e ↦
      let in_range : server_of net x < length r.servers = let k = a.known_server in omega arith in
      let order = (time_in_order (server_at net (server_of net x)) end (state_at r (server_of net x)) (seen net r.entered x) a.at_server).in_order in
      subst (λ (k : ℕ). (state_at r k).now ≤ℚ (state_at (next_run net r x) k).now) (sym e)
      (subst (λ (t : ℚ). (state_at r (server_of net x)).now ≤ℚ t) (sym (clock_own net r x in_range)) order)
  | inr d ↦ subst (λ (σ : ServerState). (state_at r s).now ≤ℚ σ.now) (sym (other_state net r x s d)) (le_refl (state_at r s).now)
]

sooner : (x y : ℚ) (flow : ℕ) (xs : List Step) → x ≤ℚ y → EntersFrom y (entries flow xs) → EntersFrom x (entries flow xs)
sooner x y flow xs h k = go (entries flow xs) k
  where
    go : (es : List Entering) → EntersFrom y es → EntersFrom x es
    go [] k = tt
    go (e ∷ es) k = (le_trans h k.0, k.1)

enter_from : (net : Routes) (end : ℚ) (r : RunState) (xs : List Step) (flow : ℕ) → AllAllowedInRun net end r xs → length r.servers ≡ length net.servers
    → EntersFrom (state_at r (first_server (route_of net flow).hops)).now (entries flow xs)
enter_from net end r [] flow a n = tt
enter_from net end r (x ∷ xs) flow a n =
    let s = first_server (route_of net flow).hops in
    let rest = enter_from net end (next_run net r x) xs flow a.1 (length-set r.servers (server_of net x) _ ∙ n) in
    let later = clock_rises net end r x s a.0 n in
    by_step net end r x xs flow a.0 n rest (sooner (state_at r s).now (state_at (next_run net r x) s).now flow xs later rest)
  where
    by_step : (net : Routes) (end : ℚ) (r : RunState) (x : Step) (xs : List Step) (flow : ℕ) → AllowsInRun net end r x → length r.servers ≡ length net.servers
        → EntersFrom (state_at (next_run net r x) (first_server (route_of net flow).hops)).now (entries flow xs)
        → EntersFrom (state_at r (first_server (route_of net flow).hops)).now (entries flow xs)
        → EntersFrom (state_at r (first_server (route_of net flow).hops)).now (entries flow (x ∷ xs))
    by_step net end r (Enter f p t b) xs flow a n rest same = elim (cases_Bool (f == flow)) [
      | inr e ↦ rw e same
      | inl e ↦
          let is : f ≡ flow = eqb-true f flow e in
          let s = first_server (route_of net f).hops in
          let in_range : s < length r.servers = let k = a.known_server in omega arith in
          let order = (time_in_order (server_at net s) end (state_at r s) (seen net r.entered (Enter f p t b)) a.at_server).in_order in
          let own = clock_own net r (Enter f p t b) in_range in
          rw e (
            subst (λ (k : ℕ). (state_at r (first_server (route_of net k).hops)).now ≤ℚ t) is order,
            subst (λ (z : ℚ). EntersFrom z (entries flow xs)) own
                (subst (λ (k : ℕ). EntersFrom (state_at (next_run net r (Enter f p t b)) (first_server (route_of net k).hops)).now (entries flow xs)) (sym is) rest),
          )
    ]
    by_step net end r (Reach s p t) xs flow a n rest same = same
    by_step net end r (Work s p u v w) xs flow a n rest same = same
    by_step net end r (Leave s p t) xs flow a n rest same = same
    by_step net end r (Visit s q t) xs flow a n rest same = same

pub in_order : (net : Routes) (run : SpecRun) (flow : ℕ) → IsLawful net run → (t : ℚ) × EntersFrom t (entries flow run.steps)
in_order net run flow h =
    ((state_at (run_start net) (first_server (route_of net flow).hops)).now, enter_from net run.end (run_start net) run.steps flow h.allowed (length-map net.servers (λ (x : Server). start x.discipline)))
