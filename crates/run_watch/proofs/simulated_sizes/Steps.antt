-- The steps of a simulated run whose gauge is below 2 ^ 120: their times stand on its grid, and each work is at the pace of its server's rate.
use Rattle.std.specs.Prelude.{◌≡◌, ◌⊎◌, ℕ, pos, List, [], ◌∷◌, ◌++◌, length}
use Rattle.std.specs.List.{AllByRecursion}
use Rattle.std.proofs.Common.{arith, sym, subst, ◌∙◌, inl, inr}
use Rattle.std.proofs.lemmas.List.{length-map}
use Rattle.rational.specs.Rational.{ℚ, int, ◌-ℚ◌, ◌*ℚ◌, ◌/ℚ◌, ◌<ℚ◌}
use Rattle.rational.proofs.Laws.{not_zero}
use Rattle.rational.proofs.Quotients.{div_unique}
use Rattle.rational.proofs.Linear.{with2}
use Rattle.upp_limits.specs.Sized.{IsSlope}
use Rattle.run_laws.specs.declared.steps.Step.{Step}
use Rattle.run_laws.specs.declared.steps.Step.TheVariants.{Enter, Reach, Work, Leave, Visit}
use Rattle.run_laws.specs.Lawful.{RunState, state_at, next_run, after_run, run_start, AllowsInRun, AllAllowedInRun}
use Rattle.run_laws.proofs.Views.{after_more}
use Rattle.net_model.specs.Networks.{Net, NetServer}
use Rattle.net_model.specs.NetRoutes.{server_for}
use Rattle.net_model.specs.Traces.{SpecTrace}
use Rattle.net_model.specs.stated_runs.Setups.{Setup, rate_of}
use Rattle.net_model.specs.stated_runs.FromTraces.{setup_of}
use Rattle.net_model.specs.stated_runs.TimeGrids as grids
use Rattle.net_model.specs.stated_runs.TimeGrids.{RunFits}
use Rattle.net_model.specs.stated_runs.DueSteps.{IsDue, IsResumed, IsStarted, step_time}
use Rattle.net_model.specs.stated_runs.Simulated.{IsNext, Follows, FollowsSoFar, last_time}
use Rattle.net_model.specs.stated_runs.Laws.{state_after}
use Rattle.sim_bounds.specs.Horizons.{horizon}
use Rattle.sim_bounds.specs.Gauge.{simulation_sizes, grid_of}
use Rattle.sim_bounds.proofs.Members.{made_from}
use Rattle.run_watch.specs.first_breaches.Sizes.{StepStands}
use Rattle.run_watch.proofs.simulated_sizes.Numbers.{rate_slope}

-- ---- one step more
so_far_more : (S : Setup) (r : RunState) (xs : List Step) (x : Step) → FollowsSoFar S r xs → IsNext S (after_run S.net r xs) x → FollowsSoFar S r (xs ++ x ∷ [])
so_far_more S r [] x h k = (k, tt)
so_far_more S r (y ∷ xs) x h k = (h.0, so_far_more S (next_run S.net r y) xs x h.1 k)

-- ---- the pace of a work
stretch_rate : (S : Setup) (r : RunState) (s p : ℕ) (a b w : ℚ) → IsResumed S s (state_at r s) p a b w ⊎ IsStarted S s (state_at r s) p a b w → (a <ℚ b) × (w ≡ rate_of S s *ℚ (b -ℚ a))
stretch_rate S r s p a b w (inl h) = (h.stretch.forward, h.stretch.at_rate)
stretch_rate S r s p a b w (inr h) = (h.stretch.forward, h.stretch.at_rate)

pace_rate : (rate a b w : ℚ) → a <ℚ b → w ≡ rate *ℚ (b -ℚ a) → w /ℚ (b -ℚ a) ≡ rate
pace_rate rate a b w l e =
    let long = b -ℚ a in
    let some : int (pos 0) <ℚ long = with2 a b (λ c. omega (arith, c.le, c.lt, c.same)) in
    div_unique w long rate (not_zero long some) (sym e)

pace_slope : (net : Net) (trace : SpecTrace) (r : RunState) (s p : ℕ) (a b w : ℚ) → IsDue (setup_of net trace) r (Work s p a b w) → IsSlope (simulation_sizes net trace) (w /ℚ (b -ℚ a))
pace_slope net trace r s p a b w h =
    let S = setup_of net trace in
    let many : length S.net.servers ≡ length net.servers = length-map net.servers (server_for net.version) in
    let l = h.0 in
    let found = made_from (λ (y : NetServer). y.rate) net.servers s (int (pos 1)) (omega (arith, l, many)) in
    let k = stretch_rate S r s p a b w h.1 in
    subst (IsSlope (simulation_sizes net trace)) (sym (pace_rate (rate_of S s) a b w k.0 k.1 ∙ found.2)) (rate_slope net trace found.0 found.1)

-- ---- each step
step_stands : (net : Net) (trace : SpecTrace) (end : ℚ) (done : List Step) (x : Step) → RunFits (setup_of net trace) (grid_of net trace) (horizon (setup_of net trace))
    → FollowsSoFar (setup_of net trace) (run_start (setup_of net trace).net) done → IsDue (setup_of net trace) (state_after (setup_of net trace) done) x
    → AllowsInRun (setup_of net trace).net end (state_after (setup_of net trace) done) x → StepStands (simulation_sizes net trace) end x
step_stands net trace end done (Enter f p t b) F k due a =
    let time = F.due done k (Enter f p t b) due in
    record { whole = time.on_grid; low = time.from_zero; high = a.at_server.0.in_run }
step_stands net trace end done (Reach s p t) F k due a =
    let time = F.due done k (Reach s p t) due in
    record { whole = time.on_grid; low = time.from_zero; high = a.at_server.0.in_run }
step_stands net trace end done (Work s p t u w) F k due a =
    let time = F.due done k (Work s p t u w) due in
    let last = F.ends done k s p t u w due in
    record {
      start = record { whole = time.on_grid; low = time.from_zero; high = a.at_server.0.in_run };
      last = record { whole = last.on_grid; low = last.from_zero; high = a.at_server.1.ends_in_run };
      pace = pace_slope net trace (state_after (setup_of net trace) done) s p t u w due;
    }
step_stands net trace end done (Leave s p t) F k due a =
    let time = F.due done k (Leave s p t) due in
    record { whole = time.on_grid; low = time.from_zero; high = a.at_server.0.in_run }
step_stands net trace end done (Visit s q t) F k due a = tt

pub steps_stand : (net : Net) (trace : SpecTrace) (end : ℚ) (done xs : List Step) → RunFits (setup_of net trace) (grid_of net trace) (horizon (setup_of net trace))
    → FollowsSoFar (setup_of net trace) (run_start (setup_of net trace).net) done → Follows (setup_of net trace) (state_after (setup_of net trace) done) xs
    → AllAllowedInRun (setup_of net trace).net end (state_after (setup_of net trace) done) xs → AllByRecursion (StepStands (simulation_sizes net trace) end) xs
steps_stand net trace end done [] F k h a = tt
steps_stand net trace end done (x ∷ xs) F k h a =
    let S = setup_of net trace in
    let next : state_after S (done ++ x ∷ []) ≡ next_run S.net (state_after S done) x = after_more S.net (run_start S.net) done x in (
      step_stands net trace end done x F k h.0.due a.0,
      steps_stand net trace end (done ++ x ∷ []) xs F (so_far_more S (run_start S.net) done x k h.0)
          (subst (λ (r : RunState). Follows S r xs) (sym next) h.1) (subst (λ (r : RunState). AllAllowedInRun S.net end r xs) (sym next) a.1),
    )

-- ---- the end of the run is a time of the simulation
pub end_time : (S : Setup) (D : ℕ) (E T : ℚ) (done xs : List Step) → RunFits S D E → FollowsSoFar S (run_start S.net) done → Follows S (state_after S done) xs → grids.IsTime D E T
    → grids.IsTime D E (last_time T xs)
end_time S D E T done [] F k h t = t
end_time S D E T done (x ∷ xs) F k h t =
    let next : state_after S (done ++ x ∷ []) ≡ next_run S.net (state_after S done) x = after_more S.net (run_start S.net) done x in
    end_time S D E (step_time x) (done ++ x ∷ []) xs F (so_far_more S (run_start S.net) done x k h.0)
    (subst (λ (r : RunState). Follows S r xs) (sym next) h.1) (F.due done k x h.0.due)
