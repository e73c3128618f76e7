-- The laws of times.
use Rattle.std.proofs.Common.{◌≡◌, ℕ, List, ap, subst}
use Rattle.rational.specs.Rational.{◌-ℚ◌, ◌/ℚ◌}
use Rattle.rational.specs.Grid.{Whole}
use Rattle.rational.proofs.Laws.{le_trans}
use Rattle.run_laws.specs.declared.steps.Step.{Step}
use Rattle.run_laws.specs.Cards.{size}
use Rattle.run_laws.specs.Servers.{done, done_so_far}
use Rattle.run_laws.specs.Lawful.{state_at, run_start, after_run}
use Rattle.net_model.specs.stated_runs.Setups.{Setup, IsSetup, rate_of}
use Rattle.net_model.specs.stated_runs.DueSteps.{IsDue}
use Rattle.sim_bounds.specs.Horizons.{IsForward}
use Rattle.net_model.specs.stated_runs.Simulated.{FollowsSoFar}
use Rattle.sim_bounds.specs.Times.{IsTimely, IsGrid, IsStepOnGrid, HasTimes}
use Rattle.sim_bounds.proofs.Levels.{clock_of}
use Rattle.sim_bounds.proofs.Bounded.{clock_in_time, left_in_time}
use Rattle.sim_bounds.proofs.InTime.{reached, timely, left_before}
use Rattle.sim_bounds.proofs.OnGrid.{gridded, on_grid, left_whole}

pub due_in_time : (S : Setup) (place : ℕ → ℕ) (xs : List Step) (y : Step) → IsSetup S → IsForward S place → FollowsSoFar S (run_start S.net) xs
    → IsDue S (after_run S.net (run_start S.net) xs) y → IsTimely S (after_run S.net (run_start S.net) xs) y
due_in_time S place xs y ok f b due =
    let h = reached S place ok f xs b in
    timely S place ok f (after_run S.net (run_start S.net) xs) h.now h.good h.bounded y due

pub due_on_grid : (S : Setup) (d : ℕ) (xs : List Step) (y : Step) → IsSetup S → IsGrid S d → FollowsSoFar S (run_start S.net) xs
    → IsDue S (after_run S.net (run_start S.net) xs) y → IsStepOnGrid S d (after_run S.net (run_start S.net) xs) y
due_on_grid S d xs y ok w b due =
    let h = gridded S d ok w xs b in
    on_grid S d ok w (after_run S.net (run_start S.net) xs) h.now h.good h.on_grid y due

pub times_of : (S : Setup) (place : ℕ → ℕ) (d : ℕ) (xs : List Step) → IsSetup S → IsForward S place → IsGrid S d → FollowsSoFar S (run_start S.net) xs
    → HasTimes S d (after_run S.net (run_start S.net) xs)
times_of S place d xs ok f w b =
    let r = after_run S.net (run_start S.net) xs in
    let h = reached S place ok f xs b in
    let k = gridded S d ok w xs b in
    record {
      now = λ s l. record {
        on_grid = (k.on_grid.states s l).now;
        from_zero = (h.good.servers s l).from_zero;
        by = le_trans (h.good.servers s l).by_now h.in_time;
      };
      last_end = λ s l u e. record {
        on_grid = subst (λ x. Whole d x) (ap (λ o. clock_of o (state_at r s).now) e) (k.on_grid.states s l).end;
        from_zero = ((h.good.servers s l).under u e).from_zero;
        by = le_trans (clock_in_time S place ok f r h.now h.good h.bounded s l u e) (left_before S place ok f s l);
      };
      left = λ s l u e.
          let t = left_in_time S place ok f r h.now h.good h.bounded s l u e in
          let so_far : done_so_far (state_at r s).under ≡ done u = ap done_so_far e in
          record {
            on_grid = subst (λ x. Whole d ((size u.card -ℚ x) /ℚ rate_of S s)) so_far (left_whole S d s w (state_at r s) u.card (k.on_grid.states s l));
            from_zero = t.0;
            by = le_trans t.1 (left_before S place ok f s l);
          };
    }
