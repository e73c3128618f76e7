-- The links of a network: each is a time of a check, and a packet that leaves by the last time has passed its link by the
-- farthest.
use Rattle.std.specs.Prelude.{ℕ, pos, List, [], ◌∷◌, ◌++◌}
use Rattle.std.proofs.Common.{arith, subst, inl, inr}
use Rattle.rational.specs.Rational.{ℚ, int, ◌+ℚ◌, ◌≤ℚ◌}
use Rattle.rational.specs.Grid.{Whole}
use Rattle.rational.specs.Ratio.{SumFits}
use Rattle.rational.proofs.Grid.{whole_int, whole_add}
use Rattle.rational.proofs.Laws.{le_refl, le_trans}
use Rattle.rational.proofs.Linear.{with_atoms}
use Rattle.rational.proofs.MinMax.{max_q_ge_left, max_q_ge_right}
use Rattle.upp_limits.proofs.Every.{every_left}
use Rattle.run_laws.specs.Runs.{SpecRun}
use Rattle.run_laws.specs.Routes.{link_at}
use Rattle.net_model.specs.Networks.{Net, NetServer}
use Rattle.net_model.specs.NetRoutes.{routes_of, link_for}
use Rattle.net_model.specs.Accepted.{IsAccepted}
use Rattle.net_model.specs.stated_runs.TimeGrids.{IsTime}
use Rattle.net_model.proofs.stated_runs.Lists.{In, in_contains}
use Rattle.net_model.proofs.stated_runs.GridTimes.{sum_fits}
use Rattle.sim_bounds.specs.Horizons.{latest_of}
use Rattle.sim_bounds.specs.Gauge.{numbers_of_curves, curves_of}
use Rattle.sim_bounds.proofs.Members.{any_made, each_in, in_map}
use Rattle.sim_bounds.proofs.Spans.{latest_nonneg}
use Rattle.run_check.specs.check_gauge.Runs.{times_of, last_time}
use Rattle.run_check.specs.check_gauge.Gauge.{links_of, largest_link, farthest, check_sizes}
use Rattle.run_check.proofs.check_gauge.Held.{Fits, last_by, last_nonneg}

pub later_time : (d : ℕ) (e far t : ℚ) → e ≤ℚ far → IsTime d e t → IsTime d far t
later_time d e far t l h = record { on_grid = h.on_grid; from_zero = h.from_zero; by = le_trans h.by l }

-- ---- one link
pub links_nonneg : (net : Net) (s : ℕ) → IsAccepted net → int (pos 0) ≤ℚ link_at (routes_of net) s
links_nonneg net s ok =
    any_made (λ t. int (pos 0) ≤ℚ t) link_for net.servers s (int (pos 0)) (le_refl (int (pos 0))) (λ x i. (ok.servers x (in_contains net.servers x i)).link)

latest_in : (xs : List NetServer) (x : NetServer) → In xs x → x.link ≤ℚ latest_of (λ (s : NetServer). s.link) xs
latest_in [] x h = absurd h
latest_in (y ∷ ys) x h = elim h [
  | inl e ↦ subst (λ (z : NetServer). z.link ≤ℚ latest_of (λ (s : NetServer). s.link) (y ∷ ys)) e (max_q_ge_left y.link (latest_of (λ (s : NetServer). s.link) ys))
  | inr k ↦ le_trans (latest_in ys x k) (max_q_ge_right y.link (latest_of (λ (s : NetServer). s.link) ys))
]

link_most : (net : Net) (s : ℕ) → link_at (routes_of net) s ≤ℚ largest_link net
link_most net s =
    any_made (λ t. t ≤ℚ largest_link net) link_for net.servers s (int (pos 0)) (latest_nonneg (λ (x : NetServer). x.link) net.servers)
    (λ x i. latest_in net.servers x i)

link_whole_at : (net : Net) (run : SpecRun) (s : ℕ) → Fits net run → Whole (check_sizes net run).dt (link_at (routes_of net) s)
link_whole_at net run s h =
    let d = (check_sizes net run).dt in
    let own = every_left (Whole d) (links_of net) (times_of run.steps) (every_left (Whole d) (links_of net ++ times_of run.steps) (numbers_of_curves (last_time run) (curves_of net)).times h.stands.times.1.1) in
    any_made (Whole d) link_for net.servers s (int (pos 0)) (whole_int d (pos 0))
    (λ x i. each_in (Whole d) (links_of net) own x.link (in_map (λ (y : NetServer). y.link) net.servers x i))

-- ---- a packet leaves
pub record IsLeaving (net : Net) (run : SpecRun) (s : ℕ) (t : ℚ) : Type 0 where
  pub fits : SumFits t (link_at (routes_of net) s)
  pub there : IsTime (check_sizes net run).dt (farthest net run) (t +ℚ link_at (routes_of net) s)

pub leaves : (net : Net) (run : SpecRun) (s : ℕ) (t : ℚ) → IsAccepted net → Fits net run → IsTime (check_sizes net run).dt (last_time run) t → IsLeaving net run s t
leaves net run s t ok h time =
    let d = (check_sizes net run).dt in
    let far = farthest net run in
    let link = link_at (routes_of net) s in
    let whole = link_whole_at net run s h in
    let some = links_nonneg net s ok in
    let most = link_most net s in
    let last = last_nonneg run in
    let early = time.from_zero in
    let by = time.by in
    let e = last_time run in
    let l = largest_link net in
    record {
      fits = sum_fits d far t link h.room (later_time d e far t (last_by net run) time)
          record { on_grid = whole; from_zero = some; by = with_atoms (t ∷ link ∷ e ∷ l ∷ []) (λ c. omega (arith, c.le, c.lt, c.same)) };
      there = record {
        on_grid = whole_add d t link time.on_grid whole;
        from_zero = with_atoms (t ∷ link ∷ e ∷ l ∷ []) (λ c. omega (arith, c.le, c.lt, c.same));
        by = with_atoms (t ∷ link ∷ e ∷ l ∷ []) (λ c. omega (arith, c.le, c.lt, c.same));
      };
    }
