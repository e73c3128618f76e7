-- No step that is due is past the horizon.
use Rattle.std.proofs.Common.{◌≡◌, ℕ, ◌<◌, List, [], ◌∷◌, length, refl, sym, ap, ◌∙◌, subst, arith, Some}
use Rattle.std.specs.Prelude.{pos}
use Rattle.rational.specs.Rational.{ℚ, int, ◌+ℚ◌, ◌-ℚ◌, ◌*ℚ◌, ◌/ℚ◌, ◌≤ℚ◌, ◌<ℚ◌}
use Rattle.rational.specs.MinMax.{max_q}
use Rattle.rational.proofs.Linear.{with2, with3, with4, with5, with7}
use Rattle.rational.proofs.Laws.{le_refl, le_trans, le_of_lt, mul_le_mul, mul_comm, div_mul, not_zero, le_of_mul}
use Rattle.rational.proofs.Quotients.{zero_div}
use Rattle.rational.proofs.MinMax.{max_q_ge_left, max_q_ge_right}
use Rattle.run_laws.specs.declared.steps.Step.{Step}
use Rattle.run_laws.specs.declared.steps.Step.TheVariants.{Enter, Reach, Work, Leave, Visit}
use Rattle.run_laws.specs.Cards.{Card, whole, size}
use Rattle.run_laws.specs.Servers.{done_so_far, head_of}
use Rattle.run_laws.specs.Routes.{server_at, link_at}
use Rattle.run_laws.specs.Views.{card_of, hops_of}
use Rattle.run_laws.specs.Lawful.{Due, RunState, state_at, next_run, run_start, after_run}
use Rattle.run_laws.proofs.Sizes.{whole_le, whole_nonneg}
use Rattle.net_model.specs.stated_runs.Setups.{Setup, IsSetup, IsFirstOpen, opening_of, rate_of}
use Rattle.net_model.specs.stated_runs.DueSteps.{IsDue, step_time}
use Rattle.net_model.proofs.stated_runs.Lists.{contains_in}
use Rattle.net_model.proofs.stated_runs.Routed.{place_of}
use Rattle.net_model.proofs.stated_runs.Good.{IsGood, good_from_step}
use Rattle.net_model.proofs.stated_runs.GoodWork.{good_work_of}
use Rattle.net_model.proofs.stated_runs.GoodSteps.{good_next}
use Rattle.net_model.proofs.stated_runs.Lawfulness.{good_start}
use Rattle.sim_bounds.specs.Horizons.{first_time, load, work_span, horizon, sum_below, span, IsForward}
use Rattle.net_model.specs.stated_runs.Simulated.{FollowsSoFar}
use Rattle.sim_bounds.specs.Times.{IsTimely}
use Rattle.sim_bounds.proofs.OpenTime.{open_time}
use Rattle.sim_bounds.proofs.Spans.{come_by, left_by, enters_by, first_nonneg, left_in_time, work_nonneg, span_nonneg, sum_nonneg}
use Rattle.sim_bounds.proofs.AheadSums.{ahead}
use Rattle.sim_bounds.proofs.Levels.{clock, clock_of, wait_flat, in_span}
use Rattle.sim_bounds.proofs.Bounded.{IsBounded, late_at, inside_ahead, clock_in_time, bounded_start, bounded_next, next_head, stretch_from, idle_of}

-- ---- at one server
-- a first open time, and what is left to work off then, end in the server's span
open_in_span : (S : Setup) (place : ℕ → ℕ) → IsSetup S → IsForward S place → (r : RunState) → IsBounded S place r → (s : ℕ) → s < length S.net.servers
    → (a left : ℚ) → IsFirstOpen S s (clock (state_at r s)) a → int (pos 0) ≤ℚ left → left ≤ℚ whole (ahead S r s) -ℚ done_so_far (state_at r s).under
    → a +ℚ left /ℚ rate_of S s ≤ℚ left_by S place s
open_in_span S place ok f r b s known a left first some over =
    let A = come_by S place s in
    let l = late_at S place ok f s in
    let σ = state_at r s in
    let time = open_time (opening_of S s).gate in
    let rate = rate_of S s in
    let level = (b.levels s known).level in
    let m = max_q A a in
    let zero_m : int (pos 0) ≤ℚ m = le_trans (le_trans (first_nonneg S) l.after_first) (max_q_ge_left A a) in
    let flat = mul_le_mul rate (le_of_lt (ok.rates s)) (wait_flat S A s (clock σ) a l first) in
    let rest : rate *ℚ time m +ℚ left ≤ℚ rate *ℚ time A +ℚ whole (load S s) =
    with7 (rate *ℚ time m) (rate *ℚ time (max_q A (clock σ))) (rate *ℚ time A) (whole (load S s)) (whole (ahead S r s)) (done_so_far σ.under) left (λ c. omega (arith, c.le, c.lt, c.same)) in
    let all = in_span S A s m left l zero_m some rest in
    let at = max_q_ge_right A a in
    with5 a m A (left /ℚ rate) (work_span S s) (λ c. omega (arith, c.le, c.lt, c.same))

-- the card of due work is the first of its queue
record IsNextCard (S : Setup) (r : RunState) (s p : ℕ) (a b w : ℚ) : Type 0 where
  few : whole (card_of S.net r.entered p s).bits ≤ℚ whole (ahead S r s)
  within : done_so_far (state_at r s).under +ℚ w ≤ℚ size (card_of S.net r.entered p s)
  some_work : int (pos 0) <ℚ w

next_card_of : (S : Setup) (place : ℕ → ℕ) → IsSetup S → (r : RunState) (T : ℚ) → IsGood S r T → IsBounded S place r
    → (s p : ℕ) (a b w : ℚ) → IsDue S r (Work s p a b w) → IsNextCard S r s p a b w
next_card_of S place ok r T g h s p a b w due =
    let known = due.0 in
    let σ = state_at r s in
    let d = (server_at S.net s).discipline in
    let z = good_work_of S ok r.entered s σ T p a b w (g.servers s known) due.1 in
    let first : head_of z.card.queue σ.inside ≡ Some z.card = next_head d σ z.card (h.heads s known) σ.under refl z.next_one in
    let few = inside_ahead S r s z.card.queue z.card (omega (arith, known, g.many)) z.here first in
    record {
      few = subst (λ (c : Card). whole c.bits ≤ℚ whole (ahead S r s)) z.card_is (whole_le z.card.bits (ahead S r s) few);
      within = subst (λ (c : Card). done_so_far σ.under +ℚ w ≤ℚ size c) z.card_is z.within;
      some_work = z.some_work;
    }

-- ---- each kind of step
pub first_in_time : (S : Setup) (place : ℕ → ℕ) → IsSetup S → IsForward S place → first_time S ≤ℚ horizon S
first_in_time S place ok f =
    let a = sum_nonneg (span S) (length S.net.servers) (span_nonneg S place ok f) in
    with2 (first_time S) (sum_below (span S) (length S.net.servers)) (λ c. omega (arith, c.le, c.lt, c.same))

pub left_before : (S : Setup) (place : ℕ → ℕ) → IsSetup S → IsForward S place → (s : ℕ) → s < length S.net.servers → left_by S place s ≤ℚ horizon S
left_before S place ok f s h =
    let a = left_in_time S place ok f s h in
    let l = ok.links s in
    with3 (left_by S place s) (link_at S.net s) (horizon S) (λ c. omega (arith, c.le, c.lt, c.same))

come_before : (S : Setup) (place : ℕ → ℕ) → IsSetup S → IsForward S place → (s : ℕ) → s < length S.net.servers → come_by S place s ≤ℚ horizon S
come_before S place ok f s h =
    let a = left_before S place ok f s h in
    let w = work_nonneg S ok s in
    with3 (come_by S place s) (work_span S s) (horizon S) (λ c. omega (arith, c.le, c.lt, c.same))

pub timely : (S : Setup) (place : ℕ → ℕ) → IsSetup S → IsForward S place → (r : RunState) (T : ℚ) → IsGood S r T → IsBounded S place r
    → (y : Step) → IsDue S r y → IsTimely S r y
timely S place ok f r T g h (Enter i p t b) due = record {
  from_zero = le_trans g.from_zero (g.later (Enter i p t b) due);
  forward = le_refl t;
  end_near = le_refl t;
  in_time = subst (λ u. u ≤ℚ horizon S) (sym due.time_is) (le_trans (enters_by S p due.in_trace) (first_in_time S place ok f));
}
timely S place ok f r T g h (Reach s p t) due =
    let d : Due = record { packet = p; server = s; time = t } in
    let i = contains_in r.due d due in
    let link = g.links d i in
    let known = (place_of S.net s (hops_of S.net r.entered p) (g.entries p link.entered_one).hops link.passes).known_server in
    record {
      from_zero = le_trans g.from_zero (g.later (Reach s p t) due);
      forward = le_refl t;
      end_near = le_refl t;
      in_time = le_trans (h.links d i) (come_before S place ok f s known);
    }
timely S place ok f r T g h (Work s p a b w) due =
    let known = due.0 in
    let σ = state_at r s in
    let rate = rate_of S s in
    let k = stretch_from S s σ p a b w due.1 in
    let c = next_card_of S place ok r T g h s p a b w due in
    let left = size (card_of S.net r.entered p s) -ℚ done_so_far σ.under in
    let within = c.within in
    let some = c.some_work in
    let few = c.few in
    let nonneg : int (pos 0) ≤ℚ left = with3 w (size (card_of S.net r.entered p s)) (done_so_far σ.under) (λ o. omega (arith, o.le, o.lt, o.same)) in
    let over : left ≤ℚ whole (ahead S r s) -ℚ done_so_far σ.under = with3 (whole (ahead S r s)) (size (card_of S.net r.entered p s)) (done_so_far σ.under) (λ o. omega (arith, o.le, o.lt, o.same)) in
    let all : left ≡ (left /ℚ rate) *ℚ rate = sym (div_mul left rate (not_zero rate (ok.rates s))) in
    let part : (b -ℚ a) *ℚ rate ≡ w = mul_comm (b -ℚ a) rate ∙ sym k.stretch.at_rate in
    let w_left : w ≤ℚ left = with3 w (size (card_of S.net r.entered p s)) (done_so_far σ.under) (λ o. omega (arith, o.le, o.lt, o.same)) in
    let shorter : b -ℚ a ≤ℚ left /ℚ rate = le_of_mul rate (b -ℚ a) (left /ℚ rate) (ok.rates s)
    (subst (λ x. x ≤ℚ (left /ℚ rate) *ℚ rate) (sym part) (subst (λ x. w ≤ℚ x) all w_left)) in
    record {
      from_zero = le_trans g.from_zero (g.later (Work s p a b w) due);
      forward = le_of_lt k.stretch.forward;
      end_near = with3 a b (left /ℚ rate) (λ o. omega (arith, o.le, o.lt, o.same));
      in_time = le_trans (open_in_span S place ok f r h s known a left k.stretch.begins nonneg over) (left_before S place ok f s known);
    }
timely S place ok f r T g h (Leave s p t) due =
    let known = due.0 in
    let y = due.1 in
    let clock_there = clock_in_time S place ok f r T g h s known y.under y.is_under in
    let at : t ≤ℚ left_by S place s = subst (λ x. x ≤ℚ left_by S place s) (sym y.at_end) clock_there in
    let l = ok.links s in
    let far = left_in_time S place ok f s known in
    record {
      from_zero = le_trans g.from_zero (g.later (Leave s p t) due);
      forward = le_refl t;
      end_near = with2 t (link_at S.net s) (λ o. omega (arith, o.le, o.lt, o.same));
      in_time = with4 t (link_at S.net s) (left_by S place s) (horizon S) (λ o. omega (arith, o.le, o.lt, o.same));
    }
timely S place ok f r T g h (Visit s q t) due =
    let known = due.0 in
    let σ = state_at r s in
    let idle = idle_of (server_at S.net s).discipline σ q due.1.may in
    let from : σ.now ≡ clock σ = sym (ap (λ o. clock_of o σ.now) idle) in
    let none : done_so_far σ.under ≡ int (pos 0) = ap done_so_far idle in
    let there = whole_nonneg (ahead S r s) in
    let over : int (pos 0) ≤ℚ whole (ahead S r s) -ℚ done_so_far σ.under = with2 (whole (ahead S r s)) (done_so_far σ.under) (λ o. omega (arith, o.le, o.lt, o.same)) in
    let all = open_in_span S place ok f r h s known t (int (pos 0)) (subst (λ x. IsFirstOpen S s x t) from due.1.opens) (le_refl (int (pos 0))) over in
    let zero : int (pos 0) /ℚ rate_of S s ≡ int (pos 0) = zero_div (rate_of S s) (not_zero (rate_of S s) (ok.rates s)) in
    let far = left_before S place ok f s known in
    record {
      from_zero = le_trans g.from_zero (g.later (Visit s q t) due);
      forward = le_refl t;
      end_near = le_refl t;
      in_time = with4 t (int (pos 0) /ℚ rate_of S s) (left_by S place s) (horizon S) (λ o. omega (arith, o.le, o.lt, o.same));
    }

-- ---- the times that states keep
-- ---- as far as the run has come
pub record IsReached (S : Setup) (place : ℕ → ℕ) (r : RunState) : Type 0 where
  pub now : ℚ
  pub good : IsGood S r now
  pub bounded : IsBounded S place r
  pub in_time : now ≤ℚ horizon S

pub reached_from : (S : Setup) (place : ℕ → ℕ) → IsSetup S → IsForward S place → (xs : List Step) (r : RunState) → IsReached S place r → FollowsSoFar S r xs
    → IsReached S place (after_run S.net r xs)
reached_from S place ok f [] r h b = h
reached_from S place ok f (x ∷ xs) r h b =
    let n = b.0 in
    let k = good_next S ok r h.now h.good x n in
    let t = timely S place ok f r h.now h.good h.bounded x n.due in
    reached_from S place ok f xs (next_run S.net r x) record {
      now = step_time x;
      good = good_from_step S r h.now x h.good n k;
      bounded = bounded_next S place ok f r h.now h.good h.bounded x n.due k.known;
      in_time = le_trans t.forward (le_trans t.end_near t.in_time);
    } b.1

pub reached : (S : Setup) (place : ℕ → ℕ) → IsSetup S → IsForward S place → (xs : List Step) → FollowsSoFar S (run_start S.net) xs
    → IsReached S place (after_run S.net (run_start S.net) xs)
reached S place ok f xs b = reached_from S place ok f xs (run_start S.net) record {
  now = int (pos 0);
  good = good_start S ok;
  bounded = bounded_start S place ok f;
  in_time = le_trans (first_nonneg S) (first_in_time S place ok f);
} b
