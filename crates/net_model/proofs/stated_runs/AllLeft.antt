-- At the end of a stated run all packets have entered, and none is at a server or on a link.
use Rattle.std.proofs.Common.{◌≡◌, ◌≤◌, List, [], ◌∷◌, length, refl, arith, inl, inr}
use Rattle.std.specs.Prelude.{pos}
use Rattle.std.proofs.lemmas.Bool.{cases_lt}
use Rattle.std.proofs.lemmas.List.{length_push}
use Rattle.rational.specs.Rational.{ℚ, int}
use Rattle.run_laws.specs.declared.steps.Step.{Step}
use Rattle.run_laws.specs.declared.steps.Step.TheVariants.{Enter, Reach, Work, Leave, Visit}
use Rattle.run_laws.specs.Runs.{SpecRun}
use Rattle.run_laws.specs.Lawful.{RunState, next_run, run_start, after_run}
use Rattle.net_model.specs.stated_runs.Setups.{Setup, packet_of, IsSetup}
use Rattle.net_model.specs.stated_runs.DueSteps.{IsDue, step_time}
use Rattle.net_model.specs.stated_runs.Simulated.{Follows, IsSimulated}
use Rattle.net_model.specs.stated_runs.Laws.{HasAllLeft, GoByTime, state_after}
use Rattle.net_model.proofs.stated_runs.Lists.{In}
use Rattle.net_model.proofs.stated_runs.Good.{IsGood, good_from_step}
use Rattle.net_model.proofs.stated_runs.GoodSteps.{good_next}
use Rattle.net_model.proofs.stated_runs.Lawfulness.{good_start, done_all}
use Rattle.net_model.proofs.stated_runs.Progress.{turn_start, empty_at_end}

none_in : {X : Type 0} (xs : List X) → ((x : X) → ¬ (In xs x)) → xs ≡ []
none_in [] h = refl
none_in (x ∷ xs) h = absurd (h x (inl refl))

-- ---- how many have entered
few_next : (S : Setup) (r : RunState) (x : Step) → IsDue S r x → length r.entered ≤ length S.packets → length (next_run S.net r x).entered ≤ length S.packets
few_next S r (Enter f p t b) due l = let e = length_push r.entered record { flow = f; bits = b } in omega (arith, e, due.in_turn, due.in_trace)
few_next S r (Reach s p t) due l = l
few_next S r (Work s p a b w) due l = l
few_next S r (Leave s p t) due l = l
few_next S r (Visit s q t) due l = l

few_enter : (S : Setup) (xs : List Step) (r : RunState) → Follows S r xs → length r.entered ≤ length S.packets
    → length (after_run S.net r xs).entered ≤ length S.packets
few_enter S [] r f l = l
few_enter S (x ∷ xs) r f l = few_enter S xs (next_run S.net r x) f.1 (few_next S r x f.0.due l)

all_enter : (S : Setup) (xs : List Step) (r : RunState) → Follows S r xs → length S.packets ≤ length (after_run S.net r xs).entered
all_enter S [] r none = elim (cases_lt (length r.entered) (length S.packets)) [
  | inl l ↦
      let p = length r.entered in
      absurd (none (Enter (packet_of S p).flow p (packet_of S p).time (packet_of S p).bits)
      record { in_turn = refl; in_trace = l; flow_is = refl; time_is = refl; bits_are = refl })
  | inr l ↦ l
]
all_enter S (x ∷ xs) r f = all_enter S xs (next_run S.net r x) f.1

pub all_left : (S : Setup) (run : SpecRun) → IsSetup S → IsSimulated S run → HasAllLeft S (state_after S run.steps)
all_left S run ok sim =
    let r = run_start S.net in
    let start = good_start S ok in
    let few = few_enter S run.steps r sim.follows (let z : 0 ≤ length S.packets = omega arith in z) in
    let many = all_enter S run.steps r sim.follows in
    record {
      entered = omega (arith, few, many);
      servers = empty_at_end S ok run.steps r (int (pos 0)) start (turn_start S) sim.follows;
      links = none_in (state_after S run.steps).due (done_all S ok run.steps r (int (pos 0)) start sim.follows).none_due;
    }

-- and its steps go by time
by_time : (S : Setup) → IsSetup S → (xs : List Step) (r : RunState) (T : ℚ) → IsGood S r T → Follows S r xs → GoByTime T xs
by_time S ok [] r T g f = tt
by_time S ok (x ∷ xs) r T g f =
    let n = f.0 in
    let k = good_next S ok r T g x n in
    (g.later x n.due, by_time S ok xs (next_run S.net r x) (step_time x) (good_from_step S r T x g n k) f.1)

pub go_by_time : (S : Setup) (run : SpecRun) → IsSetup S → IsSimulated S run → GoByTime (int (pos 0)) run.steps
go_by_time S run ok sim = by_time S ok run.steps (run_start S.net) (int (pos 0)) (good_start S ok) sim.follows
