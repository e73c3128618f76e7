-- A server of kind latency or gate without a stall keeps its service curve in a stated run.
use Rattle.std.proofs.Common.{◌≡◌, ℕ, ◌<◌, List, [], ◌∷◌, length, sym, ap, ◌∙◌, subst, arith, inl, inr, Some, None}
use Rattle.std.specs.Prelude.{◌≢◌, pos, slice_get}
use Rattle.std.proofs.lemmas.Bool.{cases_eq, eq-eqb, ne_eqb}
use Rattle.std.proofs.lemmas.List.{length-map}
use Rattle.rational.specs.Rational.{ℚ, int, ◌+ℚ◌, ◌-ℚ◌, ◌*ℚ◌, ◌≤ℚ◌, ◌<ℚ◌}
use Rattle.rational.specs.MinMax.{min_q, max_q}
use Rattle.rational.specs.Extended.{Ext, ◌≤ₑ◌, ◌+ₑ◌}
use Rattle.rational.specs.declared.Extended.TheVariants.{Fin}
use Rattle.rational.proofs.Linear.{with1, with2, with3, with4, with5}
use Rattle.rational.proofs.Laws.{le_trans, le_of_lt, lt_le_trans, le_or_lt, between, mul_le_mul, mul_sub, mul_add}
use Rattle.rational.proofs.MinMax.{below_min_in, below_min_out, max_q_le}
use Rattle.min_plus.specs.Functions.{zero_q}
use Rattle.upp_curve.specs.Curve.{SpecCurve, value_at}
use Rattle.upp_curve.proofs.KindValues.{service_is}
use Rattle.upp_curve.proofs.GateValues.{gate_is}
use Rattle.run_laws.specs.declared.steps.Step.{Step}
use Rattle.run_laws.specs.declared.steps.Step.TheVariants.{Enter, Reach, Work, Leave, Visit}
use Rattle.run_laws.specs.Cards.{Card, ServerStep, all, size}
use Rattle.run_laws.specs.Counts.{arrived, worked}
use Rattle.run_laws.specs.Runs.{SpecRun}
use Rattle.run_laws.specs.Routes.{server_at, first_server, route_of}
use Rattle.run_laws.specs.Servers.{ServerState, Fifo, start, head_of}
use Rattle.run_laws.specs.Next.{next}
use Rattle.run_laws.specs.Views.{card_of, entered_after, server_of, seen, view_from, view}
use Rattle.run_laws.specs.Lawful.{RunState, state_at, next_run, run_start}
use Rattle.run_laws.specs.Premises.{KeepsService, IsBusy}
use Rattle.run_laws.proofs.Counts.{worked_nonneg}
use Rattle.net_model.specs.declared.server.ServiceKind.{ServiceKind}
use Rattle.net_model.specs.declared.server.ServiceKind.TheVariants.{Latency, Gate, Listed}
use Rattle.net_model.specs.Networks.{Net, NetServer}
use Rattle.net_model.specs.NetRoutes.{routes_of, server_for}
use Rattle.net_model.specs.Accepted.{IsAccepted, IsOfKind}
use Rattle.net_model.specs.Traces.{SpecTrace, IsTrace}
use Rattle.net_model.specs.stated_runs.Setups.{Setup, IsSetup, Opening, IsOpen, opening_of, rate_of}
use Rattle.net_model.specs.stated_runs.FromTraces.{gate_of, stalls_at, setup_of, IsTraceOf}
use Rattle.net_model.specs.stated_runs.DueSteps.{IsLeaving, step_time}
use Rattle.net_model.specs.stated_runs.Simulated.{IsNext, Follows, IsSimulated}
use Rattle.net_model.proofs.stated_runs.Good.{IsGood, own_state, other_state, good_from_step}
use Rattle.net_model.proofs.stated_runs.GoodSteps.{good_next}
use Rattle.net_model.proofs.stated_runs.Lawfulness.{good_start, none_under}
use Rattle.net_model.proofs.stated_runs.MadeSetups.{traces_make_setups}
use Rattle.net_model.proofs.stated_runs.Opens.{stretch_of}
use Rattle.net_model.proofs.stated_runs.Progress.{AllKeepTurns, turn_next, turn_start, none_inside}
use Rattle.net_model.proofs.stated_runs.ServerSetups.{server_is, listed}
use Rattle.net_model.proofs.stated_runs.Starting.{due_start}
use Rattle.sim_bounds.proofs.Bounded.{stretch_from, idle_of}
use Rattle.sim_bounds.proofs.Levels.{clock_of, clock}
use Rattle.sim_bounds.proofs.OpenTime.{open_time}
use Rattle.sim_bounds.specs.stated_service.Laws.{IsByFormula}
use Rattle.sim_bounds.proofs.stated_service.Driven.{backlog, IsDriven, backlog_zero, driven_end, driven_arrive, driven_visit, driven_leave, driven_work}
use Rattle.net_model.proofs.stated_runs.Lawfulness.{under_cases}
use Rattle.sim_bounds.proofs.stated_service.Gains.{Gains}
use Rattle.sim_bounds.proofs.stated_service.Windows.{window_open}

-- ---- one step of the run
-- where a packet comes, the server has not been open since it had one to start
waits : (S : Setup) → IsSetup S → (r : RunState) (T : ℚ) → IsGood S r T → AllKeepTurns S r → (x : Step) → IsNext S r x → (s : ℕ) → s < length S.net.servers
    → (state_at r s).under ≡ None → (state_at r s).inside ≢ [] → (z : ℚ) → (state_at r s).now ≤ℚ z → z <ℚ step_time x → ¬ (IsOpen S s z)
waits S ok r T g a x n s h idle full z l m =
    let σ = state_at r s in
    let o = stretch_of S s (ok.rates s) (ok.gates s) σ.now (int (pos 1)) (g.servers s h).from_zero (with1 (int (pos 0)) (λ c. omega (arith, c.le, c.lt, c.same))) in
    let y = due_start S ok r T g a s h idle full o.0 o.3.begins in
    let by : step_time x ≤ℚ o.0 = subst (λ t. step_time x ≤ℚ t) y.2 (n.first y.0 y.1).no_later in
    o.3.begins.closed_before z l (lt_le_trans m by)

clock_nonneg : (S : Setup) (r : RunState) (T : ℚ) → IsGood S r T → (s : ℕ) → s < length S.net.servers → int (pos 0) ≤ℚ clock (state_at r s)
clock_nonneg S r T g s h =
    let σ = state_at r s in
    elim (under_cases σ.under) [
      | inl e ↦ subst (λ t. int (pos 0) ≤ℚ t) (sym (ap (λ o. clock_of o σ.now) e)) (g.servers s h).from_zero
      | inr u ↦ subst (λ t. int (pos 0) ≤ℚ t) (sym (ap (λ o. clock_of o σ.now) u.1)) ((g.servers s h).under u.0 u.1).from_zero
    ]

own_step : (S : Setup) → IsSetup S → (r : RunState) (T : ℚ) → IsGood S r T → AllKeepTurns S r → (x : Step) → IsNext S r x → server_of S.net x < length S.net.servers
    → (opening_of S (server_of S.net x)).stalls ≡ [] → (V : List ServerStep)
    → IsDriven S (server_of S.net x) (next (server_at S.net (server_of S.net x)).discipline (state_at r (server_of S.net x)) (seen S.net r.entered x)) (step_time x) V
    → IsDriven S (server_of S.net x) (state_at r (server_of S.net x)) T (seen S.net r.entered x ∷ V)
own_step S ok r T g a (Enter f p t b) n h none V k =
    let s = first_server (route_of S.net f).hops in
    driven_arrive S s (server_at S.net s).discipline (state_at r s) T V _ t record { ok = ok; no_stall = none; from_zero = clock_nonneg S r T g s h } (g.later (Enter f p t b) n.due)
    (waits S ok r T g a (Enter f p t b) n s h) k
own_step S ok r T g a (Reach s p t) n h none V k =
    driven_arrive S s (server_at S.net s).discipline (state_at r s) T V _ t record { ok = ok; no_stall = none; from_zero = clock_nonneg S r T g s h } (g.later (Reach s p t) n.due)
    (waits S ok r T g a (Reach s p t) n s h) k
own_step S ok r T g a (Work s p u v w) n h none V k =
    let y = stretch_from S s (state_at r s) p u v w n.due.1 in
    driven_work S s (server_at S.net s).discipline (state_at r s) T V _ y.left u v w record { ok = ok; no_stall = none; from_zero = clock_nonneg S r T g s h } (g.later (Work s p u v w) n.due)
    y.stretch k
own_step S ok r T g a (Leave s p t) n h none V k =
    let σ = state_at r s in
    let y : IsLeaving σ p t = n.due.1 in
    let good = (g.servers s h).under y.under y.is_under in
    let card_is : y.under.card ≡ card_of S.net r.entered p s = good.card.is ∙ ap (λ q. card_of S.net r.entered q s) y.packet_is in
    driven_leave S s (server_at S.net s).discipline σ T V (card_of S.net r.entered p s) y.under t (g.later (Leave s p t) n.due) y.is_under (y.worked_off ∙ ap size card_is) y.at_end
    (subst (λ (c : Card). head_of c.queue σ.inside ≡ Some c) card_is ((a s h).head y.under y.is_under)) k
own_step S ok r T g a (Visit s q t) n h none V k =
    driven_visit S s (server_at S.net s).discipline (state_at r s) T V q t record { ok = ok; no_stall = none; from_zero = clock_nonneg S r T g s h } (g.later (Visit s q t) n.due)
    (idle_of (server_at S.net s).discipline (state_at r s) q n.due.1.may) n.due.1.opens k

-- ---- the whole run
sooner : (S : Setup) (s : ℕ) (σ : ServerState) (T U : ℚ) (V : List ServerStep) → T ≤ℚ U → IsDriven S s σ U V → IsDriven S s σ T V
sooner S s σ T U V l k = record { gains = k.gains; works = k.works; later = λ z m. k.later z (le_trans m l) }

driven_run : (S : Setup) → IsSetup S → (s : ℕ) → s < length S.net.servers → (opening_of S s).stalls ≡ [] → (xs : List Step) (r : RunState) (T : ℚ) → IsGood S r T → AllKeepTurns S r
    → Follows S r xs → IsDriven S s (state_at r s) T (view_from S.net s r.entered xs)
driven_run S ok s h none [] r T g a f = driven_end S s (state_at r s) T (none_inside S ok r T g a f s h) (none_under S ok r T g f s h)
driven_run S ok s h none (x ∷ xs) r T g a f =
    let n = f.0 in
    let k = good_next S ok r T g x n in
    let later = good_from_step S r T x g n k in
    let turns = turn_next S ok r T g x n.due k.known a in
    let i = server_of S.net x in
    let rest = driven_run S ok s h none xs (next_run S.net r x) (step_time x) later turns f.1 in
    let V = view_from S.net s (entered_after r.entered x) xs in
    elim (cases_eq i s) [
      | inl e ↦
          rw (eq-eqb i s e)
          (let P : ℕ → Type 0 = λ j. IsDriven S j (state_at r j) T (seen S.net r.entered x ∷ V) in
          subst P e (own_step S ok r T g a x n k.known (ap (λ j. (opening_of S j).stalls) e ∙ none) V
          (let Q : ServerState → Type 0 = λ σ. IsDriven S i σ (step_time x) V in
          subst Q (own_state S.net r x (let m = g.many in let q = k.known in omega (arith, m, q)))
          (let M : ℕ → Type 0 = λ j. IsDriven S j (state_at (next_run S.net r x) j) (step_time x) V in subst M (sym e) rest))))
      | inr d ↦
          rw (ne_eqb i s d)
          (sooner S s (state_at r s) T (step_time x) V (g.later x n.due)
          (subst (λ σ. IsDriven S s σ (step_time x) V) (other_state S.net r x s (λ e. d (sym e))) rest))
    ]

-- ---- what the curve promises is worked in the open time
pub record IsPromised (R : ℚ) (O : ℚ → ℚ) (f : ℚ → Ext) (a b : ℚ) : Type 0 where
  pub value : ℚ
  pub is : f (b -ℚ a) ≡ Fin value
  pub by : R *ℚ O a +ℚ value ≤ℚ R *ℚ O b

promised : (R : ℚ) (kind : ServiceKind) (c : SpecCurve) → int (pos 0) ≤ℚ R → IsOfKind R kind c → IsByFormula kind → (a b : ℚ) → int (pos 0) ≤ℚ a → a ≤ℚ b
    → IsPromised R (open_time (gate_of kind)) (value_at c) a b
promised R (Latency latency) c rate k i a b from l =
    let y : int (pos 0) ≤ℚ b -ℚ a = with2 a b (λ o. omega (arith, o.le, o.lt, o.same)) in
    let wait = k.0 in
    let most : max_q zero_q ((b -ℚ a) -ℚ latency) ≤ℚ b -ℚ a = max_q_le zero_q ((b -ℚ a) -ℚ latency) (b -ℚ a) y (with3 a b latency (λ o. omega (arith, o.le, o.lt, o.same))) in
    let scaled = mul_le_mul R rate most in
    let split = mul_sub R b a in
    record {
      value = R *ℚ max_q zero_q ((b -ℚ a) -ℚ latency);
      is = ap (λ d. value_at d (b -ℚ a)) k.1 ∙ (service_is R latency rate wait).is (b -ℚ a) y;
      by = with4 (R *ℚ a) (R *ℚ b) (R *ℚ (b -ℚ a)) (R *ℚ max_q zero_q ((b -ℚ a) -ℚ latency)) (λ o. omega (arith, o.le, o.lt, o.same));
    }
promised R (Gate cycle slot) c rate k i a b from l =
    let y : int (pos 0) ≤ℚ b -ℚ a = with2 a b (λ o. omega (arith, o.le, o.lt, o.same)) in
    let opened = window_open cycle slot k.0 k.1 a b from l in
    record {
      value = _;
      is = ap (λ d. value_at d (b -ℚ a)) k.2 ∙ gate_is R cycle slot (b -ℚ a) rate k.0 k.1 y;
      by = subst (λ t. t ≤ℚ R *ℚ open_time (gate_of (Gate cycle slot)) b) (mul_add R (open_time (gate_of (Gate cycle slot)) a) _) (mul_le_mul R rate opened);
    }
promised R Listed c rate k i a b from l = absurd i

-- ---- a busy window begins at 0 or later
not_early : (V : List ServerStep) (a b : ℚ) → a <ℚ b → (T : ℚ) → (S : Setup) (s : ℕ) (σ : ServerState) → IsDriven S s σ (int (pos 0)) V → IsBusy V a b → int (pos 0) ≤ℚ a
not_early V a b l T S s σ k busy = elim (le_or_lt (int (pos 0)) a) [
  | inl h ↦ h
  | inr h ↦
      let m = between a (min_q b (int (pos 0))) (below_min_in b (int (pos 0)) a l h) in
      let out = below_min_out b (int (pos 0)) m.0 m.2 in
      let w = worked_nonneg all V m.0 k.works in
      let none = k.later m.0 (le_of_lt out.1) in
      let much = busy m.0 m.1 out.0 in
      absurd (Rattle.rational.proofs.Laws.lt_irrefl (int (pos 0)) (with2 (worked all V m.0) (arrived all V m.0) (λ c. omega (arith, c.le, c.lt, c.same))))
]

-- ---- at first
start_at : (S : Setup) (s : ℕ) → s < length S.net.servers → state_at (run_start S.net) s ≡ start (server_at S.net s).discipline
start_at S s h = Rattle.std.proofs.lemmas.List.get_or-map (λ (t : Rattle.run_laws.specs.Servers.Server). start t.discipline) S.net.servers s record { discipline = Fifo; pace = None } (start Fifo) h

pub servers_keep : (net : Net) (trace : SpecTrace) (run : SpecRun) → IsAccepted net → IsTrace trace → IsTraceOf net trace → IsSimulated (setup_of net trace) run → (s : ℕ) (server : NetServer)
    → slice_get net.servers s ≡ Some server → IsByFormula server.kind → stalls_at s trace.stalls ≡ [] → KeepsService (value_at server.service) run.end (view (routes_of net) run s)
servers_keep net trace run ok fine named sim s server is formula none = λ a b l end busy.
    let S = setup_of net trace in
    let setup = traces_make_setups net trace ok fine named in
    let there = listed net.servers s server is in
    let own = server_is net trace s server there.inside there.is in
    let many = length-map net.servers (server_for net.version) in
    let h : s < length S.net.servers = let k = there.inside in omega (arith, k, many) in
    let V = view (routes_of net) run s in
    let σ = state_at (run_start S.net) s in
    let at = start_at S s h in
    let still : (opening_of S s).stalls ≡ [] = ap (λ (o : Opening). o.stalls) own.opening ∙ none in
    let k : IsDriven S s σ (int (pos 0)) V = driven_run S setup s h still run.steps (run_start S.net) (int (pos 0)) (good_start S setup) (turn_start S) sim.follows in
    let from = not_early V a b l (int (pos 0)) S s σ k busy in
    let clear : backlog σ ≡ int (pos 0) = backlog_zero σ (ap (λ (τ : ServerState). τ.inside) at) (ap (λ (τ : ServerState). τ.under) at) in
    let zero : clock σ ≡ int (pos 0) = ap clock at in
    let kind = (ok.servers server there.there).kind in
    let rate : rate_of S s ≡ server.rate = own.rate in
    let gate : (opening_of S s).gate ≡ gate_of server.kind = ap (λ (o : Opening). o.gate) own.opening in
    let p = promised server.rate server.kind server.service (le_of_lt (ok.servers server there.there).rate) kind formula a b from (le_of_lt l) in
    let gained = k.gains a b (subst (λ t. t ≤ℚ a) (sym zero) from) (le_of_lt l)
    (λ z m n. let e = busy z m n in with3 (worked all V z) (arrived all V z) (backlog σ) (λ c. omega (arith, c.le, c.lt, c.same))) in
    let as_rate = subst (λ R. Gains R (open_time (opening_of S s).gate) (worked all V) a b) rate gained in
    let as_gate = subst (λ g. Gains server.rate (open_time g) (worked all V) a b) gate as_rate in
    let by = p.by in
    let done : worked all V a +ℚ p.value ≤ℚ worked all V b =
    with5 (worked all V a) (worked all V b) p.value (server.rate *ℚ open_time (gate_of server.kind) a) (server.rate *ℚ open_time (gate_of server.kind) b) (λ c. omega (arith, c.le, c.lt, c.same)) in
    subst (λ v. (Fin (worked all V a) +ₑ v) ≤ₑ Fin (worked all V b)) (sym p.is) done
