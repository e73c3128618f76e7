-- A server that opens and has a packet of which none is under way starts one.
use Rattle.std.proofs.Common.{◌≡◌, ℕ, ◌<◌, List, [], ◌∷◌, ◌++◌, length, refl, sym, ap, ◌∙◌, subst, inl, inr, Some, None}
use Rattle.std.specs.Prelude.{◌≢◌, pos}
use Rattle.std.proofs.lemmas.Bool.{cases_eq}
use Rattle.rational.specs.Rational.{ℚ, int, ◌≤ℚ◌}
use Rattle.run_laws.specs.declared.steps.Step.{Step}
use Rattle.run_laws.specs.declared.steps.Step.TheVariants.{Enter, Reach, Work, Leave, Visit}
use Rattle.run_laws.specs.Runs.{SpecRun}
use Rattle.run_laws.specs.Cards.{size}
use Rattle.run_laws.specs.Servers.{ServerState}
use Rattle.run_laws.specs.Routes.{server_at}
use Rattle.run_laws.specs.Views.{server_of}
use Rattle.run_laws.specs.Lawful.{RunState, state_at, next_run, run_start, after_run}
use Rattle.run_laws.proofs.Heads.{pick_is_head}
use Rattle.net_model.specs.stated_runs.Setups.{Setup, IsFirstOpen, IsSetup}
use Rattle.net_model.specs.stated_runs.DueSteps.{IsDue, step_time}
use Rattle.net_model.specs.stated_runs.Simulated.{Follows, IsSimulated}
use Rattle.net_model.specs.stated_runs.Laws.{state_after, ComesOrStarts, StartsBy}
use Rattle.net_model.proofs.stated_runs.Opens.{stretch_of}
use Rattle.net_model.proofs.stated_runs.Lists.{head_in}
use Rattle.net_model.proofs.stated_runs.Good.{IsGood, other_state, good_from_step}
use Rattle.net_model.proofs.stated_runs.GoodSteps.{good_next}
use Rattle.net_model.proofs.stated_runs.Lawfulness.{good_start}
use Rattle.net_model.proofs.stated_runs.Unique.{open_once}
use Rattle.net_model.proofs.stated_runs.Turning.{progress}
use Rattle.net_model.proofs.stated_runs.Progress.{AllKeepTurns, inside_cases, fair_card, heads_at, turn_next, turn_start, none_inside}
use Rattle.run_laws.proofs.Sizes.{size_pos}

-- a start is due at the time at which it opens
pub due_start : (S : Setup) → IsSetup S → (r : RunState) (T : ℚ) → IsGood S r T → AllKeepTurns S r → (s : ℕ) → s < length S.net.servers
    → (state_at r s).under ≡ None → (state_at r s).inside ≢ [] → (t : ℚ) → IsFirstOpen S s (state_at r s).now t
    → (y : Step) × IsDue S r y × (step_time y ≡ t)
due_start S ok r T g a s h idle some t opens =
    let σ = state_at r s in
    elim (inside_cases σ.inside) [
      | inl e ↦ absurd (some e)
      | inr k ↦ elim (progress (server_at S.net s).discipline σ k.0 k.1 k.2 idle (heads_at S r T g s h) (a s h)) [
        | inl e ↦
            let here = (g.servers s h).cards e.0 (head_in e.0.queue σ.inside e.0 (pick_is_head (server_at S.net s).discipline σ.inside σ.round e.0 e.1)) in
            let o = stretch_of S s (ok.rates s) (ok.gates s) σ.now (size e.0) (g.servers s h).from_zero (size_pos e.0 (fair_card S r T g s e.0 here).some) in (
              Work s e.0.packet o.0 o.1 o.2,
              (h, inr record { idle = idle; card = e.0; packet_is = refl; picked = e.1; stretch = o.3 }),
              open_once S s σ.now o.0 t o.3.begins opens,
            )
        | inr v ↦ (Visit s v.0 t, (h, record { may = v.1; opens = opens }), refl)
      ]
    ]

-- a step of the server that is due by then is an arrival or that start
is_start : (S : Setup) (r : RunState) (x : Step) → IsDue S r x → (s : ℕ) → server_of S.net x ≡ s → (state_at r s).under ≡ None
    → (t : ℚ) → IsFirstOpen S s (state_at r s).now t → step_time x ≤ℚ t → ComesOrStarts t x
is_start S r (Enter f p u b) due s e idle t o l = l
is_start S r (Reach i p u) due s e idle t o l = l
is_start S r (Work i p a b w) (h, inl y) s e idle t o l =
    absurd (let f : None ≡ Some y.under = sym idle ∙ ap (λ j. (state_at r j).under) (sym e) ∙ y.is_under in cc)
is_start S r (Work i p a b w) (h, inr y) s e idle t o l =
    open_once S i (state_at r i).now a t y.stretch.begins (subst (λ j. IsFirstOpen S j (state_at r j).now t) (sym e) o)
is_start S r (Leave i p u) (h, y) s e idle t o l =
    absurd (let f : None ≡ Some y.under = sym idle ∙ ap (λ j. (state_at r j).under) (sym e) ∙ y.is_under in cc)
is_start S r (Visit i q u) (h, y) s e idle t o l =
    open_once S i (state_at r i).now u t y.opens (subst (λ j. IsFirstOpen S j (state_at r j).now t) (sym e) o)

-- other servers' steps change nothing here
starts_by : (S : Setup) → IsSetup S → (xs : List Step) (r : RunState) (T : ℚ) → IsGood S r T → AllKeepTurns S r → Follows S r xs
    → (s : ℕ) → s < length S.net.servers → (state_at r s).under ≡ None → (state_at r s).inside ≢ []
    → (t : ℚ) → IsFirstOpen S s (state_at r s).now t → StartsBy S.net s t xs
starts_by S ok [] r T g a none s h idle some t o = some (none_inside S ok r T g a none s h)
starts_by S ok (x ∷ xs) r T g a f s h idle some t o =
    let n = f.0 in
    let k = good_next S ok r T g x n in
    elim (cases_eq (server_of S.net x) s) [
      | inl e ↦
          let y = due_start S ok r T g a s h idle some t o in
          inl (e, is_start S r x n.due s e idle t o (subst (λ u. step_time x ≤ℚ u) y.2 (n.first y.0 y.1).no_later))
      | inr d ↦
          let same : state_at (next_run S.net r x) s ≡ state_at r s = other_state S.net r x s (λ z. d (sym z)) in
          inr (
            d,
            starts_by S ok xs (next_run S.net r x) (step_time x) (good_from_step S r T x g n k) (turn_next S ok r T g x n.due k.known a) f.1 s h
                (ap (λ (σ : ServerState). σ.under) same ∙ idle) (λ z. some (ap (λ (σ : ServerState). σ.inside) (sym same) ∙ z)) t
                (subst (λ (σ : ServerState). IsFirstOpen S s σ.now t) (sym same) o),
          )
    ]

-- from the start on
starts_in : (S : Setup) → IsSetup S → (before behind : List Step) (r : RunState) (T : ℚ) → IsGood S r T → AllKeepTurns S r
    → Follows S r (before ++ behind) → (s : ℕ) → s < length S.net.servers → (state_at (after_run S.net r before) s).under ≡ None
    → (state_at (after_run S.net r before) s).inside ≢ [] → (t : ℚ) → IsFirstOpen S s (state_at (after_run S.net r before) s).now t
    → StartsBy S.net s t behind
starts_in S ok [] behind r T g a f s h idle some t o = starts_by S ok behind r T g a f s h idle some t o
starts_in S ok (x ∷ xs) behind r T g a f s h idle some t o =
    let n = f.0 in
    let k = good_next S ok r T g x n in
    starts_in S ok xs behind (next_run S.net r x) (step_time x) (good_from_step S r T x g n k) (turn_next S ok r T g x n.due k.known a) f.1 s h idle some t o

pub open_servers_start : (S : Setup) (run : SpecRun) → IsSetup S → IsSimulated S run → (before behind : List Step) → run.steps ≡ before ++ behind
    → (s : ℕ) → s < length S.net.servers → (state_at (state_after S before) s).under ≡ None → (state_at (state_after S before) s).inside ≢ []
    → (t : ℚ) → IsFirstOpen S s (state_at (state_after S before) s).now t → StartsBy S.net s t behind
open_servers_start S run ok sim before behind e s h idle some t o =
    starts_in S ok before behind (run_start S.net) (int (pos 0)) (good_start S ok) (turn_start S)
    (subst (λ xs. Follows S (run_start S.net) xs) e sim.follows) s h idle some t o
