-- Every packet of a stated run leaves.
use Rattle.std.proofs.Common.{◌≡◌, ℕ, ◌<◌, ◌≤◌, ◌^◌, List, [], ◌∷◌, ◌++◌, length, refl, sym, ap, ◌∙◌, subst, arith, inl, inr, ◌⊎◌, Some, None}
use Rattle.std.specs.Prelude.{pos}
use Rattle.std.proofs.lemmas.Bool.{cases_eq}
use Rattle.std.proofs.lemmas.List.{get_or-map}
use Rattle.rational.specs.Rational.{ℚ, int}
use Rattle.rational.proofs.Linear.{with1}
use Rattle.run_laws.specs.declared.steps.Step.{Step}
use Rattle.run_laws.specs.declared.steps.Step.TheVariants.{Enter, Reach, Work, Leave, Visit}
use Rattle.run_laws.specs.Cards.{Card, size, Works, Leaves}
use Rattle.run_laws.specs.Servers.{Discipline, Fifo, Priority, Drr, Server, queue_count, head_of, without_head, start}
use Rattle.run_laws.specs.Next.{next}
use Rattle.run_laws.specs.Routes.{server_at, route_of, queue_at, first_server}
use Rattle.run_laws.specs.Views.{entry_of, hops_of, card_of, server_of, seen}
use Rattle.run_laws.specs.Lawful.{RunState, state_at, next_run, run_start, after_run}
use Rattle.run_laws.proofs.Heads.{head_queue}
use Rattle.net_model.specs.stated_runs.Setups.{Setup, IsSetup}
use Rattle.net_model.specs.stated_runs.DueSteps.{IsDue, IsLeaving, IsVisited, step_time}
use Rattle.net_model.specs.stated_runs.Simulated.{Follows}
use Rattle.net_model.proofs.stated_runs.Opens.{stretch_of}
use Rattle.net_model.proofs.stated_runs.Lists.{head_in, in_rest}
use Rattle.net_model.proofs.stated_runs.Routed.{place_of}
use Rattle.net_model.proofs.stated_runs.GoodServers.{IsCardAt}
use Rattle.net_model.proofs.stated_runs.GoodWork.{good_work_of}
use Rattle.net_model.proofs.stated_runs.Good.{IsGood, own_state, other_state, good_from_step}
use Rattle.net_model.proofs.stated_runs.GoodSteps.{good_next}
use Rattle.net_model.proofs.stated_runs.Lawfulness.{none_under}
use Rattle.net_model.proofs.stated_runs.Turning.{KeepsTurns, KeepsRound, AreHeads, turning_arrive, turning_work, turning_leave, turning_visit, progress}
use Rattle.run_laws.proofs.Sizes.{size_pos}

abbrev pub AllKeepTurns : Setup → RunState → Type 0
AllKeepTurns S r = (s : ℕ) → s < length S.net.servers → KeepsTurns (server_at S.net s).discipline (state_at r s)

-- ---- cards of a server are in its queues, and not long
pub record IsFair (S : Setup) (s : ℕ) (c : Card) : Type 0 where
  pub known : c.queue < queue_count (server_at S.net s).discipline
  pub small : c.bits ≤ 2 ^ 32
  pub some : 1 ≤ c.bits

pub fair_card : (S : Setup) (r : RunState) (T : ℚ) → IsGood S r T → (s : ℕ) (c : Card) → IsCardAt S.net r.entered s c → IsFair S s c
fair_card S r T g s c h =
    let e = g.entries c.packet h.entered_one in
    let place = place_of S.net s (hops_of S.net r.entered c.packet) e.hops h.passes in
    let queue : c.queue ≡ queue_at s (hops_of S.net r.entered c.packet) = ap (λ (x : Card). x.queue) h.is in
    let bits : c.bits ≡ (entry_of r.entered c.packet).bits = ap (λ (x : Card). x.bits) h.is in
    record {
      known = subst (λ q. q < queue_count (server_at S.net s).discipline) (sym queue) place.known_queue;
      small = subst (λ n. n ≤ 2 ^ 32) (sym bits) e.few_bits;
      some = subst (λ n. 1 ≤ n) (sym bits) e.some_bits;
    }

pub heads_at : (S : Setup) (r : RunState) (T : ℚ) → IsGood S r T → (s : ℕ) → s < length S.net.servers
    → AreHeads (server_at S.net s).discipline (state_at r s).inside
heads_at S r T g s h = record {
  known = λ q c e.
      let f = fair_card S r T g s c ((g.servers s h).cards c (head_in q (state_at r s).inside c e)) in
      subst (λ i. i < queue_count (server_at S.net s).discipline) (head_queue q c (state_at r s).inside e) f.known;
  small = λ q c e. (fair_card S r T g s c ((g.servers s h).cards c (head_in q (state_at r s).inside c e))).small;
}

-- ---- each step keeps it
own_turn : (S : Setup) → IsSetup S → (r : RunState) (T : ℚ) → IsGood S r T → (x : Step) → IsDue S r x → server_of S.net x < length S.net.servers → AllKeepTurns S r
    → KeepsTurns (server_at S.net (server_of S.net x)).discipline
    (next (server_at S.net (server_of S.net x)).discipline (state_at r (server_of S.net x)) (seen S.net r.entered x))
own_turn S ok r T g (Enter f p t b) due k a =
    let s = first_server (route_of S.net f).hops in
    turning_arrive (server_at S.net s).discipline (state_at r s) (card_of S.net (r.entered ++ record { flow = f; bits = b } ∷ []) p s) t (a s k)
own_turn S ok r T g (Reach s p t) due k a = turning_arrive (server_at S.net s).discipline (state_at r s) (card_of S.net r.entered p s) t (a s k)
own_turn S ok r T g (Work s p b e w) due k a =
    let z = good_work_of S ok r.entered s (state_at r s) T p b e w (g.servers s k) due.1 in
    subst (λ c. KeepsTurns (server_at S.net s).discipline (next (server_at S.net s).discipline (state_at r s) (Works c b e w))) z.card_is
    (turning_work (server_at S.net s).discipline (state_at r s) z.card b e w (a s k) z.next_one)
own_turn S ok r T g (Leave s p t) due k a =
    let σ = state_at r s in
    let d = (server_at S.net s).discipline in
    let y : IsLeaving σ p t = due.1 in
    let good = (g.servers s k).under y.under y.is_under in
    let card_is : y.under.card ≡ card_of S.net r.entered p s = good.card.is ∙ ap (λ q. card_of S.net r.entered q s) y.packet_is in
    let small : (c : Card) → head_of y.under.card.queue (without_head y.under.card.queue σ.inside) ≡ Some c → c.bits ≤ 2 ^ 32 =
    λ c e. (fair_card S r T g s c ((g.servers s k).cards c (in_rest y.under.card.queue σ.inside c (head_in y.under.card.queue (without_head y.under.card.queue σ.inside) c e)))).small in
    subst (λ c. KeepsTurns d (next d σ (Leaves c t))) card_is (turning_leave d σ y.under t y.is_under small (a s k))
own_turn S ok r T g (Visit s q t) due k a =
    let y : IsVisited S s (state_at r s) q t = due.1 in
    turning_visit (server_at S.net s).discipline (state_at r s) q t y.may (heads_at S r T g s k) (a s k)

pub turn_next : (S : Setup) → IsSetup S → (r : RunState) (T : ℚ) → IsGood S r T → (x : Step) → IsDue S r x → server_of S.net x < length S.net.servers
    → AllKeepTurns S r → AllKeepTurns S (next_run S.net r x)
turn_next S ok r T g x due k a = λ s h. elim (cases_eq s (server_of S.net x)) [
  | inl e ↦ subst (λ i. KeepsTurns (server_at S.net i).discipline (state_at (next_run S.net r x) i)) (sym e)
      (subst (λ σ. KeepsTurns (server_at S.net (server_of S.net x)).discipline σ) (sym (own_state S.net r x (omega (arith, k, g.many))))
      (own_turn S ok r T g x due k a))
  | inr n ↦ subst (λ σ. KeepsTurns (server_at S.net s).discipline σ) (sym (other_state S.net r x s n)) (a s h)
]

-- ---- at first
start_turn : (d : Discipline) → KeepsRound d (start d)
start_turn Fifo = tt
start_turn (Priority n) = tt
start_turn (Drr quanta) = (Rattle.queue_sched.proofs.Fresh.drr_turn quanta)

pub turn_start : (S : Setup) → AllKeepTurns S (run_start S.net)
turn_start S = λ s h.
    let at : state_at (run_start S.net) s ≡ start (server_at S.net s).discipline =
    get_or-map (λ (t : Server). start t.discipline) S.net.servers s record { discipline = Fifo; pace = None } (start Fifo) h in
    subst (λ σ. KeepsTurns (server_at S.net s).discipline σ) (sym at)
    record { head = λ u e. absurd (let f : None ≡ Some u = e in cc); turn = start_turn (server_at S.net s).discipline }

-- ---- where nothing is due no packet is there
pub inside_cases : (cs : List Card) → (cs ≡ []) ⊎ ((c : Card) × (rest : List Card) × (cs ≡ c ∷ rest))
inside_cases [] = inl refl
inside_cases (c ∷ cs) = inr (c, cs, refl)

pub none_inside : (S : Setup) → IsSetup S → (r : RunState) (T : ℚ) → IsGood S r T → AllKeepTurns S r → ((y : Step) → ¬ (IsDue S r y))
    → (s : ℕ) → s < length S.net.servers → (state_at r s).inside ≡ []
none_inside S ok r T g a none s h =
    let σ = state_at r s in
    elim (inside_cases σ.inside) [
      | inl e ↦ e
      | inr k ↦
          let idle = none_under S ok r T g none s h in
          absurd (elim (progress (server_at S.net s).discipline σ k.0 k.1 k.2 idle (heads_at S r T g s h) (a s h)) [
            | inl e ↦
                let here = (g.servers s h).cards e.0 (head_in e.0.queue σ.inside e.0 (Rattle.run_laws.proofs.Heads.pick_is_head (server_at S.net s).discipline σ.inside σ.round e.0 e.1)) in
                let o = stretch_of S s (ok.rates s) (ok.gates s) σ.now (size e.0) (g.servers s h).from_zero (size_pos e.0 (fair_card S r T g s e.0 here).some) in
                none (Work s e.0.packet o.0 o.1 o.2) (h, inr record { idle = idle; card = e.0; packet_is = refl; picked = e.1; stretch = o.3 })
            | inr v ↦
                let o = stretch_of S s (ok.rates s) (ok.gates s) σ.now (int (pos 1)) (g.servers s h).from_zero (with1 (int (pos 0)) (λ c. omega (arith, c.le, c.lt, c.same))) in
                none (Visit s v.0 o.0) (h, record { may = v.1; opens = o.3.begins })
          ])
    ]

pub empty_at_end : (S : Setup) → IsSetup S → (xs : List Step) (r : RunState) (T : ℚ) → IsGood S r T → AllKeepTurns S r → Follows S r xs
    → (s : ℕ) → s < length S.net.servers → (state_at (after_run S.net r xs) s).inside ≡ []
empty_at_end S ok [] r T g a none = none_inside S ok r T g a none
empty_at_end S ok (x ∷ xs) r T g a f =
    let n = f.0 in
    let k = good_next S ok r T g x n in
    empty_at_end S ok xs (next_run S.net r x) (step_time x) (good_from_step S r T x g n k) (turn_next S ok r T g x n.due k.known a) f.1
