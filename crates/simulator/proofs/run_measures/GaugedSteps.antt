-- What the gauges of all queues tell after one step more of a lawful run.
use Rattle.std.specs.Prelude.{◌≡◌, ◌≢◌, ℕ, suc, ◌^◌, ◌<◌, List, [], ◌∷◌, length, get_or, drop}
use Rattle.std.proofs.Common.{arith, refl, sym, ◌∙◌, subst, inl, inr}
use Rattle.std.proofs.lemmas.Bool.{cases_eq, eq-eqb, ne_eqb}
use Rattle.rational.specs.Rational.{ℚ}
use Rattle.run_laws.specs.declared.steps.Step.{Step}
use Rattle.run_laws.specs.declared.steps.Step.TheVariants.{Work, Visit}
use Rattle.run_laws.specs.Runs.{SpecRun}
use Rattle.run_laws.specs.Cards.{Card, ServerStep, Arrives, Works, Leaves, Visits}
use Rattle.run_laws.specs.Servers.{ServerState, queue_count}
use Rattle.run_laws.specs.Next.{next}
use Rattle.run_laws.specs.Allows.{Allows}
use Rattle.run_laws.specs.Routes.{Routes, server_at}
use Rattle.run_laws.specs.Views.{Entry, card_of, entered_after, server_of, seen, view_from}
use Rattle.run_laws.specs.Lawful.{RunState, state_at, next_run}
use Rattle.run_laws.proofs.States.{IsSound}
use Rattle.run_laws.proofs.Views.{own_state, other_state}
use Rattle.simulator.specs.declared.run_measures.gauge.Gauge.{Gauge}
use Rattle.simulator.specs.run_measures.Gauges.{Gains, Loses, gauge_in, HasGauge, ChangesOne}
use Rattle.simulator.specs.run_measures.Gauged.{IsGauged, AreGauged, state_after}
use Rattle.simulator.specs.run_measures.Peaks.{backlog_at}
use Rattle.simulator.proofs.run_measures.Gauging.{gauged_other, gauged_arrives, gauged_leaves, other_arrives, other_leaves, other_works, other_visits}
use Rattle.simulator.proofs.run_measures.GaugeRows.{changed_own, changed_beside, changed_elsewhere, changed_rows, changed_row}
use Rattle.simulator.proofs.run_measures.Standing.{Stands, IsNext}

-- ---- one step, at its server and at the others
abbrev GaugedAt : Routes → SpecRun → RunState → List Step → List (List Gauge) → ℕ → ℕ → Type 0
GaugedAt net run r xs rows s q =
    IsGauged (backlog_at net run s q) run.end q (state_at r s) (view_from net s r.entered xs) (gauge_in rows s q)

abbrev EachGauged : Routes → SpecRun → RunState → List Step → List (List Gauge) → Type 0
EachGauged net run r xs rows = (s q : ℕ) → s < length net.servers → q < queue_count (server_at net s).discipline → GaugedAt net run r xs rows s q

-- what the step does to the gauges of its own server
abbrev TellsOwn : Routes → SpecRun → RunState → Step → List Step → (before after : List (List Gauge)) → Type 0
TellsOwn net run r x xs before after =
    let s = server_of net x in
    let later = view_from net s (entered_after r.entered x) xs in
    (q : ℕ) → IsGauged (backlog_at net run s q) run.end q (state_at r s) (seen net r.entered x ∷ later) (gauge_in before s q)
    → IsGauged (backlog_at net run s q) run.end q (next (server_at net s).discipline (state_at r s) (seen net r.entered x)) later (gauge_in after s q)

own_view : (net : Routes) (entered : List Entry) (x : Step) (xs : List Step)
    → view_from net (server_of net x) entered (x ∷ xs) ≡ seen net entered x ∷ view_from net (server_of net x) (entered_after entered x) xs
own_view net entered x xs = rw (eq-eqb (server_of net x) (server_of net x) refl) refl

other_view : (net : Routes) (s : ℕ) (entered : List Entry) (x : Step) (xs : List Step) → server_of net x ≢ s
    → view_from net s entered (x ∷ xs) ≡ view_from net s (entered_after entered x) xs
other_view net s entered x xs n = rw (ne_eqb (server_of net x) s n) refl

own_next : (net : Routes) (run : SpecRun) (r : RunState) (x : Step) (xs : List Step) (before after : List (List Gauge)) → Stands net run.end r (x ∷ xs)
    → TellsOwn net run r x xs before after → EachGauged net run r (x ∷ xs) before
    → (q : ℕ) → q < queue_count (server_at net (server_of net x)).discipline → GaugedAt net run (next_run net r x) xs after (server_of net x) q
own_next net run r x xs before after h own each q l =
    let s = server_of net x in
    let known = h.allowed.0.known_server in
    let many = h.as_many in
    let later = view_from net s (entered_after r.entered x) xs in
    let was : IsGauged (backlog_at net run s q) run.end q (state_at r s) (seen net r.entered x ∷ later) (gauge_in before s q) =
    subst (λ (V : List ServerStep). IsGauged (backlog_at net run s q) run.end q (state_at r s) V (gauge_in before s q)) (own_view net r.entered x xs) (each s q known l) in
    subst (λ (σ : ServerState). IsGauged (backlog_at net run s q) run.end q σ later (gauge_in after s q))
    (sym (own_state net r x (omega (arith, many, known)))) (own q was)

other_next : (net : Routes) (run : SpecRun) (r : RunState) (x : Step) (xs : List Step) (before after : List (List Gauge)) (s q : ℕ) → server_of net x ≢ s
    → gauge_in after s q ≡ gauge_in before s q → GaugedAt net run r (x ∷ xs) before s q → GaugedAt net run (next_run net r x) xs after s q
other_next net run r x xs before after s q n same h =
    let later = view_from net s (entered_after r.entered x) xs in
    let a : IsGauged (backlog_at net run s q) run.end q (state_at r s) later (gauge_in before s q) =
    subst (λ (V : List ServerStep). IsGauged (backlog_at net run s q) run.end q (state_at r s) V (gauge_in before s q)) (other_view net s r.entered x xs n) h in
    let b : IsGauged (backlog_at net run s q) run.end q (state_at (next_run net r x) s) later (gauge_in before s q) =
    subst (λ (σ : ServerState). IsGauged (backlog_at net run s q) run.end q σ later (gauge_in before s q)) (sym (other_state net r x s (λ e. n (sym e)))) a in
    subst (IsGauged (backlog_at net run s q) run.end q (state_at (next_run net r x) s) later) (sym same) b

each_next : (net : Routes) (run : SpecRun) (r : RunState) (x : Step) (xs : List Step) (before after : List (List Gauge)) → Stands net run.end r (x ∷ xs)
    → TellsOwn net run r x xs before after → ((s q : ℕ) → s ≢ server_of net x → gauge_in after s q ≡ gauge_in before s q)
    → EachGauged net run r (x ∷ xs) before → EachGauged net run (next_run net r x) xs after
each_next net run r x xs before after h own others each s q known l = elim (cases_eq (server_of net x) s) [
  | inl e ↦
      let P : ℕ → Type 0 = λ k. q < queue_count (server_at net k).discipline → GaugedAt net run (next_run net r x) xs after k q in
      subst P e (own_next net run r x xs before after h own each q) l
  | inr n ↦ other_next net run r x xs before after s q n (others s q (λ e. n (sym e))) (each s q known l)
]

-- ---- what a step does at its server
-- a packet that arrives changes the gauge of its queue
arrives_own : (net : Routes) (run : SpecRun) (r : RunState) (x : Step) (xs : List Step) (before after : List (List Gauge)) (c : Card) (τ : ℚ)
    → Allows (server_at net (server_of net x)) run.end (state_at r (server_of net x)) (Arrives c τ) → seen net r.entered x ≡ Arrives c τ
    → HasGauge before (server_of net x) c.queue → ChangesOne (λ g h. Gains g h c.bits τ) before after (server_of net x) c.queue
    → TellsOwn net run r x xs before after
arrives_own net run r x xs before after c τ a e has change q h =
    let s = server_of net x in
    let server = server_at net s in
    let σ = state_at r s in
    let later = view_from net s (entered_after r.entered x) xs in
    let B = backlog_at net run s q in
    let was : IsGauged B run.end q σ (Arrives c τ ∷ later) (gauge_in before s q) =
    subst (λ (y : ServerStep). IsGauged B run.end q σ (y ∷ later) (gauge_in before s q)) e h in
    let now : IsGauged B run.end q (next server.discipline σ (Arrives c τ)) later (gauge_in after s q) = elim (cases_eq c.queue q) [
      | inl own ↦
          let gains = subst (λ k. Gains (gauge_in before s k) (gauge_in after s k) c.bits τ) own (changed_own (λ g h. Gains g h c.bits τ) before after s c.queue has change) in
          gauged_arrives B run.end q server σ c τ later (gauge_in before s q) (gauge_in after s q) a own gains was
      | inr n ↦
          let same = changed_beside (λ g h. Gains g h c.bits τ) before after s c.queue q has change (λ k. n (sym k)) in
          subst (IsGauged B run.end q (next server.discipline σ (Arrives c τ)) later) (sym same)
          (gauged_other B run.end q server.discipline σ (Arrives c τ) later (gauge_in before s q) (other_arrives run.end q server σ c τ (gauge_in before s q).left_at a n was.last) was)
    ] in
    subst (λ (y : ServerStep). IsGauged B run.end q (next server.discipline σ y) later (gauge_in after s q)) (sym e) now

-- and so does one that leaves
leaves_own : (net : Routes) (run : SpecRun) (r : RunState) (x : Step) (xs : List Step) (before after : List (List Gauge)) (c : Card) (τ : ℚ)
    → Allows (server_at net (server_of net x)) run.end (state_at r (server_of net x)) (Leaves c τ) → seen net r.entered x ≡ Leaves c τ
    → IsSound (state_at r (server_of net x)) → c.bits < 2 ^ 32
    → HasGauge before (server_of net x) c.queue → ChangesOne (λ g h. Loses g h c.bits τ) before after (server_of net x) c.queue
    → TellsOwn net run r x xs before after
leaves_own net run r x xs before after c τ a e sound short has change q h =
    let s = server_of net x in
    let server = server_at net s in
    let σ = state_at r s in
    let later = view_from net s (entered_after r.entered x) xs in
    let B = backlog_at net run s q in
    let was : IsGauged B run.end q σ (Leaves c τ ∷ later) (gauge_in before s q) =
    subst (λ (y : ServerStep). IsGauged B run.end q σ (y ∷ later) (gauge_in before s q)) e h in
    let now : IsGauged B run.end q (next server.discipline σ (Leaves c τ)) later (gauge_in after s q) = elim (cases_eq c.queue q) [
      | inl own ↦
          let loses = subst (λ k. Loses (gauge_in before s k) (gauge_in after s k) c.bits τ) own (changed_own (λ g h. Loses g h c.bits τ) before after s c.queue has change) in
          gauged_leaves B run.end q server σ c τ later (gauge_in before s q) (gauge_in after s q) a sound short own loses was
      | inr n ↦
          let same = changed_beside (λ g h. Loses g h c.bits τ) before after s c.queue q has change (λ k. n (sym k)) in
          subst (IsGauged B run.end q (next server.discipline σ (Leaves c τ)) later) (sym same)
          (gauged_other B run.end q server.discipline σ (Leaves c τ) later (gauge_in before s q) (other_leaves run.end q server σ c τ (gauge_in before s q).left_at a sound n was.last) was)
    ] in
    subst (λ (y : ServerStep). IsGauged B run.end q (next server.discipline σ y) later (gauge_in after s q)) (sym e) now

-- ---- all gauges, after one step more
gauged_next : (net : Routes) (run : SpecRun) (k : ℕ) (x : Step) (before after : List (List Gauge)) → IsNext net run k x → length after ≡ length before
    → ((s : ℕ) → length (get_or after s []) ≡ length (get_or before s []))
    → TellsOwn net run (state_after net run.steps k) x (drop (suc k) run.steps) before after
    → ((s q : ℕ) → s ≢ server_of net x → gauge_in after s q ≡ gauge_in before s q)
    → AreGauged net run k (state_after net run.steps k) before → AreGauged net run (suc k) (state_after net run.steps (suc k)) after
gauged_next net run k x before after n long rows own others h =
    let r = state_after net run.steps k in
    let rest = drop (suc k) run.steps in
    let each : EachGauged net run r (x ∷ rest) before = subst (λ ys. EachGauged net run r ys before) n.later h.each in
    let then = each_next net run r x rest before after n.stands own others each in
    record {
      as_many = long ∙ h.as_many;
      row = λ s l. rows s ∙ h.row s l;
      each = subst (λ (r' : RunState). EachGauged net run r' rest after) (sym n.after) then;
    }

pub gauged_gain : (net : Routes) (run : SpecRun) (k : ℕ) (x : Step) (before after : List (List Gauge)) (c : Card) (τ : ℚ) → IsNext net run k x
    → seen net (state_after net run.steps k).entered x ≡ Arrives c τ
    → HasGauge before (server_of net x) c.queue → ChangesOne (λ g h. Gains g h c.bits τ) before after (server_of net x) c.queue
    → AreGauged net run k (state_after net run.steps k) before → AreGauged net run (suc k) (state_after net run.steps (suc k)) after
gauged_gain net run k x before after c τ n e has change h =
    let s = server_of net x in
    let r = state_after net run.steps k in
    let P = λ (g h : Gauge). Gains g h c.bits τ in
    let a : Allows (server_at net s) run.end (state_at r s) (Arrives c τ) =
    subst (Allows (server_at net s) run.end (state_at r s)) e n.stands.allowed.0.at_server in
    gauged_next net run k x before after n (changed_rows P before after s c.queue change) (λ i. changed_row P before after s c.queue i has change)
    (arrives_own net run r x (drop (suc k) run.steps) before after c τ a e has change)
    (λ i q m. changed_elsewhere P before after s c.queue i q change m) h

pub gauged_loss : (net : Routes) (run : SpecRun) (k : ℕ) (x : Step) (before after : List (List Gauge)) (c : Card) (τ : ℚ) → IsNext net run k x
    → seen net (state_after net run.steps k).entered x ≡ Leaves c τ → c.bits < 2 ^ 32
    → HasGauge before (server_of net x) c.queue → ChangesOne (λ g h. Loses g h c.bits τ) before after (server_of net x) c.queue
    → AreGauged net run k (state_after net run.steps k) before → AreGauged net run (suc k) (state_after net run.steps (suc k)) after
gauged_loss net run k x before after c τ n e short has change h =
    let s = server_of net x in
    let r = state_after net run.steps k in
    let P = λ (g h : Gauge). Loses g h c.bits τ in
    let a : Allows (server_at net s) run.end (state_at r s) (Leaves c τ) =
    subst (Allows (server_at net s) run.end (state_at r s)) e n.stands.allowed.0.at_server in
    gauged_next net run k x before after n (changed_rows P before after s c.queue change) (λ i. changed_row P before after s c.queue i has change)
    (leaves_own net run r x (drop (suc k) run.steps) before after c τ a e (n.stands.sound s n.stands.allowed.0.known_server) short has change)
    (λ i q m. changed_elsewhere P before after s c.queue i q change m) h

-- work and visits change no gauge
pub gauged_work : (net : Routes) (run : SpecRun) (k s p : ℕ) (a b w : ℚ) (rows : List (List Gauge)) → IsNext net run k (Work s p a b w)
    → AreGauged net run k (state_after net run.steps k) rows → AreGauged net run (suc k) (state_after net run.steps (suc k)) rows
gauged_work net run k s p a b w rows n h =
    let r = state_after net run.steps k in
    let allowed = n.stands.allowed.0.at_server in
    gauged_next net run k (Work s p a b w) rows rows n refl (λ i. refl)
    (λ q g. gauged_other (backlog_at net run s q) run.end q (server_at net s).discipline (state_at r s) (Works (card_of net r.entered p s) a b w)
    (view_from net s r.entered (drop (suc k) run.steps)) (gauge_in rows s q)
    (other_works run.end q (server_at net s) (state_at r s) (card_of net r.entered p s) a b w (gauge_in rows s q).left_at allowed g.last) g)
    (λ i q m. refl) h

pub gauged_visit : (net : Routes) (run : SpecRun) (k s i : ℕ) (t : ℚ) (rows : List (List Gauge)) → IsNext net run k (Visit s i t)
    → AreGauged net run k (state_after net run.steps k) rows → AreGauged net run (suc k) (state_after net run.steps (suc k)) rows
gauged_visit net run k s i t rows n h =
    let r = state_after net run.steps k in
    let allowed = n.stands.allowed.0.at_server in
    gauged_next net run k (Visit s i t) rows rows n refl (λ j. refl)
    (λ q g. gauged_other (backlog_at net run s q) run.end q (server_at net s).discipline (state_at r s) (Visits i t)
    (view_from net s r.entered (drop (suc k) run.steps)) (gauge_in rows s q)
    (other_visits run.end q (server_at net s) (state_at r s) i t (gauge_in rows s q).left_at allowed g.last) g)
    (λ j q m. refl) h
