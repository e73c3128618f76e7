-- What holds of the state of a run after each step of a stated run.
use Rattle.std.proofs.Common.{◌≡◌, ℕ, ◌<◌, ◌≤◌, ◌+◌, ◌^◌, List, [], ◌∷◌, ◌++◌, length, sym, ap, ◌∙◌, subst, arith, inl, inr, ◌⊎◌, Some, None}
use Rattle.std.specs.Prelude.{pos}
use Rattle.std.proofs.lemmas.Bool.{cases_eq}
use Rattle.std.proofs.lemmas.List.{get_or_append_left, length_push}
use Rattle.std.proofs.Math.ListN.{length-set}
use Rattle.rational.specs.Rational.{ℚ, int, ◌≤ℚ◌}
use Rattle.rational.proofs.Laws.{le_trans}
use Rattle.run_laws.specs.declared.steps.Step.{Step}
use Rattle.run_laws.specs.declared.steps.Step.TheVariants.{Enter, Reach, Work, Leave, Visit}
use Rattle.run_laws.specs.Servers.{Under, ServerState}
use Rattle.run_laws.specs.Next.{next}
use Rattle.run_laws.specs.Routes.{Routes, server_at, route_of, PassesServer}
use Rattle.run_laws.specs.Views.{Entry, entry_of, hops_of, entered_after, server_of, seen}
use Rattle.run_laws.specs.Lawful.{Due, RunState, next_due, state_at, next_run}
use Rattle.net_model.specs.stated_runs.Setups.{Setup, AreHopsOf}
use Rattle.net_model.specs.stated_runs.DueSteps.{IsLeaving, IsResumed, IsStarted, IsVisited, IsEntering, IsDue, step_time}
use Rattle.net_model.specs.stated_runs.Simulated.{IsNext}
use Rattle.net_model.proofs.stated_runs.Lists.{In, contains_in}
use Rattle.net_model.proofs.stated_runs.GoodServers.{IsExtendedBy, extends_same, IsGoodAt, good_later}
pub use Rattle.run_laws.proofs.Views.{own_state, other_state}

-- a packet that has entered: its path is over the network, and it has some bits
pub record IsEntry (net : Routes) (e : Entry) : Type 0 where
  pub hops : AreHopsOf net (route_of net e.flow).hops
  pub some_bits : 1 ≤ e.bits
  pub few_bits : e.bits ≤ 2 ^ 32

-- a packet on a link is on its way to a server of its path
pub record IsOnLink (net : Routes) (entered : List Entry) (d : Due) : Type 0 where
  pub entered_one : d.packet < length entered
  pub passes : PassesServer d.server (hops_of net entered d.packet)

pub record IsGood (S : Setup) (r : RunState) (T : ℚ) : Type 0 where
  pub many : length r.servers ≡ length S.net.servers
  pub servers : (s : ℕ) → s < length S.net.servers → IsGoodAt S.net r.entered s (state_at r s) T
  pub entries : (p : ℕ) → p < length r.entered → IsEntry S.net (entry_of r.entered p)
  pub links : (d : Due) → In r.due d → IsOnLink S.net r.entered d
  pub later : (y : Step) → IsDue S r y → T ≤ℚ step_time y
  pub from_zero : int (pos 0) ≤ℚ T

-- ---- entering
pub extends_push : (entered : List Entry) (e : Entry) → IsExtendedBy entered (entered ++ e ∷ [])
extends_push entered e p h = (
  let l : length (entered ++ e ∷ []) ≡ length entered + 1 = length_push entered e in omega (arith, h, l),
  get_or_append_left entered (e ∷ []) record { flow = 0; bits = 0 } p h,
)

pub extends_after : (entered : List Entry) (x : Step) → IsExtendedBy entered (entered_after entered x)
extends_after entered (Enter f p t b) = extends_push entered record { flow = f; bits = b }
extends_after entered (Reach s p t) = extends_same entered
extends_after entered (Work s p a b w) = extends_same entered
extends_after entered (Leave s p t) = extends_same entered
extends_after entered (Visit s q t) = extends_same entered

-- ---- what is due later at the server of the step
pub record IsLaterAt (S : Setup) (s : ℕ) (σ : ServerState) (T : ℚ) : Type 0 where
  pub leave : (p : ℕ) (t : ℚ) → IsLeaving σ p t → T ≤ℚ t
  pub resume : (p : ℕ) (a b w : ℚ) → IsResumed S s σ p a b w → T ≤ℚ a
  pub begin : (p : ℕ) (a b w : ℚ) → IsStarted S s σ p a b w → T ≤ℚ a
  pub visit : (q : ℕ) (t : ℚ) → IsVisited S s σ q t → T ≤ℚ t

-- where the packet under way stays
pub later_same : (S : Setup) (s : ℕ) (σ τ : ServerState) (T : ℚ) → τ.under ≡ σ.under → τ.now ≡ T
    → ((p : ℕ) (t : ℚ) → IsLeaving σ p t → T ≤ℚ t) → ((p : ℕ) (a b w : ℚ) → IsResumed S s σ p a b w → T ≤ℚ a) → IsLaterAt S s τ T
later_same S s σ τ T same now leaves resumes = record {
  leave = λ p t h. leaves p t record { under = h.under; is_under = sym same ∙ h.is_under; packet_is = h.packet_is; worked_off = h.worked_off; at_end = h.at_end };
  resume = λ p a b w h. resumes p a b w record { under = h.under; is_under = sym same ∙ h.is_under; packet_is = h.packet_is; not_done = h.not_done; stretch = h.stretch };
  begin = λ p a b w h. subst (λ t. t ≤ℚ a) now h.stretch.begins.not_before;
  visit = λ q t h. subst (λ u. u ≤ℚ t) now h.opens.not_before;
}

-- where it is put under way, up to a later end
pub later_under : (S : Setup) (s : ℕ) (τ : ServerState) (T : ℚ) (u : Under) → τ.under ≡ Some u → τ.now ≡ T → T ≤ℚ u.last.end → IsLaterAt S s τ T
later_under S s τ T u is now l = record {
  leave = λ p t h.
      let same : u ≡ h.under = let f : Some u ≡ Some h.under = sym is ∙ h.is_under in cc in
      subst (λ x. T ≤ℚ x) (ap (λ (v : Under). v.last.end) same ∙ sym h.at_end) l;
  resume = λ p a b w h.
      let same : u ≡ h.under = let f : Some u ≡ Some h.under = sym is ∙ h.is_under in cc in
      le_trans (subst (λ x. T ≤ℚ x) (ap (λ (v : Under). v.last.end) same) l) h.stretch.begins.not_before;
  begin = λ p a b w h. subst (λ t. t ≤ℚ a) now h.stretch.begins.not_before;
  visit = λ q t h. subst (λ x. x ≤ℚ t) now h.opens.not_before;
}

-- where none is
pub later_none : (S : Setup) (s : ℕ) (τ : ServerState) (T : ℚ) → τ.under ≡ None → τ.now ≡ T → IsLaterAt S s τ T
later_none S s τ T none now = record {
  leave = λ p t h. absurd (let f : None ≡ Some h.under = sym none ∙ h.is_under in cc);
  resume = λ p a b w h. absurd (let f : None ≡ Some h.under = sym none ∙ h.is_under in cc);
  begin = λ p a b w h. subst (λ t. t ≤ℚ a) now h.stretch.begins.not_before;
  visit = λ q t h. subst (λ x. x ≤ℚ t) now h.opens.not_before;
}

-- ---- one step
-- what each kind of step has to show
pub record IsGoodStep (S : Setup) (r : RunState) (T : ℚ) (x : Step) : Type 0 where
  pub known : server_of S.net x < length S.net.servers
  pub own : IsGoodAt S.net (entered_after r.entered x) (server_of S.net x)
      (next (server_at S.net (server_of S.net x)).discipline (state_at r (server_of S.net x)) (seen S.net r.entered x)) (step_time x)
  pub entries : (p : ℕ) → p < length (entered_after r.entered x) → IsEntry S.net (entry_of (entered_after r.entered x) p)
  pub links : (d : Due) → In (next_due S.net r x) d → IsOnLink S.net (entered_after r.entered x) d
  pub later_own : IsLaterAt S (server_of S.net x)
      (next (server_at S.net (server_of S.net x)).discipline (state_at r (server_of S.net x)) (seen S.net r.entered x)) (step_time x)
  pub later_enter : (f p : ℕ) (t : ℚ) (b : ℕ) → IsEntering S (next_run S.net r x) f p t b → step_time x ≤ℚ t
  pub later_reach : (d : Due) → In (next_due S.net r x) d → step_time x ≤ℚ d.time

pub good_from_step : (S : Setup) (r : RunState) (T : ℚ) (x : Step) → IsGood S r T → IsNext S r x → IsGoodStep S r T x
    → IsGood S (next_run S.net r x) (step_time x)
good_from_step S r T x g n k =
    let s = server_of S.net x in
    let r' = next_run S.net r x in
    let T' = step_time x in
    let forward : T ≤ℚ T' = g.later x n.due in
    let own : state_at r' s ≡ next (server_at S.net s).discipline (state_at r s) (seen S.net r.entered x) =
    own_state S.net r x (omega (arith, k.known, g.many)) in
    let at_server : (j : ℕ) → (j ≡ s) ⊎ (state_at r' j ≡ state_at r j) =
    λ j. elim (cases_eq j s) [ inl e ↦ inl e | inr d ↦ inr (other_state S.net r x j d) ] in
    let later_at : (j : ℕ) → j < length S.net.servers → IsLaterAt S j (state_at r' j) T' = λ j h. elim (at_server j) [
      | inl e ↦ subst (λ i. IsLaterAt S i (state_at r' i) T') (sym e) (subst (λ σ. IsLaterAt S s σ T') (sym own) k.later_own)
      | inr same ↦ subst (λ σ. IsLaterAt S j σ T') (sym same) record {
        leave = λ p t y. (n.first (Leave j p t) (h, y)).no_later;
        resume = λ p a b w y. (n.first (Work j p a b w) (h, inl y)).no_later;
        begin = λ p a b w y. (n.first (Work j p a b w) (h, inr y)).no_later;
        visit = λ q t y. (n.first (Visit j q t) (h, y)).no_later;
      }
    ] in
    record {
      many = length-set r.servers s _ ∙ g.many;
      servers = λ j h. elim (cases_eq j s) [
        | inl e ↦ subst (λ i. IsGoodAt S.net r'.entered i (state_at r' i) T') (sym e) (subst (λ σ. IsGoodAt S.net r'.entered s σ T') (sym own) k.own)
        | inr d ↦ subst (λ σ. IsGoodAt S.net r'.entered j σ T') (sym (other_state S.net r x j d))
            (good_later S.net r.entered r'.entered j (state_at r j) T T' (extends_after r.entered x) forward (g.servers j h))
      ];
      entries = k.entries;
      links = k.links;
      later = λ y. later_all S r' T' later_at k.later_enter k.later_reach y;
      from_zero = le_trans g.from_zero forward;
    }
  where
    later_all : (S : Setup) (r : RunState) (T : ℚ) → ((j : ℕ) → j < length S.net.servers → IsLaterAt S j (state_at r j) T)
        → ((f p : ℕ) (t : ℚ) (b : ℕ) → IsEntering S r f p t b → T ≤ℚ t) → ((d : Due) → In r.due d → T ≤ℚ d.time)
        → (y : Step) → IsDue S r y → T ≤ℚ step_time y
    later_all S r T at enter reach (Enter f p t b) h = enter f p t b h
    later_all S r T at enter reach (Reach s p t) h = reach record { packet = p; server = s; time = t } (contains_in r.due record { packet = p; server = s; time = t } h)
    later_all S r T at enter reach (Work s p a b w) (h, inl y) = (at s h).resume p a b w y
    later_all S r T at enter reach (Work s p a b w) (h, inr y) = (at s h).begin p a b w y
    later_all S r T at enter reach (Leave s p t) (h, y) = (at s h).leave p t y
    later_all S r T at enter reach (Visit s q t) (h, y) = (at s h).visit q t y
