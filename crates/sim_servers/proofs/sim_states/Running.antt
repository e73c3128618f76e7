-- The simulator's state after a step.
use Rattle.std.specs.Prelude.{Some, None, ◌≡◌, ℕ, ◌+◌, ◌<◌, ◌≤◌, List, [], ◌∷◌, ◌++◌, length}
use Rattle.std.proofs.Common.{arith, sym, ap, ◌∙◌, subst, inl, inr}
use Rattle.std.proofs.lemmas.Bool.{cases_eq}
use Rattle.std.proofs.lemmas.List.{get_or_push, get_or_append_left}
use Rattle.rational.specs.Rational.{ℚ, ◌+ℚ◌, ◌≤ℚ◌, ◌<ℚ◌}
use Rattle.run_laws.specs.declared.steps.Step.{Step}
use Rattle.run_laws.specs.Cards.{Card, Arrives, Works, Leaves, Visits}
use Rattle.run_laws.specs.Servers.{Discipline, ServerState}
use Rattle.run_laws.specs.Next.{next}
use Rattle.run_laws.specs.Routes.{server_at, link_at}
use Rattle.run_laws.specs.Views.{Entry, entry_of, server_of, seen}
use Rattle.run_laws.specs.Lawful.{RunState, state_at, next_run, run_start}
use Rattle.queue_sched.specs.index_links.Chains.{Chains}
use Rattle.net_model.specs.stated_runs.Setups.{Setup, packet_of}
use Rattle.net_model.specs.stated_runs.Simulated.{IsNext, FollowsSoFar}
use Rattle.net_model.specs.stated_runs.Laws.{state_after}
use Rattle.net_model.proofs.stated_runs.Good.{own_state, other_state}
use Rattle.sim_servers.specs.declared.station.Station.{Station}
use Rattle.sim_servers.specs.declared.sim_states.arrival.Arrival.{Arrival}
use Rattle.sim_servers.specs.sim_states.Running.{IsAheadOf, AreLinks, AreStations, IsRunning}
use Rattle.sim_servers.specs.sim_states.Places.{ArePlaced}
use Rattle.sim_servers.proofs.sim_states.SoFar.{after_push, follows_push}

-- ---- packets on links stay ahead
pub ahead_arrive : (S : Setup) (s : ℕ) (d : Discipline) (σ : ServerState) (c : Card) (u t : ℚ) → IsAheadOf S s σ t → IsAheadOf S s (next d σ (Arrives c u)) t
ahead_arrive S s d σ c u t h = record { by = h.by; before = h.before }

pub ahead_visit : (S : Setup) (s : ℕ) (d : Discipline) (σ : ServerState) (q : ℕ) (u t : ℚ) → IsAheadOf S s σ t → IsAheadOf S s (next d σ (Visits q u)) t
ahead_visit S s d σ q u t h = record { by = h.by; before = h.before }

pub ahead_leave : (S : Setup) (s : ℕ) (d : Discipline) (σ : ServerState) (c : Card) (u t : ℚ) → IsAheadOf S s σ t → IsAheadOf S s (next d σ (Leaves c u)) t
ahead_leave S s d σ c u t h = record { by = h.by; before = λ v e. absurd (let f : None ≡ Some v = e in cc) }

pub ahead_work : (S : Setup) (s : ℕ) (d : Discipline) (σ : ServerState) (c : Card) (a b w t : ℚ) → σ.busy ≤ℚ a → a <ℚ b → IsAheadOf S s σ t
    → IsAheadOf S s (next d σ (Works c a b w)) t
ahead_work S s d σ c a b w t k l h =
    let m = h.by in
    let x = σ.busy in
    let z = link_at S.net s in
    let later : t <ℚ b +ℚ z = Rattle.rational.proofs.Linear.with5 t x a b z (λ o. omega (arith, o.le, o.lt, o.same)) in
    record { by = Rattle.rational.proofs.Laws.le_of_lt later; before = λ v e. later }

pub ahead_next : (S : Setup) (r : RunState) (x : Step) → server_of S.net x < length r.servers
    → ((t : ℚ) → IsAheadOf S (server_of S.net x) (state_at r (server_of S.net x)) t
    → IsAheadOf S (server_of S.net x) (next (server_at S.net (server_of S.net x)).discipline (state_at r (server_of S.net x)) (seen S.net r.entered x)) t)
    → (k : ℕ) (t : ℚ) → IsAheadOf S k (state_at r k) t → IsAheadOf S k (state_at (next_run S.net r x) k) t
ahead_next S r x h own k t a = elim (cases_eq k (server_of S.net x)) [
  | inl e ↦ subst (λ j. IsAheadOf S j (state_at (next_run S.net r x) j) t) (sym e)
      (subst (λ σ. IsAheadOf S (server_of S.net x) σ t) (sym (own_state S.net r x h)) (own t (subst (λ j. IsAheadOf S j (state_at r j) t) e a)))
  | inr n ↦ subst (λ σ. IsAheadOf S k σ t) (sym (other_state S.net r x k n)) a
]

-- ---- the state after a step that was next
pub running_by : (S : Setup) (xs : List Step) (x : Step) (stations : List Station) (links : Chains) (arrivals : List Arrival) (entered : ℕ)
    → FollowsSoFar S (run_start S.net) xs → IsNext S (state_after S xs) x
    → AreStations S (next_run S.net (state_after S xs) x) stations → AreLinks S (next_run S.net (state_after S xs) x) links arrivals
    → entered ≡ length (next_run S.net (state_after S xs) x).entered → entered ≤ length S.packets
    → ((p : ℕ) → p < entered → entry_of (next_run S.net (state_after S xs) x).entered p ≡ record { flow = (packet_of S p).flow; bits = (packet_of S p).bits })
    → ArePlaced (next_run S.net (state_after S xs) x) → IsRunning S stations links arrivals entered (xs ++ x ∷ [])
running_by S xs x stations links arrivals entered f n servers on_links is few entries placed =
    let e = sym (after_push S xs (run_start S.net) x) in
    record {
      followed = follows_push S xs (run_start S.net) x f n;
      servers = subst (λ r. AreStations S r stations) e servers;
      on_links = subst (λ r. AreLinks S r links arrivals) e on_links;
      entered_is = subst (λ (r : RunState). entered ≡ length r.entered) e is;
      few = few;
      entries = λ p h. subst (λ (r : RunState). entry_of r.entered p ≡ record { flow = (packet_of S p).flow; bits = (packet_of S p).bits }) e (entries p h);
      placed = subst ArePlaced e placed;
    }

-- the entries with one more
pub entries_push : (S : Setup) (entered : List Entry) (n f b : ℕ) → n ≡ length entered → f ≡ (packet_of S n).flow → b ≡ (packet_of S n).bits
    → ((p : ℕ) → p < n → entry_of entered p ≡ record { flow = (packet_of S p).flow; bits = (packet_of S p).bits })
    → (p : ℕ) → p < n + 1 → entry_of (entered ++ record { flow = f; bits = b } ∷ []) p ≡ record { flow = (packet_of S p).flow; bits = (packet_of S p).bits }
entries_push S entered n f b is flow bits h p l = elim (cases_eq p n) [
  | inl e ↦
      let at : entry_of (entered ++ record { flow = f; bits = b } ∷ []) p ≡ record { flow = f; bits = b } =
      get_or_push entered record { flow = f; bits = b } record { flow = 0; bits = 0 } p (let g : length entered ≡ p = omega (arith, is, e) in g) in
      at ∙ subst (λ j. (let z : Entry = record { flow = f; bits = b } in z) ≡ record { flow = (packet_of S j).flow; bits = (packet_of S j).bits }) (sym e)
      (ap (λ x. let z : Entry = record { flow = x; bits = b } in z) flow ∙ ap (λ x. let z : Entry = record { flow = (packet_of S n).flow; bits = x } in z) bits)
  | inr d ↦
      let old : p < n = omega (arith, l, d) in
      get_or_append_left entered (record { flow = f; bits = b } ∷ []) record { flow = 0; bits = 0 } p (omega (arith, old, is)) ∙ h p old
]
