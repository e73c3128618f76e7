-- There is one stated run at most: of the steps that are due one comes first.
use Rattle.std.proofs.Common.{◌≡◌, ℕ, ◌<◌, ◌≤◌, List, [], ◌∷◌, refl, sym, ap, ◌∙◌, subst, arith, inl, inr, ◌⊎◌, Some, None}
use Rattle.std.specs.Prelude.{Option, pos}
use Rattle.rational.specs.Rational.{ℚ, int, ◌-ℚ◌, ◌*ℚ◌, ◌≤ℚ◌, ◌<ℚ◌}
use Rattle.rational.proofs.Linear.{with3}
use Rattle.rational.proofs.Laws.{le_of_lt, lt_cases, lt_irrefl, lt_le_trans, antisym, mul_lt_mul}
use Rattle.run_laws.specs.declared.steps.Step.{Step}
use Rattle.run_laws.specs.declared.steps.Step.TheVariants.{Enter, Reach, Work, Leave, Visit}
use Rattle.run_laws.specs.Runs.{SpecRun}
use Rattle.run_laws.specs.Cards.{Card, size}
use Rattle.run_laws.specs.Servers.{Discipline, Fifo, Priority, Drr, Under, ServerState, done}
use Rattle.run_laws.specs.Allows.{pick, visited_head, MayVisit, IsFirst}
use Rattle.run_laws.specs.Routes.{server_at}
use Rattle.run_laws.specs.Lawful.{RunState, state_at, next_run, run_start}
use Rattle.net_model.specs.stated_runs.Setups.{Setup, rate_of, packet_of, IsFirstOpen, IsStretch, IsSetup}
use Rattle.net_model.specs.stated_runs.DueSteps.{IsLeaving, IsResumed, IsStarted, IsVisited, IsDue, step_time, Rank, RankAtMost, rank_of, work_kind}
use Rattle.net_model.specs.stated_runs.Simulated.{IsNext, Follows, last_time, IsSimulated}

-- ---- times
pub open_once : (S : Setup) (s : ℕ) (from t u : ℚ) → IsFirstOpen S s from t → IsFirstOpen S s from u → t ≡ u
open_once S s from t u a b = elim (lt_cases t u) [
  | inl l ↦ absurd (b.closed_before t a.not_before l a.open_then)
  | inr k ↦ elim k [ inl e ↦ e | inr l ↦ absurd (a.closed_before u b.not_before l b.open_then) ]
]

no_longer : (S : Setup) → IsSetup S → (s : ℕ) (from left a b w c v : ℚ) → IsStretch S s from left a b w → IsStretch S s from left a c v → ¬ (b <ℚ c)
no_longer S ok s from left a b w c v h k l = elim h.longest [
  | inl e ↦
      let more : rate_of S s *ℚ (b -ℚ a) <ℚ rate_of S s *ℚ (c -ℚ a) =
      mul_lt_mul (rate_of S s) (ok.rates s) (with3 a b c (λ o. omega (arith, o.le, o.lt, o.same))) in
      let x : left <ℚ rate_of S s *ℚ (c -ℚ a) = subst (λ t. t <ℚ rate_of S s *ℚ (c -ℚ a)) (sym h.at_rate ∙ e) more in
      let y : rate_of S s *ℚ (c -ℚ a) ≤ℚ left = subst (λ t. t ≤ℚ left) k.at_rate k.within in
      lt_irrefl left (lt_le_trans x y)
  | inr closed ↦ closed (k.open_all b (le_of_lt h.forward) l)
]

pub record SameStretch (a b w c d v : ℚ) : Type 0 where
  pub starts : a ≡ c
  pub ends : b ≡ d
  pub bits : w ≡ v

same_stretch : (S : Setup) → IsSetup S → (s : ℕ) (from left a b w c d v : ℚ) → IsStretch S s from left a b w → IsStretch S s from left c d v
    → SameStretch a b w c d v
same_stretch S ok s from left a b w c d v h k =
    let starts : a ≡ c = open_once S s from a c h.begins k.begins in
    let k' : IsStretch S s from left a d v = subst (λ t. IsStretch S s from left t d v) (sym starts) k in
    let ends : b ≡ d = elim (lt_cases b d) [
      | inl l ↦ absurd (no_longer S ok s from left a b w d v h k' l)
      | inr x ↦ elim x [ inl e ↦ e | inr l ↦ absurd (no_longer S ok s from left a d v b w k' h l) ]
    ] in
    record { starts = starts; ends = ends; bits = h.at_rate ∙ ap (λ t. rate_of S s *ℚ (t -ℚ a)) ends ∙ sym k'.at_rate }

-- ---- one server
pub record SameWork (p : ℕ) (a b w : ℚ) (q : ℕ) (c d v : ℚ) : Type 0 where
  pub packet : p ≡ q
  pub stretch : SameStretch a b w c d v

same_resumed : (S : Setup) → IsSetup S → (s : ℕ) (σ : ServerState) (p : ℕ) (a b w : ℚ) (q : ℕ) (c d v : ℚ)
    → IsResumed S s σ p a b w → IsResumed S s σ q c d v → SameWork p a b w q c d v
same_resumed S ok s σ p a b w q c d v h k =
    let same : h.under ≡ k.under = let f : Some h.under ≡ Some k.under = sym h.is_under ∙ k.is_under in cc in
    let k' : IsStretch S s h.under.last.end (size h.under.card -ℚ done h.under) c d v =
    subst (λ (u : Under). IsStretch S s u.last.end (size u.card -ℚ done u) c d v) (sym same) k.stretch in
    record {
      packet = sym h.packet_is ∙ ap (λ (u : Under). u.card.packet) same ∙ k.packet_is;
      stretch = same_stretch S ok s h.under.last.end (size h.under.card -ℚ done h.under) a b w c d v h.stretch k';
    }

same_started : (S : Setup) → IsSetup S → (s : ℕ) (σ : ServerState) (p : ℕ) (a b w : ℚ) (q : ℕ) (c d v : ℚ)
    → IsStarted S s σ p a b w → IsStarted S s σ q c d v → SameWork p a b w q c d v
same_started S ok s σ p a b w q c d v h k =
    let same : h.card ≡ k.card = let f : Some h.card ≡ Some k.card = sym h.picked ∙ k.picked in cc in
    let k' : IsStretch S s σ.now (size h.card) c d v = subst (λ (u : Card). IsStretch S s σ.now (size u) c d v) (sym same) k.stretch in
    record {
      packet = sym h.packet_is ∙ ap (λ (u : Card). u.packet) same ∙ k.packet_is;
      stretch = same_stretch S ok s σ.now (size h.card) a b w c d v h.stretch k';
    }

same_work : (S : Setup) → IsSetup S → (s : ℕ) (σ : ServerState) (p : ℕ) (a b w : ℚ) (q : ℕ) (c d v : ℚ)
    → IsResumed S s σ p a b w ⊎ IsStarted S s σ p a b w → IsResumed S s σ q c d v ⊎ IsStarted S s σ q c d v → SameWork p a b w q c d v
same_work S ok s σ p a b w q c d v (inl h) (inl k) = same_resumed S ok s σ p a b w q c d v h k
same_work S ok s σ p a b w q c d v (inl h) (inr k) = absurd (let f : Some h.under ≡ None = sym h.is_under ∙ k.idle in cc)
same_work S ok s σ p a b w q c d v (inr h) (inl k) = absurd (let f : Some k.under ≡ None = sym k.is_under ∙ h.idle in cc)
same_work S ok s σ p a b w q c d v (inr h) (inr k) = same_started S ok s σ p a b w q c d v h k

-- no visit where a packet may start
pub no_visit : (d : Discipline) (σ : ServerState) (q : ℕ) (c : Card) → MayVisit d σ q → ¬ (pick d σ.inside σ.round ≡ Some c)
no_visit Fifo σ q c m e = m
no_visit (Priority n) σ q c m e = m
no_visit (Drr quanta) σ q c m e =
    let f : None ≡ Some c = sym (ap (λ o. visited_head o σ.round.deficits σ.inside) m.no_visit) ∙ e in cc

first_once : (q p : ℕ) (ks : List ℕ) → IsFirst q ks → IsFirst p ks → q ≡ p
first_once q p [] a b = absurd a
first_once q p (k ∷ ks) a b = sym a ∙ b

pub visit_once : (d : Discipline) (σ : ServerState) (q p : ℕ) → MayVisit d σ q → MayVisit d σ p → q ≡ p
visit_once Fifo σ q p a b = absurd a
visit_once (Priority n) σ q p a b = absurd a
visit_once (Drr quanta) σ q p a b = first_once q p σ.round.active a.is_first b.is_first

pub not_idle : (d : Discipline) (σ : ServerState) (q : ℕ) (u : Under) → MayVisit d σ q → ¬ (σ.under ≡ Some u)
not_idle Fifo σ q u m e = m
not_idle (Priority n) σ q u m e = m
not_idle (Drr quanta) σ q u m e = let f : None ≡ Some u = sym m.idle ∙ e in cc

no_work_and_visit : (S : Setup) (s : ℕ) (σ : ServerState) (p : ℕ) (a b w : ℚ) (q : ℕ) (t : ℚ) → IsResumed S s σ p a b w ⊎ IsStarted S s σ p a b w
    → ¬ (IsVisited S s σ q t)
no_work_and_visit S s σ p a b w q t (inl h) v = not_idle (server_at S.net s).discipline σ q h.under v.may h.is_under
no_work_and_visit S s σ p a b w q t (inr h) v = no_visit (server_at S.net s).discipline σ q h.card v.may h.picked

-- ---- ranks
pub record SameRank (a b : Rank) : Type 0 where
  pub kinds : a.kind ≡ b.kind
  pub servers : a.server ≡ b.server
  pub packets : a.packet ≡ b.packet

same_rank : (a b : Rank) → RankAtMost a b → RankAtMost b a → SameRank a b
same_rank a b (inl h) (inl k) = absurd (omega (arith, h, k))
same_rank a b (inl h) (inr k) = absurd (omega (arith, h, k.0))
same_rank a b (inr h) (inl k) = absurd (omega (arith, h.0, k))
same_rank a b (inr h) (inr k) = same_rest a b h.0 h.1 k.1
  where
    same_rest : (a b : Rank) → a.kind ≡ b.kind → ((a.server < b.server) ⊎ ((a.server ≡ b.server) × (a.packet ≤ b.packet)))
        → ((b.server < a.server) ⊎ ((b.server ≡ a.server) × (b.packet ≤ a.packet))) → SameRank a b
    same_rest a b e (inl h) (inl k) = absurd (omega (arith, h, k))
    same_rest a b e (inl h) (inr k) = absurd (omega (arith, h, k.0))
    same_rest a b e (inr h) (inl k) = absurd (omega (arith, h.0, k))
    same_rest a b e (inr h) (inr k) = record { kinds = e; servers = h.0; packets = (let f : a.packet ≡ b.packet = omega (arith, h.1, k.1) in f) }

kind_cases : (o : Option Under) → (work_kind o ≡ 0) ⊎ (work_kind o ≡ 4)
kind_cases None = inr refl
kind_cases (Some u) = inl refl

not_work : (o : Option Under) (n : ℕ) → 0 < n → n < 4 → ¬ (work_kind o ≡ n)
not_work o n a b e = elim (kind_cases o) [ inl f ↦ omega (arith, a, e, f) | inr f ↦ omega (arith, b, e, f) ]

-- ---- steps
same_step : (S : Setup) → IsSetup S → (r : RunState) (x y : Step) → IsDue S r x → IsDue S r y → step_time x ≡ step_time y
    → SameRank (rank_of r x) (rank_of r y) → x ≡ y
same_step S ok r (Enter f p t b) (Enter g q u c) h k e z =
    let packet : p ≡ q = z.packets in
    let flow : f ≡ g = h.flow_is ∙ ap (λ i. (packet_of S i).flow) packet ∙ sym k.flow_is in
    let bits : b ≡ c = h.bits_are ∙ ap (λ i. (packet_of S i).bits) packet ∙ sym k.bits_are in
    cc
same_step S ok r (Enter f p t b) (Reach s q u) h k e z = absurd (omega (arith, z.kinds))
same_step S ok r (Enter f p t b) (Work s q a c w) h k e z = absurd (not_work (state_at r s).under 3 (omega arith) (omega arith) (sym z.kinds))
same_step S ok r (Enter f p t b) (Leave s q u) h k e z = absurd (omega (arith, z.kinds))
same_step S ok r (Enter f p t b) (Visit s q u) h k e z = absurd (omega (arith, z.kinds))
same_step S ok r (Reach s p t) (Enter g q u c) h k e z = absurd (omega (arith, z.kinds))
same_step S ok r (Reach s p t) (Reach i q u) h k e z = let server : s ≡ i = z.servers in let packet : p ≡ q = z.packets in cc
same_step S ok r (Reach s p t) (Work i q a c w) h k e z = absurd (not_work (state_at r i).under 2 (omega arith) (omega arith) (sym z.kinds))
same_step S ok r (Reach s p t) (Leave i q u) h k e z = absurd (omega (arith, z.kinds))
same_step S ok r (Reach s p t) (Visit i q u) h k e z = absurd (omega (arith, z.kinds))
same_step S ok r (Work s p a b w) (Enter g q u c) h k e z = absurd (not_work (state_at r s).under 3 (omega arith) (omega arith) z.kinds)
same_step S ok r (Work s p a b w) (Reach i q u) h k e z = absurd (not_work (state_at r s).under 2 (omega arith) (omega arith) z.kinds)
same_step S ok r (Work s p a b w) (Work i q c d v) h k e z =
    let server : s ≡ i = z.servers in
    let there : IsResumed S s (state_at r s) q c d v ⊎ IsStarted S s (state_at r s) q c d v =
    subst (λ j. IsResumed S j (state_at r j) q c d v ⊎ IsStarted S j (state_at r j) q c d v) (sym server) k.1 in
    let same = same_work S ok s (state_at r s) p a b w q c d v h.1 there in
    let packet : p ≡ q = same.packet in
    let starts : a ≡ c = same.stretch.starts in
    let ends : b ≡ d = same.stretch.ends in
    let bits : w ≡ v = same.stretch.bits in
    cc
same_step S ok r (Work s p a b w) (Leave i q u) h k e z = absurd (not_work (state_at r s).under 1 (omega arith) (omega arith) z.kinds)
same_step S ok r (Work s p a b w) (Visit i q u) h k e z =
    let server : s ≡ i = z.servers in
    absurd (no_work_and_visit S s (state_at r s) p a b w q u h.1 (subst (λ j. IsVisited S j (state_at r j) q u) (sym server) k.1))
same_step S ok r (Leave s p t) (Enter g q u c) h k e z = absurd (omega (arith, z.kinds))
same_step S ok r (Leave s p t) (Reach i q u) h k e z = absurd (omega (arith, z.kinds))
same_step S ok r (Leave s p t) (Work i q a c w) h k e z = absurd (not_work (state_at r i).under 1 (omega arith) (omega arith) (sym z.kinds))
same_step S ok r (Leave s p t) (Leave i q u) h k e z =
    let server : s ≡ i = z.servers in
    let there : IsLeaving (state_at r s) q u = subst (λ j. IsLeaving (state_at r j) q u) (sym server) k.1 in
    let here : IsLeaving (state_at r s) p t = h.1 in
    let same : here.under ≡ there.under = let f : Some here.under ≡ Some there.under = sym here.is_under ∙ there.is_under in cc in
    let packet : p ≡ q = sym here.packet_is ∙ ap (λ (v : Under). v.card.packet) same ∙ there.packet_is in
    cc
same_step S ok r (Leave s p t) (Visit i q u) h k e z = absurd (omega (arith, z.kinds))
same_step S ok r (Visit s p t) (Enter g q u c) h k e z = absurd (omega (arith, z.kinds))
same_step S ok r (Visit s p t) (Reach i q u) h k e z = absurd (omega (arith, z.kinds))
same_step S ok r (Visit s p t) (Work i q a c w) h k e z =
    let server : i ≡ s = sym z.servers in
    absurd (no_work_and_visit S i (state_at r i) q a c w p t k.1 (subst (λ j. IsVisited S j (state_at r j) p t) (sym server) h.1))
same_step S ok r (Visit s p t) (Leave i q u) h k e z = absurd (omega (arith, z.kinds))
same_step S ok r (Visit s p t) (Visit i q u) h k e z =
    let server : s ≡ i = z.servers in
    let there : IsVisited S s (state_at r s) q u = subst (λ j. IsVisited S j (state_at r j) q u) (sym server) k.1 in
    let here : IsVisited S s (state_at r s) p t = h.1 in
    let queue : p ≡ q = visit_once (server_at S.net s).discipline (state_at r s) p q here.may there.may in
    cc

pub next_once : (S : Setup) → IsSetup S → (r : RunState) (x y : Step) → IsNext S r x → IsNext S r y → x ≡ y
next_once S ok r x y h k =
    let there = h.first y k.due in
    let back = k.first x h.due in
    let time : step_time x ≡ step_time y = antisym (there.no_later, back.no_later) in
    same_step S ok r x y h.due k.due time (same_rank (rank_of r x) (rank_of r y) (there.in_turn time) (back.in_turn (sym time)))

pub follows_once : (S : Setup) → IsSetup S → (xs ys : List Step) (r : RunState) → Follows S r xs → Follows S r ys → xs ≡ ys
follows_once S ok [] [] r f g = refl
follows_once S ok [] (y ∷ ys) r f g = absurd (f y g.0.due)
follows_once S ok (x ∷ xs) [] r f g = absurd (g x f.0.due)
follows_once S ok (x ∷ xs) (y ∷ ys) r f g =
    let head : x ≡ y = next_once S ok r x y f.0 g.0 in
    let tail : xs ≡ ys = follows_once S ok xs ys (next_run S.net r x) f.1 (subst (λ z. Follows S (next_run S.net r z) ys) (sym head) g.1) in
    cc

pub run_once : (S : Setup) (a b : SpecRun) → IsSetup S → IsSimulated S a → IsSimulated S b → a ≡ b
run_once S a b ok f g =
    let steps : a.steps ≡ b.steps = follows_once S ok a.steps b.steps (run_start S.net) f.follows g.follows in
    let end : a.end ≡ b.end = f.ends ∙ ap (last_time (int (pos 0))) steps ∙ sym g.ends in
    ap (λ s. let r : SpecRun = record { steps = s; end = a.end } in r) steps ∙ ap (λ e. let r : SpecRun = record { steps = b.steps; end = e } in r) end
