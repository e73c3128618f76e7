-- What leaves in a closed window, by the pace of the work alone: after the first packet that leaves in it, the server works
-- on one packet after another, no faster than its pace.
use Rattle.std.specs.Prelude.{Option, Some, None, ◌≡◌, ℕ, pos, true, ◌&&◌, List, [], ◌∷◌}
use Rattle.std.proofs.Common.{arith, sym, ◌∙◌, refl, inl, inr, subst}
use Rattle.std.proofs.lemmas.Bool.{cases_Bool, and_parts, and_right}
use Rattle.rational.specs.Rational.{ℚ, int, ◌+ℚ◌, ◌-ℚ◌, ◌*ℚ◌, ◌≤ℚ◌, ◌<ℚ◌, le_q}
use Rattle.rational.proofs.Over.{le_q_in}
use Rattle.rational.proofs.MinMax.{le_q_not}
use Rattle.rational.proofs.Laws.{le_refl, le_trans, le_or_lt, mul_nonneg, mul_sub}
use Rattle.rational.proofs.Linear.{with1, with2, with3, with4, with5, with6}
use Rattle.run_laws.specs.Cards.{Card, size, whole, Class, ServerStep, Arrives, Works, Leaves, Visits}
use Rattle.run_laws.specs.Servers.{Server, Under, ServerState, done_so_far, done, start}
use Rattle.run_laws.specs.Next.{next}
use Rattle.run_laws.specs.Allows.{AllAllowed, IsLawfulView, MayLeave, KeepsPace}
use Rattle.run_laws.specs.Counts.{when, total, leaves, upto, within, departed_in}
use Rattle.run_laws.specs.Premises.{KeepsSizes}
use Rattle.run_laws.proofs.Sizes.{size_most, size_nonneg, whole_nonneg}
use Rattle.run_laws.proofs.Sums.{when_true, when_false, when_most}
use Rattle.run_laws.proofs.Counts.{left_le}
use Rattle.run_laws.proofs.States.{IsSound, IsSoundFor, sound_next, leaving}
use Rattle.run_laws.proofs.Orders.{AllSmall, small_head, small_after}
use Rattle.net_laws.specs.paces.Paces.{KeepsRate}

-- ---- the pace of a server with a limit
kept_from : (server : Server) (end : ℚ) (σ : ServerState) (V : List ServerStep) (rate : ℚ) → server.pace ≡ Some rate
    → AllAllowed server end σ V → KeepsRate rate V
kept_from server end σ [] rate e a = tt
kept_from server end σ (Arrives c t ∷ V) rate e a = kept_from server end (next server.discipline σ (Arrives c t)) V rate e a.1
kept_from server end σ (Works c b f w ∷ V) rate e a = (
  subst (λ (p : Option ℚ). KeepsPace p b f w) e a.0.1.in_pace,
  kept_from server end (next server.discipline σ (Works c b f w)) V rate e a.1,
)
kept_from server end σ (Leaves c t ∷ V) rate e a = kept_from server end (next server.discipline σ (Leaves c t)) V rate e a.1
kept_from server end σ (Visits q t ∷ V) rate e a = kept_from server end (next server.discipline σ (Visits q t)) V rate e a.1

pub pace_is_kept : (server : Server) (end : ℚ) (V : List ServerStep) (rate : ℚ) → IsLawfulView server end V
    → server.pace ≡ Some rate → KeepsRate rate V
pace_is_kept server end V rate lawful e = kept_from server end (start server.discipline) V rate e lawful.allowed

-- ---- a packet leaves when the last work ends, with the bits that were worked
worked_off : (busy : ℚ) (cards : List Card) (under : Option Under) (c : Card) (t : ℚ) → IsSoundFor cards busy under
    → MayLeave under c t → (t ≡ busy) × (done_so_far under ≡ size c)
worked_off busy cards None c t h m = absurd m
worked_off busy cards (Some u) c t h m = (m.at_end ∙ sym h.at_end, m.worked_off)

-- ---- before the last work ends nothing leaves
none_left : (server : Server) (end : ℚ) (σ : ServerState) (V : List ServerStep) (C : Class) (t : ℚ) → AllAllowed server end σ V
    → IsSound σ → t <ℚ σ.busy → total (leaves C (upto t)) V ≡ int (pos 0)
none_left server end σ [] C t a h l = refl
none_left server end σ (Arrives c u ∷ V) C t a h l =
    let rest = none_left server end (next server.discipline σ (Arrives c u)) V C t a.1 (sound_next server end σ (Arrives c u) a.0 h) l in
    with1 (total (leaves C (upto t)) V) (λ c. omega (arith, c.le, c.lt, c.same))
none_left server end σ (Works c b f w ∷ V) C t a h l =
    let no_overlap = a.0.1.no_overlap in
    let forward = a.0.1.forward in
    let later : t <ℚ f = with4 t σ.busy b f (λ c. omega (arith, c.le, c.lt, c.same)) in
    let rest = none_left server end (next server.discipline σ (Works c b f w)) V C t a.1 (sound_next server end σ (Works c b f w) a.0 h) later in
    with1 (total (leaves C (upto t)) V) (λ c. omega (arith, c.le, c.lt, c.same))
none_left server end σ (Leaves c u ∷ V) C t a h l =
    let off = worked_off σ.busy σ.inside σ.under c u h a.0.1 in
    let later : t <ℚ u = subst (λ (x : ℚ). t <ℚ x) (sym off.0) l in
    let rest = none_left server end (next server.discipline σ (Leaves c u)) V C t a.1 (sound_next server end σ (Leaves c u) a.0 h) l in
    let none = when_false (C c && upto t u) (size c) (and_right (C c) (upto t u) (le_q_not u t later)) in
    with2 (when (C c && upto t u) (size c)) (total (leaves C (upto t)) V) (λ c. omega (arith, c.le, c.lt, c.same))
none_left server end σ (Visits q u ∷ V) C t a h l =
    let rest = none_left server end (next server.discipline σ (Visits q u)) V C t a.1 (sound_next server end σ (Visits q u) a.0 h) l in
    with1 (total (leaves C (upto t)) V) (λ c. omega (arith, c.le, c.lt, c.same))

-- ---- from the end of the last work on, what leaves up to t is what is done of the packet under way, and the work up to t
work_step : (rate busy a b t done w rest : ℚ) → int (pos 0) ≤ℚ rate → busy ≤ℚ a → w ≤ℚ rate *ℚ (b -ℚ a)
    → rest ≤ℚ (done +ℚ w) +ℚ rate *ℚ (t -ℚ b) → int (pos 0) +ℚ rest ≤ℚ done +ℚ rate *ℚ (t -ℚ busy)
work_step rate busy a b t done w rest on order pace h =
    let early : int (pos 0) ≤ℚ a -ℚ busy = with2 a busy (λ c. omega (arith, c.le, c.lt, c.same)) in
    let more = mul_nonneg on early in
    let one = mul_sub rate a busy in
    let two = mul_sub rate b a in
    let three = mul_sub rate t b in
    let four = mul_sub rate t busy in
    sums (rate *ℚ a) (rate *ℚ b) (rate *ℚ busy) (rate *ℚ t) (rate *ℚ (a -ℚ busy)) (rate *ℚ (b -ℚ a)) (rate *ℚ (t -ℚ b)) (rate *ℚ (t -ℚ busy)) done w rest
    one two three four more pace h
  where
    sums : (ra rb ru rt ab ba tb tu done w rest : ℚ) → ab ≡ ra -ℚ ru → ba ≡ rb -ℚ ra → tb ≡ rt -ℚ rb → tu ≡ rt -ℚ ru → int (pos 0) ≤ℚ ab → w ≤ℚ ba
        → rest ≤ℚ (done +ℚ w) +ℚ tb → int (pos 0) +ℚ rest ≤ℚ done +ℚ tu
    sums ra rb ru rt ab ba tb tu done w rest e1 e2 e3 e4 h1 h2 h3 =
        let less : w +ℚ tb ≤ℚ tu = total_less ra rb ru rt ab ba tb tu w e1 e2 e3 e4 h1 h2 in
        with5 done w tb tu rest (λ c. omega (arith, c.le, c.lt, c.same))
      where
        total_less : (ra rb ru rt ab ba tb tu w : ℚ) → ab ≡ ra -ℚ ru → ba ≡ rb -ℚ ra → tb ≡ rt -ℚ rb → tu ≡ rt -ℚ ru → int (pos 0) ≤ℚ ab → w ≤ℚ ba → w +ℚ tb ≤ℚ tu
        total_less ra rb ru rt ab ba tb tu w e1 e2 e3 e4 h1 h2 =
            let whole_of : tu ≡ (ab +ℚ ba) +ℚ tb = rw (e1, e2, e3, e4) (with4 ra rb ru rt (λ c. omega (arith, c.le, c.lt, c.same))) in
            with5 tu ab ba tb w (λ c. omega (arith, c.le, c.lt, c.same))

-- at first something, or nothing, is done of it
at_first : (cards : List Card) (busy : ℚ) (under : Option Under) (rate t : ℚ) → IsSoundFor cards busy under → int (pos 0) ≤ℚ rate → busy ≤ℚ t
    → int (pos 0) ≤ℚ done_so_far under +ℚ rate *ℚ (t -ℚ busy)
at_first cards busy under rate t h on l =
    let some = done_some under h in
    let time : int (pos 0) ≤ℚ t -ℚ busy = with2 t busy (λ c. omega (arith, c.le, c.lt, c.same)) in
    let more = mul_nonneg on time in
    with2 (done_so_far under) (rate *ℚ (t -ℚ busy)) (λ c. omega (arith, c.le, c.lt, c.same))
  where
    done_some : (under : Option Under) → IsSoundFor cards busy under → int (pos 0) ≤ℚ done_so_far under
    done_some None h = le_refl (int (pos 0))
    done_some (Some u) h =
        let s = h.started in
        let w = h.is_span.some_work in
        with2 u.before u.last.bits (λ c. omega (arith, c.le, c.lt, c.same))

left_by_work : (server : Server) (end : ℚ) (σ : ServerState) (V : List ServerStep) (C : Class) (rate t : ℚ) → int (pos 0) ≤ℚ rate
    → AllAllowed server end σ V → IsSound σ → KeepsRate rate V → σ.busy ≤ℚ t
    → total (leaves C (upto t)) V ≤ℚ done_so_far σ.under +ℚ rate *ℚ (t -ℚ σ.busy)
left_by_work server end σ [] C rate t on a h k l = at_first σ.inside σ.busy σ.under rate t h on l
left_by_work server end σ (Arrives c u ∷ V) C rate t on a h k l =
    let rest = left_by_work server end (next server.discipline σ (Arrives c u)) V C rate t on a.1 (sound_next server end σ (Arrives c u) a.0 h) k l in
    with3 (total (leaves C (upto t)) V) (done_so_far σ.under) (rate *ℚ (t -ℚ σ.busy)) (λ c. omega (arith, c.le, c.lt, c.same))
left_by_work server end σ (Works c b f w ∷ V) C rate t on a h k l =
    let sound = sound_next server end σ (Works c b f w) a.0 h in
    let order = a.0.1.no_overlap in
    elim (le_or_lt f t) [
      | inl m ↦
          let rest = left_by_work server end (next server.discipline σ (Works c b f w)) V C rate t on a.1 sound k.1 m in
          work_step rate σ.busy b f t (done_so_far σ.under) w (total (leaves C (upto t)) V) on order k.0 rest
      | inr m ↦
          let none = none_left server end (next server.discipline σ (Works c b f w)) V C t a.1 sound m in
          let some = at_first σ.inside σ.busy σ.under rate t h on l in
          with3 (total (leaves C (upto t)) V) (done_so_far σ.under) (rate *ℚ (t -ℚ σ.busy)) (λ c. omega (arith, c.le, c.lt, c.same))
    ]
left_by_work server end σ (Leaves c u ∷ V) C rate t on a h k l =
    let off = worked_off σ.busy σ.inside σ.under c u h a.0.1 in
    let done = off.1 in
    let rest = left_by_work server end (next server.discipline σ (Leaves c u)) V C rate t on a.1 (sound_next server end σ (Leaves c u) a.0 h) k l in
    let most = when_most (C c && upto t u) (size c) (size_nonneg c) in
    with5 (when (C c && upto t u) (size c)) (size c) (done_so_far σ.under) (total (leaves C (upto t)) V) (rate *ℚ (t -ℚ σ.busy)) (λ c. omega (arith, c.le, c.lt, c.same))
left_by_work server end σ (Visits q u ∷ V) C rate t on a h k l =
    let rest = left_by_work server end (next server.discipline σ (Visits q u)) V C rate t on a.1 (sound_next server end σ (Visits q u) a.0 h) k l in
    with3 (total (leaves C (upto t)) V) (done_so_far σ.under) (rate *ℚ (t -ℚ σ.busy)) (λ c. omega (arith, c.le, c.lt, c.same))

-- ---- so the first packet that leaves in the window is one packet, and the rest the work after it
first_leaves : (rate s u t bits own rest : ℚ) → int (pos 0) ≤ℚ rate → s ≤ℚ u → own ≤ℚ bits → rest ≤ℚ int (pos 0) +ℚ rate *ℚ (t -ℚ u)
    → own +ℚ rest ≤ℚ rate *ℚ (t -ℚ s) +ℚ bits
first_leaves rate s u t bits own rest on order small h =
    let time : int (pos 0) ≤ℚ u -ℚ s = with2 u s (λ c. omega (arith, c.le, c.lt, c.same)) in
    let more = mul_nonneg on time in
    let one = mul_sub rate u s in
    let two = mul_sub rate t u in
    let three = mul_sub rate t s in
    let whole_of : rate *ℚ (t -ℚ s) ≡ rate *ℚ (u -ℚ s) +ℚ rate *ℚ (t -ℚ u) = rw (one, two, three) (with3 (rate *ℚ s) (rate *ℚ u) (rate *ℚ t) (λ c. omega (arith, c.le, c.lt, c.same))) in
    with6 (rate *ℚ (t -ℚ s)) (rate *ℚ (u -ℚ s)) (rate *ℚ (t -ℚ u)) bits own rest (λ c. omega (arith, c.le, c.lt, c.same))

within_upto : (s t u : ℚ) → within s t u ≡ true → upto t u ≡ true
within_upto s t u h = (and_parts (le_q s u) (le_q u t) h).1

left_in : (server : Server) (end : ℚ) (σ : ServerState) (V : List ServerStep) (C : Class) (bits : ℕ) (rate s t : ℚ)
    → int (pos 0) ≤ℚ rate → s ≤ℚ t → AllAllowed server end σ V → IsSound σ → KeepsRate rate V → KeepsSizes C bits V → AllSmall C bits σ.inside
    → total (leaves C (within s t)) V ≤ℚ rate *ℚ (t -ℚ s) +ℚ whole bits
left_in server end σ [] C bits rate s t on l a h k sizes small =
    let time : int (pos 0) ≤ℚ t -ℚ s = with2 t s (λ c. omega (arith, c.le, c.lt, c.same)) in
    let more = mul_nonneg on time in
    let some = whole_nonneg bits in
    with2 (rate *ℚ (t -ℚ s)) (whole bits) (λ c. omega (arith, c.le, c.lt, c.same))
left_in server end σ (Arrives c u ∷ V) C bits rate s t on l a h k sizes small =
    let rest = left_in server end (next server.discipline σ (Arrives c u)) V C bits rate s t on l a.1 (sound_next server end σ (Arrives c u) a.0 h) k sizes.1
    (small_after server end σ (Arrives c u ∷ []) V C bits (a.0, tt) sizes small) in
    with3 (total (leaves C (within s t)) V) (rate *ℚ (t -ℚ s)) (whole bits) (λ c. omega (arith, c.le, c.lt, c.same))
left_in server end σ (Works c b f w ∷ V) C bits rate s t on l a h k sizes small =
    let rest = left_in server end (next server.discipline σ (Works c b f w)) V C bits rate s t on l a.1 (sound_next server end σ (Works c b f w) a.0 h) k.1 sizes small in
    with3 (total (leaves C (within s t)) V) (rate *ℚ (t -ℚ s)) (whole bits) (λ c. omega (arith, c.le, c.lt, c.same))
left_in server end σ (Leaves c u ∷ V) C bits rate s t on l a h k sizes small =
    let sound = sound_next server end σ (Leaves c u) a.0 h in
    let after_it = next server.discipline σ (Leaves c u) in
    elim (cases_Bool (C c && within s t u)) [
      | inr e ↦
          let none = when_false (C c && within s t u) (size c) e in
          let rest = left_in server end after_it V C bits rate s t on l a.1 sound k sizes
          (small_after server end σ (Leaves c u ∷ []) V C bits (a.0, tt) sizes small) in
          with4 (when (C c && within s t u) (size c)) (total (leaves C (within s t)) V) (rate *ℚ (t -ℚ s)) (whole bits) (λ c. omega (arith, c.le, c.lt, c.same))
      | inl e ↦
          let own = and_parts (C c) (within s t u) e in
          let times = and_parts (le_q s u) (le_q u t) own.1 in
          let off = worked_off σ.busy σ.inside σ.under c u h a.0.1 in
          let late : σ.busy ≤ℚ t = subst (λ (x : ℚ). x ≤ℚ t) off.0 (le_q_in u t times.1) in
          let early : s ≤ℚ σ.busy = subst (λ (x : ℚ). s ≤ℚ x) off.0 (le_q_in s u times.0) in
          let most = size_most c bits (small_head C bits c.queue c σ.inside small (leaving σ.inside σ.busy σ.under c u h a.0.1) own.0) in
          let fewer = left_le C V (within s t) (upto t) (λ x. within_upto s t x) in
          let rest = left_by_work server end after_it V C rate t on a.1 sound k late in
          rw (when_true (C c && within s t u) (size c) e)
          (first_leaves rate s σ.busy t (whole bits) (size c) (total (leaves C (within s t)) V) on early most (le_trans fewer rest))
    ]
left_in server end σ (Visits q u ∷ V) C bits rate s t on l a h k sizes small =
    let rest = left_in server end (next server.discipline σ (Visits q u)) V C bits rate s t on l a.1 (sound_next server end σ (Visits q u) a.0 h) k sizes small in
    with3 (total (leaves C (within s t)) V) (rate *ℚ (t -ℚ s)) (whole bits) (λ c. omega (arith, c.le, c.lt, c.same))

pub output_from_pace : (server : Server) (end : ℚ) (V : List ServerStep) (C : Class) (bits : ℕ) (rate s t : ℚ) → IsLawfulView server end V
    → int (pos 0) ≤ℚ rate → KeepsRate rate V → KeepsSizes C bits V → s ≤ℚ t → departed_in C V s t ≤ℚ rate *ℚ (t -ℚ s) +ℚ whole bits
output_from_pace server end V C bits rate s t lawful on k sizes l = left_in server end (start server.discipline) V C bits rate s t on l lawful.allowed tt k sizes tt
