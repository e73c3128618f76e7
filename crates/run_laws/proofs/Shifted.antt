-- What leaves in a closed window, by the delay.
use Rattle.std.specs.Prelude.{Option, Some, None, ◌≡◌, ◌≢◌, ℕ, pos, ◌==◌, Bool, true, false, ◌&&◌, List, [], ◌∷◌, ◌++◌}
use Rattle.std.proofs.Common.{arith, sym, ap, ◌∙◌, refl, inl, inr, subst}
use Rattle.std.proofs.lemmas.Bool.{cases_Bool, eq-eqb, ne_eqb, and_left, and_right, and_from, and_parts}
use Rattle.rational.specs.Rational.{ℚ, int, ◌+ℚ◌, ◌-ℚ◌, ◌≤ℚ◌, ◌<ℚ◌}
use Rattle.rational.specs.Extended.{Ext, ◌≤ₑ◌}
use Rattle.rational.specs.declared.Extended.TheVariants.{Fin, Inf}
use Rattle.rational.proofs.Laws.{le_refl, le_trans, le_or_lt}
use Rattle.rational.proofs.ExtendedOrder.{le_ext_trans}
use Rattle.rational.proofs.Linear.{with1, with2, with3, with4, with5, with6, with8}
use Rattle.min_plus.specs.Pointwise.{shifted}
use Rattle.min_plus.specs.Functions.{IsRising}
use Rattle.min_plus.specs.Deviations.{IsHorizontalDeviation}
use Rattle.run_laws.specs.Cards.{Card, size, Class, ServerStep, Arrives, Works, Leaves, Visits}
use Rattle.run_laws.proofs.Always.{IsAlwaysOfQueue, IsAlwaysPart}
use Rattle.run_laws.specs.Servers.{Server, ServerState, Under, start}
use Rattle.run_laws.specs.Next.{next, after}
use Rattle.run_laws.specs.Allows.{AllAllowed, IsLawfulView, MayLeave}
use Rattle.run_laws.specs.Counts.{when, total, arrives, leaves, before, upto, arrived, arrived_upto, arrived_in, departed, departed_in}
use Rattle.run_laws.specs.Premises.{EachArrival, KeepsArrivals, NoneTwice}
use Rattle.run_laws.specs.Serves.{Serves}
use Rattle.run_laws.specs.Delays.{gone_at, hop_delays, AreAtMost}
use Rattle.rational.proofs.Over.{lt_q_out}
use Rattle.run_laws.proofs.Sums.{when_true, when_false, when_most, when_rises, total-append}
use Rattle.run_laws.proofs.Counts.{arrived_rises, arrived_in_is, upto_arrived, window_nonneg, departed_upto}
use Rattle.run_laws.proofs.Heads.{sum_of}
use Rattle.run_laws.proofs.States.{IsSound, IsSoundFor, sound_next, sound_after}
use Rattle.run_laws.proofs.Orders.{at_before}
use Rattle.run_laws.proofs.Gone.{left_nonneg}
use Rattle.run_laws.proofs.Waiting.{allowed-append}
use Rattle.run_laws.proofs.Delay.{kept_first, kept_rest}
use Rattle.min_plus.proofs.Deviations.{within_deviation, deviation_nonneg}
use Rattle.run_laws.proofs.Oldest.{Oldest, oldest}
use Rattle.run_laws.proofs.Arrivals.{none_arrive, arrivals_map}
use Rattle.run_laws.proofs.Outputs.{departed_in_is, left_came, nothing_leaves}
use Rattle.run_laws.proofs.Lag.{lag_from_service}
use Rattle.run_laws.proofs.Sizes.{size_nonneg}

-- ---- what arrived d before s has left before s: then what leaves from s on arrived since
from_lag : (server : Server) (end : ℚ) (V : List ServerStep) (C : Class) (α : ℚ → Ext) (d s t : ℚ) → IsLawfulView server end V
    → KeepsArrivals C α V → int (pos 0) ≤ℚ d
    → arrived C V (s -ℚ d) ≤ℚ departed C V s → s ≤ℚ t → Fin (departed_in C V s t) ≤ₑ α ((t -ℚ s) +ℚ d)
from_lag server end V C α d s t lawful keeps d_on lag h =
    let all : s -ℚ d ≤ℚ t = with3 s d t (λ c. omega (arith, c.le, c.lt, c.same)) in
    let left = departed_in_is C V s t h in
    let came = arrived_in_is C V (s -ℚ d) t all in
    let few = left_came server end V C t lawful in
    let most : departed_in C V s t ≤ℚ arrived_in C V (s -ℚ d) t = with6 (departed_in C V s t) (departed C V s) (departed_upto C V t) (arrived_upto C V t) (arrived C V (s -ℚ d)) (arrived_in C V (s -ℚ d) t) (λ c. omega (arith, c.le, c.lt, c.same)) in
    let span : t -ℚ (s -ℚ d) ≡ (t -ℚ s) +ℚ d = with3 s d t (λ c. omega (arith, c.le, c.lt, c.same)) in
    le_ext_trans (Fin (departed_in C V s t)) (Fin (arrived_in C V (s -ℚ d) t)) (α ((t -ℚ s) +ℚ d)) most
    (subst (λ (x : ℚ). Fin (arrived_in C V (s -ℚ d) t) ≤ₑ α x) span (keeps (s -ℚ d) t all))

-- after the end nothing leaves, and no arrival curve is below 0
past_run : (server : Server) (end : ℚ) (V : List ServerStep) (C : Class) (α : ℚ → Ext) (d s t : ℚ) → IsLawfulView server end V
    → KeepsArrivals C α V → int (pos 0) ≤ℚ d → end <ℚ s → s ≤ℚ t → Fin (departed_in C V s t) ≤ₑ α ((t -ℚ s) +ℚ d)
past_run server end V C α d s t lawful keeps d_on l h =
    let x = (t -ℚ s) +ℚ d in
    let on : int (pos 0) ≤ℚ x = with3 s t d (λ c. omega (arith, c.le, c.lt, c.same)) in
    let span : x -ℚ int (pos 0) ≡ x = with1 x (λ c. omega (arith, c.le, c.lt, c.same)) in
    let none = nothing_leaves server end V C s t lawful l in
    let some = window_nonneg C V (int (pos 0)) x in
    le_ext_trans (Fin (departed_in C V s t)) (Fin (arrived_in C V (int (pos 0)) x)) (α x) (with2 (departed_in C V s t) (arrived_in C V (int (pos 0)) x) (λ c. omega (arith, c.le, c.lt, c.same)))
    (subst (λ (y : ℚ). Fin (arrived_in C V (int (pos 0)) x) ≤ₑ α y) span (keeps (int (pos 0)) x on))

shifted_output : (server : Server) (end : ℚ) (V : List ServerStep) (C : Class) (α : ℚ → Ext) (d s t : ℚ) → IsLawfulView server end V
    → KeepsArrivals C α V → int (pos 0) ≤ℚ d
    → (s ≤ℚ end → arrived C V (s -ℚ d) ≤ℚ departed C V s) → s ≤ℚ t → Fin (departed_in C V s t) ≤ₑ shifted α (Fin d) (t -ℚ s)
shifted_output server end V C α d s t lawful keeps d_on lag h = elim (le_or_lt s end) [
  | inl l ↦ from_lag server end V C α d s t lawful keeps d_on (lag l) h
  | inr l ↦ past_run server end V C α d s t lawful keeps d_on l h
]

-- ---- each flow of a queue: it leaves with its curve, moved by the queue's horizontal deviation
pub part_output_always : (server : Server) (end : ℚ) (V : List ServerStep) (Q f : Class) (q : ℕ) (α β own : ℚ → Ext) (d : Ext) (s t : ℚ) → IsLawfulView server end V → IsAlwaysOfQueue Q q → IsAlwaysPart f Q → KeepsArrivals Q α V → KeepsArrivals f own V
    → Serves Q β end V → IsRising β → IsHorizontalDeviation α β d → s ≤ℚ t → Fin (departed_in f V s t) ≤ₑ shifted own d (t -ℚ s)
part_output_always server end V Q f q α β own Inf s t lawful of_q part keeps keeps_own serves rises dev h = tt
part_output_always server end V Q f q α β own (Fin d) s t lawful of_q part keeps keeps_own serves rises dev h =
    let on = deviation_nonneg α β d dev in
    shifted_output server end V f own d s t lawful keeps_own on (λ l. lag_from_service server end V Q f q α β d lawful of_q part serves keeps on (within_deviation α β d rises dev) s l) h

-- ---- a packet that is there at s leaves at s or later
abbrev of_packet : ℕ → Class
of_packet n c = c.packet == n

leaving_some : (cards : List Card) (busy : ℚ) (under : Option Under) (c : Card) (t : ℚ) → IsSoundFor cards busy under → MayLeave under c t
    → int (pos 0) <ℚ size c
leaving_some cards busy None c t h m = absurd m
leaving_some cards busy (Some u) c t h m =
    let s = h.started in
    let w = h.is_span.some_work in
    let e = m.worked_off in
    with3 u.before u.last.bits (size c) (λ c. omega (arith, c.le, c.lt, c.same))

late_gone : (server : Server) (end : ℚ) (σ : ServerState) (V : List ServerStep) (n : ℕ) (s : ℚ) → AllAllowed server end σ V → IsSound σ
    → s ≤ℚ end → total (leaves (of_packet n) (before s)) V ≤ℚ int (pos 0) → s ≤ℚ gone_at end n V
late_gone server end σ [] n s a h l k = l
late_gone server end σ (Arrives c t ∷ V) n s a h l k = late_gone server end (next server.discipline σ (Arrives c t)) V n s a.1 (sound_next server end σ (Arrives c t) a.0 h) l (with1 (total (leaves (of_packet n) (before s)) V) (λ c. omega (arith, c.le, c.lt, c.same)))
late_gone server end σ (Works c b f w ∷ V) n s a h l k = late_gone server end (next server.discipline σ (Works c b f w)) V n s a.1 (sound_next server end σ (Works c b f w) a.0 h) l (with1 (total (leaves (of_packet n) (before s)) V) (λ c. omega (arith, c.le, c.lt, c.same)))
late_gone server end σ (Visits q t ∷ V) n s a h l k = late_gone server end (next server.discipline σ (Visits q t)) V n s a.1 (sound_next server end σ (Visits q t) a.0 h) l (with1 (total (leaves (of_packet n) (before s)) V) (λ c. omega (arith, c.le, c.lt, c.same)))
late_gone server end σ (Leaves c t ∷ V) n s a h l k =
    let some = leaving_some σ.inside σ.busy σ.under c t h a.0.1 in
    let rest_on = left_nonneg (of_packet n) (before s) V in
    let term = leaves (of_packet n) (before s) (Leaves c t) in
    let rest = total (leaves (of_packet n) (before s)) V in
    elim (cases_Bool (c.packet == n)) [
      | inr e ↦
          let none = when_false _ (size c) (and_left (c.packet == n) (before s t) e) in
          rw e (late_gone server end (next server.discipline σ (Leaves c t)) V n s a.1 (sound_next server end σ (Leaves c t) a.0 h) l (with2 term rest (λ c. omega (arith, c.le, c.lt, c.same))))
      | inl e ↦ rw e (elim (le_or_lt s t) [
        | inl m ↦ m
        | inr m ↦
            let one = when_true _ (size c) (and_from (c.packet == n) (before s t) e (lt_q_out _ _ m)) in
            absurd (with3 term rest (size c) (λ c. omega (arith, c.le, c.lt, c.same)))
      ])
    ]

-- ---- it arrives once
arrival_at : (P : Card → Type 0) (front back : List ServerStep) (p : Card) (u : ℚ) → EachArrival P (front ++ Arrives p u ∷ back) → P p
arrival_at P [] back p u h = h.0
arrival_at P (Arrives c t ∷ front) back p u h = arrival_at P front back p u h.1
arrival_at P (Works c a b w ∷ front) back p u h = arrival_at P front back p u h
arrival_at P (Leaves c t ∷ front) back p u h = arrival_at P front back p u h
arrival_at P (Visits q t ∷ front) back p u h = arrival_at P front back p u h

abbrev IsOther : Card → Card → Type 0
IsOther p d = d.packet ≢ p.packet

once : (front back : List ServerStep) (p : Card) (u : ℚ) → NoneTwice (front ++ Arrives p u ∷ back)
    → EachArrival (IsOther p) front × EachArrival (IsOther p) back
once [] back p u h = (tt, h.0)
once (Arrives c t ∷ front) back p u h =
    let k = once front back p u h.1 in
    let other = arrival_at (IsOther c) front back p u h.0 in
    ((λ e. other (sym e), k.0), k.1)
once (Works c a b w ∷ front) back p u h = once front back p u h
once (Leaves c t ∷ front) back p u h = once front back p u h
once (Visits q t ∷ front) back p u h = once front back p u h

none_of : (p : Card) (test : ℚ → Bool) (V : List ServerStep) → EachArrival (IsOther p) V
    → total (arrives (of_packet p.packet) test) V ≡ int (pos 0)
none_of p test V h = none_arrive (of_packet p.packet) test V (arrivals_map (IsOther p) (λ d. of_packet p.packet d ≡ false) (λ d k. ne_eqb d.packet p.packet k) V h)

-- ... so no more of its number arrives than itself
only_itself : (front back : List ServerStep) (p : Card) (u : ℚ) (test : ℚ → Bool) → NoneTwice (front ++ Arrives p u ∷ back)
    → total (arrives (of_packet p.packet) test) (front ++ Arrives p u ∷ back) ≤ℚ size p
only_itself front back p u test h =
    let k = once front back p u h in
    let K = of_packet p.packet in
    let parts = total-append (arrives K test) front (Arrives p u ∷ back) in
    let one = when_most (K p && test u) (size p) (size_nonneg p) in
    let before_p = none_of p test front k.0 in
    let after_p = none_of p test back k.1 in
    with5 (total (arrives K test) (front ++ Arrives p u ∷ back)) (total (arrives K test) front) (arrives K test (Arrives p u)) (total (arrives K test) back) (size p) (λ c. omega (arith, c.le, c.lt, c.same))

sum_part : (f K : Class) (cs : List Card) → IsAlwaysPart f K → sum_of f cs ≤ℚ sum_of K cs
sum_part f K [] part = le_refl (int (pos 0))
sum_part f K (c ∷ cs) part =
    let one = when_rises true (f c) (K c) (size c) (size_nonneg c) (part c) in
    let rest = sum_part f K cs part in
    with4 (when (f c) (size c)) (when (K c) (size c)) (sum_of f cs) (sum_of K cs) (λ c. omega (arith, c.le, c.lt, c.same))

-- none of its number has left before s
none_of_it_left : (server : Server) (end : ℚ) (V : List ServerStep) (C : Class) (s : ℚ) → IsLawfulView server end V → NoneTwice V
    → (o : Oldest V C s) → departed (of_packet o.p.packet) V s ≤ℚ int (pos 0)
none_of_it_left server end V C s lawful twice o =
    let K = of_packet o.p.packet in
    let f : Class = λ c. C c && (c.packet == o.p.packet) in
    let part : IsAlwaysPart f C = λ c h. (and_parts (C c) (c.packet == o.p.packet) h).0 in
    let own : IsAlwaysPart f K = λ c h. (and_parts (C c) (c.packet == o.p.packet) h).1 in
    let split = subst NoneTwice o.is.joined twice in
    let none_front = none_arrive f (upto o.u) o.front (arrivals_map (IsOther o.p) (λ d. f d ≡ false) (λ d k. and_right (C d) _ (ne_eqb d.packet o.p.packet k)) o.front (once o.front o.back o.p o.u split).0) in
    let left = o.is.left f part in
    let came = o.is.came_upto f left in
    let counted = when_true (f o.p) (size o.p) (and_from (C o.p) (o.p.packet == o.p.packet) o.is.counted (eq-eqb o.p.packet o.p.packet refl)) in
    let later = upto_arrived f V o.u s o.is.earlier in
    let few : arrived K V s ≤ℚ size o.p = subst (λ (W : List ServerStep). total (arrives K (before s)) W ≤ℚ size o.p) (sym o.is.joined) (only_itself o.front o.back o.p o.u (before s) split) in
    let a = at_before server end V s lawful in
    let I = (after server.discipline (start server.discipline) a.at.front).inside in
    enough (sum_of f I) (sum_of K I) (departed f V s) (departed K V s) (arrived f V s) (arrived K V s) (arrived_upto f V o.u) (size o.p)
    (a.queue f) (a.queue K) (sum_part f K I own) (left ∙ none_front) (at_least (departed f V s) (when (f o.p) (size o.p)) (size o.p) (arrived_upto f V o.u) came counted) later few
  where
    at_least : (L w z A : ℚ) → L +ℚ w ≤ℚ A → w ≡ z → L +ℚ z ≤ℚ A
    at_least L w z A h e = with4 L w z A (λ c. omega (arith, c.le, c.lt, c.same))

    enough : (If IK Lf LK Af AK Au z : ℚ) → If +ℚ Lf ≡ int (pos 0) +ℚ Af → IK +ℚ LK ≡ int (pos 0) +ℚ AK → If ≤ℚ IK → Lf ≡ int (pos 0)
        → Lf +ℚ z ≤ℚ Au → Au ≤ℚ Af → AK ≤ℚ z → LK ≤ℚ int (pos 0)
    enough If IK Lf LK Af AK Au z e1 e2 h e3 k l m = with8 If IK Lf LK Af AK Au z (λ c. omega (arith, c.le, c.lt, c.same))

there_until : (server : Server) (end : ℚ) (V : List ServerStep) (C : Class) (s : ℚ) → IsLawfulView server end V → NoneTwice V → s ≤ℚ end
    → (o : Oldest V C s) → s ≤ℚ gone_at end o.p.packet o.back
there_until server end V C s lawful twice l o =
    let d = server.discipline in
    let K = of_packet o.p.packet in
    let none = none_of_it_left server end V C s lawful twice o in
    let all = allowed-append server end (start d) o.front (Arrives o.p o.u ∷ o.back) (subst (AllAllowed server end (start d)) o.is.joined lawful.allowed) in
    let sound = sound_next server end (after d (start d) o.front) (Arrives o.p o.u) all.1.0 (sound_after server end (start d) o.front all.0 tt) in
    let parts : departed K V s ≡ total (leaves K (before s)) o.front +ℚ (int (pos 0) +ℚ total (leaves K (before s)) o.back) =
    ap (total (leaves K (before s))) o.is.joined ∙ total-append (leaves K (before s)) o.front (Arrives o.p o.u ∷ o.back) in
    let front_on = left_nonneg K (before s) o.front in
    late_gone server end (next d (after d (start d) o.front) (Arrives o.p o.u)) o.back o.p.packet s all.1.1 sound l
    (with3 (departed K V s) (total (leaves K (before s)) o.front) (total (leaves K (before s)) o.back) (λ c. omega (arith, c.le, c.lt, c.same)))

-- ---- its delay is one of those
pub delay_at : (C : Class) (end : ℚ) (front back : List ServerStep) (p : Card) (u : ℚ) (most : Ext) → C p ≡ true
    → AreAtMost most (hop_delays C end (front ++ Arrives p u ∷ back)) → Fin (gone_at end p.packet back -ℚ u) ≤ₑ most
delay_at C end [] back p u most e h = kept_first (C p) (gone_at end p.packet back -ℚ u) (hop_delays C end back) most e h
delay_at C end (Arrives c t ∷ front) back p u most e h = delay_at C end front back p u most e (kept_rest (C c) _ (hop_delays C end (front ++ Arrives p u ∷ back)) most h)
delay_at C end (Works c a b w ∷ front) back p u most e h = delay_at C end front back p u most e h
delay_at C end (Leaves c t ∷ front) back p u most e h = delay_at C end front back p u most e h
delay_at C end (Visits q t ∷ front) back p u most e h = delay_at C end front back p u most e h

-- what arrived d before s has left before s, where no packet stays longer than d
lag_from_delays : (server : Server) (end : ℚ) (V : List ServerStep) (C : Class) (q : ℕ) (d s : ℚ) → IsLawfulView server end V → NoneTwice V
    → IsAlwaysOfQueue C q → int (pos 0) ≤ℚ d → AreAtMost (Fin d) (hop_delays C end V) → s ≤ℚ end → arrived C V (s -ℚ d) ≤ℚ departed C V s
lag_from_delays server end V C q d s lawful twice of_q d_on most l = elim (oldest server end V C q s lawful of_q) [
  | inl empty ↦
      let e = empty.all_left C (λ _ h. h) in
      let k = arrived_rises C V (s -ℚ d) s (with2 s d (λ c. omega (arith, c.le, c.lt, c.same))) in
      with3 (arrived C V (s -ℚ d)) (arrived C V s) (departed C V s) (λ c. omega (arith, c.le, c.lt, c.same))
  | inr o ↦
      let stay = there_until server end V C s lawful twice l o in
      let short : gone_at end o.p.packet o.back -ℚ o.u ≤ℚ d = delay_at C end o.front o.back o.p o.u (Fin d) o.is.counted (subst (λ (W : List ServerStep). AreAtMost (Fin d) (hop_delays C end W)) o.is.joined most) in
      le_trans (arrived_rises C V (s -ℚ d) o.u (with4 s d o.u (gone_at end o.p.packet o.back) (λ c. omega (arith, c.le, c.lt, c.same)))) (o.is.came C (λ _ h. h))
]

pub delay_output_always : (server : Server) (end : ℚ) (V : List ServerStep) (C : Class) (q : ℕ) (α : ℚ → Ext) (d : Ext) (s t : ℚ)
    → IsLawfulView server end V → NoneTwice V → IsAlwaysOfQueue C q → KeepsArrivals C α V
    → Fin (int (pos 0)) ≤ₑ d → AreAtMost d (hop_delays C end V) → s ≤ℚ t → Fin (departed_in C V s t) ≤ₑ shifted α d (t -ℚ s)
delay_output_always server end V C q α Inf s t lawful twice of_q keeps on most h = tt
delay_output_always server end V C q α (Fin d) s t lawful twice of_q keeps on most h =
    shifted_output server end V C α d s t lawful keeps on (λ l. lag_from_delays server end V C q d s lawful twice of_q on most l) h
