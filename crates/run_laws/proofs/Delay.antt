-- No packet of a class of one queue stays longer than the horizontal deviation.
use Rattle.std.specs.Prelude.{◌≡◌, ℕ, pos, ◌==◌, Bool, true, false, List, [], ◌∷◌, ◌++◌}
use Rattle.std.proofs.Common.{arith, sym, ap, ◌∙◌, refl, inl, inr, subst, append_assoc}
use Rattle.std.proofs.lemmas.Bool.{cases_Bool, and_from}
use Rattle.rational.specs.Rational.{ℚ, int, ◌+ℚ◌, ◌-ℚ◌, ◌≤ℚ◌, ◌<ℚ◌}
use Rattle.rational.specs.Extended.{Ext, ◌≤ₑ◌, ◌+ₑ◌}
use Rattle.rational.specs.declared.Extended.TheVariants.{Fin, Inf}
use Rattle.rational.proofs.Laws.{le_refl, le_trans, le_of_lt, le_or_lt, between}
use Rattle.rational.proofs.Linear.{with2, with3, with4, with5}
use Rattle.run_laws.specs.Cards.{Card, size, Class, ServerStep, Arrives, Works, Leaves, Visits}
use Rattle.run_laws.proofs.Always.{IsAlwaysOfQueue}
use Rattle.run_laws.specs.Servers.{Server, ServerState, start}
use Rattle.run_laws.specs.Next.{next, after}
use Rattle.run_laws.specs.Allows.{AllAllowed, IsLawfulView}
use Rattle.run_laws.specs.Counts.{total, arrives, upto, arrived, arrived_upto, arrived_in, worked, departed}
use Rattle.run_laws.specs.Premises.{KeepsArrivals}
use Rattle.min_plus.specs.Functions.{IsRising}
use Rattle.run_laws.specs.Delays.{gone_at, kept, hop_delays, AreAtMost}
use Rattle.min_plus.proofs.Deviations.{Within, within_deviation, deviation_nonneg}
use Rattle.run_laws.proofs.Levels.{finite_below}
use Rattle.rational.proofs.ExtendedOrder.{le_ext_trans}
use Rattle.min_plus.specs.Deviations.{IsHorizontalDeviation}
use Rattle.run_laws.specs.Serves.{Serves}
use Rattle.rational.proofs.Over.{le_q_out}
use Rattle.run_laws.proofs.Sums.{when_true, total-append}
use Rattle.run_laws.proofs.Counts.{arrived_in_is, upto_arrived, arrivals_nonneg}
use Rattle.run_laws.proofs.Orders.{left_worked}
use Rattle.run_laws.proofs.Waiting.{not_worked, allowed-append}

-- ---- the core: while a packet is there, the work is below what has come up to it
pub record IsDelayed (A L W : ℚ → ℚ) (α γ : ℚ → Ext) (end u gone bits moved delay : ℚ) : Type 0 where
  -- the counts are served by γ, moved right
  pub served : (t : ℚ) → t ≤ℚ end → (s : ℚ) × (s ≤ℚ t -ℚ moved) × (A s ≤ℚ L t) × ((Fin (A s) +ₑ γ (t -ℚ moved -ℚ s)) ≤ₑ Fin (W t))
  pub left_worked : (t : ℚ) → L t ≤ℚ W t
  -- what came up to the packet is at most what came before s, and a window of the curve
  pub from_curve : (s : ℚ) → s ≤ℚ u → Fin (bits -ℚ A s) ≤ₑ α (u -ℚ s)
  pub later : (s : ℚ) → u <ℚ s → bits ≤ℚ A s
  pub below : (t : ℚ) → u ≤ℚ t → t <ℚ gone → W t <ℚ bits
  pub in_run : gone ≤ℚ end
  pub moved_on : int (pos 0) ≤ℚ moved
  pub delay_on : int (pos 0) ≤ℚ delay
  pub within : Within α γ delay

-- a time after the bound at which it is still there
too_late : (A L W : ℚ → ℚ) (α γ : ℚ → Ext) (end u gone bits moved delay : ℚ) (t s : ℚ) → IsDelayed A L W α γ end u gone bits moved delay
    → u +ℚ delay +ℚ moved <ℚ t → t <ℚ gone → A s ≤ℚ L t → (Fin (A s) +ₑ γ (t -ℚ moved -ℚ s)) ≤ₑ Fin (W t) → ⊥
too_late A L W α γ end u gone bits moved delay t s h above before_gone left up =
    let on_moved = h.moved_on in
    let on_delay = h.delay_on in
    let after_u : u ≤ℚ t = with4 u t delay moved (λ c. omega (arith, c.le, c.lt, c.same)) in
    let few = h.below t after_u before_gone in
    let order = h.left_worked t in
    elim (le_or_lt s u) [
      | inr m ↦
          let most = h.later s m in
          with4 bits (A s) (L t) (W t) (λ c. omega (arith, c.le, c.lt, c.same))
      | inl m ↦
          let x_on : int (pos 0) ≤ℚ u -ℚ s = with2 u s (λ c. omega (arith, c.le, c.lt, c.same)) in
          let d_on : delay <ℚ t -ℚ moved -ℚ u = with4 u t delay moved (λ c. omega (arith, c.le, c.lt, c.same)) in
          let sum : (u -ℚ s) +ℚ (t -ℚ moved -ℚ u) ≡ t -ℚ moved -ℚ s = with4 u t s moved (λ c. omega (arith, c.le, c.lt, c.same)) in
          let most = le_ext_trans (Fin (bits -ℚ A s)) (α (u -ℚ s)) (γ ((u -ℚ s) +ℚ (t -ℚ moved -ℚ u))) (h.from_curve s m) (h.within (u -ℚ s) (t -ℚ moved -ℚ u) x_on d_on) in
          let (g, e, work) = finite_below (A s) (W t) (γ (t -ℚ moved -ℚ s)) up in
          let up_to : bits -ℚ A s ≤ℚ g = subst (λ (x : Ext). Fin (bits -ℚ A s) ≤ₑ x) e (subst (λ (x : ℚ). Fin (bits -ℚ A s) ≤ₑ γ x) sum most) in
          with4 bits (A s) (W t) g (λ c. omega (arith, c.le, c.lt, c.same))
    ]

pub delay_core : (A L W : ℚ → ℚ) (α γ : ℚ → Ext) (end u gone bits moved delay : ℚ) → IsDelayed A L W α γ end u gone bits moved delay
    → gone -ℚ u ≤ℚ delay +ℚ moved
delay_core A L W α γ end u gone bits moved delay h = elim (le_or_lt (gone -ℚ u) (delay +ℚ moved)) [
  | inl l ↦ l
  | inr l ↦
      let room : u +ℚ delay +ℚ moved <ℚ gone = with4 u gone delay moved (λ c. omega (arith, c.le, c.lt, c.same)) in
      let m = between (u +ℚ delay +ℚ moved) gone room in
      let in_time : m.0 ≤ℚ end = le_trans (le_of_lt m.2) h.in_run in
      let s = h.served m.0 in_time in
      absurd (too_late A L W α γ end u gone bits moved delay m.0 s.0 h m.1 m.2 s.2 s.3)
]

-- ---- one packet
-- all that came up to the packet has come by its time
upto_packet : (C : Class) (V front back : List ServerStep) (p : Card) (u : ℚ) → V ≡ front ++ Arrives p u ∷ back → C p ≡ true
    → total (arrives C (upto u)) front +ℚ size p ≤ℚ arrived_upto C V u
upto_packet C V front back p u joined counted =
    let all : arrived_upto C V u ≡ total (arrives C (upto u)) front +ℚ (arrives C (upto u) (Arrives p u) +ℚ total (arrives C (upto u)) back) =
    ap (total (arrives C (upto u))) joined ∙ total-append (arrives C (upto u)) front (Arrives p u ∷ back) in
    let one = when_true _ (size p) (and_from (C p) (upto u u) counted (le_q_out _ _ (le_refl u))) in
    let rest = arrivals_nonneg C (upto u) back in
    with5 (arrived_upto C V u) (total (arrives C (upto u)) front) (arrives C (upto u) (Arrives p u)) (size p) (total (arrives C (upto u)) back) (λ c. omega (arith, c.le, c.lt, c.same))

pub gone_most : (server : Server) (end : ℚ) (σ : ServerState) (V : List ServerStep) (n : ℕ) → AllAllowed server end σ V
    → gone_at end n V ≤ℚ end
gone_most server end σ [] n a = le_refl end
gone_most server end σ (Arrives c t ∷ V) n a = gone_most server end (next server.discipline σ (Arrives c t)) V n a.1
gone_most server end σ (Works c f b w ∷ V) n a = gone_most server end (next server.discipline σ (Works c f b w)) V n a.1
gone_most server end σ (Visits q t ∷ V) n a = gone_most server end (next server.discipline σ (Visits q t)) V n a.1
gone_most server end σ (Leaves c t ∷ V) n a = elim (cases_Bool (c.packet == n)) [
  | inl e ↦ rw e a.0.0.in_run
  | inr e ↦ rw e (gone_most server end (next server.discipline σ (Leaves c t)) V n a.1)
]

-- ... which is there up to `gone`
pub stay_at_most : (server : Server) (end : ℚ) (V front back : List ServerStep) (C : Class) (p : Card) (u gone : ℚ) (α β : ℚ → Ext) (delay : ℚ) → IsLawfulView server end V → V ≡ front ++ Arrives p u ∷ back → C p ≡ true
    → Serves C β end V → KeepsArrivals C α V → int (pos 0) ≤ℚ delay → Within α β delay
    → ((t : ℚ) → u ≤ℚ t → t <ℚ gone → worked C V t <ℚ total (arrives C (upto u)) front +ℚ size p) → gone ≤ℚ end → gone -ℚ u ≤ℚ delay
stay_at_most server end V front back C p u gone α β delay lawful joined counted serves keeps on within below in_run =
    let bits = total (arrives C (upto u)) front +ℚ size p in
    let upto_p = upto_packet C V front back p u joined counted in
    let core = delay_core (arrived C V) (departed C V) (worked C V) α β end u gone bits (int (pos 0)) delay record {
      served = λ t l. let (s, is) = serves t l in (
        s,
        let e = is.earlier in with2 s t (λ c. omega (arith, c.le, c.lt, c.same)),
        is.left,
        let same : t -ℚ s ≡ t -ℚ int (pos 0) -ℚ s = with2 s t (λ c. omega (arith, c.le, c.lt, c.same)) in
            subst (λ (x : ℚ). (Fin (arrived C V s) +ₑ β x) ≤ₑ Fin (worked C V t)) same is.kept_up,
      );
      left_worked = λ t. left_worked server end V C t lawful;
      from_curve = λ s l.
          let e = arrived_in_is C V s u l in
          let k : bits -ℚ arrived C V s ≤ℚ arrived_in C V s u = with4 bits (arrived C V s) (arrived_in C V s u) (arrived_upto C V u) (λ c. omega (arith, c.le, c.lt, c.same)) in
          le_ext_trans (Fin (bits -ℚ arrived C V s)) (Fin (arrived_in C V s u)) (α (u -ℚ s)) k (keeps s u l);
      later = λ s l. le_trans upto_p (upto_arrived C V u s l);
      below = below;
      in_run = in_run;
      moved_on = le_refl (int (pos 0));
      delay_on = on;
      within = within;
    } in
    with3 gone u delay (λ c. omega (arith, c.le, c.lt, c.same))

packet_delay : (server : Server) (end : ℚ) (V front back : List ServerStep) (C : Class) (q : ℕ) (p : Card) (u : ℚ) (α β : ℚ → Ext) (delay : ℚ) → IsLawfulView server end V → V ≡ front ++ Arrives p u ∷ back → IsAlwaysOfQueue C q → C p ≡ true
    → Serves C β end V → KeepsArrivals C α V → int (pos 0) ≤ℚ delay → Within α β delay → gone_at end p.packet back -ℚ u ≤ℚ delay
packet_delay server end V front back C q p u α β delay lawful joined g counted serves keeps on within =
    let d = server.discipline in
    let all = allowed-append server end (start d) front (Arrives p u ∷ back) (subst (AllAllowed server end (start d)) joined lawful.allowed) in
    stay_at_most server end V front back C p u (gone_at end p.packet back) α β delay lawful joined counted serves keeps on within
    (λ t l m. not_worked server end V front back C q p u t lawful joined g counted l m)
    (gone_most server end (next d (after d (start d) front) (Arrives p u)) back p.packet all.1.1)

-- ---- all packets
pub kept_most : (b : Bool) (x : ℚ) (xs : List ℚ) (most : Ext) → (b ≡ true → Fin x ≤ₑ most) → AreAtMost most xs
    → AreAtMost most (kept b x xs)
kept_most true x xs most f h = (f refl, h)
kept_most false x xs most f h = h

pub kept_first : (b : Bool) (x : ℚ) (xs : List ℚ) (most : Ext) → b ≡ true → AreAtMost most (kept b x xs) → Fin x ≤ₑ most
kept_first true x xs most e h = h.0
kept_first false x xs most e h = absurd (cc)

pub kept_rest : (b : Bool) (x : ℚ) (xs : List ℚ) (most : Ext) → AreAtMost most (kept b x xs) → AreAtMost most xs
kept_rest true x xs most h = h.1
kept_rest false x xs most h = h

pub each_delay : (server : Server) (end : ℚ) (V front back : List ServerStep) (C : Class) (q : ℕ) (α β : ℚ → Ext) (delay : ℚ)
    → IsLawfulView server end V → V ≡ front ++ back → IsAlwaysOfQueue C q
    → Serves C β end V → KeepsArrivals C α V → int (pos 0) ≤ℚ delay → Within α β delay → AreAtMost (Fin delay) (hop_delays C end back)
each_delay server end V front [] C q α β delay lawful joined g serves keeps on within = tt
each_delay server end V front (Arrives c t ∷ back) C q α β delay lawful joined g serves keeps on within =
    kept_most (C c) (gone_at end c.packet back -ℚ t) (hop_delays C end back) (Fin delay)
    (λ counted. packet_delay server end V front back C q c t α β delay lawful joined g counted serves keeps on within)
    (each_delay server end V (front ++ Arrives c t ∷ []) back C q α β delay lawful (joined ∙ sym (append_assoc front (Arrives c t ∷ []) back)) g serves keeps on within)
each_delay server end V front (Works c a b w ∷ back) C q α β delay lawful joined g serves keeps on within =
    each_delay server end V (front ++ Works c a b w ∷ []) back C q α β delay lawful (joined ∙ sym (append_assoc front (Works c a b w ∷ []) back)) g serves keeps on within
each_delay server end V front (Leaves c t ∷ back) C q α β delay lawful joined g serves keeps on within =
    each_delay server end V (front ++ Leaves c t ∷ []) back C q α β delay lawful (joined ∙ sym (append_assoc front (Leaves c t ∷ []) back)) g serves keeps on within
each_delay server end V front (Visits r t ∷ back) C q α β delay lawful joined g serves keeps on within =
    each_delay server end V (front ++ Visits r t ∷ []) back C q α β delay lawful (joined ∙ sym (append_assoc front (Visits r t ∷ []) back)) g serves keeps on within

pub none_above_infinity : (xs : List ℚ) → AreAtMost Inf xs
none_above_infinity [] = tt
none_above_infinity (x ∷ xs) = (tt, none_above_infinity xs)

pub delay_always : (server : Server) (end : ℚ) (V : List ServerStep) (C : Class) (q : ℕ) (α β : ℚ → Ext) (delay : Ext)
    → IsLawfulView server end V → IsAlwaysOfQueue C q → KeepsArrivals C α V → Serves C β end V
    → IsRising β → IsHorizontalDeviation α β delay → AreAtMost delay (hop_delays C end V)
delay_always server end V C q α β Inf lawful g keeps serves rises dev = none_above_infinity (hop_delays C end V)
delay_always server end V C q α β (Fin delay) lawful g keeps serves rises dev =
    each_delay server end V [] V C q α β delay lawful refl g serves keeps (deviation_nonneg α β delay dev) (within_deviation α β delay rises dev)

-- where the service never falls, one wait is enough
pub one_wait_is_enough : (α β : ℚ → Ext) (d : ℚ) → int (pos 0) ≤ℚ d → IsRising β
    → ((t : ℚ) → int (pos 0) ≤ℚ t → α t ≤ₑ β (t +ℚ d)) → Within α β d
one_wait_is_enough α β d on rises reached t wait low l =
    le_ext_trans (α t) (β (t +ℚ d)) (β (t +ℚ wait)) (reached t low)
    (rises (t +ℚ d) (t +ℚ wait) (with2 t d (λ c. omega (arith, c.le, c.lt, c.same))) (with3 t d wait (λ c. omega (arith, c.le, c.lt, c.same))))
