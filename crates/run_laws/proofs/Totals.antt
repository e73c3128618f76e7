-- A queue keeps the sum of the curves of its flows.
use Rattle.std.specs.Prelude.{◌≡◌, ◌<◌, ℕ, zero, suc, pos, ◌==◌, ltb, Bool, true, false, ◌&&◌, ◌||◌, List, [], ◌∷◌, length, get_or}
use Rattle.std.proofs.Common.{arith, sym, ap, ◌∙◌, refl, inl, inr, subst}
use Rattle.std.proofs.lemmas.Bool.{cases_Bool, cases_eq, cases_lt, eqb-true, eq-eqb, ne_eqb, lt-ltb, le-ltb, and_right, and_from, and_parts, both_ways}
use Rattle.rational.specs.Rational.{ℚ, int, ◌+ℚ◌, ◌-ℚ◌, ◌≤ℚ◌}
use Rattle.rational.specs.Extended.{Ext, ◌+ₑ◌}
use Rattle.rational.specs.declared.Extended.TheVariants.{Fin}
use Rattle.rational.proofs.Laws.{le_refl}
use Rattle.rational.proofs.ExtendedOrder.{le_ext_trans, add_le_ext}
use Rattle.rational.proofs.Linear.{with3}
use Rattle.run_laws.specs.Cards.{Card, Class, of_queue, of_flow, size, ServerStep, Arrives, Works, Leaves, Visits}
use Rattle.run_laws.proofs.Always.{AreAlwaysParts}
use Rattle.run_laws.specs.Counts.{when, arrives, within, arrived_in}
use Rattle.run_laws.specs.Premises.{EachArrival, KeepsArrivals}
use Rattle.run_laws.specs.Routes.{Hop, Route, Routes, route_of, queue_at, PassesServer}
use Rattle.run_laws.specs.Totals.{is_on, is_in, total_of, total_curve}
use Rattle.run_laws.proofs.Sums.{when_false, when_nonneg, total_le, each_all}
use Rattle.run_laws.proofs.Sizes.{size_nonneg}
use Rattle.run_laws.proofs.Parts.{arrivals_parts}
use Rattle.run_laws.proofs.Arrivals.{arrivals_map, same_arrivals, none_arrive, IsPassing}

-- a path that passes the server passes it in the queue that it has there
on_its_queue : (s : ℕ) (hs : List Hop) → PassesServer s hs → is_on s (queue_at s hs) hs ≡ true
on_its_queue s [] p = absurd p
on_its_queue s (h ∷ hs) p = elim (cases_Bool (h.server == s)) [
  | inl e ↦ rw e (eq-eqb h.queue h.queue refl)
  | inr e ↦
      let its : queue_at s (h ∷ hs) ≡ queue_at s hs = rw e refl in
      let on : is_on s (queue_at s hs) (h ∷ hs) ≡ is_on s (queue_at s hs) hs = rw e refl in
      ap (λ (k : ℕ). is_on s k (h ∷ hs)) its ∙ on ∙ on_its_queue s hs (rest e p)
]
  where
    rest : (h.server == s) ≡ false → PassesServer s (h ∷ hs) → PassesServer s hs
    rest e (inl same) = absurd (both_ways (h.server == s) e (eq-eqb h.server s same))
    rest e (inr later) = later

-- a live flow is one of the network's
in_range : (flows : List Route) (i : ℕ) → (get_or flows i record { live = false; hops = [] }).live ≡ true → i < length flows
in_range [] i h = absurd (cc)
in_range (r ∷ flows) zero h = omega arith
in_range (r ∷ flows) (suc i) h = let k = in_range flows i h in omega arith

-- a packet that arrives in queue q is of a flow of that queue
pub its_flow_is_in : (net : Routes) (packet : ℕ → ℕ) (s q : ℕ) (c : Card) → IsPassing net packet s c → c.queue ≡ q
    → is_in net s q c.flow ≡ true
its_flow_is_in net packet s q c p e =
    and_from (route_of net c.flow).live (is_on s q (route_of net c.flow).hops) p.is_live
    (subst (λ (k : ℕ). is_on s k (route_of net c.flow).hops ≡ true) (sym p.its_queue ∙ e) (on_its_queue s (route_of net c.flow).hops p.passes))

-- ---- the packets of queue q, of the first n flows, and of the n-th
abbrev first_flows : ℕ → ℕ → Class
first_flows q n c = (c.queue == q) && ltb c.flow n

abbrev own_flow : ℕ → ℕ → Class
own_flow q n c = (c.queue == q) && (c.flow == n)

flow_parts : (q n : ℕ) → AreAlwaysParts (first_flows q (suc n)) (own_flow q n) (first_flows q n)
flow_parts q n = record { of_one = λ c. one (c.queue == q) c.flow; apart = λ c. two (c.queue == q) c.flow }
  where
    one : (b : Bool) (f : ℕ) → (b && ltb f (suc n)) ≡ ((b && (f == n)) || (b && ltb f n))
    one false f = refl
    one true f = elim (cases_lt f n) [
      | inl l ↦ rw (lt-ltb f (suc n) (omega arith), lt-ltb f n l, ne_eqb f n (λ e. omega arith)) refl
      | inr l ↦ elim (cases_eq f n) [
        | inl e ↦ rw (lt-ltb f (suc n) (omega arith), eq-eqb f n e) refl
        | inr e ↦ rw (le-ltb f (suc n) (omega arith), le-ltb f n l, ne_eqb f n e) refl
      ]
    ]

    two : (b : Bool) (f : ℕ) → ((b && (f == n)) && (b && ltb f n)) ≡ false
    two false f = refl
    two true f = elim (cases_eq f n) [
      | inl e ↦ rw (eq-eqb f n e, le-ltb f n (omega arith)) refl
      | inr e ↦ rw (ne_eqb f n e) refl
    ]

-- a part keeps what the flow keeps
own_step : (q n : ℕ) (p : ℚ → Bool) (x : ServerStep) → arrives (own_flow q n) p x ≤ℚ arrives (of_flow n) p x
own_step q n p (Arrives c t) = fewer (c.queue == q) (c.flow == n) (p t) (size c) (size_nonneg c)
  where
    fewer : (a b d : Bool) (x : ℚ) → int (pos 0) ≤ℚ x → when ((a && b) && d) x ≤ℚ when (b && d) x
    fewer true b d x h = le_refl (when (b && d) x)
    fewer false b d x h = rw (when_false false x refl) (when_nonneg (b && d) x h)
own_step q n p (Works c a b w) = le_refl (int (pos 0))
own_step q n p (Leaves c t) = le_refl (int (pos 0))
own_step q n p (Visits r t) = le_refl (int (pos 0))

-- ---- the first n flows of the queue keep the sum of their curves
record FlowsKeep (net : Routes) (packet : ℕ → ℕ) (s q : ℕ) (α : ℕ → ℚ → Ext) (V : List ServerStep) : Type 0 where
  passing : EachArrival (IsPassing net packet s) V
  each : (i : ℕ) → is_in net s q i ≡ true → KeepsArrivals (of_flow i) (α i) V

first_keep : (net : Routes) (packet : ℕ → ℕ) (s q n : ℕ) (α : ℕ → ℚ → Ext) (V : List ServerStep) → FlowsKeep net packet s q α V
    → KeepsArrivals (first_flows q n) (total_of net s q α n) V
first_keep net packet s q zero α V h a b l =
    let none = none_arrive (first_flows q zero) (within a b) V (arrivals_map (IsPassing net packet s) (λ c. first_flows q zero c ≡ false) (λ c p. and_right (c.queue == q) _ (le-ltb c.flow zero (omega arith))) V h.passing) in
    rw none (le_refl (int (pos 0)))
first_keep net packet s q (suc n) α V h a b l =
    let rest = first_keep net packet s q n α V h a b l in
    let parts = arrivals_parts (first_flows q (suc n)) (own_flow q n) (first_flows q n) (within a b) V (flow_parts q n) in
    elim (cases_Bool (is_in net s q n)) [
      | inl e ↦
          let less = total_le (arrives (own_flow q n) (within a b)) (arrives (of_flow n) (within a b)) V (each_all (λ x. arrives (own_flow q n) (within a b) x ≤ℚ arrives (of_flow n) (within a b) x) (own_step q n (within a b)) V) in
          let own = le_ext_trans (Fin (arrived_in (own_flow q n) V a b)) (Fin (arrived_in (of_flow n) V a b)) (α n (b -ℚ a)) less (h.each n e a b l) in
          rw e (le_ext_trans (Fin (arrived_in (first_flows q (suc n)) V a b)) (Fin (arrived_in (first_flows q n) V a b) +ₑ Fin (arrived_in (own_flow q n) V a b)) (total_of net s q α n (b -ℚ a) +ₑ α n (b -ℚ a))
          (turned (arrived_in (first_flows q (suc n)) V a b) (arrived_in (own_flow q n) V a b) (arrived_in (first_flows q n) V a b) parts)
          (add_le_ext (Fin (arrived_in (first_flows q n) V a b)) (total_of net s q α n (b -ℚ a)) (Fin (arrived_in (own_flow q n) V a b)) (α n (b -ℚ a)) rest own))
      | inr e ↦
          let none = none_arrive (own_flow q n) (within a b) V (arrivals_map (IsPassing net packet s) (λ c. own_flow q n c ≡ false) (not_own e) V h.passing) in
          let same : arrived_in (first_flows q (suc n)) V a b ≤ℚ arrived_in (first_flows q n) V a b = with3 (arrived_in (first_flows q (suc n)) V a b) (arrived_in (own_flow q n) V a b) (arrived_in (first_flows q n) V a b) (λ c. omega (arith, c.le, c.lt, c.same)) in
          rw e (le_ext_trans (Fin (arrived_in (first_flows q (suc n)) V a b)) (Fin (arrived_in (first_flows q n) V a b)) (total_of net s q α n (b -ℚ a)) same rest)
    ]
  where
    turned : (S O F : ℚ) → S ≡ O +ℚ F → S ≤ℚ F +ℚ O
    turned S O F e = with3 S O F (λ c. omega (arith, c.le, c.lt, c.same))

    not_own : is_in net s q n ≡ false → (c : Card) → IsPassing net packet s c → own_flow q n c ≡ false
    not_own e c p = elim (cases_Bool (own_flow q n c)) [
      | inr other ↦ other
      | inl is_own ↦
          let both = and_parts (c.queue == q) (c.flow == n) is_own in
          let is = its_flow_is_in net packet s q c p (eqb-true c.queue q both.0) in
          absurd (both_ways (is_in net s q n) e (subst (λ (i : ℕ). is_in net s q i ≡ true) (eqb-true c.flow n both.1) is))
    ]

-- so does the queue
pub queue_keeps_total : (net : Routes) (packet : ℕ → ℕ) (s q : ℕ) (α : ℕ → ℚ → Ext) (V : List ServerStep)
    → EachArrival (IsPassing net packet s) V → ((i : ℕ) → is_in net s q i ≡ true → KeepsArrivals (of_flow i) (α i) V)
    → KeepsArrivals (of_queue q) (total_curve net s q α) V
queue_keeps_total net packet s q α V passing each a b l =
    let all = first_keep net packet s q (length net.flows) α V record { passing = passing; each = each } a b l in
    let same = same_arrivals (of_queue q) (first_flows q (length net.flows)) (within a b) V
    (arrivals_map (IsPassing net packet s) (λ c. (c.queue == q) ≡ ((c.queue == q) && ltb c.flow (length net.flows))) (λ c p. known (c.queue == q) (ltb c.flow (length net.flows)) (lt-ltb c.flow (length net.flows) (in_range net.flows c.flow p.is_live))) V passing) in
    rw same all
  where
    known : (x y : Bool) → y ≡ true → x ≡ (x && y)
    known true y e = sym e
    known false y e = refl

-- a path that is on a queue of the server passes the server
pub on_passes : (s q : ℕ) (hs : List Hop) → is_on s q hs ≡ true → PassesServer s hs
on_passes s q [] h = absurd (cc)
on_passes s q (x ∷ hs) h = elim (cases_Bool (x.server == s)) [
  | inl e ↦ inl (eqb-true x.server s e)
  | inr e ↦ inr (on_passes s q hs (rw e at h))
]
