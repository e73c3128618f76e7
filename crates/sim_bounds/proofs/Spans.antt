-- Sums over servers, and when packets have come to a server and left it.
use Rattle.std.proofs.Common.{◌≡◌, ℕ, zero, suc, ◌<◌, List, [], ◌∷◌, length, get_or, refl, sym, ap, subst, arith, inl, inr, Some, None, Bool, true, false}
use Rattle.std.specs.Prelude.{Option, pos, nat_lt}
use Rattle.std.proofs.lemmas.Bool.{cases_lt, cases_eq}
use Rattle.std.proofs.lemmas.List.{get_or_past}
use Rattle.rational.specs.Rational.{ℚ, int, ◌+ℚ◌, ◌*ℚ◌, ◌/ℚ◌, ◌≤ℚ◌}
use Rattle.rational.proofs.Linear.{with1, with2, with3, with4, with5, with6}
use Rattle.rational.proofs.Laws.{le_refl, le_trans, le_of_lt, lt_le_trans, mul_nonneg}
use Rattle.rational.proofs.Quotients.{div_nonneg}
use Rattle.rational.proofs.MinMax.{max_q_ge_left, max_q_ge_right}
use Rattle.run_laws.specs.Cards.{whole}
use Rattle.run_laws.specs.Routes.{link_at}
use Rattle.run_laws.proofs.Sizes.{whole_nonneg}
use Rattle.net_model.specs.stated_runs.Setups.{Entering, GateTimes, StallTimes, Opening, Setup, opening_of, rate_of, packet_of, IsGateFor, IsSetup}
use Rattle.sim_bounds.specs.Horizons.{latest_of, first_time, load, gate_ratio, gate_cycle, stalled_for, work_span, span, sum_below, horizon, AreStalls, IsForward}
use Rattle.sim_bounds.proofs.OpenTime.{ratio_least}

-- ---- sums
-- f where it counts
abbrev pub counted : Bool → ℚ → ℚ
counted true x = x
counted false x = int (pos 0)

pub counted_nonneg : (b : Bool) (x : ℚ) → int (pos 0) ≤ℚ x → int (pos 0) ≤ℚ counted b x
counted_nonneg true x h = h
counted_nonneg false x h = le_refl (int (pos 0))

counted_most : (b : Bool) (x : ℚ) → int (pos 0) ≤ℚ x → counted b x ≤ℚ x
counted_most true x h = le_refl x
counted_most false x h = h

counted_more : (a b : Bool) (x : ℚ) → int (pos 0) ≤ℚ x → (a ≡ true → b ≡ true) → counted a x ≤ℚ counted b x
counted_more true true x h i = le_refl x
counted_more true false x h i = absurd (let e = i refl in cc)
counted_more false b x h i = counted_nonneg b x h

pub sum_nonneg : (f : ℕ → ℚ) (n : ℕ) → ((i : ℕ) → int (pos 0) ≤ℚ f i) → int (pos 0) ≤ℚ sum_below f n
sum_nonneg f zero h = le_refl (int (pos 0))
sum_nonneg f (suc n) h =
    let a = sum_nonneg f n h in
    let b = h n in
    with2 (sum_below f n) (f n) (λ c. omega (arith, c.le, c.lt, c.same))

pub sum_most : (f g : ℕ → ℚ) (n : ℕ) → ((i : ℕ) → f i ≤ℚ g i) → sum_below f n ≤ℚ sum_below g n
sum_most f g zero h = le_refl (int (pos 0))
sum_most f g (suc n) h =
    let a = sum_most f g n h in
    let b = h n in
    with4 (sum_below f n) (f n) (sum_below g n) (g n) (λ c. omega (arith, c.le, c.lt, c.same))

-- the servers before another one in the order
abbrev pub before : (ℕ → ℕ) → (ℕ → ℚ) → ℕ → ℕ → ℚ
before place f s i = counted (nat_lt (place i) (place s)) (f i)

lt_true : (m n : ℕ) → nat_lt m n ≡ true → m < n
lt_true m n e = Rattle.std.proofs.lemmas.Bool.ltb-true m n e

-- those before j, and j itself, are before g
pub sum_step : (place : ℕ → ℕ) (f : ℕ → ℚ) (j g n : ℕ) → ((i : ℕ) → int (pos 0) ≤ℚ f i) → place j < place g → j < n
    → sum_below (before place f j) n +ℚ f j ≤ℚ sum_below (before place f g) n
sum_step place f j g zero h l k = absurd (omega (arith, k))
sum_step place f j g (suc n) h l k =
    let wider : (i : ℕ) → before place f j i ≤ℚ before place f g i =
    λ i. counted_more (nat_lt (place i) (place j)) (nat_lt (place i) (place g)) (f i) (h i)
    (λ e. Rattle.std.proofs.lemmas.Bool.lt-ltb (place i) (place g) (let a = lt_true (place i) (place j) e in omega (arith, a, l))) in
    elim (cases_eq j n) [
      | inl e ↦
          let rest = sum_most (before place f j) (before place f g) n wider in
          let own : before place f j n ≡ int (pos 0) = subst (λ i. before place f j i ≡ int (pos 0)) e (ap (λ b. counted b (f j)) (Rattle.std.proofs.lemmas.Bool.le-ltb (place j) (place j) (omega arith))) in
          let other : before place f g n ≡ f j = subst (λ i. before place f g i ≡ f j) e (ap (λ b. counted b (f j)) (Rattle.std.proofs.lemmas.Bool.lt-ltb (place j) (place g) l)) in
          with5 (sum_below (before place f j) n) (sum_below (before place f g) n) (before place f j n) (before place f g n) (f j) (λ c. omega (arith, c.le, c.lt, c.same))
      | inr d ↦
          let rest = sum_step place f j g n h l (omega (arith, k, d)) in
          let one = wider n in
          with5 (sum_below (before place f j) n) (sum_below (before place f g) n) (before place f j n) (before place f g n) (f j) (λ c. omega (arith, c.le, c.lt, c.same))
    ]

pub sum_all : (place : ℕ → ℕ) (f : ℕ → ℚ) (j n : ℕ) → ((i : ℕ) → int (pos 0) ≤ℚ f i) → j < n
    → sum_below (before place f j) n +ℚ f j ≤ℚ sum_below f n
sum_all place f j zero h k = absurd (omega (arith, k))
sum_all place f j (suc n) h k =
    let narrower : (i : ℕ) → before place f j i ≤ℚ f i = λ i. counted_most (nat_lt (place i) (place j)) (f i) (h i) in
    elim (cases_eq j n) [
      | inl e ↦
          let rest = sum_most (before place f j) f n narrower in
          let own : before place f j n ≡ int (pos 0) = subst (λ i. before place f j i ≡ int (pos 0)) e (ap (λ b. counted b (f j)) (Rattle.std.proofs.lemmas.Bool.le-ltb (place j) (place j) (omega arith))) in
          let same : f n ≡ f j = ap f (sym e) in
          with5 (sum_below (before place f j) n) (sum_below f n) (before place f j n) (f n) (f j) (λ c. omega (arith, c.le, c.lt, c.same))
      | inr d ↦
          let rest = sum_all place f j n h (omega (arith, k, d)) in
          let one = narrower n in
          with5 (sum_below (before place f j) n) (sum_below f n) (before place f j n) (f n) (f j) (λ c. omega (arith, c.le, c.lt, c.same))
    ]

-- ---- the first time
pub latest_nonneg : {A : Type 0} (time : A → ℚ) (xs : List A) → int (pos 0) ≤ℚ latest_of time xs
latest_nonneg time [] = le_refl (int (pos 0))
latest_nonneg time (x ∷ xs) = le_trans (latest_nonneg time xs) (max_q_ge_right (time x) (latest_of time xs))

pub latest_most : {A : Type 0} (time : A → ℚ) (xs : List A) (k : ℕ) (d : A) → k < length xs → time (get_or xs k d) ≤ℚ latest_of time xs
latest_most time [] k d h = absurd (omega (arith, h))
latest_most time (x ∷ xs) zero d h = max_q_ge_left (time x) (latest_of time xs)
latest_most time (x ∷ xs) (suc k) d h = le_trans (latest_most time xs k d (omega (arith, h))) (max_q_ge_right (time x) (latest_of time xs))

pub first_nonneg : (S : Setup) → int (pos 0) ≤ℚ first_time S
first_nonneg S = le_trans (latest_nonneg (λ (e : Entering). e.time) S.packets) (max_q_ge_left _ _)

pub enters_by : (S : Setup) (p : ℕ) → p < length S.packets → (packet_of S p).time ≤ℚ first_time S
enters_by S p h = le_trans (latest_most (λ (e : Entering). e.time) S.packets p record { flow = 0; bits = 0; time = int (pos 0) } h) (max_q_ge_left _ _)

-- the stalls of each server have ended
pub stalls_by : (S : Setup) (s : ℕ) → latest_of (λ (x : StallTimes). x.end) (opening_of S s).stalls ≤ℚ first_time S
stalls_by S s = elim (cases_lt s (length S.openings)) [
  | inl h ↦
      le_trans (latest_most (λ (o : Opening). latest_of (λ (x : StallTimes). x.end) o.stalls) S.openings s record { gate = None; stalls = [] } h) (max_q_ge_right _ _)
  | inr h ↦
      let none : opening_of S s ≡ record { gate = None; stalls = [] } = get_or_past S.openings s record { gate = None; stalls = [] } h in
      subst (λ (o : Opening). latest_of (λ (x : StallTimes). x.end) o.stalls ≤ℚ first_time S) (sym none) (first_nonneg S)
]

-- ---- spans
pub ratio_pos : (g : Option GateTimes) → IsGateFor g → int (pos 1) ≤ℚ gate_ratio g
ratio_pos None ok = le_refl (int (pos 1))
ratio_pos (Some g) ok = ratio_least g.cycle g.slot ok.some_slot ok.within

pub cycle_nonneg : (g : Option GateTimes) → IsGateFor g → int (pos 0) ≤ℚ gate_cycle g
cycle_nonneg None ok = le_refl (int (pos 0))
cycle_nonneg (Some g) ok = le_of_lt (lt_le_trans ok.some_slot ok.within)

pub stalled_nonneg : (xs : List StallTimes) → AreStalls xs → int (pos 0) ≤ℚ stalled_for xs
stalled_nonneg [] h = le_refl (int (pos 0))
stalled_nonneg (x ∷ xs) h =
    let a = h.0 in
    let b = stalled_nonneg xs h.1 in
    with3 x.start x.end (stalled_for xs) (λ c. omega (arith, c.le, c.lt, c.same))

pub work_nonneg : (S : Setup) → IsSetup S → (s : ℕ) → int (pos 0) ≤ℚ work_span S s
work_nonneg S ok s =
    let o = (opening_of S s).gate in
    let a : int (pos 0) ≤ℚ gate_ratio o = let r = ratio_pos o (ok.gates s) in with1 (gate_ratio o) (λ c. omega (arith, c.le, c.lt, c.same)) in
    let b = mul_nonneg a (div_nonneg (whole (load S s)) (rate_of S s) (ok.rates s) (whole_nonneg (load S s))) in
    let d = cycle_nonneg o (ok.gates s) in
    with2 (gate_ratio o *ℚ (whole (load S s) /ℚ rate_of S s)) (gate_cycle o) (λ c. omega (arith, c.le, c.lt, c.same))

pub span_most : (S : Setup) (place : ℕ → ℕ) → IsSetup S → IsForward S place → (s : ℕ) → work_span S s +ℚ link_at S.net s ≤ℚ span S s
span_most S place ok f s =
    let a = stalled_nonneg (opening_of S s).stalls (f.stalls s) in
    with3 (work_span S s) (stalled_for (opening_of S s).stalls) (link_at S.net s) (λ c. omega (arith, c.le, c.lt, c.same))

pub span_nonneg : (S : Setup) (place : ℕ → ℕ) → IsSetup S → IsForward S place → (s : ℕ) → int (pos 0) ≤ℚ span S s
span_nonneg S place ok f s =
    let a = span_most S place ok f s in
    let b = work_nonneg S ok s in
    let l = ok.links s in
    with3 (work_span S s) (span S s) (link_at S.net s) (λ c. omega (arith, c.le, c.lt, c.same))

-- ---- when all packets have come to a server, and when they have left it
abbrev pub come_by : Setup → (ℕ → ℕ) → ℕ → ℚ
come_by S place s = first_time S +ℚ sum_below (before place (span S) s) (length S.net.servers)

abbrev pub left_by : Setup → (ℕ → ℕ) → ℕ → ℚ
left_by S place s = come_by S place s +ℚ work_span S s

pub first_is_first : (S : Setup) (place : ℕ → ℕ) → IsSetup S → IsForward S place → (s : ℕ) → first_time S ≤ℚ come_by S place s
first_is_first S place ok f s =
    let a = sum_nonneg (before place (span S) s) (length S.net.servers) (λ i. counted_nonneg (nat_lt (place i) (place s)) (span S i) (span_nonneg S place ok f i)) in
    with2 (first_time S) (sum_below (before place (span S) s) (length S.net.servers)) (λ c. omega (arith, c.le, c.lt, c.same))

pub next_later : (S : Setup) (place : ℕ → ℕ) → IsSetup S → IsForward S place → (s g : ℕ) → place s < place g → s < length S.net.servers
    → left_by S place s +ℚ link_at S.net s ≤ℚ come_by S place g
next_later S place ok f s g l h =
    let a = sum_step place (span S) s g (length S.net.servers) (span_nonneg S place ok f) l h in
    let b = span_most S place ok f s in
    with6 (first_time S) (sum_below (before place (span S) s) (length S.net.servers)) (sum_below (before place (span S) g) (length S.net.servers)) (span S s) (work_span S s) (link_at S.net s)
    (λ c. omega (arith, c.le, c.lt, c.same))

pub left_in_time : (S : Setup) (place : ℕ → ℕ) → IsSetup S → IsForward S place → (s : ℕ) → s < length S.net.servers
    → left_by S place s +ℚ link_at S.net s ≤ℚ horizon S
left_in_time S place ok f s h =
    let a = sum_all place (span S) s (length S.net.servers) (span_nonneg S place ok f) h in
    let b = span_most S place ok f s in
    with6 (first_time S) (sum_below (before place (span S) s) (length S.net.servers)) (sum_below (span S) (length S.net.servers)) (span S s) (work_span S s) (link_at S.net s)
    (λ c. omega (arith, c.le, c.lt, c.same))
