-- A server that has all its packets by a time A works, from A on, whenever it is open, until it has worked off all. So
-- what is ahead of it falls as its open time grows.
use Rattle.std.proofs.Common.{◌≡◌, ℕ, ◌≤◌, ◌+◌, List, [], ◌∷◌, refl, sym, ap, ◌∙◌, subst, arith, inl, inr, Some, None}
use Rattle.std.specs.Prelude.{Option, pos}
use Rattle.rational.specs.Rational.{ℚ, int, ◌+ℚ◌, ◌-ℚ◌, ◌*ℚ◌, ◌/ℚ◌, ◌≤ℚ◌}
use Rattle.rational.specs.MinMax.{max_q}
use Rattle.rational.proofs.Linear.{with1, with3, with4, with5, with6, with7}
use Rattle.rational.proofs.Laws.{le_refl, le_trans, le_of_lt, lt_le_trans, le_or_lt, lt_irrefl, mul_le_mul, mul_le_mul_right, mul_add, mul_comm, one_mul, div_mul, not_zero, le_of_mul}
use Rattle.rational.proofs.Quotients.{div_nonneg}
use Rattle.rational.proofs.MinMax.{max_q_is_left, max_q_right, max_q_le, max_q_ge_left, max_q_ge_right}
use Rattle.run_laws.specs.Cards.{Card, whole, size, Arrives, Works, Leaves, Visits}
use Rattle.run_laws.specs.Servers.{Discipline, Under, ServerState, done, done_so_far}
use Rattle.run_laws.specs.Next.{next}
use Rattle.run_laws.proofs.Sizes.{whole_le, whole_sum}
use Rattle.net_model.specs.stated_runs.Setups.{Setup, IsSetup, StallTimes, IsGateOpen, IsStalled, IsOpen, IsFirstOpen, IsStretch, opening_of, rate_of}
use Rattle.sim_bounds.specs.Horizons.{latest_of, first_time, load, gate_ratio, gate_cycle, work_span}
use Rattle.sim_bounds.proofs.OpenTime.{open_time, open_time_of}
use Rattle.sim_bounds.proofs.Spans.{first_nonneg, stalls_by}

-- ---- after the first time no stall is left
ended : (xs : List StallTimes) (z : ℚ) → latest_of (λ (x : StallTimes). x.end) xs ≤ℚ z → ¬ (IsStalled xs z)
ended [] z h i = i
ended (x ∷ xs) z h i = elim i [
  | inl k ↦ lt_irrefl z (lt_le_trans k.1 (le_trans (max_q_ge_left x.end (latest_of (λ (y : StallTimes). y.end) xs)) h))
  | inr k ↦ ended xs z (le_trans (max_q_ge_right x.end (latest_of (λ (y : StallTimes). y.end) xs)) h) k
]

closed_gate : (S : Setup) (s : ℕ) (z : ℚ) → first_time S ≤ℚ z → ¬ (IsOpen S s z) → ¬ (IsGateOpen (opening_of S s).gate z)
closed_gate S s z h n g = n (g, ended (opening_of S s).stalls z (le_trans (stalls_by S s) h))

-- ---- the time up to which a server's state is known
abbrev pub clock_of : Option Under → ℚ → ℚ
clock_of None now = now
clock_of (Some u) now = u.last.end

abbrev pub clock : ServerState → ℚ
clock σ = clock_of σ.under σ.now

-- n bits are ahead of the server, of which those that were worked off at the packet under way count no more
pub record IsLevel (S : Setup) (A : ℚ) (s : ℕ) (σ : ServerState) (n : ℕ) : Type 0 where
  pub level : rate_of S s *ℚ open_time (opening_of S s).gate (max_q A (clock σ)) +ℚ (whole n -ℚ done_so_far σ.under)
      ≤ℚ rate_of S s *ℚ open_time (opening_of S s).gate A +ℚ whole (load S s)
  pub few : n ≤ load S s

-- all packets have come to the server by A, when no stall is left
pub record IsLate (S : Setup) (A : ℚ) : Type 0 where
  pub ok : IsSetup S
  pub after_first : first_time S ≤ℚ A

late_nonneg : (S : Setup) (A : ℚ) → IsLate S A → int (pos 0) ≤ℚ A
late_nonneg S A l = le_trans (first_nonneg S) l.after_first

-- ---- up to the first open time no open time is added
pub wait_flat : (S : Setup) (A : ℚ) (s : ℕ) (from a : ℚ) → IsLate S A → IsFirstOpen S s from a
    → open_time (opening_of S s).gate (max_q A a) ≤ℚ open_time (opening_of S s).gate (max_q A from)
wait_flat S A s from a l f =
    let time = open_time (opening_of S s).gate in
    elim (le_or_lt a A) [
      | inl h ↦
          let x : max_q A a ≡ A = max_q_is_left A a h in
          let y : max_q A from ≡ A = max_q_is_left A from (le_trans f.not_before h) in
          subst (λ t. time t ≤ℚ time (max_q A from)) (sym x) (subst (λ t. time A ≤ℚ time t) (sym y) (le_refl (time A)))
      | inr h ↦
          let x : max_q A a ≡ a = max_q_right A a (le_of_lt h) in
          let m = max_q A from in
          let to : m ≤ℚ a = max_q_le A from a (le_of_lt h) f.not_before in
          subst (λ t. time t ≤ℚ time m) (sym x)
          ((open_time_of (opening_of S s).gate (l.ok.gates s)).flat m a (le_trans (late_nonneg S A l) (max_q_ge_left A from)) to
          (λ z b c. closed_gate S s z (le_trans l.after_first (le_trans (max_q_ge_left A from) b)) (f.closed_before z (le_trans (max_q_ge_right A from) b) c)))
    ]

max_lipschitz : (A a b : ℚ) → a ≤ℚ b → max_q A b ≤ℚ max_q A a +ℚ (b -ℚ a)
max_lipschitz A a b l =
    let p = max_q_ge_left A a in
    let q = max_q_ge_right A a in
    max_q_le A b (max_q A a +ℚ (b -ℚ a)) (with4 A a b (max_q A a) (λ c. omega (arith, c.le, c.lt, c.same)))
    (with3 a b (max_q A a) (λ c. omega (arith, c.le, c.lt, c.same)))

max_rises : (A a b : ℚ) → a ≤ℚ b → max_q A a ≤ℚ max_q A b
max_rises A a b l = max_q_le A a (max_q A b) (max_q_ge_left A b) (le_trans l (max_q_ge_right A b))

pub work_adds : (S : Setup) (A : ℚ) (s : ℕ) (from a b : ℚ) → IsLate S A → IsFirstOpen S s from a → a ≤ℚ b
    → open_time (opening_of S s).gate (max_q A b) ≤ℚ open_time (opening_of S s).gate (max_q A from) +ℚ (b -ℚ a)
work_adds S A s from a b l f h =
    let time = open_time (opening_of S s).gate in
    let one = (open_time_of (opening_of S s).gate (l.ok.gates s)).lipschitz (max_q A a) (max_q A b)
    (le_trans (late_nonneg S A l) (max_q_ge_left A a)) (max_rises A a b h) in
    let two = max_lipschitz A a b h in
    let three = wait_flat S A s from a l f in
    with7 a b (max_q A a) (max_q A b) (time (max_q A a)) (time (max_q A b)) (time (max_q A from)) (λ c. omega (arith, c.le, c.lt, c.same))

-- ---- at first
pub level_start : (S : Setup) (A : ℚ) (s : ℕ) (σ : ServerState) (n : ℕ) → IsLate S A → σ.under ≡ None → σ.now ≤ℚ A → n ≤ load S s → IsLevel S A s σ n
level_start S A s σ n l idle now few = record {
  level =
      let r = rate_of S s in
      let time = open_time (opening_of S s).gate in
      let is : clock σ ≡ σ.now = ap (λ o. clock_of o σ.now) idle in
      let none : done_so_far σ.under ≡ int (pos 0) = ap done_so_far idle in
      let to : max_q A (clock σ) ≡ A = ap (max_q A) is ∙ max_q_is_left A σ.now now in
      let same : r *ℚ time (max_q A (clock σ)) ≡ r *ℚ time A = ap (λ t. r *ℚ time t) to in
      let most = whole_le n (load S s) few in
      with5 (r *ℚ time (max_q A (clock σ))) (r *ℚ time A) (whole n) (whole (load S s)) (done_so_far σ.under) (λ c. omega (arith, c.le, c.lt, c.same));
  few = few;
}

-- ---- a packet arrives
pub level_arrive : (S : Setup) (A : ℚ) (s : ℕ) (d : Discipline) (σ : ServerState) (n : ℕ) (c : Card) (t : ℚ) → IsLate S A → t ≤ℚ A → IsLevel S A s σ n
    → IsLevel S A s (next d σ (Arrives c t)) n
level_arrive S A s d σ n c t l early h = by_under σ.under refl
  where
    by_under : (o : Option Under) → σ.under ≡ o → IsLevel S A s (next d σ (Arrives c t)) n
    by_under None e = level_start S A s (next d σ (Arrives c t)) n l e early h.few
    by_under (Some u) e = record {
      level =
          let is : clock σ ≡ clock_of σ.under t = ap (λ o. clock_of o σ.now) e ∙ sym (ap (λ o. clock_of o t) e) in
          subst (λ x. rate_of S s *ℚ open_time (opening_of S s).gate (max_q A x) +ℚ (whole n -ℚ done_so_far σ.under) ≤ℚ rate_of S s *ℚ open_time (opening_of S s).gate A +ℚ whole (load S s)) is h.level;
      few = h.few;
    }

-- ---- work
pub level_work : (S : Setup) (A : ℚ) (s : ℕ) (d : Discipline) (σ : ServerState) (n : ℕ) (c : Card) (left a b w : ℚ) → IsLate S A
    → IsStretch S s (clock σ) left a b w → IsLevel S A s σ n → IsLevel S A s (next d σ (Works c a b w)) n
level_work S A s d σ n c left a b w l k h = record {
  level =
      let r = rate_of S s in
      let time = open_time (opening_of S s).gate in
      let rate = l.ok.rates s in
      let one = mul_le_mul r (le_of_lt rate) (work_adds S A s (clock σ) a b l k.begins (le_of_lt k.forward)) in
      let two : r *ℚ (time (max_q A (clock σ)) +ℚ (b -ℚ a)) ≡ r *ℚ time (max_q A (clock σ)) +ℚ w = mul_add r (time (max_q A (clock σ))) (b -ℚ a) ∙ ap (λ x. r *ℚ time (max_q A (clock σ)) +ℚ x) (sym k.at_rate) in
      let three : r *ℚ time (max_q A b) ≤ℚ r *ℚ time (max_q A (clock σ)) +ℚ w = subst (λ x. r *ℚ time (max_q A b) ≤ℚ x) two one in
      let before = h.level in
      with7 (r *ℚ time (max_q A b)) (r *ℚ time (max_q A (clock σ))) (r *ℚ time A) w (whole n) (whole (load S s)) (done_so_far σ.under) (λ o. omega (arith, o.le, o.lt, o.same));
  few = h.few;
}

-- ---- a packet leaves
pub level_leave : (S : Setup) (A : ℚ) (s : ℕ) (d : Discipline) (σ : ServerState) (m n : ℕ) (c : Card) (u : Under) (t : ℚ) → σ.under ≡ Some u
    → done u ≡ size u.card → t ≡ u.last.end → m + u.card.bits ≡ n → IsLevel S A s σ n → IsLevel S A s (next d σ (Leaves c t)) m
level_leave S A s d σ m n c u t is off at fewer h = record {
  level =
      let r = rate_of S s in
      let time = open_time (opening_of S s).gate in
      let same : clock σ ≡ t = ap (λ o. clock_of o σ.now) is ∙ sym at in
      let so_far : done_so_far σ.under ≡ size u.card = ap done_so_far is ∙ off in
      let sum : whole n ≡ whole m +ℚ size u.card = ap whole (sym fewer) ∙ whole_sum m u.card.bits in
      let before = subst (λ x. r *ℚ time (max_q A x) +ℚ (whole n -ℚ done_so_far σ.under) ≤ℚ r *ℚ time A +ℚ whole (load S s)) same h.level in
      with7 (r *ℚ time (max_q A t)) (r *ℚ time A) (whole n) (whole m) (size u.card) (whole (load S s)) (done_so_far σ.under) (λ o. omega (arith, o.le, o.lt, o.same));
  few = let f = h.few in omega (arith, f, fewer);
}

-- ---- a server turns to a queue
pub level_visit : (S : Setup) (A : ℚ) (s : ℕ) (d : Discipline) (σ : ServerState) (n q : ℕ) (t : ℚ) → IsLate S A → σ.under ≡ None
    → IsFirstOpen S s (clock σ) t → IsLevel S A s σ n → IsLevel S A s (next d σ (Visits q t)) n
level_visit S A s d σ n q t l idle f h = record {
  level =
      let r = rate_of S s in
      let time = open_time (opening_of S s).gate in
      let rate = l.ok.rates s in
      let one = mul_le_mul r (le_of_lt rate) (wait_flat S A s (clock σ) t l f) in
      let before = h.level in
      let is : t ≡ clock_of σ.under t = sym (ap (λ o. clock_of o t) idle) in
      subst (λ x. r *ℚ time (max_q A x) +ℚ (whole n -ℚ done_so_far σ.under) ≤ℚ r *ℚ time A +ℚ whole (load S s)) is
      (with6 (r *ℚ time (max_q A t)) (r *ℚ time (max_q A (clock σ))) (r *ℚ time A) (whole n) (whole (load S s)) (done_so_far σ.under) (λ o. omega (arith, o.le, o.lt, o.same)));
  few = h.few;
}

-- ---- so a server is done a work span after A
pub in_span : (S : Setup) (A : ℚ) (s : ℕ) (m left : ℚ) → IsLate S A → int (pos 0) ≤ℚ m → int (pos 0) ≤ℚ left
    → rate_of S s *ℚ open_time (opening_of S s).gate m +ℚ left ≤ℚ rate_of S s *ℚ open_time (opening_of S s).gate A +ℚ whole (load S s)
    → m +ℚ left /ℚ rate_of S s ≤ℚ A +ℚ work_span S s
in_span S A s m left l from some h =
    let r = rate_of S s in
    let g = (opening_of S s).gate in
    let time = open_time g in
    let rate = l.ok.rates s in
    let o = open_time_of g (l.ok.gates s) in
    let q = gate_ratio g in
    let x = left /ℚ r in
    let y = whole (load S s) /ℚ r in
    let xs : x *ℚ r ≡ left = div_mul left r (not_zero r rate) in
    let ys : y *ℚ r ≡ whole (load S s) = div_mul (whole (load S s)) r (not_zero r rate) in
    let ml : (time m +ℚ x) *ℚ r ≡ time m *ℚ r +ℚ x *ℚ r = Rattle.rational.proofs.Laws.add_mul (time m) x r in
    let mr : (time A +ℚ y) *ℚ r ≡ time A *ℚ r +ℚ y *ℚ r = Rattle.rational.proofs.Laws.add_mul (time A) y r in
    let cm : time m *ℚ r ≡ r *ℚ time m = mul_comm (time m) r in
    let ca : time A *ℚ r ≡ r *ℚ time A = mul_comm (time A) r in
    let both : (time m +ℚ x) *ℚ r ≤ℚ (time A +ℚ y) *ℚ r =
    let left_is : (time m +ℚ x) *ℚ r ≡ r *ℚ time m +ℚ left = ml ∙ ap (λ z. z +ℚ x *ℚ r) cm ∙ ap (λ z. r *ℚ time m +ℚ z) xs in
    let right_is : (time A +ℚ y) *ℚ r ≡ r *ℚ time A +ℚ whole (load S s) = mr ∙ ap (λ z. z +ℚ y *ℚ r) ca ∙ ap (λ z. r *ℚ time A +ℚ z) ys in
    subst (λ z. z ≤ℚ (time A +ℚ y) *ℚ r) (sym left_is) (subst (λ z. r *ℚ time m +ℚ left ≤ℚ z) (sym right_is) h) in
    let plain : time m +ℚ x ≤ℚ time A +ℚ y = le_of_mul r (time m +ℚ x) (time A +ℚ y) rate both in
    let least = o.least in
    let zero_q : int (pos 0) ≤ℚ q = with1 q (λ c. omega (arith, c.le, c.lt, c.same)) in
    let scaled = mul_le_mul q zero_q plain in
    let sl : q *ℚ (time m +ℚ x) ≡ q *ℚ time m +ℚ q *ℚ x = mul_add q (time m) x in
    let sr : q *ℚ (time A +ℚ y) ≡ q *ℚ time A +ℚ q *ℚ y = mul_add q (time A) y in
    let low = o.low m from in
    let high = o.high A (late_nonneg S A l) in
    let nonneg : int (pos 0) ≤ℚ x = div_nonneg left r rate some in
    let more : int (pos 1) *ℚ x ≤ℚ q *ℚ x = mul_le_mul_right x nonneg least in
    let one : int (pos 1) *ℚ x ≡ x = one_mul x in
    let first : m +ℚ x ≤ℚ q *ℚ (time m +ℚ x) = with6 m x (q *ℚ time m) (q *ℚ x) (int (pos 1) *ℚ x) (q *ℚ (time m +ℚ x)) (λ c. omega (arith, c.le, c.lt, c.same)) in
    let second : q *ℚ (time A +ℚ y) ≤ℚ A +ℚ work_span S s = with5 A (q *ℚ time A) (q *ℚ y) (gate_cycle g) (q *ℚ (time A +ℚ y)) (λ c. omega (arith, c.le, c.lt, c.same)) in
    le_trans first (le_trans scaled second)
