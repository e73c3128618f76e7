-- How long a gate is open up to a time, and how that grows.
use Rattle.std.proofs.Common.{◌≡◌, ℕ, suc, ◌≤◌, sym, ap, ◌∙◌, subst, arith, inl, inr, Some, None}
use Rattle.std.specs.Prelude.{Option, pos}
use Rattle.std.proofs.lemmas.Bool.{cases_order}
use Rattle.rational.specs.Rational.{ℚ, int, ◌+ℚ◌, ◌-ℚ◌, ◌*ℚ◌, ◌/ℚ◌, ◌≤ℚ◌, ◌<ℚ◌}
use Rattle.rational.specs.MinMax.{min_q}
use Rattle.rational.specs.Whole.{whole_part}
use Rattle.rational.proofs.Linear.{with1, with2, with3, with4, with5, with6, with7, with8}
use Rattle.rational.proofs.Laws.{le_refl, le_trans, le_of_lt, lt_le_trans, le_or_lt, lt_irrefl, mul_le_mul, mul_le_mul_right, mul_lt_mul_right, mul_sub, mul_add, mul_comm, mul_assoc, one_mul, div_mul, not_zero, antisym}
use Rattle.rational.proofs.Whole.{whole_le as part_le, whole_gt as part_gt, one_more_times}
use Rattle.rational.proofs.MinMax.{min_q_one, min_q_le_left, min_q_le_right, min_q_ge}
use Rattle.run_laws.specs.Cards.{whole}
use Rattle.run_laws.proofs.Sizes.{whole_le}
use Rattle.net_model.specs.stated_runs.Setups.{GateTimes, IsGate, IsGateFor, IsGateOpen}
use Rattle.run_laws.proofs.Clips.{quotient}

-- ---- cycles
-- how many whole cycles there are up to a time
abbrev pub cycles : ℚ → ℚ → ℕ
cycles c t = whole_part (t /ℚ c)

pub record IsInCycle (c t : ℚ) (n : ℕ) : Type 0 where
  pub begun : whole n *ℚ c ≤ℚ t
  pub goes_on : t <ℚ whole n *ℚ c +ℚ c

pub in_cycle : (c t : ℚ) → int (pos 0) <ℚ c → int (pos 0) ≤ℚ t → IsInCycle c t (cycles c t)
in_cycle c t h k =
    let x = t /ℚ c in
    let some : int (pos 0) ≤ℚ x = Rattle.rational.proofs.Quotients.div_nonneg t c h k in
    let is : x *ℚ c ≡ t = div_mul t c (not_zero c h) in
    record {
      begun = subst (λ y. whole (cycles c t) *ℚ c ≤ℚ y) is (mul_le_mul_right c (le_of_lt h) (part_le x some));
      goes_on = subst (λ y. t <ℚ y) (one_more_times (cycles c t) c) (subst (λ y. y <ℚ whole (suc (cycles c t)) *ℚ c) is (mul_lt_mul_right c h (part_gt x)));
    }

-- the times of fewer cycles are earlier
pub fewer : (d : ℚ) (m n : ℕ) → int (pos 0) ≤ℚ d → suc m ≤ n → whole m *ℚ d +ℚ d ≤ℚ whole n *ℚ d
fewer d m n h l = subst (λ y. y ≤ℚ whole n *ℚ d) (one_more_times m d) (mul_le_mul_right d h (whole_le (suc m) n l))

no_more : (d : ℚ) (m n : ℕ) → int (pos 0) ≤ℚ d → m ≤ n → whole m *ℚ d ≤ℚ whole n *ℚ d
no_more d m n h l = mul_le_mul_right d h (whole_le m n l)

pub cycle_order : (c x y : ℚ) (m n : ℕ) → int (pos 0) <ℚ c → IsInCycle c x m → IsInCycle c y n → x ≤ℚ y → m ≤ n
cycle_order c x y m n h a b l = elim (cases_order m n) [
  | inl e ↦ omega (arith, e)
  | inr d ↦ elim d [
    | inl less ↦ omega (arith, less)
    | inr more ↦
        let step = fewer c n m (le_of_lt h) (omega (arith, more)) in
        let p = b.goes_on in
        let q = a.begun in
        absurd (lt_irrefl y (with5 x y c (whole n *ℚ c) (whole m *ℚ c) (λ o. omega (arith, o.le, o.lt, o.same))))
  ]
]

-- ---- open time: the slot of each whole cycle, and what of the slot there was in the last one
abbrev pub gate_time : ℚ → ℚ → ℚ → ℚ
gate_time c s t = whole (cycles c t) *ℚ s +ℚ min_q (t -ℚ whole (cycles c t) *ℚ c) s

pub gate_lipschitz : (c s : ℚ) → int (pos 0) <ℚ s → s ≤ℚ c → (x y : ℚ) → int (pos 0) ≤ℚ x → x ≤ℚ y
    → gate_time c s y ≤ℚ gate_time c s x +ℚ (y -ℚ x)
gate_lipschitz c s some within x y from l =
    let long : int (pos 0) <ℚ c = lt_le_trans some within in
    let m = cycles c x in let n = cycles c y in
    let a = in_cycle c x long from in
    let b = in_cycle c y long (le_trans from l) in
    elim (cases_order m n) [
      | inl e ↦
          let to : whole n *ℚ c ≡ whole m *ℚ c = ap (λ k. whole k *ℚ c) (sym e) in
          let st : whole n *ℚ s ≡ whole m *ℚ s = ap (λ k. whole k *ℚ s) (sym e) in
          same (whole m *ℚ s) (whole n *ℚ s) (whole m *ℚ c) (whole n *ℚ c) st to
      | inr d ↦ elim d [
        | inl less ↦
            let p = fewer (c -ℚ s) m n (with2 c s (λ o. omega (arith, o.le, o.lt, o.same))) (omega (arith, less)) in
            later (whole m *ℚ s) (whole n *ℚ s) (whole m *ℚ c) (whole n *ℚ c) a.goes_on
            (let e1 = mul_sub (whole m) c s in let e2 = mul_sub (whole n) c s in
            with8 (whole m *ℚ s) (whole n *ℚ s) (whole m *ℚ c) (whole n *ℚ c) c s (whole m *ℚ (c -ℚ s)) (whole n *ℚ (c -ℚ s)) (λ o. omega (arith, o.le, o.lt, o.same)))
        | inr more ↦ absurd (let k = cycle_order c x y m n long a b l in omega (arith, k, more))
      ]
    ]
  where
    same : (ms ns mc nc : ℚ) → ns ≡ ms → nc ≡ mc → ns +ℚ min_q (y -ℚ nc) s ≤ℚ (ms +ℚ min_q (x -ℚ mc) s) +ℚ (y -ℚ x)
    same ms ns mc nc e f =
        let u = min_q_le_left (y -ℚ nc) s in
        let v = min_q_le_right (y -ℚ nc) s in
        elim (min_q_one (x -ℚ mc) s) [
          | inl k ↦ with8 ms ns mc nc x y (min_q (y -ℚ nc) s) (min_q (x -ℚ mc) s) (λ o. omega (arith, o.le, o.lt, o.same))
          | inr k ↦ with7 ms ns x y s (min_q (y -ℚ nc) s) (min_q (x -ℚ mc) s) (λ o. omega (arith, o.le, o.lt, o.same))
        ]

    later : (ms ns mc nc : ℚ) → x <ℚ mc +ℚ c → ns -ℚ ms +ℚ (c -ℚ s) ≤ℚ nc -ℚ mc
        → ns +ℚ min_q (y -ℚ nc) s ≤ℚ (ms +ℚ min_q (x -ℚ mc) s) +ℚ (y -ℚ x)
    later ms ns mc nc p q =
        let u : ns +ℚ min_q (y -ℚ nc) s ≤ℚ ns +ℚ (y -ℚ nc) = let u = min_q_le_left (y -ℚ nc) s in with4 ns (min_q (y -ℚ nc) s) y nc (λ o. omega (arith, o.le, o.lt, o.same)) in
        let v : ns +ℚ (y -ℚ nc) ≤ℚ (ms +ℚ min_q (x -ℚ mc) s) +ℚ (y -ℚ x) = elim (min_q_one (x -ℚ mc) s) [
          | inl k ↦
              let w : x -ℚ mc +ℚ (ns -ℚ ms) ≤ℚ min_q (x -ℚ mc) s +ℚ (nc -ℚ mc) =
              let t = within in with8 ns ms nc mc c s x (min_q (x -ℚ mc) s) (λ o. omega (arith, o.le, o.lt, o.same)) in
              with7 ns ms nc mc x y (min_q (x -ℚ mc) s) (λ o. omega (arith, o.le, o.lt, o.same))
          | inr k ↦
              let w : x -ℚ mc +ℚ (ns -ℚ ms) ≤ℚ min_q (x -ℚ mc) s +ℚ (nc -ℚ mc) =
              with8 ns ms nc mc c s x (min_q (x -ℚ mc) s) (λ o. omega (arith, o.le, o.lt, o.same)) in
              with7 ns ms nc mc x y (min_q (x -ℚ mc) s) (λ o. omega (arith, o.le, o.lt, o.same))
        ] in
        le_trans u v

-- it is at most so many slots where there were at most so many cycles
gate_most : (c s : ℚ) → int (pos 0) <ℚ s → s ≤ℚ c → (y : ℚ) → int (pos 0) ≤ℚ y → (k : ℕ) → y ≤ℚ whole k *ℚ c → gate_time c s y ≤ℚ whole k *ℚ s
gate_most c s some within y from k l =
    let long : int (pos 0) <ℚ c = lt_le_trans some within in
    let n = cycles c y in
    let b = in_cycle c y long from in
    let u = min_q_le_left (y -ℚ whole n *ℚ c) s in
    let v = min_q_le_right (y -ℚ whole n *ℚ c) s in
    elim (cases_order n k) [
      | inl e ↦
          let to : whole n *ℚ c ≡ whole k *ℚ c = ap (λ i. whole i *ℚ c) e in
          let st : whole n *ℚ s ≡ whole k *ℚ s = ap (λ i. whole i *ℚ s) e in
          with6 (whole n *ℚ c) (whole k *ℚ c) (whole n *ℚ s) (whole k *ℚ s) y (min_q (y -ℚ whole n *ℚ c) s) (λ o. omega (arith, o.le, o.lt, o.same))
      | inr d ↦ elim d [
        | inl less ↦
            let p = fewer s n k (le_of_lt some) (omega (arith, less)) in
            with4 (whole n *ℚ s) (whole k *ℚ s) s (min_q (y -ℚ whole n *ℚ c) s) (λ o. omega (arith, o.le, o.lt, o.same))
        | inr more ↦ absurd (
            let p = fewer c k n (le_of_lt long) (omega (arith, more)) in
            let q = b.begun in
            lt_irrefl y (with4 y c (whole k *ℚ c) (whole n *ℚ c) (λ o. omega (arith, o.le, o.lt, o.same))))
      ]
    ]

-- where the gate is closed nothing is added
pub gate_flat : (g : GateTimes) → IsGate g → (x y : ℚ) → int (pos 0) ≤ℚ x → x ≤ℚ y → ((z : ℚ) → x ≤ℚ z → z <ℚ y → ¬ (IsGateOpen (Some g) z))
    → gate_time g.cycle g.slot y ≤ℚ gate_time g.cycle g.slot x
gate_flat g ok x y from l closed = elim (le_or_lt y x) [
  | inl back ↦ subst (λ z. gate_time c s z ≤ℚ gate_time c s x) (antisym (l, back)) (le_refl (gate_time c s x))
  | inr ahead ↦
      let long : int (pos 0) <ℚ c = lt_le_trans ok.some_slot ok.within in
      let m = cycles c x in
      let a = in_cycle c x long from in
      let next : whole (suc m) *ℚ c ≡ whole m *ℚ c +ℚ c = one_more_times m c in
      let next_s : whole (suc m) *ℚ s ≡ whole m *ℚ s +ℚ s = one_more_times m s in
      elim (le_or_lt (whole m *ℚ c +ℚ s) x) [
        | inr in_slot ↦ absurd (closed x (le_refl x) ahead (m, a.begun, in_slot))
        | inl past ↦
            let to : y ≤ℚ whole (suc m) *ℚ c = elim (le_or_lt y (whole (suc m) *ℚ c)) [
              | inl h ↦ h
              | inr h ↦
                  let p = a.goes_on in
                  let r = ok.some_slot in
                  absurd (closed (whole (suc m) *ℚ c) (with4 x c (whole m *ℚ c) (whole (suc m) *ℚ c) (λ o. omega (arith, o.le, o.lt, o.same))) h
                  (suc m, le_refl (whole (suc m) *ℚ c), with2 (whole (suc m) *ℚ c) s (λ o. omega (arith, o.le, o.lt, o.same))))
            ] in
            let most = gate_most c s ok.some_slot ok.within y (le_trans from l) (suc m) to in
            let full : s ≤ℚ min_q (x -ℚ whole m *ℚ c) s = min_q_ge (x -ℚ whole m *ℚ c) s s (with3 x s (whole m *ℚ c) (λ o. omega (arith, o.le, o.lt, o.same))) (le_refl s) in
            with5 (whole m *ℚ s) (whole (suc m) *ℚ s) s (min_q (x -ℚ whole m *ℚ c) s) (gate_time c s y) (λ o. omega (arith, o.le, o.lt, o.same))
      ]
]
  where
    c : ℚ
    c = g.cycle

    s : ℚ
    s = g.slot

-- ---- times the ratio of cycle and slot it is the time, but for one cycle
pub ratio_least : (c s : ℚ) → int (pos 0) <ℚ s → s ≤ℚ c → int (pos 1) ≤ℚ c /ℚ s
ratio_least c s h l = (Rattle.rational.proofs.Quotients.le_div c s (int (pos 1)) h).1 (subst (λ y. y ≤ℚ c) (sym (one_mul s)) l)

-- the ratio times the slots of n cycles is n cycles
ratio_cycles : (c s : ℚ) (n : ℕ) → int (pos 0) <ℚ s → (c /ℚ s) *ℚ (whole n *ℚ s) ≡ whole n *ℚ c
ratio_cycles c s n h = sym (mul_assoc (c /ℚ s) (whole n) s) ∙ ap (λ y. y *ℚ s) (mul_comm (c /ℚ s) (whole n)) ∙ mul_assoc (whole n) (c /ℚ s) s ∙ ap (λ y. whole n *ℚ y) (quotient c s h)

-- where a time is in its cycle, and the ratio times the open time until then
record InSlots (c s t : ℚ) : Type 0 where
  one : int (pos 1) ≤ℚ c /ℚ s
  begun : whole (cycles c t) *ℚ c ≤ℚ t
  ends : t <ℚ whole (cycles c t) *ℚ c +ℚ c
  split : (c /ℚ s) *ℚ gate_time c s t ≡ whole (cycles c t) *ℚ c +ℚ (c /ℚ s) *ℚ min_q (t -ℚ whole (cycles c t) *ℚ c) s

in_slots : (c s t : ℚ) → int (pos 0) <ℚ s → s ≤ℚ c → int (pos 0) ≤ℚ t → InSlots c s t
in_slots c s t some within from =
    let n = cycles c t in
    let a = in_cycle c t (lt_le_trans some within) from in
    let q = c /ℚ s in
    let u = t -ℚ whole n *ℚ c in
    record {
      one = ratio_least c s some within;
      begun = a.begun;
      ends = a.goes_on;
      split = mul_add q (whole n *ℚ s) (min_q u s) ∙ ap (λ y. y +ℚ q *ℚ min_q u s) (ratio_cycles c s n some);
    }

pub gate_low : (c s : ℚ) → int (pos 0) <ℚ s → s ≤ℚ c → (t : ℚ) → int (pos 0) ≤ℚ t → t ≤ℚ (c /ℚ s) *ℚ gate_time c s t
gate_low c s some within t from =
    let I = in_slots c s t some within from in
    let n = cycles c t in
    let q = c /ℚ s in
    let u = t -ℚ whole n *ℚ c in
    let split = I.split in
    let begun = I.begun in
    let ends = I.ends in
    elim (min_q_one u s) [
      | inl e ↦
          let least : int (pos 1) *ℚ u ≤ℚ q *ℚ u = mul_le_mul_right u (with2 t (whole n *ℚ c) (λ o. omega (arith, o.le, o.lt, o.same))) I.one in
          let is : int (pos 1) *ℚ u ≡ u = one_mul u in
          let f : q *ℚ min_q u s ≡ q *ℚ u = ap (λ y. q *ℚ y) e in
          with6 t (whole n *ℚ c) (q *ℚ min_q u s) (q *ℚ u) (int (pos 1) *ℚ u) (q *ℚ gate_time c s t) (λ o. omega (arith, o.le, o.lt, o.same))
      | inr e ↦
          let f : q *ℚ min_q u s ≡ c = ap (λ y. q *ℚ y) e ∙ quotient c s some in
          with5 t (whole n *ℚ c) (q *ℚ min_q u s) c (q *ℚ gate_time c s t) (λ o. omega (arith, o.le, o.lt, o.same))
    ]

pub gate_high : (c s : ℚ) → int (pos 0) <ℚ s → s ≤ℚ c → (t : ℚ) → int (pos 0) ≤ℚ t → (c /ℚ s) *ℚ gate_time c s t ≤ℚ t +ℚ c
gate_high c s some within t from =
    let I = in_slots c s t some within from in
    let m = min_q (t -ℚ whole (cycles c t) *ℚ c) s in
    let q = c /ℚ s in
    let split = I.split in
    let begun = I.begun in
    let f : q *ℚ m ≤ℚ c = subst (λ y. q *ℚ m ≤ℚ y) (quotient c s some)
    (mul_le_mul q (le_trans (with1 (int (pos 0)) (λ o. omega (arith, o.le, o.lt, o.same))) I.one) (min_q_le_right (t -ℚ whole (cycles c t) *ℚ c) s)) in
    with5 t (whole (cycles c t) *ℚ c) (q *ℚ m) c (q *ℚ gate_time c s t) (λ o. omega (arith, o.le, o.lt, o.same))

-- ---- with a gate or without
pub record IsOpenTime (P : ℚ → Type 0) (time : ℚ → ℚ) (ratio cycle : ℚ) : Type 0 where
  pub lipschitz : (x y : ℚ) → int (pos 0) ≤ℚ x → x ≤ℚ y → time y ≤ℚ time x +ℚ (y -ℚ x)
  pub flat : (x y : ℚ) → int (pos 0) ≤ℚ x → x ≤ℚ y → ((z : ℚ) → x ≤ℚ z → z <ℚ y → ¬ (P z)) → time y ≤ℚ time x
  pub low : (t : ℚ) → int (pos 0) ≤ℚ t → t ≤ℚ ratio *ℚ time t
  pub high : (t : ℚ) → int (pos 0) ≤ℚ t → ratio *ℚ time t ≤ℚ t +ℚ cycle
  pub least : int (pos 1) ≤ℚ ratio
  pub some_cycle : int (pos 0) ≤ℚ cycle

-- the open time of a server with this gate, or with none
abbrev pub open_time : Option GateTimes → ℚ → ℚ
open_time None t = t
open_time (Some g) t = gate_time g.cycle g.slot t

pub open_time_of : (g : Option GateTimes) → IsGateFor g → IsOpenTime (IsGateOpen g) (open_time g) (Rattle.sim_bounds.specs.Horizons.gate_ratio g) (Rattle.sim_bounds.specs.Horizons.gate_cycle g)
open_time_of None ok = record {
  lipschitz = λ x y h l. with2 x y (λ o. omega (arith, o.le, o.lt, o.same));
  flat = λ x y h l closed. elim (le_or_lt y x) [ inl k ↦ k | inr k ↦ absurd (closed x (le_refl x) k tt) ];
  low = λ t h. subst (λ y. t ≤ℚ y) (sym (one_mul t)) (le_refl t);
  high = λ t h. subst (λ y. y ≤ℚ t +ℚ int (pos 0)) (sym (one_mul t)) (with1 t (λ o. omega (arith, o.le, o.lt, o.same)));
  least = le_refl (int (pos 1));
  some_cycle = le_refl (int (pos 0));
}
open_time_of (Some g) ok = record {
  lipschitz = gate_lipschitz g.cycle g.slot ok.some_slot ok.within;
  flat = gate_flat g ok;
  low = gate_low g.cycle g.slot ok.some_slot ok.within;
  high = gate_high g.cycle g.slot ok.some_slot ok.within;
  least = ratio_least g.cycle g.slot ok.some_slot ok.within;
  some_cycle = le_of_lt (lt_le_trans ok.some_slot ok.within);
}
