-- The times at which a server opens and closes are on the grid of its gate and its stalls.
use Rattle.std.proofs.Common.{◌≡◌, ℕ, suc, List, [], ◌∷◌, sym, ◌∙◌, subst, arith, inl, inr, ◌⊎◌, Some, None}
use Rattle.std.specs.Prelude.{Option, pos}
use Rattle.std.proofs.lemmas.Bool.{cases_order}
use Rattle.rational.specs.Rational.{ℚ, int, ◌+ℚ◌, ◌-ℚ◌, ◌*ℚ◌, ◌/ℚ◌, ◌≤ℚ◌, ◌<ℚ◌}
use Rattle.rational.specs.Grid.{Whole}
use Rattle.rational.specs.MinMax.{max_q}
use Rattle.rational.proofs.Linear.{with2, with3, with4, with5, with6}
use Rattle.rational.proofs.Laws.{le_trans, le_of_lt, lt_le_trans, le_lt_trans, le_or_lt, lt_irrefl, antisym, mul_comm, mul_le_mul_right}
use Rattle.rational.proofs.Grid.{whole_add, whole_times, max_whole}
use Rattle.rational.proofs.MinMax.{max_q_ge_left, max_q_ge_right, max_q_le, max_q_one}
use Rattle.rational.proofs.Quotients.{div_unique}
use Rattle.rational.proofs.Whole.{one_more_times}
use Rattle.run_laws.specs.Cards.{whole}
use Rattle.run_laws.proofs.Sizes.{whole_le}
use Rattle.net_model.specs.stated_runs.Setups.{Setup, IsSetup, GateTimes, StallTimes, IsGate, IsGateFor, IsGateOpen, IsStalled, IsOpen, IsFirstOpen, IsStretch, opening_of, rate_of}
use Rattle.sim_bounds.specs.Times.{IsGateWhole, AreStallsWhole}
use Rattle.sim_bounds.proofs.OpenTime.{cycles, in_cycle}

-- ---- since when it is open
-- from a time on the grid up to a, a fact holds
record HoldsSince (d : ℕ) (P : ℚ → Type 0) (a : ℚ) : Type 0 where
  since : ℚ
  not_after : since ≤ℚ a
  on_grid : Whole d since
  holds : (x : ℚ) → since ≤ℚ x → x ≤ℚ a → P x

gate_since : (d : ℕ) (g : Option GateTimes) (from a : ℚ) → IsGateWhole d g → Whole d from → from ≤ℚ a → IsGateOpen g a → HoldsSince d (IsGateOpen g) a
gate_since d None from a w f l o = record { since = from; not_after = l; on_grid = f; holds = λ x b c. tt }
gate_since d (Some g) from a w f l o = record {
  since = whole o.0 *ℚ g.cycle;
  not_after = o.1;
  on_grid = whole_times d (pos o.0) g.cycle w.0;
  holds = λ x b c. (o.0, b, le_lt_trans c o.2);
}

stall_since : (d : ℕ) (xs : List StallTimes) (from a : ℚ) → AreStallsWhole d xs → Whole d from → from ≤ℚ a → ¬ (IsStalled xs a)
    → HoldsSince d (λ x. ¬ (IsStalled xs x)) a
stall_since d [] from a w f l o = record { since = from; not_after = l; on_grid = f; holds = λ x b c i. i }
stall_since d (s ∷ ss) from a w f l o =
    let r = stall_since d ss from a w.1 f l (λ i. o (inr i)) in
    elim (le_or_lt s.end a) [
      | inl over ↦ record {
        since = max_q r.since s.end;
        not_after = max_q_le r.since s.end a r.not_after over;
        on_grid = max_whole d r.since s.end r.on_grid w.0.1;
        holds = λ x b c i. elim i [
          | inl k ↦ lt_irrefl x (lt_le_trans k.1 (le_trans (max_q_ge_right r.since s.end) b))
          | inr k ↦ r.holds x (le_trans (max_q_ge_left r.since s.end) b) c k
        ];
      }
      | inr later ↦ record {
        since = r.since;
        not_after = r.not_after;
        on_grid = r.on_grid;
        holds = λ x b c i. elim i [
          | inl k ↦ o (inl (le_trans k.0 c, later))
          | inr k ↦ r.holds x b c k
        ];
      }
    ]

pub first_open_whole : (S : Setup) (s d : ℕ) (from a : ℚ) → IsGateWhole d (opening_of S s).gate → AreStallsWhole d (opening_of S s).stalls → Whole d from
    → IsFirstOpen S s from a → Whole d a
first_open_whole S s d from a wg ws f o =
    let g = gate_since d (opening_of S s).gate from a wg f o.not_before o.open_then.0 in
    let k = stall_since d (opening_of S s).stalls from a ws f o.not_before o.open_then.1 in
    let both = max_q g.since k.since in
    let v = max_q from both in
    let v_whole : Whole d v = max_whole d from both f (max_whole d g.since k.since g.on_grid k.on_grid) in
    let v_most : v ≤ℚ a = max_q_le from both a o.not_before (max_q_le g.since k.since a g.not_after k.not_after) in
    elim (le_or_lt a v) [
      | inl h ↦ subst (λ x. Whole d x) (antisym (v_most, h)) v_whole
      | inr h ↦ absurd (o.closed_before v (max_q_ge_left from both) h (
        g.holds v (le_trans (max_q_ge_left g.since k.since) (max_q_ge_right from both)) v_most,
        k.holds v (le_trans (max_q_ge_right g.since k.since) (max_q_ge_right from both)) v_most,
      ))
    ]

-- ---- when it closes
stalled_or_not : (xs : List StallTimes) (t : ℚ) → IsStalled xs t ⊎ (¬ (IsStalled xs t))
stalled_or_not [] t = inr (λ i. i)
stalled_or_not (s ∷ ss) t = elim (le_or_lt s.start t) [
  | inl begun ↦ elim (le_or_lt s.end t) [
    | inr going ↦ inl (inl (begun, going))
    | inl over ↦ elim (stalled_or_not ss t) [
      | inl i ↦ inl (inr i)
      | inr n ↦ inr (λ i. elim i [ inl k ↦ lt_irrefl t (lt_le_trans k.1 over) | inr k ↦ n k ])
    ]
  ]
  | inr later ↦ elim (stalled_or_not ss t) [
    | inl i ↦ inl (inr i)
    | inr n ↦ inr (λ i. elim i [ inl k ↦ lt_irrefl t (lt_le_trans later k.0) | inr k ↦ n k ])
  ]
]

-- a stall that was not there before begins on the grid
stall_begins : (d : ℕ) (xs : List StallTimes) (a b : ℚ) → AreStallsWhole d xs → a <ℚ b → IsStalled xs b → ((x : ℚ) → a ≤ℚ x → x <ℚ b → ¬ (IsStalled xs x)) → Whole d b
stall_begins d [] a b w l i free = absurd i
stall_begins d (s ∷ ss) a b w l (inl k) free =
    let v = max_q a s.start in
    elim (le_or_lt b v) [
      | inl h ↦ elim (max_q_one a s.start) [
        | inl e ↦ absurd (lt_irrefl a (lt_le_trans l (subst (λ x. b ≤ℚ x) e h)))
        | inr e ↦ subst (λ x. Whole d x) (antisym (k.0, subst (λ x. b ≤ℚ x) e h)) w.0.0
      ]
      | inr h ↦ absurd (free v (max_q_ge_left a s.start) h (inl (max_q_ge_right a s.start, lt_le_trans h (le_of_lt k.1))))
    ]
stall_begins d (s ∷ ss) a b w l (inr k) free = stall_begins d ss a b w.1 l k (λ x p q i. free x p q (inr i))

-- past its slot a gate is closed up to the next cycle
past_slot : (g : GateTimes) → IsGate g → (n : ℕ) (x : ℚ) → whole n *ℚ g.cycle +ℚ g.slot ≤ℚ x → x <ℚ whole n *ℚ g.cycle +ℚ g.cycle → ¬ (IsGateOpen (Some g) x)
past_slot g ok n x past before o =
    let m = o.0 in
    let long : int (pos 0) ≤ℚ g.cycle = le_trans (le_of_lt ok.some_slot) ok.within in
    let begun = o.1 in
    let goes_on = o.2 in
    elim (cases_order m n) [
      | inl e ↦ lt_irrefl x (lt_le_trans (subst (λ k. x <ℚ whole k *ℚ g.cycle +ℚ g.slot) e goes_on) past)
      | inr c ↦ elim c [
        | inl less ↦
            let step : whole (suc m) *ℚ g.cycle ≤ℚ whole n *ℚ g.cycle = mul_le_mul_right g.cycle long (whole_le (suc m) n (omega (arith, less))) in
            let next = one_more_times m g.cycle in
            let w = ok.within in
            let some = ok.some_slot in
            let a : x <ℚ whole n *ℚ g.cycle = with6 x (whole m *ℚ g.cycle) (whole n *ℚ g.cycle) (whole (suc m) *ℚ g.cycle) g.slot g.cycle (λ o. omega (arith, o.le, o.lt, o.same)) in
            lt_irrefl x (with3 x (whole n *ℚ g.cycle) g.slot (λ o. omega (arith, o.le, o.lt, o.same)))
        | inr more ↦
            let step : whole (suc n) *ℚ g.cycle ≤ℚ whole m *ℚ g.cycle = mul_le_mul_right g.cycle long (whole_le (suc n) m (omega (arith, more))) in
            let next = one_more_times n g.cycle in
            lt_irrefl x (with5 x (whole m *ℚ g.cycle) (whole n *ℚ g.cycle) (whole (suc n) *ℚ g.cycle) g.cycle (λ o. omega (arith, o.le, o.lt, o.same)))
      ]
    ]

-- it is open, or it has just closed on the grid
gate_or_closes : (d : ℕ) (g : Option GateTimes) → IsGateFor g → (a b : ℚ) → IsGateWhole d g → int (pos 0) ≤ℚ b → a <ℚ b → ((x : ℚ) → a ≤ℚ x → x <ℚ b → IsGateOpen g x)
    → IsGateOpen g b ⊎ Whole d b
gate_or_closes d None ok a b w from l opens = inl tt
gate_or_closes d (Some g) ok a b w from l opens =
    let n = cycles g.cycle b in
    let c = in_cycle g.cycle b (lt_le_trans ok.some_slot ok.within) from in
    let close = whole n *ℚ g.cycle +ℚ g.slot in
    let v = max_q a close in
    elim (le_or_lt close b) [
      | inr in_slot ↦ inl (n, c.begun, in_slot)
      | inl past ↦ elim (le_or_lt b v) [
        | inl h ↦ elim (max_q_one a close) [
          | inl e ↦ absurd (lt_irrefl a (lt_le_trans l (subst (λ x. b ≤ℚ x) e h)))
          | inr e ↦ inr (subst (λ x. Whole d x) (antisym (past, subst (λ x. b ≤ℚ x) e h)) (whole_add d (whole n *ℚ g.cycle) g.slot (whole_times d (pos n) g.cycle w.0) w.1))
        ]
        | inr h ↦
            let before = c.goes_on in
            absurd (past_slot g ok n v (max_q_ge_right a close) (with4 v b (whole n *ℚ g.cycle) g.cycle (λ o. omega (arith, o.le, o.lt, o.same))) (opens v (max_q_ge_left a close) h))
      ]
    ]

closes_whole : (S : Setup) (s d : ℕ) → IsSetup S → (a b : ℚ) → IsGateWhole d (opening_of S s).gate → AreStallsWhole d (opening_of S s).stalls → int (pos 0) ≤ℚ b → a <ℚ b
    → ((x : ℚ) → a ≤ℚ x → x <ℚ b → IsOpen S s x) → ¬ (IsOpen S s b) → Whole d b
closes_whole S s d ok a b wg ws from l opens closed =
    elim (gate_or_closes d (opening_of S s).gate (ok.gates s) a b wg from l (λ x p q. (opens x p q).0)) [
      | inr w ↦ w
      | inl g ↦ elim (stalled_or_not (opening_of S s).stalls b) [
        | inl i ↦ stall_begins d (opening_of S s).stalls a b ws l i (λ x p q. (opens x p q).1)
        | inr n ↦ absurd (closed (g, n))
      ]
    ]

pub stretch_end_whole : (S : Setup) (s d : ℕ) → IsSetup S → (from left a b w : ℚ) → IsGateWhole d (opening_of S s).gate → AreStallsWhole d (opening_of S s).stalls
    → int (pos 0) ≤ℚ a → Whole d a → Whole d (left /ℚ rate_of S s) → IsStretch S s from left a b w → Whole d b
stretch_end_whole S s d ok from left a b w wg ws zero wa wl k = elim k.longest [
  | inl e ↦
      let rate = rate_of S s in
      let is : (b -ℚ a) *ℚ rate ≡ left = mul_comm (b -ℚ a) rate ∙ sym k.at_rate ∙ e in
      let time : left /ℚ rate ≡ b -ℚ a = div_unique left rate (b -ℚ a) (Rattle.rational.proofs.Laws.not_zero rate (ok.rates s)) is in
      let end : a +ℚ left /ℚ rate ≡ b = antisym (with3 a b (left /ℚ rate) (λ o. omega (arith, o.le, o.lt, o.same))) in
      subst (λ x. Whole d x) end (whole_add d a (left /ℚ rate) wa wl)
  | inr n ↦
      let l = k.forward in
      closes_whole S s d ok a b wg ws (with2 a b (λ o. omega (arith, o.le, o.lt, o.same))) k.forward k.open_all n
]
