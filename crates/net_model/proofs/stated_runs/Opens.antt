-- A server opens again after each time, and then stays open for a while.
use Rattle.std.proofs.Common.{◌≡◌, ℕ, zero, suc, ◌≤◌, ◌+◌, List, [], ◌∷◌, length, refl, sym, ap, ◌∙◌, subst, arith, inl, inr, ◌⊎◌, Some, None}
use Rattle.std.specs.Prelude.{Option, pos}
use Rattle.std.proofs.lemmas.Bool.{cases_order}
use Rattle.rational.specs.Rational.{ℚ, int, ◌+ℚ◌, ◌-ℚ◌, ◌*ℚ◌, ◌/ℚ◌, ◌≤ℚ◌, ◌<ℚ◌}
use Rattle.rational.proofs.Linear.{with1, with2, with3, with5}
use Rattle.rational.proofs.Laws.{le_refl, le_trans, le_of_lt, lt_le_trans, lt_trans, le_or_lt, lt_cases, lt_irrefl, mul_le_mul, mul_le_mul_right, add_mul, one_mul, div_mul, mul_comm, antisym}
use Rattle.rational.proofs.Quotients.{times_above, div_pos}
use Rattle.run_laws.specs.Cards.{whole}
use Rattle.run_laws.proofs.Sizes.{whole_le, whole_sum}
use Rattle.net_model.specs.stated_runs.Setups.{Setup, rate_of, IsStretch, GateTimes, StallTimes, IsGate, IsGateFor, IsGateOpen, IsStalled, IsFirstGateOpen, IsFirstOpenAt, StaysTo, opening_of}

-- ---- cycles
pub zero_times : (c : ℚ) → whole 0 *ℚ c ≡ int (pos 0)
zero_times c = with1 c (λ o. omega (arith, o.le, o.lt, o.same))

pub next_whole : (n : ℕ) (c : ℚ) → whole (suc n) *ℚ c ≡ whole n *ℚ c +ℚ c
next_whole n c =
    ap (λ k. whole k *ℚ c) (let e : suc n ≡ n + 1 = omega arith in e) ∙ ap (λ x. x *ℚ c) (whole_sum n 1) ∙ add_mul (whole n) (whole 1) c
    ∙ ap (λ x. whole n *ℚ c +ℚ x) (one_mul c)

pub record IsCycle (c t : ℚ) (n : ℕ) : Type 0 where
  pub begun : whole n *ℚ c ≤ℚ t
  pub goes_on : t <ℚ whole (suc n) *ℚ c

cycle_below : (c t : ℚ) → int (pos 0) ≤ℚ t → (k : ℕ) → t <ℚ whole k *ℚ c → (n : ℕ) × IsCycle c t n
cycle_below c t h zero l = absurd (lt_irrefl t (lt_le_trans (subst (λ x. t <ℚ x) (zero_times c) l) h))
cycle_below c t h (suc k) l = elim (le_or_lt (whole k *ℚ c) t) [
  | inl b ↦ (k, record { begun = b; goes_on = l })
  | inr b ↦ cycle_below c t h k b
]

pub cycle_of : (c t : ℚ) → int (pos 0) <ℚ c → int (pos 0) ≤ℚ t → (n : ℕ) × IsCycle c t n
cycle_of c t h k = let a = times_above t c h in cycle_below c t k a.0 a.1

-- ---- gates
-- in cycle n, past the slot, the gate is closed
pub closed_after : (g : GateTimes) → IsGate g → (n : ℕ) (x : ℚ) → whole n *ℚ g.cycle +ℚ g.slot ≤ℚ x → x <ℚ whole (suc n) *ℚ g.cycle → ¬ (IsGateOpen (Some g) x)
closed_after g ok n x past before o =
    let m = o.0 in
    let long : int (pos 0) ≤ℚ g.cycle = le_trans (le_of_lt ok.some_slot) ok.within in
    elim (cases_order m n) [
      | inl e ↦ lt_irrefl x (lt_le_trans (subst (λ k. x <ℚ whole k *ℚ g.cycle +ℚ g.slot) e o.2) past)
      | inr d ↦ elim d [
        | inl less ↦
            let step : whole (suc m) *ℚ g.cycle ≤ℚ whole n *ℚ g.cycle = mul_le_mul_right g.cycle long (whole_le (suc m) n (omega (arith, less))) in
            let next = next_whole m g.cycle in
            let u = o.2 in
            let w = ok.within in
            let s = ok.some_slot in
            let step2 : whole m *ℚ g.cycle +ℚ g.cycle ≤ℚ whole n *ℚ g.cycle = subst (λ y. y ≤ℚ whole n *ℚ g.cycle) next step in
            let above = o.2 in
            lt_irrefl x (with5 x (whole m *ℚ g.cycle) (whole n *ℚ g.cycle) g.slot g.cycle (λ c. omega (arith, c.le, c.lt, c.same)))
        | inr more ↦
            let step : whole (suc n) *ℚ g.cycle ≤ℚ whole m *ℚ g.cycle = mul_le_mul_right g.cycle long (whole_le (suc n) m (omega (arith, more))) in
            lt_irrefl x (lt_le_trans before (le_trans step o.1))
      ]
    ]

pub gate_opens : (g : Option GateTimes) → IsGateFor g → (t : ℚ) → int (pos 0) ≤ℚ t → (u : ℚ) × IsFirstGateOpen g t u
gate_opens None ok t h = (t, record { not_before = le_refl t; open_then = tt; closed_before = λ x a b. absurd (lt_irrefl x (lt_le_trans b a)) })
gate_opens (Some g) ok t h =
    let k = cycle_of g.cycle t (lt_le_trans ok.some_slot ok.within) h in
    let n = k.0 in
    elim (le_or_lt (whole n *ℚ g.cycle +ℚ g.slot) t) [
      | inl past ↦
          let u = whole (suc n) *ℚ g.cycle in
          let s = ok.some_slot in (
            u,
            record {
              not_before = le_of_lt k.1.goes_on;
              open_then = (suc n, le_refl u, with2 u g.slot (λ c. omega (arith, c.le, c.lt, c.same)));
              closed_before = λ x a b. closed_after g ok n x (le_trans past a) b;
            },
          )
      | inr slot ↦ (t, record { not_before = le_refl t; open_then = (n, k.1.begun, slot); closed_before = λ x a b. absurd (lt_irrefl x (lt_le_trans b a)) })
    ]

-- ---- stalls
pub record IsStallAt (stalls : List StallTimes) (t : ℚ) : Type 0 where
  pub rest : List StallTimes
  pub end : ℚ
  pub later : t <ℚ end
  pub covers : (x : ℚ) → t ≤ℚ x → x <ℚ end → IsStalled stalls x
  pub shorter : suc (length rest) ≡ length stalls
  pub back : (x : ℚ) → end ≤ℚ x → IsStalled stalls x → IsStalled rest x
  pub forth : (x : ℚ) → IsStalled rest x → IsStalled stalls x

pub stall_at : (stalls : List StallTimes) (t : ℚ) → IsStallAt stalls t ⊎ (¬ (IsStalled stalls t))
stall_at [] t = inr (λ h. h)
stall_at (s ∷ ss) t = elim (both (le_or_lt s.start t) (le_or_lt s.end t)) [
  | inl in_it ↦ inl record {
    rest = ss;
    end = s.end;
    later = in_it.1;
    covers = λ x a b. inl (le_trans in_it.0 a, b);
    shorter = refl;
    back = λ x a h. elim h [ inl k ↦ absurd (lt_irrefl x (lt_le_trans k.1 a)) | inr k ↦ k ];
    forth = λ x h. inr h;
  }
  | inr out ↦ elim (stall_at ss t) [
    | inl r ↦ inl record {
      rest = s ∷ r.rest;
      end = r.end;
      later = r.later;
      covers = λ x a b. inr (r.covers x a b);
      shorter = ap (λ n. suc n) r.shorter;
      back = λ x a h. elim h [ inl k ↦ inl k | inr k ↦ inr (r.back x a k) ];
      forth = λ x h. elim h [ inl k ↦ inl k | inr k ↦ inr (r.forth x k) ];
    }
    | inr none ↦ inr (λ h. elim h [ inl k ↦ out k | inr k ↦ none k ])
  ]
]
  where
    both : {a b c d : ℚ} → (a ≤ℚ b) ⊎ (b <ℚ a) → (c ≤ℚ d) ⊎ (d <ℚ c) → ((a ≤ℚ b) × (d <ℚ c)) ⊎ (¬ ((a ≤ℚ b) × (d <ℚ c)))
    both (inl h) (inl k) = inr (λ p. lt_irrefl _ (lt_le_trans p.1 k))
    both (inl h) (inr k) = inl (h, k)
    both (inr h) k = inr (λ p. lt_irrefl _ (lt_le_trans h p.0))

-- ---- the first open time
open_now : (g : Option GateTimes) (stalls : List StallTimes) (t v : ℚ) → IsFirstGateOpen g t v → ¬ (IsStalled stalls v) → IsFirstOpenAt record { gate = g; stalls = stalls } t v
open_now g stalls t v k none = record { not_before = k.not_before; open_then = (k.open_then, none); closed_before = λ x a b o. k.closed_before x a b o.0 }

open_past : (g : Option GateTimes) (stalls : List StallTimes) (t v u : ℚ) → IsFirstGateOpen g t v → (s : IsStallAt stalls v)
    → IsFirstOpenAt record { gate = g; stalls = s.rest } s.end u → IsFirstOpenAt record { gate = g; stalls = stalls } t u
open_past g stalls t v u k s r = record {
  not_before = le_trans k.not_before (le_trans (le_of_lt s.later) r.not_before);
  open_then = (r.open_then.0, λ i. r.open_then.1 (s.back u r.not_before i));
  closed_before = λ x a b o. elim (le_or_lt v x) [
    | inl l ↦ elim (le_or_lt s.end x) [
      | inl j ↦ r.closed_before x j b (o.0, λ i. o.1 (s.forth x i))
      | inr j ↦ o.1 (s.covers x l j)
    ]
    | inr l ↦ k.closed_before x a l o.0
  ];
}

pub opens_at : (n : ℕ) (g : Option GateTimes) → IsGateFor g → (stalls : List StallTimes) → length stalls ≤ n → (t : ℚ) → int (pos 0) ≤ℚ t
    → (u : ℚ) × IsFirstOpenAt record { gate = g; stalls = stalls } t u
opens_at zero g ok stalls few t h =
    let k = gate_opens g ok t h in
    elim (stall_at stalls k.0) [
      | inr none ↦ (k.0, open_now g stalls t k.0 k.1 none)
      | inl s ↦ absurd (let e = s.shorter in omega (arith, few, e))
    ]
opens_at (suc m) g ok stalls few t h =
    let k = gate_opens g ok t h in
    elim (stall_at stalls k.0) [
      | inr none ↦ (k.0, open_now g stalls t k.0 k.1 none)
      | inl s ↦
          let far : int (pos 0) ≤ℚ s.end = le_trans h (le_trans k.1.not_before (le_of_lt s.later)) in
          let r = opens_at m g ok s.rest (let e = s.shorter in omega (arith, few, e)) s.end far in
          (r.0, open_past g stalls t k.0 r.0 k.1 s r.1)
    ]

-- ---- how long it stays open, up to a horizon
pub gate_stays : (g : Option GateTimes) → IsGateFor g → (a h : ℚ) → int (pos 0) ≤ℚ a → a <ℚ h → IsGateOpen g a → (e : ℚ) × StaysTo (IsGateOpen g) a h e
gate_stays None ok a h z l o = (h, record { forward = l; within = le_refl h; holds = λ x b c. tt; ends = inl refl })
gate_stays (Some g) ok a h z l o =
    let n = o.0 in
    let close = whole n *ℚ g.cycle +ℚ g.slot in
    let next = next_whole n g.cycle in
    elim (le_or_lt h close) [
      | inl far ↦ (h, record { forward = l; within = le_refl h; holds = λ x b c. (n, le_trans o.1 b, lt_le_trans c far); ends = inl refl })
      | inr near ↦ elim (lt_cases g.slot g.cycle) [
        | inl shorter ↦ (
          close,
          record {
            forward = o.2;
            within = le_of_lt near;
            holds = λ x b c. (n, le_trans o.1 b, c);
            ends = inr (closed_after g ok n close (le_refl close)
                (subst (λ y. close <ℚ y) (sym next) (with3 (whole n *ℚ g.cycle) g.slot g.cycle (λ c. omega (arith, c.le, c.lt, c.same)))));
          },
        )
        | inr d ↦ elim d [
          | inl same ↦ (
            h,
            record {
              forward = l;
              within = le_refl h;
              holds = λ x b c.
                  let k = cycle_of g.cycle x (lt_le_trans ok.some_slot ok.within) (le_trans z b) in
                  (k.0, k.1.begun, subst (λ y. x <ℚ whole k.0 *ℚ g.cycle +ℚ y) (sym same) (subst (λ y. x <ℚ y) (next_whole k.0 g.cycle) k.1.goes_on));
              ends = inl refl;
            },
          )
          | inr longer ↦ absurd (lt_irrefl g.cycle (lt_le_trans longer ok.within))
        ]
      ]
    ]

pub stalls_stay : (stalls : List StallTimes) (a h : ℚ) → a <ℚ h → ¬ (IsStalled stalls a) → (e : ℚ) × StaysTo (λ x. ¬ (IsStalled stalls x)) a h e
stalls_stay [] a h l o = (h, record { forward = l; within = le_refl h; holds = λ x b c i. i; ends = inl refl })
stalls_stay (s ∷ ss) a h l o =
    let r = stalls_stay ss a h l (λ i. o (inr i)) in
    let e = r.0 in
    elim (le_or_lt e s.start) [
      | inl after ↦ (
        e,
        record {
          forward = r.1.forward;
          within = r.1.within;
          holds = λ x b c i. elim i [ inl k ↦ lt_irrefl x (lt_le_trans c (le_trans after k.0)) | inr k ↦ r.1.holds x b c k ];
          ends = elim r.1.ends [ inl q ↦ inl q | inr q ↦ inr (λ n. q (λ i. n (inr i))) ];
        },
      )
      | inr before ↦ elim (le_or_lt s.end s.start) [
        | inl never ↦ (
          e,
          record {
            forward = r.1.forward;
            within = r.1.within;
            holds = λ x b c i. elim i [ inl k ↦ lt_irrefl x (lt_le_trans k.1 (le_trans never k.0)) | inr k ↦ r.1.holds x b c k ];
            ends = elim r.1.ends [ inl q ↦ inl q | inr q ↦ inr (λ n. q (λ i. n (inr i))) ];
          },
        )
        | inr some ↦ elim (le_or_lt s.start a) [
          | inl passed ↦
              let gone : s.end ≤ℚ a = elim (le_or_lt s.end a) [ inl k ↦ k | inr k ↦ absurd (o (inl (passed, k))) ] in (
                e,
                record {
                  forward = r.1.forward;
                  within = r.1.within;
                  holds = λ x b c i. elim i [ inl k ↦ lt_irrefl x (lt_le_trans k.1 (le_trans gone b)) | inr k ↦ r.1.holds x b c k ];
                  ends = elim r.1.ends [ inl q ↦ inl q | inr q ↦ inr (λ n. q (λ i. n (inr i))) ];
                },
              )
          | inr coming ↦ (
            s.start,
            record {
              forward = coming;
              within = le_trans (le_of_lt before) r.1.within;
              holds = λ x b c i. elim i [ inl k ↦ lt_irrefl x (lt_le_trans c k.0) | inr k ↦ r.1.holds x b (lt_trans c before) k ];
              ends = inr (λ n. n (inl (le_refl s.start, some)));
            },
          )
        ]
      ]
    ]

-- ---- a stretch of work
pub stretch_of : (S : Setup) (s : ℕ) → int (pos 0) <ℚ rate_of S s → IsGateFor (opening_of S s).gate → (from left : ℚ) → int (pos 0) ≤ℚ from → int (pos 0) <ℚ left
    → (a b w : ℚ) × IsStretch S s from left a b w
stretch_of S s rate ok from left h more =
    let o = opening_of S s in
    let f = opens_at (length o.stalls) o.gate ok o.stalls (omega arith) from h in
    let a = f.0 in
    let time = left /ℚ rate_of S s in
    let some : int (pos 0) <ℚ time = div_pos left (rate_of S s) rate more in
    let horizon = a +ℚ time in
    let ahead : a <ℚ horizon = with2 a time (λ c. omega (arith, c.le, c.lt, c.same)) in
    let g = gate_stays o.gate ok a horizon (le_trans h f.1.not_before) ahead f.1.open_then.0 in
    let k = stalls_stay o.stalls a g.0 g.1.forward f.1.open_then.1 in
    let b = k.0 in
    let all : rate_of S s *ℚ time ≡ left = mul_comm (rate_of S s) time ∙ div_mul left (rate_of S s) (λ e. lt_irrefl (int (pos 0)) (subst (λ x. int (pos 0) <ℚ x) e rate)) in
    let to_end : b ≤ℚ horizon = le_trans k.1.within g.1.within in
    let done : rate_of S s *ℚ (b -ℚ a) ≤ℚ left =
    subst (λ x. rate_of S s *ℚ (b -ℚ a) ≤ℚ x) all (mul_le_mul (rate_of S s) (le_of_lt rate) (with3 a b time (λ c. omega (arith, c.le, c.lt, c.same)))) in (
      a,
      b,
      rate_of S s *ℚ (b -ℚ a),
      record {
        begins = record { not_before = f.1.not_before; open_then = f.1.open_then; closed_before = f.1.closed_before };
        forward = k.1.forward;
        open_all = λ x l m. (g.1.holds x l (lt_le_trans m k.1.within), k.1.holds x l m);
        at_rate = refl;
        within = done;
        longest = elim k.1.ends [
          | inl e ↦ elim g.1.ends [
            | inl q ↦
                let to : b ≡ horizon = e ∙ q in
                let left_all : b -ℚ a ≡ time = ap (λ x. x -ℚ a) to ∙ antisym (with2 a time (λ c. omega (arith, c.le, c.lt, c.same))) in
                inl (ap (λ x. rate_of S s *ℚ x) left_all ∙ all)
            | inr q ↦ inr (λ i. q (subst (λ x. IsGateOpen o.gate x) e i.0))
          ]
          | inr q ↦ inr (λ i. q i.1)
        ];
      },
    )
