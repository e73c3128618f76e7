-- Work at an even pace, and how a server that has nothing to do up to some time keeps a curve from then on.
use Rattle.std.specs.Prelude.{◌≡◌, ◌⊎◌, List, true, ◌&&◌}
use Rattle.std.proofs.Common.{arith, sym, ap, ◌∙◌, inl, inr}
use Rattle.rational.specs.Rational.{ℚ, ◌+ℚ◌, ◌-ℚ◌, ◌*ℚ◌, ◌/ℚ◌, ◌≤ℚ◌, ◌<ℚ◌, lt_q}
use Rattle.rational.specs.MinMax.{max_q}
use Rattle.rational.specs.Extended.{Ext, ◌≤ₑ◌, ◌+ₑ◌}
use Rattle.rational.specs.declared.Extended.TheVariants.{Fin}
use Rattle.rational.proofs.Laws.{le_refl, le_or_lt, le_of_lt, le_lt_trans, lt_trans, between, antisym, mul_comm, mul_assoc, mul_zero, mul_add, mul_le_mul, mul_cancel, not_zero}
use Rattle.rational.proofs.ExtendedOrder.{le_ext_trans, add_le_ext}
use Rattle.rational.proofs.MinMax.{max_q_left, max_q_right, le_q_not, lt_q_not}
use Rattle.rational.proofs.Over.{le_q_out}
use Rattle.rational.proofs.Linear.{with2, with3, with4, with5, with6}
use Rattle.min_plus.specs.Functions.{zero_q}
use Rattle.min_plus.specs.Formulas.{IsService, rate_latency_value}
use Rattle.run_laws.specs.Cards.{all, ServerStep}
use Rattle.run_laws.specs.Servers.{Span, clip}
use Rattle.run_laws.specs.Counts.{when, arrived, worked}
use Rattle.run_laws.specs.Premises.{KeepsService, IsBusy}
use Rattle.run_laws.proofs.Clips.{quotient}
use Rattle.run_laws.proofs.Sums.{when_false}

-- ---- a span of work that takes k
-- all through it, k times what is done is its bits times the time that has passed
pub in_span : (s : Span) (k x : ℚ) → s.end ≡ s.start +ℚ k → zero_q <ℚ k → s.start ≤ℚ x → x ≤ℚ s.end
    → k *ℚ clip s x ≡ s.bits *ℚ (x -ℚ s.start)
unfolding clip
in_span s k x e some low high = elim (le_or_lt x s.start) [
  | inl h ↦
      let same : x ≡ s.start = antisym (h, low) in
      let none : x -ℚ s.start ≡ zero_q = with2 x s.start (λ c. omega (arith, c.le, c.lt, c.same)) in
      rw (le_q_out _ _ h) (mul_zero k ∙ sym (ap (λ z. s.bits *ℚ z) none ∙ mul_zero s.bits))
  | inr h ↦ elim (le_or_lt s.end x) [
    | inl l ↦
        let same : x ≡ s.end = antisym (high, l) in
        let all : x -ℚ s.start ≡ k = with4 x s.start s.end k (λ c. omega (arith, c.le, c.lt, c.same)) in
        rw (le_q_not _ _ h, le_q_out _ _ l) (mul_comm k s.bits ∙ sym (ap (λ z. s.bits *ℚ z) all))
    | inr l ↦
        let part = (x -ℚ s.start) /ℚ (s.end -ℚ s.start) in
        let long : s.end -ℚ s.start ≡ k = with3 s.start s.end k (λ c. omega (arith, c.le, c.lt, c.same)) in
        let q : part *ℚ (s.end -ℚ s.start) ≡ x -ℚ s.start =
        quotient (x -ℚ s.start) (s.end -ℚ s.start) (with3 s.start s.end k (λ c. omega (arith, c.le, c.lt, c.same))) in
        let p : part *ℚ k ≡ x -ℚ s.start = sym (ap (λ z. part *ℚ z) long) ∙ q in
        rw (le_q_not _ _ h, le_q_not _ _ l)
        (mul_comm k (s.bits *ℚ part) ∙ mul_assoc s.bits part k ∙ ap (λ z. s.bits *ℚ z) p)
  ]
]

-- ---- before a packet arrives
pub not_yet : (t bits x : ℚ) → x ≤ℚ t → when (true && lt_q t x) bits ≡ zero_q
not_yet t bits x h = when_false (true && lt_q t x) bits (lt_q_not _ _ h)

-- nothing is at most nothing
pub none_over : (x y : ℚ) → x ≡ zero_q → y ≡ zero_q → x ≤ℚ y
none_over x y e f = with2 x y (λ c. omega (arith, c.le, c.lt, c.same))

-- ---- service
-- all that has arrived is worked off at x
abbrev pub IsIdle : List ServerStep → ℚ → Type 0
IsIdle V x = arrived all V x ≤ℚ worked all V x

-- in some window, up to the end, in which the server is busy
pub record IsBusyWindow (end : ℚ) (V : List ServerStep) (a b : ℚ) : Type 0 where
  pub forward : a <ℚ b
  pub in_run : b ≤ℚ end
  pub busy : IsBusy V a b

-- there is none across a time at which it is idle
never : {end : ℚ} {V : List ServerStep} {a b : ℚ} → IsBusyWindow end V a b → (x : ℚ) → IsIdle V x → a <ℚ x → x <ℚ b → ⊥
never {end} {V} h x idle p q =
    let j = h.busy x p q in
    with2 (arrived all V x) (worked all V x) (λ c. omega (arith, c.le, c.lt, c.same))

-- it is idle up to `from`, and from `last` on, if the run goes on past that
pub record IsBusyOnly (from last end : ℚ) (V : List ServerStep) : Type 0 where
  pub before : (x : ℚ) → x ≤ℚ from → IsIdle V x
  pub past : (last ≡ end) ⊎ ((x : ℚ) → last ≤ℚ x → IsIdle V x)

opens : (from last end : ℚ) (V : List ServerStep) (a b : ℚ) → IsBusyOnly from last end V → IsBusyWindow end V a b
    → from ≤ℚ a
opens from last end V a b g h = elim (le_or_lt from a) [
  | inl l ↦ l
  | inr l ↦ elim (le_or_lt b from) [
    | inl k ↦ let m = between a b h.forward in absurd (never h m.0 (g.before m.0 (upto m.0 k m.2)) m.1 m.2)
    | inr k ↦ absurd (never h from (g.before from (le_refl from)) l k)
  ]
]
  where
    upto : (x : ℚ) → b ≤ℚ from → x <ℚ b → x ≤ℚ from
    upto x k m = with3 x b from (λ c. omega (arith, c.le, c.lt, c.same))

closes : (from last end : ℚ) (V : List ServerStep) (a b : ℚ) → IsBusyOnly from last end V → IsBusyWindow end V a b
    → b ≤ℚ last
closes from last end V a b g h = elim g.past [
  | inl e ↦ rw e h.in_run
  | inr off ↦ elim (le_or_lt b last) [
    | inl l ↦ l
    | inr l ↦ elim (le_or_lt a last) [
      | inl k ↦ let m = between last b l in absurd (never h m.0 (off m.0 (le_of_lt m.1)) (le_lt_trans k m.1) m.2)
      | inr k ↦ let m = between a b h.forward in absurd (never h m.0 (off m.0 (le_of_lt (lt_trans k m.1))) m.1 m.2)
    ]
  ]
]

-- so that it keeps a curve which it keeps in the windows between the two
pub keeps_from : (β : ℚ → Ext) (from last end : ℚ) (V : List ServerStep) → IsBusyOnly from last end V
    → ((a b : ℚ) → from ≤ℚ a → a <ℚ b → b ≤ℚ last → (Fin (worked all V a) +ₑ β (b -ℚ a)) ≤ₑ Fin (worked all V b))
    → KeepsService β end V
keeps_from β from last end V g works a b l in_run busy =
    let h : IsBusyWindow end V a b = record { forward = l; in_run = in_run; busy = busy } in
    works a b (opens from last end V a b g h) l (closes from last end V a b g h)

-- a curve that is at most a rate after a latency in windows as long as that
abbrev pub IsAtMostService : ℚ → ℚ → ℚ → (ℚ → Ext) → Type 0
IsAtMostService R T long β = (u : ℚ) → zero_q ≤ℚ u → u ≤ℚ long → β u ≤ₑ rate_latency_value R T u

pub service_at_most : (R T long : ℚ) (β : ℚ → Ext) → IsService R T β → IsAtMostService R T long β
service_at_most R T long β G u on l = rw (G.is u on) (le_refl (R *ℚ max_q zero_q (u -ℚ T)))

-- the same for such a curve
pub keeps_latency : (R T from last end : ℚ) (β : ℚ → Ext) (V : List ServerStep) → IsAtMostService R T (last -ℚ from) β
    → IsBusyOnly from last end V
    → ((a b : ℚ) → from ≤ℚ a → a <ℚ b → b ≤ℚ last
    → (worked all V a ≤ℚ worked all V b) × (worked all V a +ℚ R *ℚ (b -ℚ a -ℚ T) ≤ℚ worked all V b))
    → KeepsService β end V
keeps_latency R T from last end β V G only works =
    keeps_from β from last end V only (λ a b low l high. at_least a b low l high (works a b low l high))
  where
    enough : (z x y : ℚ) → x ≤ℚ y → x +ℚ R *ℚ z ≤ℚ y → x +ℚ R *ℚ max_q zero_q z ≤ℚ y
    enough z x y h k = elim (le_or_lt zero_q z) [
      | inl l ↦ rw (max_q_right zero_q z l) k
      | inr l ↦ rw (max_q_left zero_q z l, mul_zero R) (with2 x y (λ c. omega (arith, c.le, c.lt, c.same)))
    ]

    at_least : (a b : ℚ) → from ≤ℚ a → a <ℚ b → b ≤ℚ last
        → (worked all V a ≤ℚ worked all V b) × (worked all V a +ℚ R *ℚ (b -ℚ a -ℚ T) ≤ℚ worked all V b)
        → (Fin (worked all V a) +ₑ β (b -ℚ a)) ≤ₑ Fin (worked all V b)
    at_least a b low l high h =
        let on : zero_q ≤ℚ b -ℚ a = with2 a b (λ c. omega (arith, c.le, c.lt, c.same)) in
        let short : b -ℚ a ≤ℚ last -ℚ from = with4 a b from last (λ c. omega (arith, c.le, c.lt, c.same)) in
        le_ext_trans (Fin (worked all V a) +ₑ β (b -ℚ a)) (Fin (worked all V a) +ₑ rate_latency_value R T (b -ℚ a))
        (Fin (worked all V b))
        (add_le_ext (Fin (worked all V a)) (Fin (worked all V a)) (β (b -ℚ a)) (rate_latency_value R T (b -ℚ a))
        (le_refl (worked all V a)) (G (b -ℚ a) on short))
        (enough (b -ℚ a -ℚ T) (worked all V a) (worked all V b) h.0 h.1)

-- a server that begins at s, no later than the latency after `from`, and works at the rate from then on up to `last`
pub record IsAtRate (R T from s last end : ℚ) (V : List ServerStep) : Type 0 where
  pub rate : zero_q ≤ℚ R
  pub soon : s ≤ℚ from +ℚ T
  pub only : IsBusyOnly from last end V
  pub early : (x : ℚ) → x ≤ℚ s → worked all V x ≡ zero_q
  pub steady : (x : ℚ) → s ≤ℚ x → x ≤ℚ last → worked all V x ≡ R *ℚ (x -ℚ s)

pub keeps_at_rate : (R T from s last end : ℚ) (β : ℚ → Ext) (V : List ServerStep) → IsAtMostService R T (last -ℚ from) β
    → zero_q ≤ℚ T → IsAtRate R T from s last end V → KeepsService β end V
keeps_at_rate R T from s last end β V G late h = keeps_latency R T from last end β V G h.only works
  where
    times : {x y : ℚ} → x ≤ℚ y → R *ℚ x ≤ℚ R *ℚ y
    times l = mul_le_mul R h.rate l

    soon : s ≤ℚ from +ℚ T
    soon = h.soon

    before : (a b : ℚ) → from ≤ℚ a → a <ℚ b → b ≤ℚ s → (zero_q ≤ℚ zero_q) × (zero_q +ℚ R *ℚ (b -ℚ a -ℚ T) ≤ℚ zero_q)
    before a b low l k =
        let z = mul_zero R in
        let m =
        times {x = b -ℚ a -ℚ T} {y = zero_q} (with6 a b from s T zero_q (λ c. omega (arith, c.le, c.lt, c.same))) in
        (le_refl zero_q, with2 (R *ℚ zero_q) (R *ℚ (b -ℚ a -ℚ T)) (λ c. omega (arith, c.le, c.lt, c.same)))

    across : (a b : ℚ) → from ≤ℚ a → a <ℚ b → s ≤ℚ b
        → (zero_q ≤ℚ R *ℚ (b -ℚ s)) × (zero_q +ℚ R *ℚ (b -ℚ a -ℚ T) ≤ℚ R *ℚ (b -ℚ s))
    across a b low l k =
        let m = times {x = b -ℚ a -ℚ T} {y = b -ℚ s} (with5 a b from s T (λ c. omega (arith, c.le, c.lt, c.same))) in
        let z = mul_zero R in
        let n = times {x = zero_q} {y = b -ℚ s} (with2 b s (λ c. omega (arith, c.le, c.lt, c.same))) in (
          with2 (R *ℚ zero_q) (R *ℚ (b -ℚ s)) (λ c. omega (arith, c.le, c.lt, c.same)),
          with2 (R *ℚ (b -ℚ s)) (R *ℚ (b -ℚ a -ℚ T)) (λ c. omega (arith, c.le, c.lt, c.same)),
        )

    past : (a b : ℚ) → a <ℚ b
        → (R *ℚ (a -ℚ s) ≤ℚ R *ℚ (b -ℚ s)) × (R *ℚ (a -ℚ s) +ℚ R *ℚ (b -ℚ a -ℚ T) ≤ℚ R *ℚ (b -ℚ s))
    past a b l =
        let m =
        times {x = (a -ℚ s) +ℚ (b -ℚ a -ℚ T)} {y = b -ℚ s} (with4 a b s T (λ c. omega (arith, c.le, c.lt, c.same))) in
        let e = mul_add R (a -ℚ s) (b -ℚ a -ℚ T) in (
          times (with3 a b s (λ c. omega (arith, c.le, c.lt, c.same))),
          with4 (R *ℚ (a -ℚ s)) (R *ℚ (b -ℚ a -ℚ T)) (R *ℚ ((a -ℚ s) +ℚ (b -ℚ a -ℚ T))) (R *ℚ (b -ℚ s))
              (λ c. omega (arith, c.le, c.lt, c.same)),
        )

    works : (a b : ℚ) → from ≤ℚ a → a <ℚ b → b ≤ℚ last
        → (worked all V a ≤ℚ worked all V b) × (worked all V a +ℚ R *ℚ (b -ℚ a -ℚ T) ≤ℚ worked all V b)
    works a b low l high = elim (le_or_lt a s) [
      | inl h1 ↦ elim (le_or_lt b s) [
        | inl k ↦ rw (h.early a h1, h.early b k) (before a b low l k)
        | inr k ↦ rw (h.early a h1, h.steady b (le_of_lt k) high) (across a b low l (le_of_lt k))
      ]
      | inr h1 ↦
          let a_last : a ≤ℚ last = with3 a b last (λ c. omega (arith, c.le, c.lt, c.same)) in
          let b_on : s ≤ℚ b = with3 a b s (λ c. omega (arith, c.le, c.lt, c.same)) in
          rw (h.steady a (le_of_lt h1) a_last, h.steady b b_on high) (past a b l)
    ]

-- a span of work at that rate
pub span_at_rate : (R k : ℚ) (s : Span) (x : ℚ) → s.end ≡ s.start +ℚ k → zero_q <ℚ k → s.bits ≡ R *ℚ k → s.start ≤ℚ x
    → x ≤ℚ s.end → clip s x ≡ R *ℚ (x -ℚ s.start)
span_at_rate R k s x e some b low high =
    mul_cancel (clip s x) (R *ℚ (x -ℚ s.start)) k (not_zero k some)
    (mul_comm (clip s x) k ∙ in_span s k x e some low high ∙ ap (λ z. z *ℚ (x -ℚ s.start)) b
    ∙ mul_assoc R k (x -ℚ s.start) ∙ ap (λ z. R *ℚ z) (mul_comm k (x -ℚ s.start))
    ∙ sym (mul_assoc R (x -ℚ s.start) k))
