-- How far the stair of the example is from its gate, both ways: 990 and 47000.
use Rattle.std.specs.Prelude.{◌≡◌, ◌⊎◌, ℕ, zero, suc, ◌+◌, ◌-◌, ◌*◌, ◌/◌, pos}
use Rattle.std.proofs.Common.{arith, sym, ap, ◌∙◌, refl, subst, inl, inr}
use Rattle.rational.specs.Rational.{ℚ, int, ◌+ℚ◌, ◌-ℚ◌, ◌*ℚ◌, ◌/ℚ◌, ◌≤ℚ◌, ◌<ℚ◌}
use Rattle.rational.specs.Fractions.{same_parts}
use Rattle.rational.specs.MinMax.{max_q}
use Rattle.rational.specs.Whole.{whole_part}
use Rattle.rational.specs.Bounds.{IsSupremum}
use Rattle.rational.specs.Extended.{Ext, ◌≤ₑ◌, ◌-ₑ◌}
use Rattle.rational.specs.declared.Extended.TheVariants.{Fin}
use Rattle.rational.proofs.Bounds.{least_member, largest_member}
use Rattle.rational.proofs.ExtendedOrder.{fin_same, le_ext_trans}
use Rattle.rational.proofs.Integers.{nat_le, nat_lt, nat_next, nat_nonneg}
use Rattle.rational.proofs.Laws.{mul_comm, le_or_lt, le_of_lt, le_refl, div_mul, not_zero}
use Rattle.rational.proofs.Linear.{with1, with2, with3, with4, with5}
use Rattle.rational.proofs.MinMax.{max_q_ge_left, max_q_ge_right, max_q_le}
use Rattle.min_plus.specs.Functions.{zero_q, Time, FiniteTime}
use Rattle.min_plus.specs.Pointwise.{excess}
use Rattle.min_plus.specs.Deviations.{Lag, IsLag, IsHorizontalDeviation, IsVerticalDeviation}
use Rattle.upp_curve.specs.Curve.{SpecCurve, value_at}
use Rattle.upp_curve.specs.Kinds.{gate, stair}
use Rattle.upp_curve.proofs.StairValues.{stair_is, ratio_low}
use Rattle.upp_curve.proofs.Worked.{computing}
use Rattle.run_laws.specs.Cards.{whole}
use Rattle.run_laws.proofs.Small.{le_t, lt_t, sum_t}
use Rattle.run_laws.proofs.Sizes.{whole_times}
use Rattle.net_model.specs.Accepted.{IsServiceCurve}
use Rattle.net_model.proofs.KindsStand.{kinds_may_stand}
use Rattle.worked_runs.proofs.Gates.{while_closed, while_open, over_line}
use Rattle.worked_runs.proofs.GateLess.{gate_less_packet, less_is, after_first_slot}

abbrev pub packets : SpecCurve
packets = stair (whole 24000) (whole 1500) (whole 0)

abbrev pub service : SpecCurve
service = gate (whole 100) (whole 1000) (whole 250)

pub is_service : IsServiceCurve service
is_service = kinds_may_stand.gate (whole 100) (whole 1000) (whole 250) (nat_nonneg 100) (lt_t 0 250 refl) (le_t 250 1000 refl)

-- ---- the stair
count : ℚ → ℕ
count t = whole_part ((t +ℚ whole 0) /ℚ whole 1500)

stair_at : (t : ℚ) → zero_q ≤ℚ t → value_at packets t ≡ Fin (whole 24000 *ℚ whole (suc (count t)))
unfolding count
stair_at t on = stair_is (whole 24000) (whole 1500) (whole 0) t (le_t 0 24000 refl) (lt_t 0 1500 refl) (le_t 0 0 refl) on

counted : (t : ℚ) → zero_q ≤ℚ t → whole 1500 *ℚ whole (count t) ≤ℚ t
unfolding count
counted t on =
    let n = int (pos (whole_part ((t +ℚ whole 0) /ℚ whole 1500))) in
    under (n *ℚ whole 1500) (whole 1500 *ℚ n) (mul_comm n (whole 1500))
    (ratio_low (whole 1500) (t +ℚ whole 0) (lt_t 0 1500 refl) (with1 t (λ c. omega (arith, c.le, c.lt, c.same))))
  where
    under : (x y : ℚ) → x ≡ y → x ≤ℚ t +ℚ whole 0 → y ≤ℚ t
    under x y e h = with3 x y t (λ c. omega (arith, c.le, c.lt, c.same))

-- ---- when the gate has done k + 1 packets: in the slot after so many cycles, after so many bits of it
cycles : ℕ → ℕ
cycles k = (24000 * suc k - 1) / 25000

bits : ℕ → ℕ
bits k = 24000 * suc k - 25000 * cycles k

passed : ℕ → ℚ
passed k = whole (bits k) /ℚ whole 100

through : ℕ → ℚ
through k = whole 1000 *ℚ whole (cycles k) +ℚ whole 750 +ℚ passed k

-- m cycles and a part r of a slot: n + 1 packets
record IsThrough (m r n : ℚ) : Type 0 where
  cycles_on : zero_q ≤ℚ m
  some : zero_q <ℚ r
  most : r ≤ℚ whole 250
  sum : whole 25000 *ℚ m +ℚ whole 100 *ℚ r ≡ whole 24000 *ℚ n

through_is : (k : ℕ) → IsThrough (whole (cycles k)) (passed k) (whole (suc k))
unfolding cycles bits passed
through_is k =
    let b = 24000 * suc k - 25000 * ((24000 * suc k - 1) / 25000) in
    let m = (24000 * suc k - 1) / 25000 in
    let q : (whole b /ℚ whole 100) *ℚ whole 100 ≡ whole b = div_mul (whole b) (whole 100) (not_zero (whole 100) (lt_t 0 100 refl)) in
    let c = mul_comm (whole b /ℚ whole 100) (whole 100) in
    let low = nat_lt 0 b (omega arith) in
    let high = nat_le b 25000 (omega arith) in
    let split : 25000 * m + b ≡ 24000 * suc k = omega arith in
    let parts : whole 25000 *ℚ whole m +ℚ whole b ≡ whole 24000 *ℚ whole (suc k) =
    ap (λ z. z +ℚ whole b) (sym (whole_times 25000 m)) ∙ sum_t (25000 * m) b ∙ ap whole split ∙ whole_times 24000 (suc k) in
    let (on, some, most, sum) =
    of (whole m) (whole b) (whole b /ℚ whole 100) ((whole b /ℚ whole 100) *ℚ whole 100) (whole 24000 *ℚ whole (suc k)) q c low high parts
    (nat_nonneg m) in
    record { cycles_on = on; some = some; most = most; sum = sum }
  where
    of : (m b r x y : ℚ) → x ≡ b → x ≡ whole 100 *ℚ r → zero_q <ℚ b → b ≤ℚ whole 25000 → whole 25000 *ℚ m +ℚ b ≡ y → zero_q ≤ℚ m
        → (zero_q ≤ℚ m) × (zero_q <ℚ r) × (r ≤ℚ whole 250) × (whole 25000 *ℚ m +ℚ whole 100 *ℚ r ≡ y)
    of m b r x y e f h k g on = (
      on,
      with3 b r x (λ c. omega (arith, c.le, c.lt, c.same)),
      with3 b r x (λ c. omega (arith, c.le, c.lt, c.same)),
      with5 m b r x y (λ c. omega (arith, c.le, c.lt, c.same)),
    )

-- then they are done, and before that they are not
done_then : (k : ℕ) → value_at service (through k) ≡ Fin (whole 24000 *ℚ whole (suc k))
unfolding through
done_then k = by_part (cycles k) (passed k) (whole (suc k)) (through_is k) (le_or_lt (whole 250) (passed k))
  where
    by_part : (m : ℕ) (r n : ℚ) → IsThrough (whole m) r n → (whole 250 ≤ℚ r) ⊎ (r <ℚ whole 250)
        → value_at service (whole 1000 *ℚ whole m +ℚ whole 750 +ℚ r) ≡ Fin (whole 24000 *ℚ n)
    by_part m r n h (inr l) =
        while_open m (whole 1000 *ℚ whole m +ℚ whole 750 +ℚ r) (on (whole m) r h.some) (high (whole m) r l)
        ∙ ap Fin (value (whole m) r (whole 24000 *ℚ n) h.sum)
      where
        on : (m r : ℚ) → zero_q <ℚ r → whole 1000 *ℚ m +ℚ whole 750 ≤ℚ whole 1000 *ℚ m +ℚ whole 750 +ℚ r
        on m r h = with2 m r (λ c. omega (arith, c.le, c.lt, c.same))

        high : (m r : ℚ) → r <ℚ whole 250 → whole 1000 *ℚ m +ℚ whole 750 +ℚ r <ℚ whole 1000 *ℚ m +ℚ whole 1000
        high m r h = with2 m r (λ c. omega (arith, c.le, c.lt, c.same))

        value : (m r y : ℚ) → whole 25000 *ℚ m +ℚ whole 100 *ℚ r ≡ y
            → whole 100 *ℚ (whole 1000 *ℚ m +ℚ whole 750 +ℚ r) -ℚ whole 75000 *ℚ m -ℚ whole 75000 ≡ y
        value m r y e = with3 m r y (λ c. omega (arith, c.le, c.lt, c.same))
    by_part m r n h (inl l) =
        while_closed (suc m) (whole 1000 *ℚ whole m +ℚ whole 750 +ℚ r) (on (whole m) r (whole (suc m)) (nat_next m) l)
        (high (whole m) r (whole (suc m)) (nat_next m) h.most)
        ∙ ap Fin (value (whole m) r (whole (suc m)) (whole 24000 *ℚ n) (nat_next m) h.most l h.sum)
      where
        on : (m r k : ℚ) → k ≡ m +ℚ whole 1 → whole 250 ≤ℚ r → whole 1000 *ℚ k ≤ℚ whole 1000 *ℚ m +ℚ whole 750 +ℚ r
        on m r k e h = with3 m r k (λ c. omega (arith, c.le, c.lt, c.same))

        high : (m r k : ℚ) → k ≡ m +ℚ whole 1 → r ≤ℚ whole 250 → whole 1000 *ℚ m +ℚ whole 750 +ℚ r <ℚ whole 1000 *ℚ k +ℚ whole 750
        high m r k e h = with3 m r k (λ c. omega (arith, c.le, c.lt, c.same))

        value : (m r k y : ℚ) → k ≡ m +ℚ whole 1 → r ≤ℚ whole 250 → whole 250 ≤ℚ r → whole 25000 *ℚ m +ℚ whole 100 *ℚ r ≡ y
            → whole 25000 *ℚ k ≡ y
        value m r k y e f g h = with4 m r k y (λ c. omega (arith, c.le, c.lt, c.same))

not_before : (k : ℕ) (x : ℚ) → zero_q ≤ℚ x → x <ℚ through k → ¬ (Fin (whole 24000 *ℚ whole (suc k)) ≤ₑ value_at service x)
unfolding through
not_before k x on early = by_part (cycles k) (passed k) (whole (suc k)) (through_is k) early (le_or_lt (whole 1000 *ℚ whole (cycles k) +ℚ whole 750) x)
  where
    by_part : (m : ℕ) (r n : ℚ) → IsThrough (whole m) r n → x <ℚ whole 1000 *ℚ whole m +ℚ whole 750 +ℚ r
        → (whole 1000 *ℚ whole m +ℚ whole 750 ≤ℚ x) ⊎ (x <ℚ whole 1000 *ℚ whole m +ℚ whole 750)
        → ¬ (Fin (whole 24000 *ℚ n) ≤ₑ value_at service x)
    by_part m r n h e (inl l) k =
        let v = while_open m x l (high (whole m) r h.most e) in
        less (whole m) r (whole 24000 *ℚ n) h.sum e (subst (λ (w : Ext). Fin (whole 24000 *ℚ n) ≤ₑ w) v k)
      where
        high : (m r : ℚ) → r ≤ℚ whole 250 → x <ℚ whole 1000 *ℚ m +ℚ whole 750 +ℚ r → x <ℚ whole 1000 *ℚ m +ℚ whole 1000
        high m r h e = with3 m r x (λ c. omega (arith, c.le, c.lt, c.same))

        less : (m r y : ℚ) → whole 25000 *ℚ m +ℚ whole 100 *ℚ r ≡ y → x <ℚ whole 1000 *ℚ m +ℚ whole 750 +ℚ r
            → y ≤ℚ whole 100 *ℚ x -ℚ whole 75000 *ℚ m -ℚ whole 75000 → ⊥
        less m r y e f h = with4 m r x y (λ c. omega (arith, c.le, c.lt, c.same))
    by_part m r n h e (inr l) k =
        let opens = whole 1000 *ℚ whole m +ℚ whole 750 in
        let up : value_at service x ≤ₑ value_at service opens = is_service.rising x opens on (le_of_lt l) in
        let v = while_open m opens (le_refl opens) (high (whole m)) in
        less (whole m) r (whole 24000 *ℚ n) h.sum h.some
        (le_ext_trans (Fin (whole 24000 *ℚ n)) (value_at service x) (Fin (whole 100 *ℚ opens -ℚ whole 75000 *ℚ whole m -ℚ whole 75000)) k
        (subst (λ (w : Ext). value_at service x ≤ₑ w) v up))
      where
        high : (m : ℚ) → whole 1000 *ℚ m +ℚ whole 750 <ℚ whole 1000 *ℚ m +ℚ whole 1000
        high m = with1 m (λ c. omega (arith, c.le, c.lt, c.same))

        less : (m r y : ℚ) → whole 25000 *ℚ m +ℚ whole 100 *ℚ r ≡ y → zero_q <ℚ r
            → y ≤ℚ whole 100 *ℚ (whole 1000 *ℚ m +ℚ whole 750) -ℚ whole 75000 *ℚ m -ℚ whole 75000 → ⊥
        less m r y e f h = with3 m r y (λ c. omega (arith, c.le, c.lt, c.same))

-- ---- the horizontal deviation
through_on : (k : ℕ) → zero_q ≤ℚ through k
unfolding through
through_on k = let h = through_is k in of (whole (cycles k)) (passed k) h.cycles_on h.some
  where
    of : (m r : ℚ) → zero_q ≤ℚ m → zero_q <ℚ r → zero_q ≤ℚ whole 1000 *ℚ m +ℚ whole 750 +ℚ r
    of m r h k = with2 m r (λ c. omega (arith, c.le, c.lt, c.same))

lag_at : ℚ → ℚ
lag_at t = max_q zero_q (through (count t) -ℚ t)

is_lag : (t : ℚ) → zero_q ≤ℚ t → IsLag (value_at packets) (value_at service) t (Fin (lag_at t))
unfolding lag_at
is_lag t on = least_member (λ (a : Lag (value_at packets) (value_at service) t). Fin a.after) member least
  where
    k : ℕ
    k = count t

    late : (x : ℚ) → through k -ℚ t ≤ℚ x → through k ≤ℚ t +ℚ x
    late x h = let y = through k in with3 x y t (λ c. omega (arith, c.le, c.lt, c.same))

    wait : ℚ
    wait = max_q zero_q (through k -ℚ t)

    member : Lag (value_at packets) (value_at service) t
    member = record {
      after = max_q zero_q (through (count t) -ℚ t);
      nonneg = max_q_ge_left zero_q (through (count t) -ℚ t);
      reached = subst (λ (v : Ext). v ≤ₑ value_at service (t +ℚ wait)) (done_then k ∙ sym (stair_at t on))
          (is_service.rising (through k) (t +ℚ wait) (through_on k) (late wait (max_q_ge_right zero_q (through k -ℚ t))));
    }

    least : (a : Lag (value_at packets) (value_at service) t) → max_q zero_q (through (count t) -ℚ t) ≤ℚ a.after
    least a = max_q_le zero_q (through (count t) -ℚ t) a.after a.nonneg (no_sooner a.after a.nonneg a.reached)
      where
        no_sooner : (x : ℚ) → zero_q ≤ℚ x → value_at packets t ≤ₑ value_at service (t +ℚ x) → through (count t) -ℚ t ≤ℚ x
        no_sooner x h reached = elim (le_or_lt (through (count t)) (t +ℚ x)) [
          | inl l ↦ let y = through (count t) in with3 x y t (λ c. omega (arith, c.le, c.lt, c.same))
          | inr l ↦ absurd (not_before (count t) (t +ℚ x) (with2 t x (λ c. omega (arith, c.le, c.lt, c.same))) l
              (subst (λ (v : Ext). v ≤ₑ value_at service (t +ℚ x)) (stair_at t on) reached))
        ]

first_through : through 0 ≡ whole 990
unfolding computing through cycles bits passed
first_through = same_parts _ _ refl refl

second_through : through 1 ≡ whole 1980
unfolding computing through cycles bits passed
second_through = same_parts _ _ refl refl

later_in_time : (k : ℕ) (t : ℚ) → whole 2 ≤ℚ whole k → whole 1500 *ℚ whole k ≤ℚ t → through k -ℚ t ≤ℚ whole 990
unfolding through
later_in_time k t two h = of (whole (cycles k)) (passed k) (whole k) (whole (suc k)) (through_is k) (nat_next k) two h
  where
    of : (m r n p : ℚ) → IsThrough m r p → p ≡ n +ℚ whole 1 → whole 2 ≤ℚ n → whole 1500 *ℚ n ≤ℚ t
        → whole 1000 *ℚ m +ℚ whole 750 +ℚ r -ℚ t ≤ℚ whole 990
    of m r n p g e two h =
        let sum = g.sum in
        let some = g.some in
        with5 m r n p t (λ c. omega (arith, c.le, c.lt, c.same))

-- no packet waits longer than the first
in_time : (k : ℕ) (t : ℚ) → zero_q ≤ℚ t → whole 1500 *ℚ whole k ≤ℚ t → through k -ℚ t ≤ℚ whole 990
in_time zero t on h = rw first_through (with1 t (λ c. omega (arith, c.le, c.lt, c.same)))
in_time (suc zero) t on h = rw second_through (with1 t (λ c. omega (arith, c.le, c.lt, c.same)))
in_time (suc (suc k)) t on h = later_in_time (suc (suc k)) t (nat_le 2 (suc (suc k)) (omega arith)) h

at_first : Time
at_first = record { at = zero_q; nonneg = le_refl zero_q }

lag_at_first : lag_at zero_q ≡ whole 990
unfolding computing lag_at count through cycles bits passed
lag_at_first = same_parts _ _ refl refl

most_is : (t : ℚ) → zero_q ≤ℚ t → lag_at t ≤ℚ whole 990
unfolding lag_at
most_is t on = max_q_le zero_q (through (count t) -ℚ t) (whole 990) (le_t 0 990 refl) (in_time (count t) t on (counted t on))

pub horizontal_is : IsHorizontalDeviation (value_at packets) (value_at service) (Fin (whole 990))
unfolding at_first
horizontal_is = record {
  lag = λ t. Fin (lag_at t.at);
  is_lag = λ t. is_lag t.at t.nonneg;
  is = subst (λ (x : ℚ). IsSupremum {I = Time} (λ t. Fin (lag_at t.at)) (Fin x)) lag_at_first
      (largest_member (λ (t : Time). Fin (lag_at t.at)) at_first (λ t. subst (λ x. lag_at t.at ≤ℚ x) (sym lag_at_first) (most_is t.at t.nonneg)));
}

-- ---- the vertical deviation
bits_at_1500 : value_at packets (whole 1500) ≡ Fin (whole 48000)
unfolding computing
bits_at_1500 = stair_is (whole 24000) (whole 1500) (whole 0) (whole 1500) (le_t 0 24000 refl) (lt_t 0 1500 refl) (le_t 0 0 refl)
    (le_t 0 1500 refl) ∙ ap Fin (same_parts _ _ refl refl)

served_at_1500 : value_at service (whole 1500) ≡ Fin (whole 25000)
served_at_1500 = while_closed 1 (whole 1500) (with1 (whole 0) (λ c. omega (arith, c.le, c.lt, c.same)))
    (with1 (whole 0) (λ c. omega (arith, c.le, c.lt, c.same))) ∙ ap Fin (with1 (whole 0) (λ c. omega (arith, c.le, c.lt, c.same)))

top : FiniteTime (value_at gate_less_packet)
top = record { at = whole 1500; nonneg = le_t 0 1500 refl; level = whole 1000; is = after_first_slot }

-- what is said of a level of the curve less a packet, by the gate's level v
record IsLevel (t v level : ℚ) : Type 0 where
  on : zero_q ≤ℚ level
  under : v -ℚ whole 24000 ≤ℚ level
  line : whole 25 *ℚ t -ℚ whole 18750 ≤ℚ v

level_is : (t level : ℚ) → zero_q ≤ℚ t → value_at gate_less_packet t ≡ Fin level → (v : ℚ) × (value_at service t ≡ Fin v) × IsLevel t v level
level_is t level on e =
    let g = over_line t on in
    let f : max_q zero_q (g.level -ℚ whole 24000) ≡ level =
    fin_same (sym (less_is t on ∙ ap (λ v. excess v (Fin (whole 24000))) g.is) ∙ e) in (
      g.level,
      g.is,
      record {
        on = subst (λ z. zero_q ≤ℚ z) f (max_q_ge_left zero_q (g.level -ℚ whole 24000));
        under = subst (λ z. g.level -ℚ whole 24000 ≤ℚ z) f (max_q_ge_right zero_q (g.level -ℚ whole 24000));
        line = g.over;
      },
    )

-- at most that many bits, after k + 1 packets
few : (k : ℕ) (t v level : ℚ) → zero_q ≤ℚ t → value_at service t ≡ Fin v → IsLevel t v level → whole 1500 *ℚ whole k ≤ℚ t
    → whole 24000 *ℚ whole (suc k) -ℚ level ≤ℚ whole 47000
few zero t v level on e h low = let a = h.on in with1 level (λ c. omega (arith, c.le, c.lt, c.same))
few (suc zero) t v level on e h low =
    let up : value_at service (whole 1500) ≤ₑ value_at service t =
    is_service.rising (whole 1500) t (le_t 0 1500 refl) (with1 t (λ c. omega (arith, c.le, c.lt, c.same))) in
    let one : whole 25000 ≤ℚ v = subst (λ (x : Ext). x ≤ₑ Fin v) served_at_1500 (subst (λ (x : Ext). value_at service (whole 1500) ≤ₑ x) e up) in
    let a = h.under in
    with2 v level (λ c. omega (arith, c.le, c.lt, c.same))
few (suc (suc k)) t v level on e h low =
    of (whole (suc (suc k))) (whole (suc (suc (suc k)))) (nat_le 2 (suc (suc k)) (omega arith)) (nat_next (suc (suc k))) low h.under h.line
  where
    of : (n p : ℚ) → whole 2 ≤ℚ n → p ≡ n +ℚ whole 1 → whole 1500 *ℚ n ≤ℚ t → v -ℚ whole 24000 ≤ℚ level
        → whole 25 *ℚ t -ℚ whole 18750 ≤ℚ v → whole 24000 *ℚ p -ℚ level ≤ℚ whole 47000
    of n p two f g a b = with5 n p t v level (λ c. omega (arith, c.le, c.lt, c.same))

pub vertical_is : IsVerticalDeviation (value_at packets) (value_at gate_less_packet) (Fin (whole 47000))
unfolding top
vertical_is = subst (IsVerticalDeviation (value_at packets) (value_at gate_less_packet)) most
    (largest_member (λ (t : FiniteTime (value_at gate_less_packet)). value_at packets t.at -ₑ t.level) top under)
  where
    most : value_at packets (whole 1500) -ₑ whole 1000 ≡ Fin (whole 47000)
    most = ap (λ v. v -ₑ whole 1000) bits_at_1500 ∙ ap Fin (with1 (whole 0) (λ c. omega (arith, c.le, c.lt, c.same)))

    under : (t : FiniteTime (value_at gate_less_packet)) → value_at packets t.at -ₑ t.level ≤ₑ value_at packets (whole 1500) -ₑ whole 1000
    under t =
        let (v, e, h) = level_is t.at t.level t.nonneg t.is in
        rw (most, stair_at t.at t.nonneg) (few (count t.at) t.at v t.level t.nonneg e h (counted t.at t.nonneg))
