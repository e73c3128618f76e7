-- The vertical deviation of a bucket, b + r t, and a service R max (0, t - T) with one packet taken off.
use Rattle.rational.proofs.MinMax.{max_q_ge_left, max_q_ge_right, max_q_right}
use Rattle.std.specs.Prelude.{◌≡◌, pos}
use Rattle.std.proofs.Common.{arith, sym, ap, ◌∙◌, subst, inl, inr}
use Rattle.rational.specs.Rational.{ℚ, ◌+ℚ◌, ◌-ℚ◌, ◌*ℚ◌, ◌/ℚ◌, ◌≤ℚ◌, ◌<ℚ◌, int}
use Rattle.rational.proofs.Linear.{with1, with2, with3, with4, with5, with6, with8}
use Rattle.rational.proofs.Laws.{mul_comm, mul_le_mul, mul_le_mul_right, mul_nonneg, mul_add, mul_sub, div_mul, le_or_lt, le_of_lt, le_refl}
use Rattle.rational.specs.Extended.{Ext, ◌≤ₑ◌, ◌<ₑ◌, ◌-ₑ◌}
use Rattle.rational.specs.declared.Extended.TheVariants.{Fin, Inf}
use Rattle.rational.specs.MinMax.{max_q}
use Rattle.min_plus.specs.Functions.{zero_q, FiniteTime}
use Rattle.min_plus.specs.Deviations.{IsVerticalDeviation}
use Rattle.rational.proofs.Bounds.{largest_member, unbounded}
use Rattle.rational.proofs.Whole.{not_zero}
use Rattle.min_plus.specs.Formulas.{IsBucket, IsPacketised}
use Rattle.min_plus.proofs.Rates.{reach, burst_nonneg}
use Rattle.rational.proofs.ExtendedOrder.{fin_same}

-- when the packet is through: T + l / R
abbrev pub turn : ℚ → ℚ → ℚ → ℚ
turn R T l = T +ℚ l /ℚ R

turn_past : (R T l : ℚ) → zero_q <ℚ R → zero_q ≤ℚ l → T ≤ℚ turn R T l
turn_past R T l some h =
    let p = burst_nonneg l R some h in
    let q = l /ℚ R in
    with2 T q (λ c. omega (arith, c.le, c.lt, c.same))

-- R times it
turn_is : (R T l : ℚ) → zero_q <ℚ R → R *ℚ turn R T l ≡ R *ℚ T +ℚ l
turn_is R T l some = mul_add R T (l /ℚ R) ∙ ap (λ x. R *ℚ T +ℚ x) (mul_comm R (l /ℚ R) ∙ div_mul l R (not_zero R some))

-- from the turn on the packetised service is R (t - turn)
packet_late : (R T l t : ℚ) (p : ℚ → Ext) → zero_q <ℚ R → zero_q ≤ℚ T → zero_q ≤ℚ l → IsPacketised R T l p → turn R T l ≤ℚ t
    → p t ≡ Fin (R *ℚ t -ℚ R *ℚ turn R T l)
packet_late R T l t p some hT hl P h =
    let past = turn_past R T l some hl in
    let m = turn R T l in
    let start : zero_q ≤ℚ t = with3 T m t (λ c. omega (arith, c.le, c.lt, c.same)) in
    let gap : zero_q ≤ℚ t -ℚ T = with3 T m t (λ c. omega (arith, c.le, c.lt, c.same)) in
    let e = max_q_right zero_q (t -ℚ T) gap in
    let x = mul_sub R t T in
    let y = turn_is R T l some in
    let k = mul_le_mul R (le_of_lt some) h in
    let k2 : zero_q ≤ℚ R *ℚ (t -ℚ T) -ℚ l = with5 (R *ℚ t) (R *ℚ T) (R *ℚ m) l (R *ℚ (t -ℚ T)) (λ c. omega (arith, c.le, c.lt, c.same)) in
    P.is t start ∙ ap Fin (ap (λ q. max_q zero_q (R *ℚ q -ℚ l)) e ∙ max_q_right zero_q (R *ℚ (t -ℚ T) -ℚ l) k2 ∙ with5 (R *ℚ t) (R *ℚ T) (R *ℚ m) l (R *ℚ (t -ℚ T)) (λ c. omega (arith, c.le, c.lt, c.same)))

-- and it is at least that, and at least 0, at each time
packet_ge : (R T l t y : ℚ) (p : ℚ → Ext) → zero_q <ℚ R → IsPacketised R T l p → zero_q ≤ℚ t → p t ≡ Fin y
    → (zero_q ≤ℚ y) × (R *ℚ t -ℚ R *ℚ turn R T l ≤ℚ y)
packet_ge R T l t y p some P start e =
    let m = turn R T l in
    let b = max_q zero_q (t -ℚ T) in
    let v = max_q zero_q (R *ℚ b -ℚ l) in
    let is : v ≡ y = fin_same (sym (P.is t start) ∙ e) in
    let a0 = max_q_ge_left zero_q (R *ℚ b -ℚ l) in
    let a1 = max_q_ge_right zero_q (R *ℚ b -ℚ l) in
    let a2 = mul_le_mul R (le_of_lt some) (max_q_ge_right zero_q (t -ℚ T)) in
    let x = mul_sub R t T in
    let w = turn_is R T l some in
    (with2 v y (λ c. omega (arith, c.le, c.lt, c.same)), with8 (R *ℚ t) (R *ℚ T) (R *ℚ m) l (R *ℚ (t -ℚ T)) (R *ℚ b) v y (λ c. omega (arith, c.le, c.lt, c.same)))

pub vertical_finite : (b r R T l : ℚ) (f p : ℚ → Ext) → zero_q ≤ℚ b → zero_q ≤ℚ r → zero_q <ℚ R → zero_q ≤ℚ T → zero_q ≤ℚ l → r ≤ℚ R
    → IsBucket b r f → IsPacketised R T l p → IsVerticalDeviation f p (Fin (b +ℚ r *ℚ (T +ℚ l /ℚ R)))
vertical_finite b r R T l f p hb hr some hT hl fast F P =
    subst (λ v. IsVerticalDeviation f p v) value (largest_member (λ t. f t.at -ₑ t.level) top under)
  where
    m : ℚ
    m = turn R T l

    m_start : zero_q ≤ℚ m
    m_start = let past = turn_past R T l some hl in let q = turn R T l in with2 T q (λ c. omega (arith, c.le, c.lt, c.same))

    top : FiniteTime p
    top = record { at = turn R T l; nonneg = m_start; level = R *ℚ turn R T l -ℚ R *ℚ turn R T l; is = packet_late R T l (turn R T l) p some hT hl P (le_refl (turn R T l)) }

    value : f (turn R T l) -ₑ (R *ℚ turn R T l -ℚ R *ℚ turn R T l) ≡ Fin (b +ℚ r *ℚ turn R T l)
    value = rw (F.is (turn R T l) m_start) (ap Fin (with3 b (r *ℚ turn R T l) (R *ℚ turn R T l) (λ c. omega (arith, c.le, c.lt, c.same))))

    bound : (t y : ℚ) → zero_q ≤ℚ y → R *ℚ t -ℚ R *ℚ turn R T l ≤ℚ y → (b +ℚ r *ℚ t) -ℚ y ≤ℚ b +ℚ r *ℚ turn R T l
    bound t y h k = let n = turn R T l in elim (le_or_lt t n) [
      | inl x ↦
          let q = mul_le_mul r hr x in
          with4 b y (r *ℚ t) (r *ℚ n) (λ c. omega (arith, c.le, c.lt, c.same))
      | inr x ↦
          let gap : zero_q ≤ℚ t -ℚ n = with2 t n (λ c. omega (arith, c.le, c.lt, c.same)) in
          let q : r *ℚ t -ℚ r *ℚ n ≤ℚ R *ℚ t -ℚ R *ℚ n = simp (← mul_sub) (mul_le_mul_right (t -ℚ n) gap fast) in
          with6 b y (r *ℚ t) (r *ℚ n) (R *ℚ t) (R *ℚ n) (λ c. omega (arith, c.le, c.lt, c.same))
    ]

    under : (t : FiniteTime p) → f t.at -ₑ t.level ≤ₑ f top.at -ₑ top.level
    under t =
        let (h, k) = packet_ge R T l t.at t.level p some P t.nonneg t.is in
        rw (value, F.is t.at t.nonneg) (bound t.at t.level h k)

pub vertical_infinite : (b r R T l : ℚ) (f p : ℚ → Ext) → zero_q ≤ℚ b → zero_q <ℚ R → zero_q ≤ℚ T → zero_q ≤ℚ l → R <ℚ r
    → IsBucket b r f → IsPacketised R T l p → IsVerticalDeviation f p Inf
vertical_infinite b r R T l f p hb some hT hl fast F P = unbounded (λ t. f t.at -ₑ t.level) far
  where
    far_at : (y top s : ℚ) → zero_q ≤ℚ top → y ≤ℚ top → zero_q <ℚ s → r *ℚ s ≡ R *ℚ s +ℚ (top +ℚ int (pos 1)) → (t : FiniteTime p) × (Fin y <ₑ f t.at -ₑ t.level)
    far_at y top s m0 m1 s_pos e =
        let n = turn R T l in
        let past = turn_past R T l some hl in
        let t = n +ℚ s in
        let late : n ≤ℚ t = with2 n s (λ c. omega (arith, c.le, c.lt, c.same)) in
        let start : zero_q ≤ℚ t = with3 T n s (λ c. omega (arith, c.le, c.lt, c.same)) in
        let n_start : zero_q ≤ℚ n = with2 T n (λ c. omega (arith, c.le, c.lt, c.same)) in
        let x = mul_add r n s in
        let y2 = mul_add R n s in
        let rn : zero_q ≤ℚ r *ℚ n = mul_nonneg (with2 r R (λ c. omega (arith, c.le, c.lt, c.same))) n_start in
        let goal : y <ℚ (b +ℚ r *ℚ t) -ℚ (R *ℚ t -ℚ R *ℚ n) =
        rw (x, y2) (with8 y b top (r *ℚ n) (R *ℚ n) (r *ℚ s) (R *ℚ s) n (λ c. omega (arith, c.le, c.lt, c.same))) in
        (record { at = t; nonneg = start; level = R *ℚ t -ℚ R *ℚ n; is = packet_late R T l t p some hT hl P late }, rw (F.is t start) goal)

    far : (y : ℚ) → (t : FiniteTime p) × (Fin y <ₑ f t.at -ₑ t.level)
    far y =
        let top = max_q zero_q y in
        let m0 = max_q_ge_left zero_q y in
        let m1 = max_q_ge_right zero_q y in
        let (s, s_pos, e) = reach r R (top +ℚ int (pos 1)) fast (with1 top (λ c. omega (arith, c.le, c.lt, c.same))) in
        far_at y top s m0 m1 s_pos e
