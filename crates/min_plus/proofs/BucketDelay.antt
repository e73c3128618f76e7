-- The horizontal deviation of a bucket, b + r t, and a service R max (0, t - T).
use Rattle.rational.proofs.MinMax.{max_q_ge_left, max_q_ge_right, max_q_le, max_q_left, max_q_right, le_q_not}
use Rattle.std.specs.Prelude.{◌≡◌, pos, ◌⊎◌, cond}
use Rattle.std.proofs.Common.{arith, sym, ap, ◌∙◌, refl, subst, inl, inr}
use Rattle.rational.specs.Rational.{ℚ, ◌+ℚ◌, ◌-ℚ◌, ◌*ℚ◌, ◌/ℚ◌, ◌≤ℚ◌, ◌<ℚ◌, int, le_q}
use Rattle.rational.proofs.Linear.{with1, with2, with3, with4, with5, with6}
use Rattle.rational.proofs.Over.{le_q_out}
use Rattle.rational.proofs.Laws.{mul_comm, mul_le_mul_right, mul_nonneg, mul_pos, add_mul, mul_zero, div_mul, le_or_lt, le_of_lt, le_refl, half, half_is, half_pos}
use Rattle.rational.specs.Extended.{Ext, ◌≤ₑ◌}
use Rattle.rational.specs.declared.Extended.TheVariants.{Fin, Inf}
use Rattle.rational.specs.MinMax.{max_q}
use Rattle.min_plus.specs.Functions.{zero_q, Time}
use Rattle.min_plus.specs.Deviations.{Lag, IsLag, IsHorizontalDeviation}
use Rattle.rational.proofs.Bounds.{least_member, unbounded}
use Rattle.rational.proofs.Whole.{le_of_mul, lt_of_mul, not_zero}
use Rattle.min_plus.specs.Formulas.{IsBucket, IsService}
use Rattle.min_plus.proofs.Rates.{reach, burst_nonneg}

-- what is above 0 and at most max(0, y) is at most y
pub below_positive : (z y : ℚ) → zero_q <ℚ z → z ≤ℚ max_q zero_q y → z ≤ℚ y
below_positive z y some h = elim (le_or_lt zero_q y) [
  | inl l ↦ rw (max_q_right zero_q y l) at h
  | inr l ↦
      let k : z ≤ℚ zero_q = rw (max_q_left zero_q y l) at h in
      absurd (with1 z (λ c. omega (arith, c.le, c.lt, c.same)))
]

-- ---- the least lag behind z at t: the least a from 0 on with z ≤ max(0, t + a - T)
unfoldable pub lag_behind : ℚ → ℚ → ℚ → ℚ
lag_behind z t T = cond (le_q z zero_q) zero_q (max_q zero_q (T +ℚ z -ℚ t))

pub record IsLeastLag (z t T a : ℚ) : Type 0 where
  pub nonneg : zero_q ≤ℚ a
  pub reaches : z ≤ℚ max_q zero_q (t +ℚ a -ℚ T)
  pub least : (m : ℚ) → zero_q ≤ℚ m → z ≤ℚ max_q zero_q (t +ℚ m -ℚ T) → a ≤ℚ m

lag_zero : (z t T : ℚ) → z ≤ℚ zero_q → lag_behind z t T ≡ zero_q
unfolding lag_behind
lag_zero z t T h = rw (le_q_out z zero_q h) refl

lag_some : (z t T : ℚ) → zero_q <ℚ z → lag_behind z t T ≡ max_q zero_q (T +ℚ z -ℚ t)
unfolding lag_behind
lag_some z t T h = rw (le_q_not z zero_q h) refl

least_lag : (z t T : ℚ) → IsLeastLag z t T (lag_behind z t T)
least_lag z t T = elim (le_or_lt z zero_q) [
  | inl h ↦ subst (IsLeastLag z t T) (sym (lag_zero z t T h)) record {
    nonneg = le_refl zero_q;
    reaches = let k = max_q_ge_left zero_q (t +ℚ zero_q -ℚ T) in with2 z (max_q zero_q (t +ℚ zero_q -ℚ T)) (λ c. omega (arith, c.le, c.lt, c.same));
    least = λ m p q. p;
  }
  | inr h ↦ subst (IsLeastLag z t T) (sym (lag_some z t T h)) record {
    nonneg = max_q_ge_left zero_q (T +ℚ z -ℚ t);
    reaches =
        let a = max_q zero_q (T +ℚ z -ℚ t) in
        let k = max_q_ge_right zero_q (T +ℚ z -ℚ t) in
        let l = max_q_ge_right zero_q (t +ℚ a -ℚ T) in
        with5 z t T a (max_q zero_q (t +ℚ a -ℚ T)) (λ c. omega (arith, c.le, c.lt, c.same));
    least = λ m p q.
        let k = below_positive z (t +ℚ m -ℚ T) h q in
        max_q_le zero_q (T +ℚ z -ℚ t) m p (with4 z t T m (λ c. omega (arith, c.le, c.lt, c.same)));
  }
]

-- the time, on the service's scale, that the bucket's value at t takes
unfoldable pub level_of : ℚ → ℚ → ℚ → ℚ → ℚ
level_of b r R t = (b +ℚ r *ℚ t) /ℚ R

level_is : (b r R t : ℚ) → zero_q <ℚ R → level_of b r R t *ℚ R ≡ b +ℚ r *ℚ t
unfolding level_of
level_is b r R t h = div_mul (b +ℚ r *ℚ t) R (not_zero R h)

pub lag_is : (b r R T : ℚ) (f g : ℚ → Ext) → zero_q <ℚ R → IsBucket b r f → IsService R T g → (t : ℚ) → zero_q ≤ℚ t
    → IsLag f g t (Fin (lag_behind (level_of b r R t) t T))
lag_is b r R T f g some F G t start =
    least_member (λ m. Fin m.after) member (λ m. h.least m.after m.nonneg (out m.after m.nonneg m.reached))
  where
    z : ℚ
    z = level_of b r R t

    h : IsLeastLag z t T (lag_behind z t T)
    h = least_lag z t T

    values : (a : ℚ) → zero_q ≤ℚ a → zero_q ≤ℚ t +ℚ a
    values a p = with2 t a (λ c. omega (arith, c.le, c.lt, c.same))

    out : (a : ℚ) → zero_q ≤ℚ a → f t ≤ₑ g (t +ℚ a) → z ≤ℚ max_q zero_q (t +ℚ a -ℚ T)
    out a p q =
        let k : b +ℚ r *ℚ t ≤ℚ R *ℚ max_q zero_q (t +ℚ a -ℚ T) = rw (F.is t start, G.is (t +ℚ a) (values a p)) at q in
        le_of_mul R z (max_q zero_q (t +ℚ a -ℚ T)) some (rw (level_is b r R t some, mul_comm (max_q zero_q (t +ℚ a -ℚ T)) R) k)

    into : (a : ℚ) → zero_q ≤ℚ a → z ≤ℚ max_q zero_q (t +ℚ a -ℚ T) → f t ≤ₑ g (t +ℚ a)
    into a p q =
        let k = mul_le_mul_right R (le_of_lt some) q in
        let k2 : b +ℚ r *ℚ t ≤ℚ R *ℚ max_q zero_q (t +ℚ a -ℚ T) = rw (level_is b r R t some, mul_comm (max_q zero_q (t +ℚ a -ℚ T)) R) at k in
        rw (F.is t start, G.is (t +ℚ a) (values a p)) k2

    member : Lag f g t
    member = record { after = lag_behind z t T; nonneg = h.nonneg; reached = into (lag_behind z t T) h.nonneg h.reaches }

-- ---- the horizontal deviation
level_pos : (b r R t : ℚ) → zero_q <ℚ R → zero_q <ℚ b +ℚ r *ℚ t → zero_q <ℚ level_of b r R t
level_pos b r R t some h =
    let e = level_is b r R t some in
    let z = level_of b r R t in
    let o : zero_q *ℚ R ≡ zero_q = mul_comm zero_q R ∙ mul_zero R in
    lt_of_mul R zero_q z some (rw (o, e) h)

-- at 0 it is b / R
level_start : (b r R : ℚ) → zero_q <ℚ R → level_of b r R zero_q ≡ b /ℚ R
unfolding level_of
level_start b r R some =
    let e = mul_zero r in
    ap (λ x. x /ℚ R) (with2 b (r *ℚ zero_q) (λ c. omega (arith, c.le, c.lt, c.same)))

-- no later than the bucket at 0, past the time t
level_le : (b r R t : ℚ) → zero_q <ℚ R → zero_q ≤ℚ t → r ≤ℚ R → level_of b r R t ≤ℚ b /ℚ R +ℚ t
level_le b r R t some start h =
    let e = level_is b r R t some in
    let beta = b /ℚ R in
    let e2 : beta *ℚ R ≡ b = div_mul b R (not_zero R some) in
    let m : r *ℚ t ≤ℚ R *ℚ t = mul_le_mul_right t start h in
    let x : (beta +ℚ t) *ℚ R ≡ beta *ℚ R +ℚ t *ℚ R = add_mul beta t R in
    let y = mul_comm t R in
    let z = level_of b r R t in
    le_of_mul R z (beta +ℚ t) some (rw (x, e2, y, e) (with3 b (r *ℚ t) (R *ℚ t) (λ c. omega (arith, c.le, c.lt, c.same))))

lag_le : (z t T y : ℚ) → zero_q ≤ℚ y → T +ℚ z -ℚ t ≤ℚ y → lag_behind z t T ≤ℚ y
lag_le z t T y h k = elim (le_or_lt z zero_q) [
  | inl l ↦ rw (lag_zero z t T l) h
  | inr l ↦ rw (lag_some z t T l) (max_q_le zero_q (T +ℚ z -ℚ t) y h k)
]

lag_ge : (z t T : ℚ) → zero_q <ℚ z → T +ℚ z -ℚ t ≤ℚ lag_behind z t T
lag_ge z t T h = rw (lag_some z t T h) (max_q_ge_right zero_q (T +ℚ z -ℚ t))

pub horizontal_finite : (b r R T : ℚ) (f g : ℚ → Ext) → zero_q ≤ℚ b → zero_q ≤ℚ r → zero_q <ℚ R → zero_q ≤ℚ T → r ≤ℚ R
    → (zero_q <ℚ b) ⊎ (zero_q <ℚ r) → IsBucket b r f → IsService R T g
    → IsHorizontalDeviation f g (Fin (T +ℚ b /ℚ R))
horizontal_finite b r R T f g hb hr some hT fast moves F G = record {
  lag = λ t. Fin (lag_behind (level_of b r R t.at) t.at T);
  is_lag = λ t. lag_is b r R T f g some F G t.at t.nonneg;
  is = record {
    above = λ t.
        let l = level_le b r R t.at some t.nonneg fast in
        let p = burst_nonneg b R some hb in
        let z = level_of b r R t.at in
        let u = t.at in
        let beta = b /ℚ R in
        lag_le z u T (T +ℚ beta)
        (with2 T beta (λ c. omega (arith, c.le, c.lt, c.same)))
        (with4 T z u beta (λ c. omega (arith, c.le, c.lt, c.same)));
    near = λ y l. close y l moves;
  };
}
  where
    at_time : (t : ℚ) → zero_q ≤ℚ t → Time
    at_time t h = record { at = t; nonneg = h }

    close_burst : (y : ℚ) → y <ℚ T +ℚ b /ℚ R → zero_q <ℚ b → (t : Time) × (y <ℚ lag_behind (level_of b r R t.at) t.at T)
    close_burst y l h =
        let e = mul_zero r in
        let p : zero_q <ℚ b +ℚ r *ℚ zero_q = with2 b (r *ℚ zero_q) (λ c. omega (arith, c.le, c.lt, c.same)) in
        let m = lag_ge (level_of b r R zero_q) zero_q T (level_pos b r R zero_q some p) in
        let s = level_start b r R some in
        let z = level_of b r R zero_q in
        let beta = b /ℚ R in
        (record { at = zero_q; nonneg = le_refl zero_q }, with5 y T z beta (lag_behind z zero_q T) (λ c. omega (arith, c.le, c.lt, c.same)))

    close : (y : ℚ) → y <ℚ T +ℚ b /ℚ R → (zero_q <ℚ b) ⊎ (zero_q <ℚ r) → (t : Time) × (y <ℚ lag_behind (level_of b r R t.at) t.at T)
    close y l (inl h) = close_burst y l h
    close y l (inr h) = elim (le_or_lt b zero_q) [
      | inr hb2 ↦ close_burst y l hb2
      | inl none ↦
          let beta = b /ℚ R in
          let e2 : beta *ℚ R ≡ b = div_mul b R (not_zero R some) in
          let o : zero_q *ℚ R ≡ zero_q = mul_comm zero_q R ∙ mul_zero R in
          let zero : beta ≤ℚ zero_q = le_of_mul R beta zero_q some (rw (o, e2) none) in
          let gap = T -ℚ y in
          let t = half gap in
          let t2 = half_is gap in
          let gap_pos : zero_q <ℚ gap = with3 T y beta (λ c. omega (arith, c.le, c.lt, c.same)) in
          let t_pos : zero_q <ℚ t = half_pos gap_pos in
          let m = mul_pos h t_pos in
          let z = level_of b r R t in
          let z_pos = level_pos b r R t some (with2 b (r *ℚ t) (λ c. omega (arith, c.le, c.lt, c.same))) in
          let k = lag_ge z t T z_pos in
          (record { at = t; nonneg = le_of_lt t_pos }, with5 y T z t (lag_behind z t T) (λ c. omega (arith, c.le, c.lt, c.same)))
    ]

-- a source that never sends
pub horizontal_zero : (R T : ℚ) (f g : ℚ → Ext) → zero_q <ℚ R → IsBucket zero_q zero_q f → IsService R T g → IsHorizontalDeviation f g (Fin zero_q)
horizontal_zero R T f g some F G = record {
  lag = λ t. Fin (lag_behind (level_of zero_q zero_q R t.at) t.at T);
  is_lag = λ t. lag_is zero_q zero_q R T f g some F G t.at t.nonneg;
  is = record { above = λ t. rw (none t.at) (le_refl zero_q); near = λ y l. (start, rw (none zero_q) l) };
}
  where
    start : Time
    start = record { at = zero_q; nonneg = le_refl zero_q }

    none : (t : ℚ) → lag_behind (level_of zero_q zero_q R t) t T ≡ zero_q
    none t =
        let z = level_of zero_q zero_q R t in
        let e = level_is zero_q zero_q R t some in
        let o : zero_q *ℚ R ≡ zero_q = mul_comm zero_q R ∙ mul_zero R in
        let p : zero_q *ℚ t ≡ zero_q = mul_comm zero_q t ∙ mul_zero t in
        lag_zero z t T (le_of_mul R z zero_q some (rw (e, o) (with1 (zero_q *ℚ t) (λ c. omega (arith, c.le, c.lt, c.same)))))

pub horizontal_infinite : (b r R T : ℚ) (f g : ℚ → Ext) → zero_q ≤ℚ b → zero_q <ℚ R → zero_q ≤ℚ T → R <ℚ r
    → IsBucket b r f → IsService R T g → IsHorizontalDeviation f g Inf
horizontal_infinite b r R T f g hb some hT fast F G = record {
  lag = λ t. Fin (lag_behind (level_of b r R t.at) t.at T);
  is_lag = λ t. lag_is b r R T f g some F G t.at t.nonneg;
  is = unbounded (λ t. Fin (lag_behind (level_of b r R t.at) t.at T)) far;
}
  where
    far_at : (y top t : ℚ) → zero_q ≤ℚ top → y ≤ℚ top → zero_q <ℚ t → r *ℚ t ≡ R *ℚ t +ℚ (top +ℚ int (pos 1)) *ℚ R → y <ℚ lag_behind (level_of b r R t) t T
    far_at y top t m0 m1 t_pos e =
        let m = top +ℚ int (pos 1) in
        let m_pos : zero_q <ℚ m = with1 top (λ c. omega (arith, c.le, c.lt, c.same)) in
        let k_pos : zero_q <ℚ m *ℚ R = mul_pos m_pos some in
        let z = level_of b r R t in
        let ez = level_is b r R t some in
        let x : (t +ℚ m) *ℚ R ≡ t *ℚ R +ℚ m *ℚ R = add_mul t m R in
        let w = mul_comm t R in
        let p = mul_nonneg (le_of_lt some) (le_of_lt t_pos) in
        let big : t +ℚ m ≤ℚ z = le_of_mul R (t +ℚ m) z some (rw (x, w, ez, e) (with3 b (R *ℚ t) (m *ℚ R) (λ c. omega (arith, c.le, c.lt, c.same)))) in
        let z_pos = level_pos b r R t some (with4 b (r *ℚ t) (R *ℚ t) (m *ℚ R) (λ c. omega (arith, c.le, c.lt, c.same))) in
        let k = lag_ge z t T z_pos in
        with6 y T z t top (lag_behind z t T) (λ c. omega (arith, c.le, c.lt, c.same))

    far : (y : ℚ) → (t : Time) × (y <ℚ lag_behind (level_of b r R t.at) t.at T)
    far y =
        let top = max_q zero_q y in
        let m0 = max_q_ge_left zero_q y in
        let m1 = max_q_ge_right zero_q y in
        let k_pos : zero_q <ℚ (top +ℚ int (pos 1)) *ℚ R = mul_pos (with1 top (λ c. omega (arith, c.le, c.lt, c.same))) some in
        let (t, t_pos, e) = reach r R ((top +ℚ int (pos 1)) *ℚ R) fast k_pos in
        (record { at = t; nonneg = le_of_lt t_pos }, far_at y top t m0 m1 t_pos e)
