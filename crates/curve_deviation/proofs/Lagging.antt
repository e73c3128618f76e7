-- The horizontal deviation by pairs of times: the second curve is still below at the later one.
use Rattle.std.specs.Prelude.{◌≡◌, pos, ◌⊎◌}
use Rattle.std.proofs.Common.{arith, sym, subst, inl, inr}
use Rattle.rational.specs.Rational.{ℚ, ◌+ℚ◌, ◌-ℚ◌, ◌≤ℚ◌, ◌<ℚ◌, int}
use Rattle.rational.specs.Extended.{Ext, ◌≤ₑ◌, ◌<ₑ◌}
use Rattle.rational.specs.declared.Extended.TheVariants.{Fin, Inf}
use Rattle.rational.specs.MinMax.{max_q}
use Rattle.rational.proofs.Linear.{with1, with2, with3}
use Rattle.rational.proofs.Laws.{le_refl, le_trans, le_of_lt, le_or_lt, lt_le_trans, lt_irrefl, between}
use Rattle.rational.proofs.Bounds.{greatest, unbounded}
use Rattle.rational.proofs.MinMax.{max_q_ge_left, max_q_ge_right}
use Rattle.rational.proofs.ExtendedOrder.{le_ext_trans, le_lt_ext, lt_le_ext, le_or_lt_ext, lt_ext_irrefl}
use Rattle.min_plus.specs.Functions.{Time, IsFinite, IsRising}
use Rattle.min_plus.specs.Deviations.{Lag, IsLag, IsHorizontalDeviation}
use Rattle.upp_normal.proofs.UnrollSteps.{ext_cases}
use Rattle.curve_deviation.specs.Lags.{IsBehindAt, LagsBy, IsLongestLag}
use Rattle.curve_deviation.proofs.FirstReach.{IsReached, StaysBelow}

-- ---- the lag at a time
reached_lag : (f g : ℚ → Ext) (v t x : ℚ) → f t ≡ Fin v → IsReached g v t x → IsLag f g t (Fin (x -ℚ t))
reached_lag f g v t x e R = record {
  below = λ a. after_x a.after (subst (λ w. w ≤ₑ g (t +ℚ a.after)) e a.reached) a.nonneg;
  near = λ y l.
      let (u, low, soon, reach) = R.near (t +ℚ y) (with3 x t y (λ c. omega (arith, c.le, c.lt, c.same))) in (
        record {
          after = u -ℚ t;
          nonneg = with2 u t (λ c. omega (arith, c.le, c.lt, c.same));
          reached = subst (λ s. f t ≤ₑ g s) (back t u) (subst (λ w. w ≤ₑ g u) (sym e) reach);
        },
        sooner u t y soon,
      );
}
  where
    back : (t u : ℚ) → u ≡ t +ℚ (u -ℚ t)
    back t u = with2 t u (λ c. omega (arith, c.le, c.lt, c.same))

    sooner : (u t y : ℚ) → u <ℚ t +ℚ y → u -ℚ t <ℚ y
    sooner u t y h = with3 u t y (λ c. omega (arith, c.le, c.lt, c.same))

    after_x : (a : ℚ) → Fin v ≤ₑ g (t +ℚ a) → int (pos 0) ≤ℚ a → x -ℚ t ≤ℚ a
    after_x a h some = elim (le_or_lt (x -ℚ t) a) [
      | inl l ↦ l
      | inr l ↦ absurd (lt_ext_irrefl (Fin v) (le_lt_ext (Fin v) (g (t +ℚ a)) (Fin v) h (R.before (t +ℚ a) (with2 t a (λ c. omega (arith, c.le, c.lt, c.same))) (with3 t a x (λ c. omega (arith, c.le, c.lt, c.same))))))
    ]

never_lag : (f g : ℚ → Ext) (t : ℚ) → ((u : ℚ) → t ≤ℚ u → g u <ₑ f t) → IsLag f g t Inf
never_lag f g t below = record {
  below = λ a. absurd (lt_ext_irrefl (f t) (le_lt_ext (f t) (g (t +ℚ a.after)) (f t) a.reached (below (t +ℚ a.after) (let n = a.after in let h = a.nonneg in with2 t n (λ c. omega (arith, c.le, c.lt, c.same))))));
  near = λ y l. absurd l;
}

-- a function that reaches each level or stays below it has a lag at each time
abbrev pub ReachesOr : (ℚ → Ext) → Type 0
ReachesOr g = (v t : ℚ) → int (pos 0) ≤ℚ t → ((x : ℚ) × IsReached g v t x) ⊎ StaysBelow g v t

pub lag_at : (f g : ℚ → Ext) → IsFinite g → ReachesOr g → (t : Time) → (x : Ext) × IsLag f g t.at x
lag_at f g finite either t = elim (ext_cases (f t.at)) [
  | inl e ↦ (
    Inf,
    never_lag f g t.at (λ u h.
        let (w, k) = finite u (le_trans t.nonneg h) in
        subst (λ y. g u <ₑ y) (sym e) (subst (λ y. y <ₑ Inf) (sym k) tt)),
  )
  | inr (v, e) ↦ elim (either v t.at t.nonneg) [
    | inl (x, R) ↦ (Fin (x -ℚ t.at), reached_lag f g v t.at x e R)
    | inr low ↦ (Inf, never_lag f g t.at (λ u h. subst (λ y. g u <ₑ y) (sym e) (low u h)))
  ]
]

-- ---- it is no shorter than what the second function is behind by, and no longer where it is not behind
lag_least : (f g : ℚ → Ext) (t u : ℚ) (x : Ext) → IsRising g → IsLag f g t x → IsBehindAt f g t u → Fin (u -ℚ t) ≤ₑ x
lag_least f g t u x up L b =
    greatest {I = Lag f g t} (λ a. Fin a.after) x (Fin (u -ℚ t)) L (λ a. later a.after a.nonneg a.reached)
  where
    later : (a : ℚ) → int (pos 0) ≤ℚ a → f t ≤ₑ g (t +ℚ a) → u -ℚ t ≤ℚ a
    later a some reach = elim (le_or_lt (u -ℚ t) a) [
      | inl l ↦ l
      | inr l ↦
          let s = b.first in
          let rise : g (t +ℚ a) ≤ₑ g u = up (t +ℚ a) u (with2 t a (λ c. omega (arith, c.le, c.lt, c.same))) (with3 t a u (λ c. omega (arith, c.le, c.lt, c.same))) in
          absurd (lt_ext_irrefl (f t) (le_lt_ext (f t) (g u) (f t) (le_ext_trans (f t) (g (t +ℚ a)) (g u) reach rise) b.below))
    ]

some_lag : (f g : ℚ → Ext) (t : ℚ) (x : Ext) → IsLag f g t x → Fin (int (pos 0)) ≤ₑ x
some_lag f g t x L = greatest {I = Lag f g t} (λ a. Fin a.after) x (Fin (int (pos 0))) L (λ a. a.nonneg)

lag_most : (f g : ℚ → Ext) (t q : ℚ) (x : Ext) → int (pos 0) ≤ℚ t → int (pos 0) ≤ℚ q → IsLag f g t x → ((u : ℚ) → IsBehindAt f g t u → u -ℚ t ≤ℚ q) → x ≤ₑ Fin q
lag_most f g t q x low some L most = elim (le_or_lt_ext x (Fin q)) [
  | inl l ↦ l
  | inr l ↦ absurd (past x L l)
]
  where
    -- at a wait a little longer than q it is reached, so the lag is no longer than that
    at : (w : ℚ) → q <ℚ w → f t ≤ₑ g (t +ℚ w)
    at w h = elim (le_or_lt_ext (f t) (g (t +ℚ w))) [
      | inl l ↦ l
      | inr l ↦
          let m = most (t +ℚ w) record { first = low; second = with3 t q w (λ c. omega (arith, c.le, c.lt, c.same)); below = l } in
          absurd (with3 t q w (λ c. omega (arith, c.le, c.lt, c.same)))
    ]

    past : (x : Ext) → IsLag f g t x → Fin q <ₑ x → ⊥
    past Inf L h =
        let w = q +ℚ int (pos 1) in
        let r : q <ℚ w = with1 q (λ c. omega (arith, c.le, c.lt, c.same)) in
        L.below record { after = w; nonneg = le_trans some (le_of_lt r); reached = at w r }
    past (Fin y) L h =
        let (w, a, b) = between q y h in
        lt_irrefl w (lt_le_trans b (L.below record { after = w; nonneg = le_trans some (le_of_lt a); reached = at w a }))

-- ---- the deviation
abbrev pub Always : ℚ → Type 0
Always s = Unit {0}

pub longest_is : (f g : ℚ → Ext) (q : ℚ) → IsFinite g → IsRising g → ReachesOr g → IsLongestLag Always f g q → IsHorizontalDeviation f g (Fin q)
longest_is f g q finite up either L = record {
  lag = λ t. (lag_at f g finite either t).0;
  is_lag = λ t. (lag_at f g finite either t).1;
  is = record {
    above = λ t. lag_most f g t.at q (lag_at f g finite either t).0 t.nonneg L.nonneg (lag_at f g finite either t).1 (λ u b. L.most t.at u tt b);
    near = λ y h. elim (L.near y h) [
      | inl l ↦
          let t : Time = record { at = int (pos 0); nonneg = le_refl (int (pos 0)) } in
          (t, lt_le_ext (Fin y) (Fin (int (pos 0))) (lag_at f g finite either t).0 l (some_lag f g t.at (lag_at f g finite either t).0 (lag_at f g finite either t).1))
      | inr b ↦
          let t : Time = record { at = b.first; nonneg = b.behind.first } in
          (t, lt_le_ext (Fin y) (Fin (b.second -ℚ b.first)) (lag_at f g finite either t).0 b.more (lag_least f g b.first b.second (lag_at f g finite either t).0 up (lag_at f g finite either t).1 b.behind))
    ];
  };
}

pub endless_is : (f g : ℚ → Ext) → IsFinite g → IsRising g → ReachesOr g → ((y : ℚ) → LagsBy f g y) → IsHorizontalDeviation f g Inf
endless_is f g finite up either far = record {
  lag = λ t. (lag_at f g finite either t).0;
  is_lag = λ t. (lag_at f g finite either t).1;
  is = unbounded {I = Time} (λ t. (lag_at f g finite either t).0) (λ y.
      let b = far y in
      let t : Time = record { at = b.first; nonneg = b.behind.first } in
      (t, lt_le_ext (Fin y) (Fin (b.second -ℚ b.first)) (lag_at f g finite either t).0 b.more (lag_least f g b.first b.second (lag_at f g finite either t).0 up (lag_at f g finite either t).1 b.behind)));
}

-- ---- where it is infinite
-- one value is never reached
pub never_reached : (f g : ℚ → Ext) (t : ℚ) → int (pos 0) ≤ℚ t → ((u : ℚ) → int (pos 0) ≤ℚ u → g u <ₑ f t) → (y : ℚ) → LagsBy f g y
never_reached f g t low below y =
    let far = max_q (int (pos 0)) y in
    let a = max_q_ge_left (int (pos 0)) y in
    let b = max_q_ge_right (int (pos 0)) y in
    let u = t +ℚ far +ℚ int (pos 1) in
    let some : int (pos 0) ≤ℚ u = with2 t far (λ c. omega (arith, c.le, c.lt, c.same)) in
    record { first = t; second = u; behind = record { first = low; second = some; below = below u some }; more = with3 t far y (λ c. omega (arith, c.le, c.lt, c.same)) }
