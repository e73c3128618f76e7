-- How the running bounds of a function repeat that repeats itself, and what lies past the second period.
use Rattle.std.specs.Prelude.{◌≡◌, ℕ, zero, suc, pos}
use Rattle.std.proofs.Common.{arith, sym, ap, ◌∙◌, subst, inl, inr}
use Rattle.rational.specs.Rational.{ℚ, ◌+ℚ◌, ◌-ℚ◌, ◌*ℚ◌, ◌≤ℚ◌, ◌<ℚ◌, int}
use Rattle.rational.specs.Extended.{Ext, ◌≤ₑ◌, ◌<ₑ◌, ◌+ₑ◌}
use Rattle.rational.specs.declared.Extended.TheVariants.{Fin, Inf}
use Rattle.rational.proofs.Linear.{with1, with2, with3, with4}
use Rattle.rational.proofs.Laws.{le_refl, le_of_lt, le_or_lt, le_trans, add_mul, one_mul}
use Rattle.rational.proofs.Integers.{nat_next}
use Rattle.rational.proofs.ExtendedOrder.{le_ext_refl, le_ext_trans, lt_le_ext, same_le_ext, add_le_ext, add_zero_ext, gt_add_in, gt_add_out}
use Rattle.rational.proofs.Bounds.{infimum_shift, same_infimum, supremum_shift}
use Rattle.upp_curve.specs.Steady.{Repeats}
use Rattle.min_plus.specs.Functions.{zero_q, UpTo, From}
use Rattle.min_plus.specs.Running.{IsRunningSupremum, IsRunningInfimum}
use Rattle.min_plus.proofs.Rates.{enough}
use Rattle.upp_curve.proofs.Repeats.{repeats_times}
use Rattle.plain_operators.specs.running.Scans.{Until, IsInfimumUntil, IsSupremumIn}

pub raised : (v : Ext) (c : ℚ) → zero_q ≤ℚ c → v ≤ₑ v +ₑ Fin c
raised Inf c h = tt
raised (Fin v) c h = with2 v c (λ k. omega (arith, k.le, k.lt, k.same))

-- a period back, where the rule holds there
back_rule : (f : ℚ → Ext) (r d c s : ℚ) → Repeats f r d c → r +ℚ d ≤ℚ s → f s ≡ f (s -ℚ d) +ₑ Fin c
back_rule f r d c s F h =
    let same : (s -ℚ d) +ℚ d ≡ s = with2 s d (λ k. omega (arith, k.le, k.lt, k.same)) in
    sym (ap f same) ∙ F.rule (s -ℚ d) (with3 r d s (λ k. omega (arith, k.le, k.lt, k.same)))

-- ---- the supremum
-- a later member of what comes before t, one period on
record Later (f : ℚ → Ext) (t d c y : ℚ) : Type 0 where
  at : ℚ
  nonneg : zero_q ≤ℚ at
  most : at ≤ℚ t +ℚ d
  more : Fin y <ₑ f at

later_by : (f : ℚ → Ext) (r d c t y s : ℚ) → zero_q ≤ℚ r → zero_q ≤ℚ d → Repeats f r d c → r ≤ℚ s → s ≤ℚ t → Fin (y -ℚ c) <ₑ f s → Later f t d c y
later_by f r d c t y s low some F h most m = record {
  at = s +ℚ d;
  nonneg = with3 r s d (λ k. omega (arith, k.le, k.lt, k.same));
  most = with3 s d t (λ k. omega (arith, k.le, k.lt, k.same));
  more = subst (λ z. Fin y <ₑ z) (sym (F.rule s h)) (gt_add_in (f s) c y m);
}

shift_above : (f : ℚ → Ext) (r d c t : ℚ) (v : Ext) → zero_q ≤ℚ r → zero_q ≤ℚ c → Repeats f r d c → r +ℚ d ≤ℚ t → IsRunningSupremum f t v → (s : UpTo (t +ℚ d))
    → f s.at ≤ₑ v +ₑ Fin c
shift_above f r d c t v low rise F h k s =
    let u = s.at in
    let most = s.most in
    elim (le_or_lt (r +ℚ d) u) [
      | inl l ↦
          let b : UpTo t = record { at = u -ℚ d; nonneg = with3 r d u (λ q. omega (arith, q.le, q.lt, q.same)); most = with3 u d t (λ q. omega (arith, q.le, q.lt, q.same)) } in
          le_ext_trans (f u) (f (u -ℚ d) +ₑ Fin c) (v +ₑ Fin c) (same_le_ext (back_rule f r d c u F l))
          (add_le_ext (f (u -ℚ d)) v (Fin c) (Fin c) (k.above b) (le_ext_refl (Fin c)))
      | inr l ↦
          let b : UpTo t = record { at = u; nonneg = s.nonneg; most = le_trans (le_of_lt l) h } in
          le_ext_trans (f u) v (v +ₑ Fin c) (k.above b) (raised v c rise)
    ]

-- where no time before r is above the supremum of one whole period from `from` on, the running supremum repeats from the end of that period on
pub supremum_repeats : (f : ℚ → Ext) (r d c from t : ℚ) (w v : Ext) → zero_q ≤ℚ r → zero_q ≤ℚ d → zero_q ≤ℚ c → Repeats f r d c → r ≤ℚ from → from +ℚ d ≤ℚ t
    → IsSupremumIn f from (from +ℚ d) w → ((s : ℚ) → zero_q ≤ℚ s → s <ℚ r → f s ≤ₑ w) → IsRunningSupremum f t v → IsRunningSupremum f (t +ℚ d) (v +ₑ Fin c)
supremum_repeats f r d c from t w v low some rise F h past W covered k = record { above = shift_above f r d c t v low rise F late k; near = close }
  where
    late : r +ℚ d ≤ℚ t
    late = with4 r d from t (λ q. omega (arith, q.le, q.lt, q.same))

    take : (y : ℚ) → Later f t d c y → (s : UpTo (t +ℚ d)) × (Fin y <ₑ f s.at)
    take y l = (record { at = l.at; nonneg = l.nonneg; most = l.most }, l.more)

    close : (y : ℚ) → Fin y <ₑ v +ₑ Fin c → (s : UpTo (t +ℚ d)) × (Fin y <ₑ f s.at)
    close y l =
        let (s, m) = k.near (y -ℚ c) (gt_add_out v c y l) in
        elim (le_or_lt r s.at) [
          | inl g ↦ take y (later_by f r d c t y s.at low some F g s.most m)
          | inr g ↦
              let (u, n) = W.near (y -ℚ c) (lt_le_ext (Fin (y -ℚ c)) (f s.at) w m (covered s.at s.nonneg g)) in
              take y (later_by f r d c t y u.at low some F (le_trans h u.least) (le_trans (le_of_lt u.early) past) n)
        ]

-- where nothing comes before r it repeats from the end of the first period on
pub supremum_from_start : (f : ℚ → Ext) (r d c t : ℚ) (v : Ext) → zero_q ≤ℚ r → r ≤ℚ zero_q → zero_q ≤ℚ d → zero_q ≤ℚ c → Repeats f r d c → r +ℚ d ≤ℚ t → IsRunningSupremum f t v
    → IsRunningSupremum f (t +ℚ d) (v +ₑ Fin c)
supremum_from_start f r d c t v low none some rise F late k = record {
  above = shift_above f r d c t v low rise F late k;
  near = λ y l.
      let (s, m) = k.near (y -ℚ c) (gt_add_out v c y l) in
      let b = later_by f r d c t y s.at low some F (le_trans none s.nonneg) s.most m in
      (record { at = b.at; nonneg = b.nonneg; most = b.most }, b.more);
}

-- where it does not rise over a period it is constant from the end of the first one on
pub supremum_constant : (f : ℚ → Ext) (r d c t : ℚ) (v : Ext) → zero_q ≤ℚ r → zero_q ≤ℚ d → c ≡ zero_q → Repeats f r d c → r +ℚ d ≤ℚ t → IsRunningSupremum f t v
    → IsRunningSupremum f (t +ℚ d) (v +ₑ Fin c)
supremum_constant f r d c t v low some flat F late k = record {
  above = shift_above f r d c t v low (subst (λ z. zero_q ≤ℚ z) (sym flat) (le_refl zero_q)) F late k;
  near = λ y l.
      let same : v +ₑ Fin c ≡ v = ap (λ z. v +ₑ Fin z) flat ∙ add_zero_ext v in
      let (s, m) = k.near y (subst (λ z. Fin y <ₑ z) same l) in
      let u = s.at in
      let most = s.most in (
        record { at = u; nonneg = s.nonneg; most = with3 u t d (λ q. omega (arith, q.le, q.lt, q.same)) },
        m,
      );
}

-- n periods on the supremum of a period is n rises higher
pub period_supremum : (f : ℚ → Ext) (r d c : ℚ) (n : ℕ) (v : Ext) → zero_q ≤ℚ d → Repeats f r d c → IsSupremumIn f r (r +ℚ d) v
    → IsSupremumIn f (r +ℚ int (pos n) *ℚ d) (r +ℚ int (pos n) *ℚ d +ℚ d) (v +ₑ Fin (int (pos n) *ℚ c))
period_supremum f r d c n v some F k =
    let far = int (pos n) *ℚ d in
    let high = int (pos n) *ℚ c in
    let R = repeats_times f r d c n some F in
    supremum_shift {I = Until r (r +ℚ d)} {J = Until (r +ℚ far) (r +ℚ far +ℚ d)} (λ s. f s.at) (λ s. f s.at) high v
    (λ s.
    let u = s.at in
    let a = s.least in
    let b = s.early in (
      record { at = u +ℚ far; least = with3 r u far (λ q. omega (arith, q.le, q.lt, q.same)); early = with4 r u far d (λ q. omega (arith, q.le, q.lt, q.same)) },
      same_le_ext (sym (R.rule u a)),
    ))
    (λ s.
    let u = s.at in
    let a = s.least in
    let b = s.early in
    let low : r ≤ℚ u -ℚ far = with3 r u far (λ q. omega (arith, q.le, q.lt, q.same)) in
    let same : (u -ℚ far) +ℚ far ≡ u = with2 u far (λ q. omega (arith, q.le, q.lt, q.same)) in (
      record { at = u -ℚ far; least = low; early = with4 r u far d (λ q. omega (arith, q.le, q.lt, q.same)) },
      same_le_ext (sym (ap f same) ∙ R.rule (u -ℚ far) low),
    ))
    k

-- ---- the infimum
-- the running infimum repeats with the function
pub infimum_repeats : (f : ℚ → Ext) (r d c t : ℚ) (v : Ext) → zero_q ≤ℚ d → Repeats f r d c → r ≤ℚ t → IsRunningInfimum f t v → IsRunningInfimum f (t +ℚ d) (v +ₑ Fin c)
infimum_repeats f r d c t v some F late k =
    infimum_shift {I = From t} {J = From (t +ℚ d)} (λ s. f s.at) (λ s. f s.at) c v
    (λ s.
    let u = s.at in
    let a = s.least in
    (record { at = u +ℚ d; least = with3 t u d (λ q. omega (arith, q.le, q.lt, q.same)) }, same_le_ext (F.rule u (le_trans late a))))
    (λ s.
    let u = s.at in
    let a = s.least in
    let low : t ≤ℚ u -ℚ d = with3 t u d (λ q. omega (arith, q.le, q.lt, q.same)) in
    let far : r +ℚ d ≤ℚ u = with4 r t u d (λ q. omega (arith, q.le, q.lt, q.same)) in
    (record { at = u -ℚ d; least = low }, same_le_ext (sym (back_rule f r d c u F far))))
    k

-- each time past the second period has one in it with no greater value
record Before (f : ℚ → Ext) (r d x : ℚ) : Type 0 where
  at : ℚ
  low : r +ℚ d ≤ℚ at
  high : at <ℚ r +ℚ int (pos 2) *ℚ d
  less : f at ≤ₑ f x

brought_back : (f : ℚ → Ext) (r d c : ℚ) → zero_q ≤ℚ c → Repeats f r d c → (n : ℕ) (x : ℚ) → r +ℚ d ≤ℚ x → x <ℚ r +ℚ int (pos 2) *ℚ d +ℚ int (pos n) *ℚ d → Before f r d x
brought_back f r d c rise F zero x h l =
    let z : int (pos 0) *ℚ d ≡ int (pos 0) = with1 d (λ q. omega (arith, q.le, q.lt, q.same)) in
    record { at = x; low = h; high = with4 x r d (int (pos 0) *ℚ d) (λ q. omega (arith, q.le, q.lt, q.same)); less = le_ext_refl (f x) }
brought_back f r d c rise F (suc n) x h l = elim (le_or_lt (r +ℚ int (pos 2) *ℚ d) x) [
  | inr m ↦ record { at = x; low = h; high = m; less = le_ext_refl (f x) }
  | inl m ↦
      let y = x -ℚ d in
      let nd = int (pos n) *ℚ d in
      let step : int (pos (suc n)) *ℚ d ≡ nd +ℚ d = ap (λ z. z *ℚ d) (nat_next n) ∙ add_mul (int (pos n)) (int (pos 1)) d ∙ ap (λ z. nd +ℚ z) (one_mul d) in
      let l' : x <ℚ r +ℚ int (pos 2) *ℚ d +ℚ (nd +ℚ d) = subst (λ z. x <ℚ r +ℚ int (pos 2) *ℚ d +ℚ z) step l in
      let b = brought_back f r d c rise F n y (with3 r d x (λ q. omega (arith, q.le, q.lt, q.same))) (with4 r d x nd (λ q. omega (arith, q.le, q.lt, q.same))) in
      record {
        at = b.at;
        low = b.low;
        high = b.high;
        less = le_ext_trans (f b.at) (f y) (f x) b.less
            (le_ext_trans (f y) (f y +ₑ Fin c) (f x) (raised (f y) c rise) (same_le_ext (sym (back_rule f r d c x F h))));
      }
]

-- so the times before the end of the second period are enough
pub infimum_until : (f : ℚ → Ext) (r d c t : ℚ) (v : Ext) → int (pos 0) <ℚ d → zero_q ≤ℚ c → Repeats f r d c → t ≤ℚ r +ℚ d → IsInfimumUntil f (r +ℚ int (pos 2) *ℚ d) t v
    → IsRunningInfimum f t v
infimum_until f r d c t v some rise F early k =
    same_infimum {I = Until t (r +ℚ int (pos 2) *ℚ d)} {J = From t} (λ s. f s.at) (λ s. f s.at) v
    (λ s. (record { at = s.at; least = s.least }, le_ext_refl (f s.at)))
    (λ s. find s.at s.least)
    k
  where
    find : (x : ℚ) → t ≤ℚ x → (s : Until t (r +ℚ int (pos 2) *ℚ d)) × (f s.at ≤ₑ f x)
    find x h = elim (le_or_lt (r +ℚ d) x) [
      | inr l ↦ (record { at = x; least = h; early = with3 x r d (λ q. omega (arith, q.le, q.lt, q.same)) }, le_ext_refl (f x))
      | inl l ↦
          let (n, m) = enough (r +ℚ int (pos 2) *ℚ d) (x +ℚ d) d some in
          let nd = int (pos n) *ℚ d in
          let b = brought_back f r d c rise F n x l (with4 x r d nd (λ q. omega (arith, q.le, q.lt, q.same))) in
          (record { at = b.at; least = le_trans early b.low; early = b.high }, b.less)
    ]
