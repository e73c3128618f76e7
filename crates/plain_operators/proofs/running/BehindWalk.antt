-- The walk over the starts of the service: at each it is looked how far the other, served theta later, is above; from each on, up to
-- the next, the service has caught up.
use Rattle.std.specs.Prelude.{◌≡◌, ℕ, ◌<◌, pos, Option, None, ◌⊎◌}
use Rattle.std.proofs.Common.{arith, sym, ap, ◌∙◌, refl, subst, inl, inr}
use Rattle.rational.specs.Rational.{ℚ, ◌-ℚ◌, ◌≤ℚ◌, ◌<ℚ◌, neg_ℚ}
use Rattle.rational.specs.MinMax.{max_q}
use Rattle.rational.specs.Ratio.{SumFits}
use Rattle.rational.specs.Grid.{Whole, Within}
use Rattle.rational.specs.Extended.{Ext, ◌≤ₑ◌, ◌<ₑ◌, ◌+ₑ◌}
use Rattle.rational.specs.declared.Extended.TheVariants.{Fin}
use Rattle.rational.proofs.Linear.{with2, with3, with4}
use Rattle.rational.proofs.Laws.{le_or_lt, le_refl, le_of_lt, le_trans, lt_irrefl, lt_le_trans, le_lt_trans, antisym, le_of_not_lt}
use Rattle.rational.proofs.MinMax.{max_q_one, max_q_ge_left, max_q_ge_right}
use Rattle.rational.proofs.Grid.{whole_int, whole_sub, within_nonneg, within_sub}
use Rattle.rational.proofs.ExtendedOrder.{le_ext_refl, le_ext_trans, add_le_ext}
use Rattle.upp_normal.specs.declared.ahead.Stretch.{Stretch}
use Rattle.upp_curve.specs.Curve.{SpecCurve, value_at}
use Rattle.min_plus.specs.Functions.{zero_q}
use Rattle.upp_curve.specs.Shapes.{IsNumber}
use Rattle.upp_limits.specs.Limits.{Sizes}
use Rattle.upp_limits.specs.Sized.{grid_of, times_largest}
use Rattle.upp_normal.specs.Operand.{AreLimited}
use Rattle.upp_normal.specs.Ahead.{GoesOn, AtNext, IsBeforeNext, TimesStand, IsTimeIn, GridValue}
use Rattle.upp_normal.proofs.AnswerRoom.{values_fit}
use Rattle.upp_curve.proofs.Finite.{number_of}
use Rattle.upp_normal.proofs.StretchSizes.{times_fit, grid_value}
use Rattle.upp_normal.proofs.AnswerRoom.{many_more}
use Rattle.curve_call.specs.declared.gaps.Gap.{Gap}
use Rattle.curve_call.specs.declared.gaps.Gap.TheVariants.{NoTime, Is}
use Rattle.curve_call.specs.Gaps.{InWindow, IsWithin, IsGap}
use Rattle.curve_call.specs.GapSteps.{larger, IsUntil, earlier_of, IsGapValue}
use Rattle.curve_call.proofs.GapWalk.{GapWalk, NextTime, next_time, steps_left, walk_time, walk_start, walk_step, walk_fewer, next_found, next_past}
use Rattle.plain_operators.specs.running.Behind.{moved, IsServed, IsBehindCall, IsBehindAt, IsMostBehind, IsMost}
use Rattle.plain_operators.proofs.running.Served.{caught_up, other_finite}
use Rattle.plain_operators.proofs.running.Shifts.{raised}
use Rattle.curve_call.proofs.MadeStands.{some_largest}
use Rattle.curve_call.proofs.GapParts.{before_next}

-- ---- the walk
pub record BehindWalk (f g : SpecCurve) (theta from end t most : ℚ) : Type 0 where
  pub gap : Gap
  pub walk : GapWalk f f from end t gap
  pub most_is : IsMostBehind (value_at f) (moved (value_at g) theta) from t most
  pub sizes : (z : Sizes) → IsBehindCall z f g theta from end → IsGapValue z most

zero_gap : (z : Sizes) → IsGapValue z zero_q
zero_gap z = record { whole = whole_int (grid_of z) (pos 0); within = within_nonneg (times_largest 6 z) zero_q (le_refl zero_q) (some_largest z 6) }

-- no time lies in an empty window
none_behind : (f g : ℚ → Ext) (from : ℚ) → IsMostBehind f g from from zero_q
none_behind f g from = record {
  nonneg = le_refl zero_q;
  above = λ t i. absurd (lt_irrefl from (le_lt_trans i.start i.before));
  near = inl refl;
}

pub behind_start : (f g : SpecCurve) (theta from end most : ℚ) → from <ℚ end → most ≡ zero_q → BehindWalk f g theta from end from most
behind_start f g theta from end most h e = record {
  gap = NoTime;
  walk = walk_start f f from end h;
  most_is = subst (IsMostBehind (value_at f) (moved (value_at g) theta) from from) (sym e) (none_behind (value_at f) (moved (value_at g) theta) from);
  sizes = λ z C. subst (IsGapValue z) (sym e) (zero_gap z);
}

-- ---- where it stands
pub beta_time : (z : Sizes) (f g : SpecCurve) (theta from end t most : ℚ) → IsBehindCall z f g theta from end → BehindWalk f g theta from end t most → t <ℚ end → IsTimeIn z end t
beta_time z f g theta from end t most C W h = walk_time z f f from end t W.gap C.first C.first C.time W.walk h

pub cross_time : (z : Sizes) (f g : SpecCurve) (theta from end t most : ℚ) → IsBehindCall z f g theta from end → BehindWalk f g theta from end t most → t <ℚ end → IsTimeIn z end (t -ℚ theta)
cross_time z f g theta from end t most C W h =
    let T = beta_time z f g theta from end t most C W h in
    let start = W.walk.start in
    let low = C.theta_low in
    let early = C.theta_early in
    record {
      whole = whole_sub z.dt t theta T.whole C.theta_whole;
      nonneg = with3 theta from t (λ c. omega (arith, c.le, c.lt, c.same));
      before = with3 theta t end (λ c. omega (arith, c.le, c.lt, c.same));
    }

pub time_fits : (z : Sizes) (f g : SpecCurve) (theta from end t most : ℚ) → IsBehindCall z f g theta from end → BehindWalk f g theta from end t most → t <ℚ end → SumFits t (neg_ℚ theta)
time_fits z f g theta from end t most C W h =
    let T = beta_time z f g theta from end t most C W h in
    let start = W.walk.start in
    let early = C.theta_early in
    (times_fit z end t theta C.first.limited T.whole C.theta_whole T.nonneg (le_of_lt h) C.theta_low (with4 theta from t end (λ c. omega (arith, c.le, c.lt, c.same)))).1

-- ---- the values there
pub record FoundAt (f g : SpecCurve) (theta t : ℚ) (a b : Stretch) (u v : ℚ) : Type 0 where
  pub ahead : GoesOn (value_at f) t a
  pub served : GoesOn (value_at g) (t -ℚ theta) b
  pub first : a.at ≡ Fin u
  pub second : b.at ≡ Fin v

pub beta_number : (f : SpecCurve) (g : ℚ → Ext) (theta t : ℚ) (s : Stretch) → IsServed (value_at f) g theta → zero_q ≤ℚ t → GoesOn (value_at f) t s → IsNumber s.at
beta_number f g theta t s S low G = let (v, e) = S.finite t low in number_of s.at v (G.at ∙ e)

pub cross_number : (f : ℚ → Ext) (g : SpecCurve) (theta t : ℚ) (s : Stretch) → IsServed f (value_at g) theta → zero_q ≤ℚ t → GoesOn (value_at g) t s → IsNumber s.at
cross_number f g theta t s S low G = let (v, e) = other_finite f (value_at g) theta S t low in number_of s.at v (G.at ∙ e)

pub values_apart : (z : Sizes) (end : ℚ) (x y : Ext) (u v : ℚ) → AreLimited z end → x ≡ Fin u → y ≡ Fin v → GridValue z x → GridValue z y → SumFits v (neg_ℚ u)
values_apart z end x y u v A a b h k =
    let U = grid_value z x u a h in
    let V = grid_value z y v b k in
    (values_fit z end v u A record { whole = V.whole; within = V.within } record { whole = U.whole; within = U.within }).1

gap_value : (z : Sizes) (x y : Ext) (u v : ℚ) → x ≡ Fin u → y ≡ Fin v → GridValue z x → GridValue z y → IsGapValue z (v -ℚ u)
gap_value z x y u v a b h k =
    let U = grid_value z x u a h in
    let V = grid_value z y v b k in
    record {
      whole = whole_sub (grid_of z) v u V.whole U.whole;
      within = subst (λ m. Within m (v -ℚ u)) (many_more z 3 3) (within_sub (times_largest 3 z) (times_largest 3 z) v u V.within U.within);
    }

-- ---- one step

most_step : (f g : SpecCurve) (theta from t next most u v : ℚ) (ahead served : Stretch) → IsServed (value_at f) (value_at g) theta → theta ≤ℚ from → from ≤ℚ t → t <ℚ next
    → FoundAt f g theta t ahead served u v → IsUntil next ahead.next
    → IsMostBehind (value_at f) (moved (value_at g) theta) from t most → IsMostBehind (value_at f) (moved (value_at g) theta) from next (max_q most (v -ℚ u))
most_step f g theta from t next most u v ahead served S early late past F until M = record { nonneg = low; above = above; near = near }
  where
    G : ℚ → Ext
    G = moved (value_at g) theta

    high : ℚ
    high = max_q most (v -ℚ u)

    low : zero_q ≤ℚ high
    low = le_trans M.nonneg (max_q_ge_left most (v -ℚ u))

    here : value_at f t ≡ Fin u
    here = sym F.ahead.at ∙ F.first

    there : G t ≡ Fin v
    there = sym F.served.at ∙ F.second

    at_start : G t ≤ₑ value_at f t +ₑ Fin high
    at_start =
        let bound = max_q_ge_right most (v -ℚ u) in
        subst (λ x. x ≤ₑ value_at f t +ₑ Fin high) (sym there) (subst (λ x. Fin v ≤ₑ x +ₑ Fin high) (sym here) (with3 u v high (λ c. omega (arith, c.le, c.lt, c.same))))

    after : (s : ℚ) → t <ℚ s → s <ℚ next → G s ≤ₑ value_at f s +ₑ Fin high
    after s h l =
        le_ext_trans (G s) (value_at f s) (value_at f s +ₑ Fin high)
        (caught_up (value_at f) (value_at g) theta s next ahead.line S (le_trans early (le_trans late (le_of_lt h))) l
        (λ w a b. F.ahead.line w (lt_le_trans h a) (before_next w next ahead.next b until))) (raised (value_at f s) high low)

    above : IsWithin (InWindow from next) G (value_at f) high
    above s i = elim (le_or_lt t s) [
      | inr h ↦
          le_ext_trans (G s) (value_at f s +ₑ Fin most) (value_at f s +ₑ Fin high) (M.above s record { start = i.start; before = h })
          (add_le_ext (value_at f s) (value_at f s) (Fin most) (Fin high) (le_ext_refl (value_at f s)) (max_q_ge_left most (v -ℚ u)))
      | inl h ↦ elim (le_or_lt s t) [
        | inl k ↦ let same : t ≡ s = antisym (h, k) in subst (λ w. G w ≤ₑ value_at f w +ₑ Fin high) same at_start
        | inr k ↦ after s k i.before
      ]
    ]

    wider : IsBehindAt (value_at f) G from t most → IsBehindAt (value_at f) G from next most
    wider B = record { at = B.at; among = record { start = B.among.start; before = le_lt_trans (le_of_lt B.among.before) past }; is = B.is }

    new : IsBehindAt (value_at f) G from next (v -ℚ u)
    new = record {
      at = t;
      among = record { start = late; before = past };
      is = ap (λ x. x +ₑ Fin (v -ℚ u)) here ∙ ap Fin (with2 u v (λ c. omega (arith, c.le, c.lt, c.same))) ∙ sym there;
    }

    kept : (most ≡ zero_q) ⊎ IsBehindAt (value_at f) G from t most → (most ≡ zero_q) ⊎ IsBehindAt (value_at f) G from next most
    kept (inl e) = inl e
    kept (inr B) = inr (wider B)

    near : (high ≡ zero_q) ⊎ IsBehindAt (value_at f) G from next high
    near = elim (max_q_one most (v -ℚ u)) [
      | inl e ↦ subst (λ x. (x ≡ zero_q) ⊎ IsBehindAt (value_at f) G from next x) (sym e) (kept M.near)
      | inr e ↦ subst (λ x. (x ≡ zero_q) ⊎ IsBehindAt (value_at f) G from next x) (sym e) (inr new)
    ]

-- a finite function is 0 above itself
self_gap : (f : ℚ → Ext) (t next : ℚ) (u : ℚ) → t <ℚ next → f t ≡ Fin u → IsGap (InWindow t next) f f (Is zero_q)
self_gap f t next u past e = record {
  above = λ s i. raised (f s) zero_q (le_refl zero_q);
  near = λ y h. record {
    at = t;
    among = record { start = le_refl t; before = past };
    more = subst (λ x. x +ₑ Fin y <ₑ x) (sym e) (with2 u y (λ c. omega (arith, c.le, c.lt, c.same)));
  };
}

pub next_is : (end next : ℚ) (a : Option ℚ) → next ≡ earlier_of end a → next ≡ next_time end a None
next_is end next a e = next_found end a None next next e refl

pub next_past_it : (end t next : ℚ) (a : Option ℚ) → t <ℚ end → IsBeforeNext t a → next ≡ earlier_of end a → NextTime t end next a None
next_past_it end t next a h k e = next_past end t next a None h k tt (next_is end next a e)

pub behind_step : (f g : SpecCurve) (theta from end t next most u v : ℚ) (ahead served : Stretch) → IsServed (value_at f) (value_at g) theta → theta ≤ℚ from → BehindWalk f g theta from end t most → t <ℚ end
    → FoundAt f g theta t ahead served u v → ((d : ℕ) → TimesStand d f → AtNext (Whole d) ahead.next) → next ≡ earlier_of end ahead.next
    → ((z : Sizes) → IsBehindCall z f g theta from end → GridValue z ahead.at × GridValue z served.at)
    → BehindWalk f g theta from end next (max_q most (v -ℚ u))
behind_step f g theta from end t next most u v ahead served S early W h F times e sizes =
    let N = next_past_it end t next ahead.next h F.ahead.next e in
    record {
      gap = larger W.gap (Is zero_q);
      walk = walk_step f f from end t next ahead.next None W.gap (Is zero_q) W.walk h F.ahead.next tt times (λ d T. tt) (next_is end next ahead.next e)
          (self_gap (value_at f) t next u N.past (sym F.ahead.at ∙ F.first)) (λ z A B T. zero_gap z);
      most_is = most_step f g theta from t next most u v ahead served S early W.walk.start N.past F N.first W.most_is;
      sizes = λ z C.
          let (a, b) = sizes z C in
          elim (max_q_one most (v -ℚ u)) [
            | inl k ↦ subst (IsGapValue z) (sym k) (W.sizes z C)
            | inr k ↦ subst (IsGapValue z) (sym k) (gap_value z ahead.at served.at u v F.first F.second a b)
          ];
    }

pub behind_fewer : (f g : SpecCurve) (theta from end t next most more : ℚ) → BehindWalk f g theta from end t most → BehindWalk f g theta from end next more → t <ℚ next → steps_left f f from end next < steps_left f f from end t
behind_fewer f g theta from end t next most more W V h = walk_fewer f f from end t next W.gap V.gap W.walk V.walk h

pub behind_end : (z : Sizes) (f g : SpecCurve) (theta from end t most : ℚ) → IsBehindCall z f g theta from end → BehindWalk f g theta from end t most → ¬ (t <ℚ end)
    → IsMost z (value_at f) (moved (value_at g) theta) from end most
behind_end z f g theta from end t most C W h = record {
  most = subst (λ x. IsMostBehind (value_at f) (moved (value_at g) theta) from x most) (antisym (W.walk.before, le_of_not_lt h)) W.most_is;
  size = W.sizes z C;
}
