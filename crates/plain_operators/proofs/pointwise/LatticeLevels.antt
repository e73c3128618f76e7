-- A call on a curve and a level: its sizes and times, its limits, and its answer.
use Rattle.std.specs.Prelude.{◌≡◌, ℕ, ◌<◌, ◌^◌, pos, [], ◌∷◌, Option, Some, None, MatchOption}
use Rattle.std.proofs.Common.{arith, sym, ap, ◌∙◌, refl, subst}
use Rattle.rational.specs.Rational.{ℚ, ◌-ℚ◌, ◌*ℚ◌, ◌≤ℚ◌, ◌<ℚ◌, int}
use Rattle.rational.specs.Ratio.{IsSmall}
use Rattle.rational.specs.Extended.{Ext, ◌≤ₑ◌, ◌<ₑ◌}
use Rattle.rational.specs.declared.Extended.TheVariants.{Fin}
use Rattle.rational.proofs.Integers.{nat_nonneg}
use Rattle.rational.proofs.Linear.{with2, with3}
use Rattle.rational.proofs.Laws.{le_refl, le_trans, le_of_lt, zero_mul, mul_nonneg}
use Rattle.upp_curve.specs.declared.affine_segment.line.Piece.{Piece}
use Rattle.upp_limits.specs.declared.op_kind.OpKind.TheVariants.{PosMinus}
use Rattle.upp_limits.specs.declared.op_kind.OpFault.{OpFault}
use Rattle.upp_limits.specs.declared.op_kind.OpFault.TheVariants.{TooMany, TooWide, NoMemory}
use Rattle.upp_curve.specs.Curve.{SpecCurve, value_at}
use Rattle.upp_curve.specs.Curves.{IsCurve}
use Rattle.upp_curve.specs.Steady.{steady, rate, rise_over, later_unless}
use Rattle.upp_limits.specs.Periods.{own_period, periods_after}
use Rattle.upp_limits.specs.Windows.{window_at, Meets, IsLeast, IsLeastPeriods, IsBelowFor, IsSlowerBelow}
use Rattle.upp_limits.specs.Limits.{Sizes, sizes_of}
use Rattle.upp_limits.specs.Gauges.{numbers_over, gauge_at, gauge_over, IsTooWide}
use Rattle.upp_limits.specs.Sized.{IsValue}
use Rattle.upp_curve.specs.Unrolled.{unroll}
use Rattle.upp_limits.specs.Outcome.{IsWithin, IsCauseOf}
use Rattle.min_plus.specs.Pointwise.{excess, IsPositiveMinus}
use Rattle.upp_limits.proofs.AtRank.{same_by}
use Rattle.upp_curve.proofs.Unique.{upto_some, upto_end}
use Rattle.upp_limits.proofs.CurveStands.{are_sizes}
use Rattle.upp_limits.proofs.Stands.{sizes_stand}
use Rattle.upp_limits.proofs.NarrowSizes.{narrow_gauge, small_number, value_whole, value_within}
use Rattle.upp_curve.proofs.ReadableKinds.{bucket_curve}
use Rattle.curve_call.specs.declared.frame.Frame.{Frame}
use Rattle.curve_call.specs.declared.windows.CallWindow.{CallWindow}
use Rattle.curve_call.specs.Frames.{IsFrame, IsRefusedAt, sizes_at}
use Rattle.curve_call.proofs.CallTimes.{IsCall, start_on, period_on}
use Rattle.curve_call.proofs.CallFits.{call_early}
use Rattle.curve_call.proofs.CurveRises.{own_whole}
use Rattle.curve_call.proofs.Limited.{refused_cause, frame_within, pos_minus_least}
use Rattle.curve_call.proofs.FirstGate.{first_gate}
use Rattle.curve_call.specs.Levels.{level_curve}
use Rattle.curve_call.specs.Compared.{AreCompared, IsEnough}
use Rattle.curve_call.proofs.Levels.{level_value, level_stands}
use Rattle.curve_call.proofs.RateRises.{rate_rise}
use Rattle.curve_call.proofs.Shifts.{same_least}
use Rattle.plain_operators.specs.declared.pointwise.lattice.Lattice.TheVariants.{Excess}
use Rattle.plain_operators.specs.pointwise.Lattice.{RisesBy, IsTailRise}
use Rattle.curve_call.specs.FirstWindows.{IsFirstWindow, IsWideAtFirst}
use Rattle.plain_operators.specs.pointwise.LatticeCall.{LatticeCall, IsLatticeFrame}
use Rattle.plain_operators.proofs.pointwise.LatticeCalls.{call_from, at_times, compared}
use Rattle.upp_limits.proofs.Copies.{plus_zero}
use Rattle.curve_call.proofs.MostAbove.{level_is}

-- ---- a level is steady from 0 on

level_steady : (l : ℚ) → steady (level_curve l) ≡ int (pos 0)
unfolding steady value_at
level_steady l = ap (λ b. later_unless b (int (pos 0))) (sym (same_by _ _ (level_value l (int (pos 0)) (le_refl (int (pos 0))) ∙ ap Fin (sym (plus_zero l (int (pos 0)))))))

pub level_unrolled : (l end : ℚ) → int (pos 0) <ℚ end → (level_curve l).pieces ≡ unroll (level_curve l) end
unfolding unroll
level_unrolled l end h =
    let p : Piece = record { x = int (pos 0); at = Fin l; line = Some record { icept = l; slope = int (pos 0) } } in
    sym (upto_some end p [] h ∙ ap (λ zs. p ∷ zs) (upto_end end))

-- ---- the call
call_end : (l : ℚ) (f : SpecCurve) (k : ℕ) → IsCurve f → int (pos 0) <ℚ window_at (PosMinus l) f f k 0
call_end l f k F =
    let end = window_at (PosMinus l) f f k 0 in
    let n = numbers_over (PosMinus l) f f end in
    let z = sizes_of end n in
    let call : IsCall (PosMinus l) f f z end = record { first = F; second = tt; forward = tt; stands = sizes_stand end n } in
    let low = (start_on (PosMinus l) f f z end call).nonneg in
    let above = (period_on (PosMinus l) f f z end call).above in
    let early = (call_early (PosMinus l) f f k 0 z end call).both in
    with3 (steady f) (own_period f) end (λ c. omega (arith, c.le, c.lt, c.same))

minus_call : (l : ℚ) (f : SpecCurve) (k : ℕ) → IsCurve f → gauge_at (PosMinus l) f f k 0 < 2 ^ 120
    → LatticeCall f (level_curve l) (steady f) (own_period f) (window_at (PosMinus l) f f k 0) k (sizes_at (PosMinus l) f f k 0)
unfolding gauge_over
minus_call l f k F small =
    let end = window_at (PosMinus l) f f k 0 in
    let n = numbers_over (PosMinus l) f f end in
    let z = sizes_of end n in
    let V : IsValue z l = (sizes_stand end n).values.0 in
    let some = call_end l f k F in
    let sizes = are_sizes end n in
    let fits : IsSmall l = small_number z end 1 l sizes (narrow_gauge z end sizes (omega (arith, small))) (omega arith) (value_whole z l V) (value_within z l V) in
    let call : IsCall (PosMinus l) f f z end = record { first = F; second = tt; forward = tt; stands = sizes_stand end n } in
    let low = (start_on (PosMinus l) f f z end call).nonneg in
    call_from (PosMinus l) f f (level_curve l) k F (bucket_curve l (int (pos 0)) fits) tt tt small refl (level_stands z end l some V) (le_refl (steady f))
    (subst (λ y. y ≤ℚ steady f) (sym (level_steady l)) low) (own_whole f F) tt

pub minus_compared : (l : ℚ) (f : SpecCurve) (w : CallWindow) → IsCurve f → IsFirstWindow (PosMinus l) f f w → (z : Sizes) × AreCompared z w.start w.period f (level_curve l)
minus_compared l f w F W =
    let z = sizes_at (PosMinus l) f f 0 0 in (
      z,
      compared f (level_curve l) w.start w.period w.end z
          (at_times f (level_curve l) (steady f) (own_period f) (window_at (PosMinus l) f f 0 0) w.start w.period w.end 0 z (minus_call l f 0 F W.gauge) W.window.start W.window.period W.window.end),
    )

-- ---- the number of periods
abbrev Enough : ℚ → SpecCurve → ℚ → ℚ → ℕ → Type 0
Enough l f from d k = IsSlowerBelow (value_at f) (value_at (level_curve l)) (rate f) (rate (level_curve l)) (periods_after from k d) d

below_out : (l from d : ℚ) (f : ℚ → Ext) → int (pos 0) ≤ℚ from → IsBelowFor f (value_at (level_curve l)) from d → IsBelowFor f (λ t. Fin l) from d
below_out l from d f low B t a b = subst (λ v. f t ≤ₑ v) (level_value l t (le_trans low a)) (B t a b)

below_in : (l from d : ℚ) (f : ℚ → Ext) → int (pos 0) ≤ℚ from → IsBelowFor f (λ t. Fin l) from d → IsBelowFor f (value_at (level_curve l)) from d
below_in l from d f low B t a b = subst (λ v. f t ≤ₑ v) (sym (level_value l t (le_trans low a))) (B t a b)

above_out : (l from d : ℚ) (f : ℚ → Ext) → int (pos 0) ≤ℚ from → IsBelowFor (value_at (level_curve l)) f from d → IsBelowFor (λ t. Fin l) f from d
above_out l from d f low B t a b = subst (λ v. v ≤ₑ f t) (level_value l t (le_trans low a)) (B t a b)

above_in : (l from d : ℚ) (f : ℚ → Ext) → int (pos 0) ≤ℚ from → IsBelowFor (λ t. Fin l) f from d → IsBelowFor (value_at (level_curve l)) f from d
above_in l from d f low B t a b = subst (λ v. v ≤ₑ f t) (sym (level_value l t (le_trans low a))) (B t a b)

meets_out : (l : ℚ) (f : SpecCurve) (k : ℕ) → int (pos 0) ≤ℚ periods_after (steady f) k (own_period f) → Enough l f (steady f) (own_period f) k → Meets (PosMinus l) f f k
meets_out l f k low E = record {
  first = λ h. below_out l (periods_after (steady f) k (own_period f)) (own_period f) (value_at f) low (E.first (subst (λ r. rate f <ₑ r) (sym (level_is l)) h));
  second = λ h. above_out l (periods_after (steady f) k (own_period f)) (own_period f) (value_at f) low (E.second (subst (λ r. r <ₑ rate f) (sym (level_is l)) h));
}

meets_in : (l : ℚ) (f : SpecCurve) (k : ℕ) → int (pos 0) ≤ℚ periods_after (steady f) k (own_period f) → Meets (PosMinus l) f f k → Enough l f (steady f) (own_period f) k
meets_in l f k low M = record {
  first = λ h. below_in l (periods_after (steady f) k (own_period f)) (own_period f) (value_at f) low (M.first (subst (λ r. rate f <ₑ r) (level_is l) h));
  second = λ h. above_in l (periods_after (steady f) k (own_period f)) (own_period f) (value_at f) low (M.second (subst (λ r. r <ₑ rate f) (level_is l) h));
}

late : (l : ℚ) (f : SpecCurve) (w : CallWindow) (k : ℕ) → IsCurve f → IsFirstWindow (PosMinus l) f f w → int (pos 0) ≤ℚ periods_after (steady f) k (own_period f)
late l f w k F W =
    let L = minus_call l f 0 F W.gauge in
    let low = L.nonneg in
    let run : int (pos 0) ≤ℚ int (pos k) *ℚ own_period f = mul_nonneg (nat_nonneg k) (le_of_lt L.above) in
    let s = steady f in
    let r = int (pos k) *ℚ own_period f in
    with2 s r (λ c. omega (arith, c.le, c.lt, c.same))

named : (l : ℚ) (f : SpecCurve) (w : CallWindow) → IsFirstWindow (PosMinus l) f f w → (P : ℚ → ℚ → Type 0) → P w.start w.period → P (steady f) (own_period f)
named l f w W P h = subst (λ s. P s (own_period f)) W.window.start (subst (λ p. P w.start p) W.window.period h)

pub minus_wide : (l : ℚ) (f : SpecCurve) (e : OpFault) → IsCurve f → IsWideAtFirst (PosMinus l) f f e → IsCauseOf (PosMinus l) f f e
minus_wide l f TooMany F h = absurd h
minus_wide l f TooWide F h = first_gate (PosMinus l) f f F F tt (λ k. k) h
minus_wide l f NoMemory F h = absurd h

pub minus_none : (l : ℚ) (f : SpecCurve) (w : CallWindow) → IsCurve f → IsFirstWindow (PosMinus l) f f w → ((k : ℕ) → ¬ (Enough l f w.start w.period k)) → IsTooWide (PosMinus l) f f
minus_none l f w F W none = record {
  looks = λ k. k;
  gauge = λ k m L. absurd (named l f w W (λ s p. (k : ℕ) → ¬ (Enough l f s p k)) none k (meets_in l f k (late l f w k F W) L.first.meets));
}

pub minus_least : (l : ℚ) (f : SpecCurve) (w : CallWindow) (k : ℕ) → IsCurve f → IsFirstWindow (PosMinus l) f f w → IsLeast (Enough l f w.start w.period) k → IsLeastPeriods (PosMinus l) f f k 0
minus_least l f w k F W L =
    pos_minus_least l f f k
    (same_least (Meets (PosMinus l) f f) (Enough l f (steady f) (own_period f)) k (λ i M. meets_in l f i (late l f w i F W) M) (λ i E. meets_out l f i (late l f w i F W) E)
    (named l f w W (λ s p. IsLeast (Enough l f s p) k) L))

pub minus_refused : (l : ℚ) (f : SpecCurve) (w : CallWindow) (k : ℕ) (e : OpFault) → IsCurve f → IsFirstWindow (PosMinus l) f f w → IsLeast (Enough l f w.start w.period) k
    → IsRefusedAt (PosMinus l) f f k 0 e → IsCauseOf (PosMinus l) f f e
minus_refused l f w k e F W L R = refused_cause (PosMinus l) f f k 0 e (λ h. h) (minus_least l f w k F W L) R

pub minus_is_within : (l : ℚ) (f : SpecCurve) (w : CallWindow) (k : ℕ) (r : Frame) → IsFirstWindow (PosMinus l) f f w → IsLeast (Enough l f w.start w.period) k → IsFrame (PosMinus l) f f k 0 r
    → IsWithin (PosMinus l) f f
minus_is_within l f w k r W L h = frame_within (PosMinus l) f f k 0 r (minus_least l f w k h.first W L) h

pub minus_frame : (l : ℚ) (f : SpecCurve) (w : CallWindow) (k : ℕ) (r : Frame) → IsFirstWindow (PosMinus l) f f w → IsLeast (Enough l f w.start w.period) k → IsFrame (PosMinus l) f f k 0 r
    → IsLatticeFrame f (level_curve l) r
minus_frame l f w k r W L h =
    let z = sizes_at (PosMinus l) f f k 0 in
    record {
      number = k;
      sizes = z;
      call = at_times f (level_curve l) (steady f) (own_period f) (window_at (PosMinus l) f f k 0) r.start r.period r.end k z (minus_call l f k h.first h.gauge) h.start h.period h.end;
      times = h.times;
      values = h.values;
      enough = subst (λ s. Enough l f s r.period k) (W.window.start ∙ sym h.start) (subst (λ p. Enough l f w.start p k) (W.window.period ∙ sym h.period) L.meets);
    }

-- ---- the rise
pub minus_rise : (l : ℚ) (f : SpecCurve) (gaining : Type 0) (d rise : ℚ) → (gaining → Fin (int (pos 0)) <ₑ rate f) → (Fin (int (pos 0)) <ₑ rate f → gaining) → RisesBy gaining (rise_over f d) (int (pos 0)) rise
    → IsTailRise Excess f (level_curve l) (rise_over f d) (rise_over (level_curve l) d) rise
minus_rise l f gaining d rise out in_ R =
    let none : rise_over (level_curve l) d ≡ int (pos 0) = sym (rate_rise (level_curve l) d (int (pos 0)) (level_is l)) ∙ zero_mul d in
    let a = rise_over f d in
    let b = rise_over (level_curve l) d in
    let alone : a ≡ a -ℚ b = with2 a b (λ c. omega (arith, c.le, c.lt, c.same)) in
    record {
      so = λ h. R.so (in_ (subst (λ r. r <ₑ rate f) (level_is l) h)) ∙ alone;
      else = λ n. R.else (λ g. n (subst (λ r. r <ₑ rate f) (sym (level_is l)) (out g)));
    }

-- ---- the value
pub minus_values : (l : ℚ) (f c : SpecCurve) → ((t : ℚ) → int (pos 0) ≤ℚ t → value_at c t ≡ excess (value_at f t) (value_at (level_curve l) t))
    → (t : ℚ) → int (pos 0) ≤ℚ t → IsPositiveMinus (value_at f) l t (value_at c t)
minus_values l f c h t low = h t low ∙ ap (excess (value_at f t)) (level_value l t low)

-- ---- what was found of sides is so of the curves that they show

pub sides_compared : (f g x y : SpecCurve) (s p : ℚ) → x ≡ f → y ≡ g → (z : Sizes) × AreCompared z s p f g → (z : Sizes) × AreCompared z s p x y
sides_compared f g x y s p a b (z, A) = (z, subst (λ v. AreCompared z s p v y) (sym a) (subst (λ w. AreCompared z s p f w) (sym b) A))

pub sides_least : (f g x y : SpecCurve) (s p : ℚ) (k : ℕ) → x ≡ f → y ≡ g → IsLeast (IsEnough x y s p) k → IsLeast (IsEnough f g s p) k
sides_least f g x y s p k a b h = subst (λ w. IsLeast (IsEnough f w s p) k) b (subst (λ v. IsLeast (IsEnough v y s p) k) a h)

pub sides_none : (f g x y : SpecCurve) (s p : ℚ) (r : Option ℕ) → x ≡ f → y ≡ g → MatchOption r ((k : ℕ) → ¬ (IsEnough x y s p k)) (IsLeast (IsEnough x y s p)) → r ≡ None
    → (k : ℕ) → ¬ (IsEnough f g s p k)
sides_none f g x y s p None a b h e = subst (λ w. (k : ℕ) → ¬ (IsEnough f w s p k)) b (subst (λ v. (k : ℕ) → ¬ (IsEnough v y s p k)) a h)
sides_none f g x y s p (Some k) a b h e = absurd (some_none k e)
  where
    some_none : (k : ℕ) → Some k ≡ None → ⊥
    some_none k e = cc
