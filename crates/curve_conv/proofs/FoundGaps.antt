-- The gap of both parts of a convolution is there, and so is the least number of periods: found by proof alone, where no code runs.
use Rattle.std.specs.Prelude.{◌≡◌, ◌⊎◌, ℕ, suc, zero, ◌<◌, ◌≤◌, pos, Some, None}
use Rattle.std.proofs.Common.{arith, refl, subst, inl, inr}
use Rattle.rational.specs.Rational.{ℚ, ◌-ℚ◌, ◌<ℚ◌, int}
use Rattle.rational.specs.Extended.{Ext}
use Rattle.rational.proofs.Laws.{le_refl, le_or_lt, antisym}
use Rattle.upp_curve.specs.Curve.{SpecCurve, value_at}
use Rattle.upp_limits.specs.Limits.{Sizes}
use Rattle.upp_normal.specs.Operand.{AreLimited}
use Rattle.upp_curve.specs.Steady.{steady, rise_over}
use Rattle.upp_limits.specs.Periods.{periods_after}
use Rattle.element_envelope.specs.ElementRoom.{WindowTime}
use Rattle.curve_call.specs.declared.gaps.Gap.{Gap}
use Rattle.curve_call.specs.declared.gaps.Gap.TheVariants.{NoTime, Never, Is}
use Rattle.curve_call.specs.Gaps.{InWindow, IsGap}
use Rattle.curve_call.specs.GapSteps.{larger, gap_along, earlier_of}
use Rattle.curve_call.proofs.GapParts.{stretch_gap_is}
use Rattle.curve_call.proofs.BoundedNumber.{least_found}
use Rattle.curve_conv.specs.Late.{IsLateIn, IsLateAfter, IsLateNumber, IsLateCall}
use Rattle.curve_conv.specs.Scans.{sizes_in}
use Rattle.curve_conv.specs.Stretches.{SumTimeIn}
use Rattle.curve_conv.proofs.FoundNumbers.{PartGoing, spans_of, spans_go}
use Rattle.curve_conv.proofs.GapStretches.{stretch_stands}
use Rattle.curve_conv.proofs.GapWalks.{PartGapWalk, walk_start, time_in, next_place, next_to, walk_step, walk_fewer}
use Rattle.curve_conv.proofs.GridSteps.{steps_to}
use Rattle.curve_conv.proofs.WalkGrid.{walk_grid}
use Rattle.curve_conv.proofs.LateShifts.{values_are}
use Rattle.curve_conv.proofs.LateNumbers.{Values, late_of, soon_of, late_times, zero_time, late_in, some_lead, number_none, number_endless, number_gap}

-- ---- the gap
pub record GapFound (z : Sizes) (f g : ℚ → Ext) (first second from end : ℚ) : Type 0 where
  pub gap : Gap
  pub walk : PartGapWalk z f g first second from end end gap

abbrev Lates : Sizes → ℚ → (ℚ → Ext) → (ℚ → Ext) → ℚ → Type 0
Lates z end f g first = (t : ℚ) → SumTimeIn z end t → PartGoing z end t f g first None (int (pos 0))

abbrev Soons : Sizes → ℚ → (ℚ → Ext) → (ℚ → Ext) → ℚ → ℚ → Type 0
Soons z end f g first second = (t : ℚ) → SumTimeIn z end t → PartGoing z end t f g (int (pos 0)) (Some first) second

-- one stretch more
record Further (z : Sizes) (f g : ℚ → Ext) (first second from end t : ℚ) : Type 0 where
  next : ℚ
  gap : Gap
  walk : PartGapWalk z f g first second from end next gap
  fewer : steps_to (walk_grid z) end next < steps_to (walk_grid z) end t

further : (z : Sizes) (f g : ℚ → Ext) (first second from end : ℚ) → AreLimited z end → WindowTime z end from → Lates z end f g first → Soons z end f g first second → (t : ℚ) (gap : Gap)
    → PartGapWalk z f g first second from end t gap → t <ℚ end → Further z f g first second from end t
further z f g first second from end A F late soon t gap W h =
    let start = time_in z f g first second from end t gap F W h in
    let T : SumTimeIn z end t = record { limited = A; start = start } in
    let P = late t T in
    let S = soon t T in
    let p = P.stretch in
    let s = S.stretch in
    let soonest = earlier_of end p.next in
    let next = earlier_of soonest s.next in
    let N = next_place z end t soonest next p.next s.next (inl A.sizes.window) h P.ahead.goes.next S.ahead.goes.next P.stands.next S.stands.next refl refl in
    let U = next_to z end t next p.next s.next start.nonneg N in
    let more = gap_along p s t next in
    record {
      next = next;
      gap = larger gap more;
      walk = walk_step z f g first second from end t next gap more p s W P.ahead S.ahead N (λ a b G H i k. stretch_gap_is a b p s t next N.time.past G H i k)
          (stretch_stands z end t next p s T U P.stands S.stands);
      fewer = walk_fewer z end t next p.next s.next A.sizes.dv A.sizes.dt W.place N;
    }

gap_found : (z : Sizes) (f g : ℚ → Ext) (first second from end : ℚ) → AreLimited z end → WindowTime z end from → Lates z end f g first → Soons z end f g first second → (n : ℕ) (t : ℚ) (gap : Gap)
    → steps_to (walk_grid z) end t ≤ n → PartGapWalk z f g first second from end t gap → GapFound z f g first second from end
gap_found z f g first second from end A F late soon zero t gap few W = elim (le_or_lt end t) [
  | inl h ↦ record { gap = gap; walk = subst (λ x. PartGapWalk z f g first second from end x gap) (antisym (W.most, h)) W }
  | inr h ↦ let S = further z f g first second from end A F late soon t gap W h in let less = S.fewer in absurd (omega (arith, few, less))
]
gap_found z f g first second from end A F late soon (suc n) t gap few W = elim (le_or_lt end t) [
  | inl h ↦ record { gap = gap; walk = subst (λ x. PartGapWalk z f g first second from end x gap) (antisym (W.most, h)) W }
  | inr h ↦
      let S = further z f g first second from end A F late soon t gap W h in
      let less = S.fewer in
      gap_found z f g first second from end A F late soon n S.next S.gap (omega (arith, few, less)) S.walk
]

abbrev pub CallGap : SpecCurve → SpecCurve → ℚ → ℚ → Type 0
CallGap slow fast from end = GapFound (sizes_in slow fast end) (value_at slow) (value_at fast) (steady slow) (steady fast) from end

pub call_gap : (slow fast : SpecCurve) (from d end : ℚ) → IsLateCall slow fast from d end → CallGap slow fast from end
call_gap slow fast from d end C =
    let z = sizes_in slow fast end in
    let f = value_at slow in
    let g = value_at fast in
    let x = steady slow in
    let y = steady fast in
    let V = C.scan.first in
    let times = late_times slow fast from d end C in
    let zero_in = zero_time slow fast from d end C in
    let low = le_refl (int (pos 0)) in
    let late_slow = spans_of z end slow x None V times.first tt in
    let all_fast = spans_of z end fast (int (pos 0)) None C.scan.second zero_in tt in
    let soon_slow = spans_of z end slow (int (pos 0)) (Some x) V zero_in times.first in
    let late_fast = spans_of z end fast y None C.scan.second times.second tt in
    gap_found z f g x y from end V.limited times.from_in (λ t T. spans_go z end t f g x None (int (pos 0)) times.first.nonneg low T late_slow all_fast)
    (λ t T. spans_go z end t f g (int (pos 0)) (Some x) y low times.second.nonneg T soon_slow late_fast) (steps_to (walk_grid z) end from) from NoTime (omega arith)
    (walk_start z f g x y from end times.from_in)

-- ---- where some number is enough there is a least one
at_most : (a b : ℕ) → (a ≤ b) ⊎ (b < a)
at_most zero b = inl (omega arith)
at_most (suc a) zero = inr (omega arith)
at_most (suc a) (suc b) = elim (at_most a b) [ inl h ↦ inl (omega (arith, h)) | inr h ↦ inr (omega (arith, h)) ]

-- the least number, which is at most n, and as many as n are enough too
pub record LateMost (slow fast : SpecCurve) (from d : ℚ) (n : ℕ) : Type 0 where
  pub number : ℕ
  pub is : IsLateNumber slow fast from d number
  pub most : number ≤ n
  pub late : IsLateIn slow fast (periods_after from n d) d

pub number_found : (slow fast : SpecCurve) (from d end : ℚ) (n : ℕ) → IsLateCall slow fast from d end → IsLateAfter slow fast from d n → LateMost slow fast from d n
number_found slow fast from d end n C here = by F.gap refl
  where
    F : CallGap slow fast from end
    F = call_gap slow fast from d end C

    V : Values slow fast from end
    V = F.walk.values

    is_gap : IsGap (InWindow from end) (late_of slow fast from end V) (soon_of slow fast from end V) F.gap
    is_gap = F.walk.gap_is (late_of slow fast from end V) (soon_of slow fast from end V) (values_are (value_at slow) (value_at fast) (steady slow) (steady fast) from end V)

    lead : ℚ
    lead = rise_over fast d -ℚ rise_over slow d

    late : IsLateIn slow fast (periods_after from n d) d
    late = late_in slow fast from d end n C V here

    of_gap : (q : ℚ) → F.gap ≡ Is q → LateMost slow fast from d n
    of_gap q e =
        let G = subst (IsGap (InWindow from end) (late_of slow fast from end V) (soon_of slow fast from end V)) e is_gap in
        let some = some_lead slow fast from d end q (late_of slow fast from end V) (soon_of slow fast from end V) C (values_are (value_at slow) (value_at fast) (steady slow) (steady fast) from end V) G in
        let (k, least) = least_found q lead some in
        let N = number_gap slow fast from d end q k C V G least in
        record { number = k; is = N; most = elim (at_most k n) [ inl h ↦ h | inr h ↦ absurd (N.least.least n h here) ]; late = late }

    by : (gap : Gap) → F.gap ≡ gap → LateMost slow fast from d n
    by NoTime e = record {
      number = 0;
      is = number_none slow fast from d end C V (subst (IsGap (InWindow from end) (late_of slow fast from end V) (soon_of slow fast from end V)) e is_gap);
      most = omega arith;
      late = late;
    }
    by Never e = absurd (number_endless slow fast from d end C V (subst (IsGap (InWindow from end) (late_of slow fast from end V) (soon_of slow fast from end V)) e is_gap) n here)
    by (Is q) e = of_gap q e
