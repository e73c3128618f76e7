-- The gap of two curves over a window is there: found by proof alone, where no code runs.
use Rattle.std.specs.Prelude.{ℕ, zero, suc, ◌<◌}
use Rattle.std.proofs.Common.{arith, refl, inl, inr}
use Rattle.rational.specs.Rational.{ℚ, ◌<ℚ◌}
use Rattle.rational.proofs.Laws.{le_or_lt, lt_irrefl, lt_le_trans}
use Rattle.upp_curve.specs.Curve.{SpecCurve, value_at}
use Rattle.upp_limits.specs.Limits.{Sizes}
use Rattle.upp_normal.specs.Ahead.{HasWindow, IsTimeIn}
use Rattle.curve_call.specs.declared.gaps.Gap.{Gap}
use Rattle.curve_call.specs.declared.gaps.Gap.TheVariants.{NoTime}
use Rattle.curve_call.specs.Gaps.{InWindow, IsGap}
use Rattle.curve_call.specs.GapSteps.{larger, gap_along}
use Rattle.curve_call.proofs.FoundCurves.{curve_goes}
use Rattle.curve_call.proofs.GapParts.{stretch_gap_is}
use Rattle.curve_call.proofs.GapSizes.{stretch_stands}
use Rattle.curve_call.proofs.GapWalk.{GapWalk, steps_left, next_time, next_is, walk_time, walk_start, walk_step, walk_fewer, walk_end, stretch_sizes}

record Stepped (f g : SpecCurve) (from end t : ℚ) : Type 0 where
  next : ℚ
  past : t <ℚ next
  gap : Gap
  walk : GapWalk f g from end next gap

step : (z : Sizes) (f g : SpecCurve) (from end t : ℚ) (gap : Gap) → HasWindow z end f → HasWindow z end g → IsTimeIn z end from → GapWalk f g from end t gap → t <ℚ end → Stepped f g from end t
step z f g from end t gap V W T inv h =
    let here = walk_time z f g from end t gap V W T inv h in
    let F = curve_goes z end f t V here in
    let G = curve_goes z end g t W here in
    let slow = F.stretch in
    let fast = G.stretch in
    let next = next_time end slow.next fast.next in
    let N = next_is t end slow.next fast.next h F.goes.next G.goes.next in
    let more = gap_along slow fast t next in
    record {
      next = next;
      past = N.past;
      gap = larger gap more;
      walk = walk_step f g from end t next slow.next fast.next gap more inv h F.goes.next G.goes.next F.times G.times refl (stretch_gap_is (value_at f) (value_at g) slow fast t next N.past F.goes G.goes N.first N.second)
          (λ w P Q R.
          let S = stretch_sizes w f g from end t next gap slow fast P Q R inv h F.goes.next G.goes.next F.times G.times (F.sizes w end P) (G.sizes w end Q) refl in
          stretch_stands w end t next slow fast S N.past);
    }

walk_on : (z : Sizes) (f g : SpecCurve) (from end t : ℚ) (gap : Gap) (n : ℕ) → HasWindow z end f → HasWindow z end g → IsTimeIn z end from → GapWalk f g from end t gap → steps_left f g from end t < n
    → (q : Gap) × IsGap (InWindow from end) (value_at f) (value_at g) q
walk_on z f g from end t gap zero V W T inv l = absurd (omega (arith, l))
walk_on z f g from end t gap (suc n) V W T inv l = elim (le_or_lt end t) [
  | inl late ↦ (gap, walk_end f g from end t gap inv (λ h. lt_irrefl t (lt_le_trans h late)))
  | inr h ↦
      let S = step z f g from end t gap V W T inv h in
      let fewer = walk_fewer f g from end t S.next gap S.gap inv S.walk S.past in
      walk_on z f g from end S.next S.gap n V W T S.walk (omega (arith, l, fewer))
]

pub gap_there : (z : Sizes) (f g : SpecCurve) (from end : ℚ) → HasWindow z end f → HasWindow z end g → IsTimeIn z end from → (q : Gap) × IsGap (InWindow from end) (value_at f) (value_at g) q
gap_there z f g from end V W T = walk_on z f g from end from NoTime (suc (steps_left f g from end from)) V W T (walk_start f g from end T.before) (omega arith)
