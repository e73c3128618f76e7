-- Where the numbers of a server stand, by the sizes of a gauge below 2 ^ 120 whose window ends with the run: then every step
-- of the search for its first idle window fits. The gauge of a simulation, or of the check of a recorded run, gives it. Own choice.
use Rattle.std.specs.Prelude.{◌≡◌, ◌⊎◌, pos, List, Option, MatchOption}
use Rattle.rational.specs.Rational.{ℚ, int, ◌≤ℚ◌, ◌<ℚ◌}
use Rattle.upp_curve.specs.Curve.{SpecCurve}
use Rattle.upp_curve.specs.Curves.{IsCurve}
use Rattle.upp_limits.specs.Limits.{Sizes, curve_numbers}
use Rattle.upp_limits.specs.Sized.{IsSlope, Stands}
use Rattle.upp_normal.specs.Operand.{AreLimited}
use Rattle.run_laws.specs.Cards.{all, ServerStep}
use Rattle.run_laws.specs.Servers.{Server}
use Rattle.run_laws.specs.Allows.{IsLawfulView}
use Rattle.run_laws.specs.Counts.{arrived, worked}
use Rattle.flow_watch.specs.watch_laws.Affine.{EachTime}
use Rattle.flow_watch.specs.watch_laws.Breaches.{IsIdle}
use Rattle.flow_watch.specs.watch_laws.MarkSizes.{IsTime, IsAmount}
use Rattle.flow_watch.specs.watch_laws.Shorts.{IsPastEnd}
use Rattle.flow_watch.specs.watch_laws.Times.{leave_times}
use Rattle.run_watch.specs.declared.span.Ramp.{Ramp}
use Rattle.run_watch.specs.declared.watched.Watched.{Watched}
use Rattle.run_watch.specs.Ramps.{AreRamps, EachRamp, TakeTime, ramps_after, spans_of}
use Rattle.run_watch.specs.Seen.{arrival_spans, work_spans}
use Rattle.run_watch.specs.Watching.{RiseFrom, arrived_by, worked_by}

-- w is what the server sees by its steps
pub record IsSightOf (server : Server) (end : ℚ) (V : List ServerStep) (w : Watched) : Type 0 where
  pub lawful : IsLawfulView server end V
  pub arrivals : w.arrivals.items ≡ ramps_after (int (pos 0)) (arrival_spans V)
  pub works : w.works.items ≡ ramps_after (int (pos 0)) (work_spans V)
  pub leaves : w.leaves.items ≡ leave_times V
  pub end_is : w.end ≡ end
  pub arrived_is : (t : ℚ) → arrived_by w t ≡ arrived all V t
  pub worked_is : (t : ℚ) → worked_by w t ≡ worked all V t

-- ---- sizes
pub record IsHeldRamp (z : Sizes) (end : ℚ) (r : Ramp) : Type 0 where
  pub start : IsTime z end r.span.start
  pub last : IsTime z end r.span.end
  pub before : IsAmount z r.before
  pub after : IsAmount z r.after
  pub pace : r.span.start <ℚ r.span.end → IsSlope z r.pace
  pub some : int (pos 0) ≤ℚ r.span.bits

pub record AreHeld (z : Sizes) (end : ℚ) (rs : List Ramp) : Type 0 where
  pub ramps : AreRamps rs
  pub each : EachRamp (IsHeldRamp z end) rs

-- what the server sees, and its curve
pub record IsHeld (w : Watched) (c : SpecCurve) : Type 0 where
  pub sizes : Sizes
  pub limited : AreLimited sizes w.end
  pub is : IsCurve c
  pub curve : Stands sizes (curve_numbers w.end c)
  pub arrivals : AreHeld sizes w.end w.arrivals.items
  pub works : AreHeld sizes w.end w.works.items
  pub time : TakeTime (spans_of w.works.items)
  pub leaves : EachTime (IsTime sizes w.end) w.leaves.items
  pub rise : RiseFrom (int (pos 0)) w.leaves.items

-- ---- the first idle window
-- the one with the least end, and of those the least start
pub record IsFirstIdle (end : ℚ) (V : List ServerStep) (c : SpecCurve) (a b : ℚ) : Type 0 where
  pub is : IsIdle end V c a b
  pub least : (x y : ℚ) → IsIdle end V c x y → (b <ℚ y) ⊎ ((b ≡ y) × (a ≤ℚ x))

-- none, where none ends before `until` (none at all, where there is no such time); or the first
abbrev pub FindsIdle : Option ℚ → ℚ → List ServerStep → SpecCurve → Option (ℚ × ℚ) → Type 0
FindsIdle until end V c found = MatchOption found ((a b : ℚ) → IsIdle end V c a b → IsPastEnd until b)
    (λ p. IsFirstIdle end V c p.0 p.1)
