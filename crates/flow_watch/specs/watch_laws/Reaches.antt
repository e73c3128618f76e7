-- How long a window need be looked at: where a curve that repeats rises in its first period at least as it does in later
-- ones, no more than to its rank and a period. Own choice.
use Rattle.std.specs.Prelude.{◌≡◌, List}
use Rattle.rational.specs.Rational.{ℚ, ◌+ℚ◌, ◌-ℚ◌, ◌≤ℚ◌, ◌<ℚ◌}
use Rattle.rational.specs.Extended.{◌<ₑ◌, ◌+ₑ◌}
use Rattle.rational.specs.declared.Extended.TheVariants.{Fin}
use Rattle.upp_curve.specs.declared.curve.Tail.TheVariants.{Periodic}
use Rattle.upp_curve.specs.Curve.{SpecCurve, value_at}
use Rattle.run_laws.specs.Cards.{all, ServerStep}
use Rattle.run_laws.specs.Counts.{worked}
use Rattle.run_laws.specs.Servers.{Server}
use Rattle.run_laws.specs.Allows.{IsLawfulView}
use Rattle.flow_watch.specs.watch_laws.Breaks.{IsBreak}
use Rattle.flow_watch.specs.watch_laws.Windows.{IsPair}
use Rattle.flow_watch.specs.watch_laws.Stretches.{IsTurn}
use Rattle.flow_watch.specs.watch_laws.Laws.{MayServe}

-- the curve repeats, `reach` is the end of its first period after the rank, and at a period it has at least the rise
pub record HasReach (c : SpecCurve) (reach : ℚ) : Type 0 where
  pub rank : ℚ
  pub period : ℚ
  pub rise : ℚ
  pub value : ℚ
  pub tail : c.tail ≡ Periodic rank period rise
  pub is : reach ≡ rank +ℚ period
  pub there : value_at c period ≡ Fin value
  pub enough : rise ≤ℚ value

-- between two turns a window that is too short of work has one that is no longer than the reach, of which one end is a turn,
-- and the other too or one of the curve's times before or after it
abbrev pub ReachSuffices : Type 0
ReachSuffices = (server : Server) (end : ℚ) (view : List ServerStep) (c : SpecCurve) (reach u e a b : ℚ) →
    IsLawfulView server end view → MayServe c → HasReach c reach → IsTurn end view u → IsTurn end view e →
    u ≤ℚ a → a <ℚ b → b ≤ℚ e →
    Fin (worked all view b) <ₑ (Fin (worked all view a) +ₑ value_at c (b -ℚ a)) →
    (p q : ℚ) × (u ≤ℚ p) × (p <ℚ q) × (q ≤ℚ e) × IsPair (IsTurn end view) (IsBreak c) p q × (q -ℚ p ≤ℚ reach)
    × (Fin (worked all view q) <ₑ (Fin (worked all view p) +ₑ value_at c (q -ℚ p)))
