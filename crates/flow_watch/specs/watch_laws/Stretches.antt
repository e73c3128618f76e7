-- The stretches through which a server has work, and its watch points: the times between which windows are looked at.
-- (Own choice; that these suffice is the law `watch_points_suffice`.)
use Rattle.std.specs.Prelude.{◌≡◌, ◌⊎◌, List}
use Rattle.rational.specs.Rational.{ℚ, ◌-ℚ◌, ◌≤ℚ◌, ◌<ℚ◌}
use Rattle.run_laws.specs.Cards.{all, ServerStep}
use Rattle.run_laws.specs.Counts.{arrived, worked}
use Rattle.run_laws.specs.Premises.{IsBusy}
use Rattle.flow_watch.specs.watch_laws.Paces.{IsPaceChange}

-- from u to e something that has arrived is still to be worked, and the two are as far apart as may be: at u all that
-- arrived is worked, and at e it is or the run ends
pub record IsStretch (end : ℚ) (V : List ServerStep) (u e : ℚ) : Type 0 where
  pub forward : u <ℚ e
  pub in_run : e ≤ℚ end
  pub busy : IsBusy V u e
  pub caught_up : arrived all V u ≤ℚ worked all V u
  pub stops : (e ≡ end) ⊎ (arrived all V e ≤ℚ worked all V e)

-- both a and b are in one stretch, its ends too
pub record IsAround (end : ℚ) (V : List ServerStep) (a b u e : ℚ) : Type 0 where
  pub stretch : IsStretch end V u e
  pub first : u ≤ℚ a
  pub last : b ≤ℚ e

-- a stretch begins or ends, or the pace changes
abbrev pub IsTurn : ℚ → List ServerStep → ℚ → Type 0
IsTurn end V t = ((e : ℚ) × IsStretch end V t e) ⊎ ((u : ℚ) × IsStretch end V u t) ⊎ IsPaceChange V t

-- a turn, or a time that is one of the times X before or after a turn
abbrev pub IsWatchPoint : ℚ → List ServerStep → (ℚ → Type 0) → ℚ → Type 0
IsWatchPoint end V X t = (p : ℚ) × IsTurn end V p × (p ≡ t ⊎ X (t -ℚ p) ⊎ X (p -ℚ t))
