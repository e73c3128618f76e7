-- A view in which the bound on what leaves by the pace is reached. (Own choice.)
use Rattle.std.specs.Prelude.{◌≡◌, ℕ, List, [], ◌∷◌}
use Rattle.rational.specs.Rational.{◌+ℚ◌, ◌-ℚ◌, ◌*ℚ◌}
use Rattle.run_laws.specs.Cards.{Card, all, whole, ServerStep, Arrives, Works, Leaves}
use Rattle.run_laws.specs.Servers.{Fifo}
use Rattle.run_laws.specs.Allows.{IsLawfulView}
use Rattle.run_laws.specs.Counts.{departed_in}
use Rattle.run_laws.specs.Premises.{KeepsSizes}
use Rattle.run_laws.specs.Examples.{paced_server}

-- packets of 10 bits
abbrev pub card : ℕ → Card
card p = record { packet = p; flow = 0; queue = 0; bits = 10 }

-- two of them come at 0, and are worked one right after the other
abbrev pub two_in_a_row : List ServerStep
two_in_a_row =
    Arrives (card 0) (whole 0) ∷ Arrives (card 1) (whole 0) ∷ Works (card 0) (whole 0) (whole 10) (whole 10) ∷
    Leaves (card 0) (whole 10) ∷ Works (card 1) (whole 10) (whole 20) (whole 10) ∷ Leaves (card 1) (whole 20) ∷ []

-- a first in, first out server that works at most one bit a unit of time; in the closed window in which both leave the
-- bound holds with equality
pub record PaceIsReached : Type 0 where
  pub lawful : IsLawfulView (paced_server Fifo 1) (whole 20) two_in_a_row
  pub sizes : KeepsSizes all 10 two_in_a_row
  pub reached : departed_in all two_in_a_row (whole 10) (whole 20) ≡ whole 1 *ℚ (whole 20 -ℚ whole 10) +ℚ whole 10
