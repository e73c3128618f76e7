-- Which steps are no faster than a rate. Own choice.
use Rattle.std.specs.Prelude.{◌≡◌, ℕ, ◌<◌, ◌≤◌, List, length, get_or}
use Rattle.arrival_lines.specs.declared.grid.Line.{Line}

-- the burst of one of the steps that is no faster
pub record IsSlowBurst (steps : List Line) (rate most : ℕ) : Type 0 where
  pub step : ℕ
  pub inside : step < length steps
  pub slow : (d : Line) → (get_or steps step d).rate ≤ rate
  pub is : (d : Line) → most ≡ (get_or steps step d).burst

pub record AreFaster (steps : List Line) (rate : ℕ) : Type 0 where
  pub each : (k : ℕ) (d : Line) → k < length steps → rate < (get_or steps k d).rate
