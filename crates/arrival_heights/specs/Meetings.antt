-- How far steps are above a rate at most where neighbours meet between two times. Own choice.
use Rattle.std.specs.Prelude.{◌≡◌, ℕ, suc, ◌+◌, ◌*◌, ◌^◌, ◌<◌, ◌≤◌, max, List, length, get_or}
use Rattle.rational.specs.Rational.{ℚ, ◌+ℚ◌, ◌*ℚ◌, ◌≤ℚ◌, ◌<ℚ◌}
use Rattle.rational.specs.Line.{line_at}
use Rattle.arrival_lines.specs.Grid.{grain, bits, speed, micros, line_value}
use Rattle.arrival_lines.specs.Steps.{AreSlowing}
use Rattle.arrival_lines.specs.declared.grid.Line.{Line}
use Rattle.arrival_heights.specs.Greatest.{IsBelow}
use Rattle.arrival_heights.specs.Heights.{AreMoments, most_ahead}
use Rattle.arrival_heights.specs.declared.heights.Height.{Height}

-- ---- two neighbours
-- they meet after over / under seconds
pub record MeetAfter (step next : Line) (over under : ℕ) : Type 0 where
  pub some : 0 < under
  pub rise : next.burst ≡ step.burst + over
  pub fall : step.rate ≡ next.rate + under

-- between two times in picoseconds
pub record IsWithin (over under begin end : ℕ) : Type 0 where
  pub late : begin * under < over * 10 ^ 12
  pub early : over * 10 ^ 12 < end * under

-- at a time between at which they meet, less than a grain below so many grains above the rate
pub record IsNearMeeting (step next : Line) (rate x begin end : ℕ) : Type 0 where
  pub at : ℚ
  pub begins : micros begin ≤ℚ at
  pub ends : at ≤ℚ micros end
  pub meet : line_value step at ≡ line_value next at
  pub near : line_at (bits x) (speed rate) at <ℚ line_value step at +ℚ grain

-- where they meet between the two times, they are at most so far above the rate
pub record IsBoundAtMeeting (step next : Line) (rate begin end x : ℕ) : Type 0 where
  pub over : (o u : ℕ) (t : ℚ) → MeetAfter step next o u → IsWithin o u begin end → speed u *ℚ t ≡ bits o → IsBelow (line_value step) rate x t
  pub near : 0 < x → IsNearMeeting step next rate x begin end

-- ---- all steps
pub record AreSmallSteps (steps : List Line) : Type 0 where
  pub slowing : AreSlowing steps
  pub rising : (k : ℕ) (d : Line) → suc k < length steps → (get_or steps k d).burst ≤ (get_or steps (suc k) d).burst
  pub bursts : (k : ℕ) (d : Line) → k < length steps → (get_or steps k d).burst < 2 ^ 62
  pub rates : (k : ℕ) (d : Line) → k < length steps → (get_or steps k d).rate < 2 ^ 62

pub record IsNearOne (steps : List Line) (rate x begin end : ℕ) : Type 0 where
  pub step : ℕ
  pub inside : suc step < length steps
  pub near : (d : Line) → IsNearMeeting (get_or steps step d) (get_or steps (suc step) d) rate x begin end

-- those that are added are at most so far above the rate as the first i steps where neighbours meet
pub record AddsMost (steps : List Line) (rate begin end i : ℕ) (old new : List Height) : Type 0 where
  pub most : ℕ
  pub over : (k o u : ℕ) (d : Line) (t : ℚ) → suc k < i → MeetAfter (get_or steps k d) (get_or steps (suc k) d) o u → IsWithin o u begin end → speed u *ℚ t ≡ bits o
      → IsBelow (line_value (get_or steps k d)) rate most t
  pub near : 0 < most → IsNearOne steps rate most begin end
  pub is : most_ahead rate new ≡ max (most_ahead rate old) most

pub record AddsMeetings (steps : List Line) (begin end i : ℕ) (old new : List Height) : Type 0 where
  pub moments : AreMoments old → AreMoments new
  pub greatest : (rate : ℕ) → AddsMost steps rate begin end i old new
