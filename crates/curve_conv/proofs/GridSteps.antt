-- How many steps of a grid are left up to a time: a number that falls with each step.
use Rattle.std.specs.Prelude.{ℕ, suc, ◌<◌, pos, Bool, true, false}
use Rattle.std.proofs.Common.{arith}
use Rattle.rational.specs.Rational.{ℚ, ◌-ℚ◌, ◌*ℚ◌, ◌≤ℚ◌, ◌<ℚ◌, int}
use Rattle.rational.specs.Grid.{Whole}
use Rattle.rational.specs.Whole.{whole_part}
use Rattle.curve_call.proofs.GapWalk.{fewer_on_grid}

-- the steps of 1 / d from t to `end`
pub steps_to : ℕ → ℚ → ℚ → ℕ
steps_to d end t = whole_part ((end -ℚ t) *ℚ int (pos d))

pub fewer_steps : (d : ℕ) (end t next : ℚ) → 0 < d → Whole d t → Whole d next → t <ℚ next → next ≤ℚ end → steps_to d end next < steps_to d end t
unfolding steps_to
fewer_steps d end t next some w v h k = fewer_on_grid d end t next some w v h k

-- none where nothing is left to do
pub steps_while : Bool → ℕ → ℚ → ℚ → ℕ
steps_while false d end t = 0
steps_while true d end t = suc (steps_to d end t)

pub while_done : (d : ℕ) (end t next : ℚ) → steps_while false d end next < steps_while true d end t
unfolding steps_while
while_done d end t next = omega arith

pub while_fewer : (d : ℕ) (end t next : ℚ) → 0 < d → Whole d t → Whole d next → t <ℚ next → next ≤ℚ end → steps_while true d end next < steps_while true d end t
unfolding steps_while
while_fewer d end t next some w v h k = let l = fewer_steps d end t next some w v h k in omega (arith, l)
