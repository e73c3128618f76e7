-- The numbers that a workload is drawn from: a linear congruential sequence, of which each draw uses the upper bits.
-- Own choice.
use Rattle.std.specs.Prelude.{ℕ, zero, suc, ◌+◌, ◌*◌, ◌/◌, ◌%◌, ◌^◌}

-- from one state to the next
abbrev pub next_state : ℕ → ℕ
next_state x = (x * 6364136223846793005 + 1442695040888963407) % 2 ^ 64

-- the state after so many draws
unfoldable pub state_after : ℕ → ℕ → ℕ
state_after x zero = x
state_after x (suc draws) = next_state (state_after x draws)

-- draw number k, from 0 on: a number below the bound
abbrev pub draw : ℕ → ℕ → ℕ → ℕ
draw x k bound = state_after x (k + 1) / 2 ^ 33 % bound
