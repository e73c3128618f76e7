-- The delay and the backlog of bundles at one service: of the line at its rate that is nowhere below them. (Le Boudec
-- and Thiran, chapter 1: of an arrival curve and a rate-latency service curve.)
use Rattle.std.specs.Prelude.{◌≡◌, ℕ, ◌+◌, ◌*◌, ◌^◌, ◌<◌, nat_lt, cond, List}
use Rattle.std.specs.Prelude.{Option, Some, None, MatchOption}
use Rattle.std.specs.Int.{div_ceil}
use Rattle.arrival_lines.specs.declared.grid.Queue.{Queue}
use Rattle.arrival_lines.specs.declared.grid.Service.{Service}
use Rattle.arrival_lines.specs.declared.queues.Stay.{Stay}
use Rattle.arrival_stairs.specs.StairExcess.{IsStairExcess}
use Rattle.arrival_stairs.specs.declared.stairs.Bundle.{Bundle}

-- ---- at one service
-- the time in which the excess and the debt are worked off at the rate, in picoseconds; and the excess, the debt and a
-- packet, in bits; rounded up
pub record IsStay (bundles : List Bundle) (service : Service) (longest d b : ℕ) : Type 0 where
  pub some : 0 < service.rate
  pub over : ℕ
  pub excess : IsStairExcess bundles service.rate over
  pub delay : d ≡ div_ceil ((over + service.debt) * 10 ^ 12) service.rate
  pub backlog : b ≡ div_ceil (over + (service.debt + longest)) 1024

-- there is none: nothing is served, or each step of the lines is faster
abbrev pub HasNoStay : List Bundle → Service → ℕ → Type 0
HasNoStay bundles service longest = (d b : ℕ) → IsStay bundles service longest d b → ⊥

abbrev pub IsStayAt : List Bundle → Service → ℕ → Option Stay → Type 0
IsStayAt bundles service longest found = MatchOption found (HasNoStay bundles service longest)
    (λ stay. IsStay bundles service longest stay.delay stay.backlog)

-- ---- as a queue
abbrev pub as_stay : Option Queue → Option Stay
as_stay None = None
as_stay (Some queue) = Some record { delay = queue.delay; backlog = queue.backlog }

-- delays of 2 ^ 50 picoseconds or more are not told
abbrev pub as_queue : Option Stay → Option Queue
as_queue None = None
as_queue (Some stay) =
    cond (nat_lt stay.delay (2 ^ 50)) (Some record { delay = stay.delay; backlog = stay.backlog }) None
