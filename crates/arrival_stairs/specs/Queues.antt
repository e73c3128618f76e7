-- A queue that gets several services: its delay and its backlog are the least of those by the stairs at each of them and
-- of the lines' queue.
use Rattle.std.specs.Prelude.{◌≡◌, ◌⊎◌, ℕ, ◌^◌, ◌<◌, ◌≤◌, List, length, get_or, Option, Some, None, MatchOption}
use Rattle.arrival_lines.specs.Queues as of_lines
use Rattle.arrival_lines.specs.declared.grid.Queue.{Queue}
use Rattle.arrival_lines.specs.declared.grid.Service.{Service}
use Rattle.arrival_lines.specs.declared.queues.Stay.{Stay}
use Rattle.arrival_stairs.specs.BelowLines.{line_parts}
use Rattle.arrival_stairs.specs.Stairs.{AreBundles}
use Rattle.arrival_stairs.specs.declared.stairs.Bundle.{Bundle}
use Rattle.arrival_stairs.specs.Promises.{IsKeptDelay, IsKeptBacklog}
use Rattle.arrival_stairs.specs.Stays.{IsStay, HasNoStay}

-- ---- one of them
-- by the stairs at one of the first i services
pub record IsStayOf (bundles : List Bundle) (services : List Service) (longest i d b : ℕ) : Type 0 where
  pub place : ℕ
  pub inside : place < i
  pub is : (e : Service) → IsStay bundles (get_or services place e) longest d b

-- or by the lines
pub record IsDelayOf (d : ℕ) (lines : Option Queue) : Type 0 where
  pub queue : Queue
  pub is : lines ≡ Some queue
  pub delay : d ≡ queue.delay

pub record IsBacklogOf (b : ℕ) (lines : Option Queue) : Type 0 where
  pub queue : Queue
  pub is : lines ≡ Some queue
  pub backlog : b ≡ queue.backlog

abbrev pub IsSomeDelay : List Bundle → List Service → (longest i : ℕ) → Option Queue → ℕ → Type 0
IsSomeDelay bundles services longest i lines d =
    IsDelayOf d lines ⊎ ((b : ℕ) × IsStayOf bundles services longest i d b)

abbrev pub IsSomeBacklog : List Bundle → List Service → (longest i : ℕ) → Option Queue → ℕ → Type 0
IsSomeBacklog bundles services longest i lines b =
    IsBacklogOf b lines ⊎ ((d : ℕ) × IsStayOf bundles services longest i d b)

-- ---- none is less
abbrev pub IsAtMost : (d b : ℕ) → Option Queue → Type 0
IsAtMost d b None = Unit {0}
IsAtMost d b (Some queue) = (d ≤ queue.delay) × (b ≤ queue.backlog)

pub record AreNoLess (bundles : List Bundle) (services : List Service) (longest i : ℕ) (by_lines : Option Queue)
    (d b : ℕ) : Type 0 where
  pub lines : IsAtMost d b by_lines
  pub stairs : (k : ℕ) (e : Service) (other low : ℕ) → k < i → IsStay bundles (get_or services k e) longest other low
      → (d ≤ other) × (b ≤ low)

pub record IsStairQueue (bundles : List Bundle) (services : List Service) (longest : ℕ) (lines : Option Queue)
    (queue : Queue) : Type 0 where
  pub short : queue.delay < 2 ^ 50
  pub delay : IsSomeDelay bundles services longest (length services) lines queue.delay
  pub backlog : IsSomeBacklog bundles services longest (length services) lines queue.backlog
  pub least : AreNoLess bundles services longest (length services) lines queue.delay queue.backlog

-- ---- there is none
abbrev pub IsNone : Option Queue → Type 0
IsNone None = Unit {0}
IsNone (Some queue) = ⊥

-- the lines have no queue, and by the stairs each delay is of 2 ^ 50 picoseconds or more
pub record AreLong (bundles : List Bundle) (services : List Service) (longest : ℕ) (by_lines : Option Queue) : Type 0 where
  pub lines : IsNone by_lines
  pub stairs : (k : ℕ) (e : Service) (d b : ℕ) → k < length services → IsStay bundles (get_or services k e) longest d b
      → 2 ^ 50 ≤ d

-- ---- by both
pub record IsLeastOfBoth (bundles : List Bundle) (services : List Service) (longest : ℕ) (found : Option Queue)
    : Type 0 where
  pub lines : Option Queue
  pub by_lines : MatchOption lines (of_lines.IsUnbounded (line_parts bundles) services)
      (λ queue. of_lines.IsLeastQueue (line_parts bundles) services longest queue)
  pub least : MatchOption found (AreLong bundles services longest lines)
      (λ queue. IsStairQueue bundles services longest lines queue)

-- ---- a law
-- whatever is nowhere above the bundles is served so soon, and holds no more
pub record IsKept (bundles : List Bundle) (services : List Service) (longest : ℕ) (queue : Queue) : Type 0 where
  pub delay : IsKeptDelay bundles services queue.delay
  pub backlog : IsKeptBacklog bundles services longest queue.backlog

abbrev pub LeastOfBothIsKept : Type 0
LeastOfBothIsKept = (bundles : List Bundle) (services : List Service) (longest : ℕ) (queue : Queue) → AreBundles bundles
    → IsLeastOfBoth bundles services longest (Some queue) → IsKept bundles services longest queue

-- ---- of the lines and the first i services
pub record IsNothing (bundles : List Bundle) (services : List Service) (longest i : ℕ) (by_lines : Option Queue)
    : Type 0 where
  pub lines : IsNone by_lines
  pub none : (k : ℕ) (e : Service) → k < i → HasNoStay bundles (get_or services k e) longest

pub record IsSoFar (bundles : List Bundle) (services : List Service) (longest i : ℕ) (lines : Option Queue)
    (d b : ℕ) : Type 0 where
  pub delay : IsSomeDelay bundles services longest i lines d
  pub backlog : IsSomeBacklog bundles services longest i lines b
  pub least : AreNoLess bundles services longest i lines d b

abbrev pub IsLeastSoFar : List Bundle → List Service → (longest i : ℕ) → Option Queue → Option Stay → Type 0
IsLeastSoFar bundles services longest i lines found = MatchOption found (IsNothing bundles services longest i lines)
    (λ stay. IsSoFar bundles services longest i lines stay.delay stay.backlog)
