-- The greatest backlog of each queue of a run.
use Rattle.std.specs.Prelude.{◌≡◌, ◌⊎◌, ℕ, ◌<◌, List, [], length, map, slice_index_or}
use Rattle.std.specs.declared.vec.Vec.{Vec}
use Rattle.rational.specs.Rational.{ℚ, ◌≤ℚ◌}
use Rattle.run_laws.specs.Cards.{of_queue, whole}
use Rattle.run_laws.specs.Delays.{backlog}
use Rattle.run_laws.specs.Routes.{Routes, server_at}
use Rattle.run_laws.specs.Runs.{SpecRun}
use Rattle.run_laws.specs.Servers.{queue_count}
use Rattle.run_laws.specs.Views.{view}

-- how many bits are in queue q of server s at a time
abbrev pub backlog_at : Routes → SpecRun → ℕ → ℕ → ℚ → ℚ
backlog_at net run s q t = backlog (of_queue q) (view net run s) t

-- so many are there at some time up to the run's end
pub record IsReached (net : Routes) (run : SpecRun) (s q bits : ℕ) : Type 0 where
  pub time : ℚ
  pub in_run : time ≤ℚ run.end
  pub there : backlog_at net run s q time ≡ whole bits

-- the largest of 0 and of what is there at all times up to the run's end
pub record IsPeak (net : Routes) (run : SpecRun) (s q bits : ℕ) : Type 0 where
  pub above : (t : ℚ) → t ≤ℚ run.end → backlog_at net run s q t ≤ℚ whole bits
  pub reached : (bits ≡ 0) ⊎ IsReached net run s q bits

-- a table as lists
abbrev pub rows_of : {X Z : Type 0} → List (Vec X Z) → List (List X)
rows_of = map (λ v. v.items)

-- the number of queue q of server s in a table with a row for each server
abbrev pub peak_in : List (List ℕ) → ℕ → ℕ → ℕ
peak_in rows s q = slice_index_or (slice_index_or rows s []) q 0

-- for each queue of each server its peak
pub record ArePeaks (net : Routes) (run : SpecRun) (peaks : List (List ℕ)) : Type 0 where
  pub as_many : length peaks ≡ length net.servers
  pub row : (s : ℕ) → s < length net.servers →
      length (slice_index_or peaks s []) ≡ queue_count (server_at net s).discipline
  pub each : (s q : ℕ) → s < length net.servers → q < queue_count (server_at net s).discipline →
      IsPeak net run s q (peak_in peaks s q)
