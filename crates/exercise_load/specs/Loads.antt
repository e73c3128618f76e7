-- What a call that makes a workload returns.
use Rattle.std.specs.Prelude.{◌≡◌, ℕ}
use Rattle.net_model.specs.Networks.{Net}
use Rattle.net_model.specs.Traces.{SpecTrace}
use Rattle.exercise_load.specs.Workloads.{network_of, trace_of}

-- the network and the trace of the workload of a number
pub record AreOfWorkload (seed : ℕ) (n : Net) (t : SpecTrace) : Type 0 where
  pub net : n ≡ network_of seed
  pub trace : t ≡ trace_of seed
