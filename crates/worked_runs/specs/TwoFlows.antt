-- Two packets in one first in, first out queue: both enter at 0, and the second leaves when both are worked off.
use Rattle.std.specs.Prelude.{[], ◌∷◌, codes, Some}
use Rattle.run_laws.specs.declared.steps.Step.TheVariants.{Enter, Work, Leave}
use Rattle.run_laws.specs.Runs.{SpecRun}
use Rattle.run_laws.specs.Cards.{whole}
use Rattle.run_laws.specs.Examples.{ends_at}
use Rattle.run_laws.specs.Servers.{Fifo}
use Rattle.net_model.specs.Networks.{Net}
use Rattle.worked_runs.specs.Parts.{late_server, first_flow, second_flow}
use Rattle.worked_runs.specs.Reached.{ReachesItsBound}

abbrev pub two_flows : Net
two_flows = record {
  version = 1;
  servers = late_server (codes "s1") 0 Fifo ∷ [];
  flows = Some first_flow ∷ Some second_flow ∷ [];
}

-- the first flow's packet last: the other's of 6000 bits is worked on from 10 to 70, and its own from 70 to 190
abbrev pub first_flow_last : SpecRun
first_flow_last =
    ends_at 190
    (Enter 1 0 (whole 0) 6000 ∷ Enter 0 1 (whole 0) 12000 ∷ Work 0 0 (whole 10) (whole 70) (whole 6000)
    ∷ Leave 0 0 (whole 70) ∷ Work 0 1 (whole 70) (whole 190) (whole 12000) ∷ Leave 0 1 (whole 190) ∷ [])

-- and the other way round
abbrev pub second_flow_last : SpecRun
second_flow_last =
    ends_at 190
    (Enter 0 0 (whole 0) 12000 ∷ Enter 1 1 (whole 0) 6000 ∷ Work 0 0 (whole 10) (whole 130) (whole 12000)
    ∷ Leave 0 0 (whole 130) ∷ Work 0 1 (whole 130) (whole 190) (whole 6000) ∷ Leave 0 1 (whole 190) ∷ [])

pub record TwoFlowsReachTheirBounds : Type 0 where
  pub first : ReachesItsBound two_flows (0 ∷ []) first_flow_last 0 (whole 190)
  pub second : ReachesItsBound two_flows (0 ∷ []) second_flow_last 1 (whole 190)
