-- Two packets at a priority server, each of a flow that sends one packet and no more. A packet is not broken off: the
-- one of queue 1 that is there first keeps the one of queue 0 waiting.
use Rattle.std.specs.Prelude.{[], ◌∷◌, codes, Some}
use Rattle.run_laws.specs.declared.steps.Step.TheVariants.{Enter, Work, Leave}
use Rattle.run_laws.specs.Runs.{SpecRun}
use Rattle.run_laws.specs.Cards.{whole}
use Rattle.run_laws.specs.Examples.{ends_at}
use Rattle.run_laws.specs.Servers.{Priority}
use Rattle.net_model.specs.Networks.{Net}
use Rattle.worked_runs.specs.Parts.{late_server, bucket_flow}
use Rattle.worked_runs.specs.Reached.{ReachesItsBound}

abbrev pub two_priorities : Net
two_priorities = record {
  version = 1;
  servers = late_server (codes "s1") 0 (Priority 2) ∷ [];
  flows =
      Some (bucket_flow (codes "f1") (0 ∷ []) (1 ∷ []) 12000 0) ∷
      Some (bucket_flow (codes "f2") (0 ∷ []) (0 ∷ []) 6000 0) ∷ [];
}

-- both enter at 0, and the packet of queue 1, which is listed before the other enters, is begun at once
abbrev pub lower_first : SpecRun
lower_first =
    ends_at 190
    (Enter 0 0 (whole 0) 12000 ∷ Work 0 0 (whole 0) (whole 130) (whole 12000) ∷ Enter 1 1 (whole 0) 6000
    ∷ Leave 0 0 (whole 130) ∷ Work 0 1 (whole 130) (whole 190) (whole 6000) ∷ Leave 0 1 (whole 190) ∷ [])

-- both are there before one is begun
abbrev pub higher_first : SpecRun
higher_first =
    ends_at 190
    (Enter 0 0 (whole 0) 12000 ∷ Enter 1 1 (whole 0) 6000 ∷ Work 0 1 (whole 10) (whole 70) (whole 6000)
    ∷ Leave 0 1 (whole 70) ∷ Work 0 0 (whole 70) (whole 190) (whole 12000) ∷ Leave 0 0 (whole 190) ∷ [])

pub record TwoPrioritiesReachTheirBounds : Type 0 where
  pub lower : ReachesItsBound two_priorities (0 ∷ []) higher_first 0 (whole 190)
  pub higher : ReachesItsBound two_priorities (0 ∷ []) lower_first 1 (whole 190)
