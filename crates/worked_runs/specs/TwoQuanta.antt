-- Two packets at a deficit round robin server. They stay well below their bounds: the law counts whole rounds of the other
-- queue, and a deficit of one packet.
use Rattle.std.specs.Prelude.{[], ◌∷◌, codes, Some}
use Rattle.run_laws.specs.declared.steps.Step.TheVariants.{Enter, Work, Leave, Visit}
use Rattle.run_laws.specs.Runs.{SpecRun}
use Rattle.run_laws.specs.Cards.{whole}
use Rattle.run_laws.specs.Examples.{ends_at}
use Rattle.run_laws.specs.Servers.{Drr}
use Rattle.net_model.specs.Networks.{Net}
use Rattle.worked_runs.specs.Parts.{late_server, first_flow, bucket_flow}
use Rattle.worked_runs.specs.Reached.{HasBound, HasDelay}

-- one quantum is one packet, in either queue
abbrev pub two_quanta : Net
two_quanta = record {
  version = 1;
  servers = late_server (codes "s1") 0 (Drr (12000 ∷ 6000 ∷ [])) ∷ [];
  flows =
      Some first_flow ∷
      Some (bucket_flow (codes "f2") (0 ∷ []) (1 ∷ []) 6000 5) ∷ [];
}

-- both packets enter at 0; queue 1 waits first, and is visited first
abbrev pub first_flow_last : SpecRun
first_flow_last =
    ends_at 190
    (Enter 1 0 (whole 0) 6000 ∷ Enter 0 1 (whole 0) 12000 ∷ Visit 0 1 (whole 0)
    ∷ Work 0 0 (whole 10) (whole 70) (whole 6000) ∷ Leave 0 0 (whole 70) ∷ Visit 0 0 (whole 70)
    ∷ Work 0 1 (whole 70) (whole 190) (whole 12000) ∷ Leave 0 1 (whole 190) ∷ [])

-- and the other way round
abbrev pub second_flow_last : SpecRun
second_flow_last =
    ends_at 190
    (Enter 0 0 (whole 0) 12000 ∷ Enter 1 1 (whole 0) 6000 ∷ Visit 0 0 (whole 0)
    ∷ Work 0 0 (whole 10) (whole 130) (whole 12000) ∷ Leave 0 0 (whole 130) ∷ Visit 0 1 (whole 130)
    ∷ Work 0 1 (whole 130) (whole 190) (whole 6000) ∷ Leave 0 1 (whole 190) ∷ [])

pub record TwoQuantaStayBelowTheirBounds : Type 0 where
  pub first_bound : HasBound two_quanta (0 ∷ []) 0 (whole 370)
  pub second_bound : HasBound two_quanta (0 ∷ []) 1 (whole 550)
  pub first_delay : HasDelay two_quanta first_flow_last 0 (whole 190)
  pub second_delay : HasDelay two_quanta second_flow_last 1 (whole 190)
