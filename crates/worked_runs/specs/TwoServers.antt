-- One packet through two servers with links of 5: it is worked on from 10 to 130, reaches the second server at 135, is
-- worked on there from 145 to 265, and is through that link at 270.
use Rattle.std.specs.Prelude.{[], ◌∷◌, codes, Some}
use Rattle.rational.specs.Rational.{◌+ℚ◌}
use Rattle.run_laws.specs.declared.steps.Step.TheVariants.{Enter, Reach, Work, Leave}
use Rattle.run_laws.specs.Runs.{SpecRun}
use Rattle.run_laws.specs.Cards.{whole}
use Rattle.run_laws.specs.Examples.{ends_at}
use Rattle.run_laws.specs.Servers.{Fifo}
use Rattle.net_model.specs.Networks.{Net}
use Rattle.worked_runs.specs.Parts.{late_server, bucket_flow}
use Rattle.worked_runs.specs.Reached.{ReachesItsBound}

abbrev pub two_servers : Net
two_servers = record {
  version = 1;
  servers = late_server (codes "s1") 5 Fifo ∷ late_server (codes "s2") 5 Fifo ∷ [];
  flows = Some (bucket_flow (codes "f1") (0 ∷ 1 ∷ []) (0 ∷ 0 ∷ []) 12000 10) ∷ [];
}

abbrev pub over_both : SpecRun
over_both =
    ends_at 265
    (Enter 0 0 (whole 0) 12000 ∷ Work 0 0 (whole 10) (whole 130) (whole 12000) ∷ Leave 0 0 (whole 130)
    ∷ Reach 1 0 (whole 130 +ℚ whole 5) ∷ Work 1 0 (whole 145) (whole 265) (whole 12000) ∷ Leave 1 0 (whole 265) ∷ [])

abbrev pub TwoServersReachTheirBound : Type 0
TwoServersReachTheirBound = ReachesItsBound two_servers (0 ∷ 1 ∷ []) over_both 0 (whole 270)
