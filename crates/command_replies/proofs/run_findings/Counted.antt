-- The steps of an answer by the cells of a network.
use Rattle.std.proofs.Common.{◌≢◌, ℕ, inl, inr, refl, arith}
use Rattle.net_model.specs.Networks.{Net}
use Rattle.command_replies.specs.run_findings.CellCounts.{CountsOnCells}
use Rattle.command_replies.specs.run_findings.Statuses.{IsOfReport}

-- a refusal is no report
pub no_report : (status : ℕ) → status ≢ 0 → status ≢ 9 → ¬ IsOfReport status
no_report status zero nine (inl is) = zero is
no_report status zero nine (inr is) = nine is

-- no steps, and no report
pub none_on_cells : (net : Net) (status count : ℕ) → ¬ IsOfReport status → CountsOnCells net status count count
none_on_cells net status count other = record {
  rises = omega arith;
  most = λ order o. omega arith;
  report = λ is order o. absurd (other is);
  round = λ walk c. refl;
}
