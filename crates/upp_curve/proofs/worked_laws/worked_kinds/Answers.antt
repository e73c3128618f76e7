use Rattle.upp_curve.proofs.Worked.{stair_rows, gate_rows, bucket_rows, rate_latency_rows}
use Rattle.upp_curve.proofs.worked_laws.worked_kinds.Goals as goal

pub returns-clause-stair : goal.returns-clause-stair
returns-clause-stair c = stair_rows

pub returns-clause-gate : goal.returns-clause-gate
returns-clause-gate c = gate_rows

pub returns-clause-bucket : goal.returns-clause-bucket
returns-clause-bucket c = bucket_rows

pub returns-clause-rate_latency : goal.returns-clause-rate_latency
returns-clause-rate_latency c = rate_latency_rows
