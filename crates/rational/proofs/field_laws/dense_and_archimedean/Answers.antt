-- A third number between two, and naturals past every number.
use Rattle.rational.proofs.Laws.{between, above}
use Rattle.rational.proofs.Quotients.{times_above}
use Rattle.rational.proofs.field_laws.dense_and_archimedean.Goals as goal

pub returns-clause-dense : goal.returns-clause-dense
returns-clause-dense c = between

pub returns-clause-archimedean : goal.returns-clause-archimedean
returns-clause-archimedean c = record { above = above; passed = times_above }
