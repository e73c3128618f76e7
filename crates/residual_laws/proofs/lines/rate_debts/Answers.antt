use Rattle.residual_laws.proofs.lines.RateDebt
use Rattle.residual_laws.proofs.lines.rate_debts.Goals as goal

pub returns : goal.returns
returns c = record { rises = RateDebt.rises; compare = RateDebt.compare; lines = RateDebt.lines }
