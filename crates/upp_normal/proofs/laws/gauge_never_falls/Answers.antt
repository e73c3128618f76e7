use Rattle.upp_normal.proofs.GaugeRises.{gauge_rises}
use Rattle.upp_normal.proofs.laws.gauge_never_falls.Goals as goal
use Rattle.upp_limits.proofs.Operands.{curve_period}

pub returns : goal.returns
returns c = λ op f g end far is_f is_g l on. gauge_rises op f g end far (curve_period f is_f) (curve_period g is_g) l on
