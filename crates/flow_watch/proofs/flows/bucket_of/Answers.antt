use Rattle.std.proofs.Common.{sym, subst, true≢false}
use Rattle.rational.specs.Rational.{ℚ, ◌≤ℚ◌}
use Rattle.rational.proofs.Laws.{le_of_not_lt}
use Rattle.flow_watch.proofs.Buckets.{under_piece}
use Rattle.flow_watch.proofs.flows.bucket_of.Goals as goal

pub returns-in-Ok : goal.returns-in-Ok
returns-in-Ok c =
    under_piece c.args.piece.now c.in-Fin.value c.in-Ok.bucket.burst c.in-Ok.bucket.rate c.in-Some.line c.in-Fin.is c.in-Some.is
    (subst (λ (z : ℚ). z ≤ℚ c.in-Some.line.slope) c.zero.ensures (le_of_not_lt (λ h. true≢false (sym (c.if-is_less.ensures.less.1 h))))) c.in-Ok.ensures
