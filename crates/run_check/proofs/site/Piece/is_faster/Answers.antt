use Rattle.std.proofs.Common.{sym, subst}
use Rattle.std.specs.Prelude.{IsTrue, ◌↔◌}
use Rattle.rational.specs.Rational.{◌/ℚ◌}
use Rattle.rational.specs.Ratio.{IsSmall}
use Rattle.run_check.specs.Sites.{IsFast}
use Rattle.run_check.proofs.RowSteps.{faster, time_some}
use Rattle.run_check.proofs.site.Piece.is_faster.Goals as goal

pub difference-time-requires : goal.difference-time-requires
difference-time-requires c = (c.requires.fits c.requires.forward).0

pub quotient-requires-clause-some : goal.quotient-requires-clause-some
quotient-requires-clause-some c = time_some c.args.self.now c.difference-time.result c.requires.forward c.difference-time.ensures

pub quotient-requires-clause-fits : goal.quotient-requires-clause-fits
quotient-requires-clause-fits c =
    subst (λ t. IsSmall (c.args.self.now.bits /ℚ t)) (sym c.difference-time.ensures) (c.requires.fits c.requires.forward).1

pub returns-in-Some : goal.returns-in-Some
returns-in-Some c =
    subst (λ p. IsTrue c.is_less.result ↔ IsFast p c.args.self.now) (sym c.in-Some.is)
    (faster c.in-Some.most c.args.self.now c.difference-time.result c.quotient.result c.is_less.result c.requires.forward
    c.difference-time.ensures c.quotient.ensures c.is_less.ensures.less)
