use Rattle.std.proofs.Common.{◌≡◌, ◌*◌, length, subst}
use Rattle.upp_limits.specs.Covered.{MostCopies}
use Rattle.upp_limits.proofs.CoveredCounts.{count_few}
use Rattle.upp_limits.proofs.counts.most_below.Goals as goal

pub returns-in-Some-checked_mul : goal.returns-in-Some-checked_mul
returns-in-Some-checked_mul c = count_few c.args.c.now c.args.end c.in-Some.copies c.in-Some-checked_mul.most c.tail.ensures.kept (subst (λ t. MostCopies t c.args.end c.in-Some.copies) c.tail.ensures.tail c.in-Some.ensures)
    (subst (λ ps. c.in-Some-checked_mul.most ≡ length ps * c.in-Some.copies) c.pieces.ensures.pieces c.in-Some-checked_mul.ensures.1)
