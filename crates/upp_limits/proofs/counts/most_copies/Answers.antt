use Rattle.std.proofs.Common.{subst, sym}
use Rattle.upp_limits.specs.Covered.{MostCopies}
use Rattle.upp_limits.proofs.SpanNumbers.{if_some_map}
use Rattle.upp_limits.proofs.counts.most_copies.Goals as goal

pub returns-in-Periodic : goal.returns-in-Periodic
returns-in-Periodic c =
    if_some_map c.copies_after.result _ _ (λ m f. subst (λ t. MostCopies t c.args.end m) (sym c.in-Periodic.is) (f c.in-Periodic.rise)) c.copies_after.ensures
