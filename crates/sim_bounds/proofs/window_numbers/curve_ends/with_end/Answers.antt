use Rattle.std.proofs.Common.{subst}
use Rattle.rational.proofs.Compared.{not_less_out}
use Rattle.upp_limits.specs.Spans.{Span}
use Rattle.sim_bounds.specs.window_numbers.CurveEnds.{KnowsEnd}
use Rattle.sim_bounds.proofs.window_numbers.curve_ends.with_end.Goals as goal

pub returns-else-is_less-clause-fits : goal.returns-else-is_less-clause-fits
returns-else-is_less-clause-fits c = λ k.
    let s : Span = record { piece = c.args.piece.now; next = c.args.next.now } in
    let known = subst (λ t. KnowsEnd t c.args.end s) c.in-Periodic.is k in
    c.with_copy.ensures.fits (known.1 (not_less_out c.is_less.result c.args.piece.now.x c.in-Periodic.rank c.is_less.ensures.less c.if-is_less.false))
