use Rattle.std.proofs.Common.{subst, sym}
use Rattle.upp_limits.specs.Spans.{Span}
use Rattle.upp_limits.specs.Gathered.{Gathers}
use Rattle.upp_limits.specs.ClosedOperands.{scaled_span}
use Rattle.rational.proofs.Compared.{not_less_out}
use Rattle.upp_limits.proofs.ScaledCurves.{late_joined}
use Rattle.upp_limits.proofs.scaled_numbers.with_scaled_below.Goals as goal

pub returns-then-not-is_less-clause-value : goal.returns-then-not-is_less-clause-value
returns-then-not-is_less-clause-value c = λ n h.
    let s : Span = record { piece = c.args.read.now.0; next = c.args.read.now.1 } in
    let l = not_less_out c.is_less.result c.args.read.now.0.x c.args.end c.is_less.ensures.less c.if-not-is_less.true in
    subst (λ m. Gathers c.args.g m) (sym (late_joined c.args.tail.now c.args.end (scaled_span c.args.factor s) n c.requires.period l)) h
