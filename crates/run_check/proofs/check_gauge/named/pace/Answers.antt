use Rattle.std.proofs.Common.{sym, subst, arith}
use Rattle.std.specs.Prelude.{pos}
use Rattle.rational.specs.Rational.{int, ◌-ℚ◌, ◌<ℚ◌}
use Rattle.rational.proofs.Laws.{not_zero}
use Rattle.rational.proofs.Linear.{with2}
use Rattle.run_check.proofs.check_gauge.named.pace.Goals as goal

pub over-requires : goal.over-requires
over-requires c =
    let a = c.args.start in
    let b = c.args.end in
    let later = c.requires in
    let some : int (pos 0) <ℚ b -ℚ a = with2 a b (λ k. omega (arith, k.le, k.lt, k.same, later)) in
    not_zero c.in-Some.time (subst (λ t. int (pos 0) <ℚ t) (sym c.in-Some.ensures.value) some)
