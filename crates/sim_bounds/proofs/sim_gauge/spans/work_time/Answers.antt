use Rattle.std.proofs.Common.{◌≡◌, sym, ap, ◌∙◌, subst, arith, to_z}
use mir.Syntax.{w128}
use Rattle.std.specs.Prelude.{pos}
use Rattle.std.proofs.lemmas.Int.{ints}
use Rattle.rational.specs.Rational.{int, ◌≤ℚ◌}
use Rattle.rational.proofs.Laws.{not_zero}
use Rattle.rational.proofs.Integers.{nat_nonneg}
use Rattle.rational.proofs.Quotients.{div_nonneg}
use Rattle.upp_limits.proofs.SpanNumbers.{if_some_map}
use Rattle.sim_bounds.proofs.sim_gauge.spans.work_time.Goals as goal

pub over-requires : goal.over-requires
over-requires c = not_zero c.args.rate c.requires

pub returns-clause-from_zero : goal.returns-clause-from_zero
returns-clause-from_zero c =
    let own : to_z w128 c.args.bits ≡ pos c.args.bits = omega (arith, ints) in
    let some : int (pos 0) ≤ℚ c.from_whole.result = subst (λ x. int (pos 0) ≤ℚ x) (sym (c.from_whole.ensures ∙ ap int own)) (nat_nonneg c.args.bits) in
    if_some_map c.over.result _ _ (λ t e. subst (λ x. int (pos 0) ≤ℚ x) (sym e) (div_nonneg c.from_whole.result c.args.rate c.requires some)) c.over.ensures.value
