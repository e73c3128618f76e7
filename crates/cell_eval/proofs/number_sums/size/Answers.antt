use Rattle.std.proofs.Common.{sym, ◌∙◌, subst}
use Rattle.rational.specs.Rational.{◌≤ℚ◌, ◌<ℚ◌}
use Rattle.rational.proofs.Compared.{is_greater, not_greater}
use Rattle.cell_eval.proofs.Totals.{size_below, size_from}
use Rattle.cell_eval.proofs.number_sums.size.Goals as goal

pub returns-in-Greater : goal.returns-in-Greater
returns-in-Greater c =
    c.negated.ensures
    ∙ sym (size_below c.args.x (subst (λ z. c.args.x <ℚ z) c.zero-none.ensures (is_greater c.cmp.result c.cmp.ensures.ranks c.in-Greater.is)))

pub returns-in_default : goal.returns-in_default
returns-in_default c =
    sym (size_from c.args.x (subst (λ z. z ≤ℚ c.args.x) c.zero-none.ensures (not_greater c.cmp.result c.cmp.ensures.ranks c.in_default.not-Greater)))
