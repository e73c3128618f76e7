use Rattle.std.specs.Prelude.{ℤ, ◌+ℤ◌, ◌<◌, ◌^◌, unsigned_abs}
use Rattle.std.proofs.Common.{◌∙◌, sym, ap, subst}
use Rattle.rational.specs.Rational.{int}
use Rattle.fraction128.proofs.WholeNumbers.{is_whole, whole_sum, whole_sum_small, both_fit, both_kept}
use Rattle.fraction128.proofs.fitting.sum.Goals as goal

pub overflow_add-left : goal.overflow_add-left
overflow_add-left c =
    let a = is_whole {x = c.args.a} c.numerator-left.ensures.value c.numerator-left.ensures.size c.denominator-d.ensures.value c.if-d-eq1.true in
    let b = is_whole {x = c.args.b} c.numerator-right.ensures.value c.numerator-right.ensures.size c.denominator-e.ensures.value c.if-e-eq1.true in
    both_fit (λ (i j : ℤ). i +ℤ j) a b (whole_sum_small a b c.requires)

pub from_whole-requires : goal.from_whole-requires
from_whole-requires c =
    let a = is_whole {x = c.args.a} c.numerator-left.ensures.value c.numerator-left.ensures.size c.denominator-d.ensures.value c.if-d-eq1.true in
    let b = is_whole {x = c.args.b} c.numerator-right.ensures.value c.numerator-right.ensures.size c.denominator-e.ensures.value c.if-e-eq1.true in
    let small = whole_sum_small a b c.requires in
    subst (λ (z : ℤ). unsigned_abs z < 2 ^ 127) (sym (both_kept (λ (i j : ℤ). i +ℤ j) a b small)) small

pub returns-then-e-eq1 : goal.returns-then-e-eq1
returns-then-e-eq1 c =
    let a = is_whole {x = c.args.a} c.numerator-left.ensures.value c.numerator-left.ensures.size c.denominator-d.ensures.value c.if-d-eq1.true in
    let b = is_whole {x = c.args.b} c.numerator-right.ensures.value c.numerator-right.ensures.size c.denominator-e.ensures.value c.if-e-eq1.true in
    let is = both_kept (λ (i j : ℤ). i +ℤ j) a b (whole_sum_small a b c.requires) in
    c.from_whole.ensures ∙ (ap int is ∙ whole_sum a b)
