use Rattle.std.specs.Prelude.{pos}
use Rattle.std.proofs.Common.{arith, refl, sym, subst, ◌∙◌, ◌<◌, ◌^◌}
use Rattle.rational.specs.Rational.{◌≤ℚ◌, ◌<ℚ◌, int}
use Rattle.rational.specs.Grid.{Whole}
use Rattle.rational.proofs.Grid.{whole_int}
use Rattle.rational.proofs.Integers.{nat_nonneg, nat_lt}
use Rattle.rational.proofs.Laws.{le_lt_trans, le_of_lt}
use Rattle.upp_limits.specs.declared.op_kind.OpKind.TheVariants.{Itself}
use Rattle.upp_limits.specs.Gauges.{gauge_over}
use Rattle.upp_normal.specs.Ahead.{IsOverBy}
use Rattle.upp_normal.proofs.GaugeRises.{first_operand}
use Rattle.curve_tests.proofs.inner_calls.stretch.Goals as goal

pub stretch_at-requires : goal.stretch_at-requires
stretch_at-requires c =
    let f = c.args.c.now in
    let t = c.from_whole-t.result in
    let end = c.from_whole-end.result in
    let small : gauge_over Itself f f end < 2 ^ 120 = subst (λ n. n < 2 ^ 120) (c.in-Some.ensures.exact end (λ k. k) refl) c.if-size.false in
    let early : int (pos 3) <ℚ end = subst (λ y. int (pos 3) <ℚ y) (sym c.from_whole-end.ensures) (nat_lt 3 8 (omega arith)) in
    let before : t <ℚ end = subst (λ x. x <ℚ end) (sym c.from_whole-t.ensures) early in
    let low : int (pos 0) ≤ℚ t = subst (λ x. int (pos 0) ≤ℚ x) (sym c.from_whole-t.ensures) (nat_nonneg 3) in
    let over = le_of_lt (subst (λ x. x <ℚ end) c.in-Ok.ensures.value (c.is_less.ensures.less.0 c.if-not-is_less.false)) in
    let o = first_operand Itself f f end (le_of_lt (le_lt_trans low before)) small in (
      o.sizes,
      end,
      record {
        curve = c.keeps.ensures;
        limited = o.limited;
        stands = o.stands;
        over = subst (IsOverBy end) (sym (sym c.tail.ensures.tail ∙ c.in-Periodic.is)) over;
      },
      record { whole = subst (Whole o.sizes.dt) (sym c.from_whole-t.ensures) (whole_int o.sizes.dt (pos 3)); nonneg = low; before = before },
    )
