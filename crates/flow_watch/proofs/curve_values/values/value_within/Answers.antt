use Rattle.std.proofs.Common.{◌∙◌, sym, refl, true≢false}
use Rattle.flow_watch.proofs.curve_values.KeptValues.{late_end, early_still}
use Rattle.flow_watch.proofs.curve_values.values.value_within.Goals as goal

pub value_kept-requires-clause-early : goal.value_kept-requires-clause-early
value_kept-requires-clause-early c = c.if-is_early.ensures.0 refl

pub value_again-requires-clause-tail : goal.value_again-requires-clause-tail
value_again-requires-clause-tail c = let t = c.in-Periodic in sym c.tail.ensures.tail ∙ t.is

pub value_again-requires-clause-late : goal.value_again-requires-clause-late
value_again-requires-clause-late c =
    let t = c.in-Periodic in
    late_end c.args.c.now.tail t.rank t.period t.rise c.args.t (sym c.tail.ensures.tail ∙ t.is) (λ h. true≢false (sym (c.if-is_early.ensures.1 h)))

pub value_kept-requires-in_default : goal.value_kept-requires-in_default
value_kept-requires-in_default c = record {
  operand = c.requires;
  early = early_still c.args.c.now.tail c.args.t (λ rank period rise e. c.in_default.not-Periodic rank period rise (c.tail.ensures.tail ∙ e));
}
