use Rattle.std.proofs.Common.{sym, subst, ◌∙◌}
use Rattle.std.specs.Prelude.{◌↔◌, IsTrue}
use Rattle.rational.specs.Rational.{ℚ, ◌<ℚ◌}
use Rattle.upp_curve.specs.declared.curve.Tail.{Tail}
use Rattle.flow_watch.specs.curve_values.Early.{IsEarly}
use Rattle.flow_watch.proofs.curve_values.KeptValues.{end_fits, early_always}
use Rattle.flow_watch.proofs.curve_values.values.is_early.Goals as goal

pub sum-requires : goal.sum-requires
sum-requires c =
    let t = c.in-Periodic in
    end_fits c.args.c.now t.rank t.period t.rise c.tail.ensures.kept (sym c.tail.ensures.tail ∙ t.is)

pub returns-in-Periodic : goal.returns-in-Periodic
returns-in-Periodic c =
    let t = c.in-Periodic in
    subst (λ (k : Tail). IsTrue c.is_less.result ↔ IsEarly k c.args.t) (sym (sym c.tail.ensures.tail ∙ t.is))
    (subst (λ (x : ℚ). IsTrue c.is_less.result ↔ (c.args.t <ℚ x)) c.sum.ensures c.is_less.ensures.less)

pub returns-in_default : goal.returns-in_default
returns-in_default c = early_always c.args.c.now.tail c.args.t (λ rank period rise e. c.in_default.not-Periodic rank period rise (c.tail.ensures.tail ∙ e))
