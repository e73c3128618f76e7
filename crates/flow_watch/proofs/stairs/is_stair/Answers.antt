use Rattle.std.proofs.Common.{refl, sym, subst, true≢false}
use Rattle.rational.specs.Rational.{ℚ, ◌<ℚ◌}
use Rattle.rational.proofs.Laws.{le_of_not_lt}
use Rattle.flow_watch.proofs.stairs.is_stair.Goals as goal

pub returns : goal.returns
returns c = λ yes.
    let s = c.args.stair.now in
    record {
      high = subst (λ (x : ℚ). x <ℚ s.height) c.zero.ensures (c.if-not-is_less.ensures.less.0 refl);
      rises = subst (λ (x : ℚ). x <ℚ s.rate) c.zero-2.ensures (c.if-not-is_less-2.ensures.less.0 refl);
      some = le_of_not_lt (λ h. true≢false (sym (c.if-is_less.ensures.less.1 (subst (λ (x : ℚ). s.slack <ℚ x) (sym c.zero-3.ensures) h))));
      steps = c.are_steps.ensures yes;
    }
