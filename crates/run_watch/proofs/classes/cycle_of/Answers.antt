use Rattle.std.proofs.Common.{◌∙◌, sym, subst, true≢false}
use Rattle.rational.specs.Rational.{ℚ, ◌≤ℚ◌}
use Rattle.rational.proofs.Laws.{le_of_not_lt}
use Rattle.run_watch.proofs.Reaches.{fits_as}
use Rattle.run_watch.proofs.classes.cycle_of.Goals as goal

pub returns : goal.returns
returns c =
    let t = c.in-Periodic in
    let tail = sym c.tail.ensures.tail ∙ t.is in
    let F = fits_as c.args.curve.now t.rank t.period _ c.tail.ensures.kept tail in
    record {
      rank = t.rank;
      rise = _;
      tail = tail;
      early = subst (λ (z : ℚ). t.rank ≤ℚ z) c.zero.ensures (le_of_not_lt (λ h. true≢false (sym (c.if-is_less.ensures.less.1 h))));
      some = F.some;
    }
