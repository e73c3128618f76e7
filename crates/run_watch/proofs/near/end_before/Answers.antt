use Rattle.std.proofs.Common.{refl, sym, subst, true≢false}
use Rattle.rational.specs.Rational.{◌≤ℚ◌}
use Rattle.rational.proofs.Laws.{le_refl}
use Rattle.run_watch.proofs.near.end_before.Goals as goal

pub returns-then-is_short_before : goal.returns-then-is_short_before
returns-then-is_short_before c = ((c.if-is_short_before.ensures.0 refl, refl), λ u h. subst (λ x. c.args.p.now.time ≤ℚ x) (sym h.1) (le_refl c.args.p.now.time))

pub returns : goal.returns
returns c = λ t h. true≢false (sym (c.if-is_short_before.ensures.1 h.0))
