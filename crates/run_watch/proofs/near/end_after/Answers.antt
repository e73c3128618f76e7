use Rattle.std.proofs.Common.{refl, sym, subst, true≢false}
use Rattle.rational.specs.Rational.{◌+ℚ◌, ◌≤ℚ◌}
use Rattle.rational.proofs.Laws.{le_refl}
use Rattle.run_watch.proofs.near.end_after.Goals as goal

pub returns-then-is_short_after : goal.returns-then-is_short_after
returns-then-is_short_after c = (
  (c.if-is_short_after.ensures.0 refl, c.sum.ensures),
  λ u h. subst (λ x. x ≤ℚ u) (sym c.sum.ensures) (subst (λ x. c.args.p.now.time +ℚ c.args.g.now.start ≤ℚ x) (sym h.1) (le_refl (c.args.p.now.time +ℚ c.args.g.now.start))),
)

pub returns : goal.returns
returns c = λ t h. true≢false (sym (c.if-is_short_after.ensures.1 h.0))
