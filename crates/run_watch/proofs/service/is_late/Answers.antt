use Rattle.std.specs.Prelude.{◌↔◌, Bool, true, false, not, IsTrue, Option}
use Rattle.std.proofs.Common.{true≢false, refl, sym, subst}
use Rattle.rational.specs.Rational.{ℚ, ◌≤ℚ◌, ◌<ℚ◌}
use Rattle.rational.proofs.Laws.{lt_le_trans, lt_irrefl, le_of_not_lt}
use Rattle.flow_watch.specs.watch_laws.Shorts.{IsPastEnd}
use Rattle.run_watch.proofs.service.is_late.Goals as goal

late_or_less : (end t : ℚ) (less : Bool) → (IsTrue less ↔ (t <ℚ end)) → (IsTrue (not less) ↔ (end ≤ℚ t))
late_or_less end t true h = ((λ k. absurd (true≢false (sym k))), λ p. absurd (lt_irrefl t (lt_le_trans (h.0 refl) p)))
late_or_less end t false h = ((λ k. le_of_not_lt (λ l. true≢false (sym (h.1 l)))), λ p. refl)

pub returns-in-Some : goal.returns-in-Some
returns-in-Some c =
    subst (λ (o : Option ℚ). IsTrue (not c.is_less.result) ↔ IsPastEnd o c.args.t) (sym c.in-Some.is) (late_or_less c.in-Some.end c.args.t c.is_less.result c.is_less.ensures.less)
