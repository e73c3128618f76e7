use Rattle.std.proofs.Common.{Option, ◌≡◌, suc, ◌+◌, arith, sym, subst, inl, inr}
use Rattle.std.proofs.lemmas.Bool.{cases_lt}
use Rattle.rational.specs.Rational.{ℚ}
use Rattle.run_watch.specs.declared.found.Found.{Found}
use Rattle.run_watch.specs.FirstOf.{IsBest, IsBestBefore}
use Rattle.run_watch.specs.first_breaches.Firsts.{IsOne, HasService}
use Rattle.run_watch.proofs.first_breaches.Joined.{IsUpto, upto_none, upto_more}
use Rattle.run_watch.proofs.first_breaches.services.first_service.Goals as goal

pub loop-number-init : goal.loop-number-init
loop-number-init c = (upto_none c.args.net.now c.args.run.now c.args.known c.requires.known, λ s h. absurd (omega arith))

pub loop-number-preserved : goal.loop-number-preserved
loop-number-preserved c =
    let net = c.args.net.now in
    let run = c.args.run.now in
    let n = c.loop-number.number in
    let best = c.loop-number.best in
    let next : n + 1 ≡ suc n = omega arith in
    let found = subst (λ (t : Option ℚ). IsBestBefore t (IsOne net run 2 n) run c.in_ok-next.next) c.time_if_any-until.ensures c.in_ok-next.ensures.best in (
      subst (λ (o : Option Found). IsBest (IsUpto net run (n + 1)) run o) (sym c.earlier-best.ensures) (upto_more net run n (n + 1) best c.in_ok-next.next next c.loop-number.invariant.0 found),
      λ s h. elim (cases_lt s n) [
        | inl l ↦ c.loop-number.invariant.1 s l
        | inr l ↦ let same : n ≡ s = omega (arith, h, l) in subst (HasService net) same c.in_ok-next.ensures.curve
      ],
    )
