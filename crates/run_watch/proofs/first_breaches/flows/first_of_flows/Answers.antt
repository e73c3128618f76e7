use Rattle.std.proofs.Common.{Option, ◌≡◌, ℕ, suc, ◌+◌, length, arith, sym, subst}
use Rattle.run_watch.specs.declared.found.Found.{Found}
use Rattle.run_watch.specs.FirstOf.{IsBest}
use Rattle.run_watch.specs.first_breaches.Firsts.{IsBelow}
use Rattle.run_watch.proofs.first_breaches.Joined.{none_below, one_more, best_known}
use Rattle.run_watch.proofs.first_breaches.flows.first_of_flows.Goals as goal

pub loop-number-init : goal.loop-number-init
loop-number-init c = (none_below c.args.net.now c.args.run.now 0, none_below c.args.net.now c.args.run.now 1)

pub loop-number-preserved : goal.loop-number-preserved
loop-number-preserved c =
    let net = c.args.net.now in
    let run = c.args.run.now in
    let n = c.loop-number.number in
    let next : n + 1 ≡ suc n = omega arith in (
      subst (λ (o : Option Found). IsBest (IsBelow net run 0 (n + 1)) run o) (sym c.earlier-size.ensures)
          (one_more net run 0 n (n + 1) c.loop-number.size c.in_ok-next.next.size next c.loop-number.invariant.0 c.in_ok-next.ensures.size),
      subst (λ (o : Option Found). IsBest (IsBelow net run 1 (n + 1)) run o) (sym c.earlier-arrival.ensures)
          (one_more net run 1 n (n + 1) c.loop-number.arrival c.in_ok-next.next.arrival next c.loop-number.invariant.1 c.in_ok-next.ensures.arrival),
    )

pub returns : goal.returns
returns c =
    let net = c.args.net.now in
    let run = c.args.run.now in
    let all : c.loop-number.number ≡ length net.flows = omega (arith, c.loop-number-test.false, c.loop-number.auto.number-end, c.flow_count-count.ensures.count) in
    best_known net run c.loop-number.size c.loop-number.arrival c.earlier.result c.earlier.ensures
    (subst (λ (n : ℕ). IsBest (IsBelow net run 0 n) run c.loop-number.size) all c.loop-number.invariant.0)
    (subst (λ (n : ℕ). IsBest (IsBelow net run 1 n) run c.loop-number.arrival) all c.loop-number.invariant.1)
