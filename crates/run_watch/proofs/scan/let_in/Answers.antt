use Rattle.std.proofs.Common.{refl, true≢false, sym, subst, arith, ◌≤◌, ◌+◌, List, length}
use Rattle.rational.specs.Rational.{ℚ, ◌+ℚ◌, ◌≤ℚ◌, ◌<ℚ◌}
use Rattle.rational.proofs.Laws.{le_of_not_lt}
use Rattle.flow_watch.specs.declared.watch_laws.mark.Mark.{Mark}
use Rattle.run_watch.specs.Queue.{Scans}
use Rattle.run_watch.proofs.Marks.{pushed_at, rest_not_far}
use Rattle.run_watch.proofs.scan.let_in.Goals as goal

pub returns-then-is_less-clause-rest : goal.returns-then-is_less-clause-rest
returns-then-is_less-clause-rest c =
    rest_not_far c.args.rule.now c.args.b.now c.args.marks.now c.loop-next.next c.index-marks-next.result c.requires.rise c.loop-next-test.true c.index-marks-next.is
    (subst (λ (x : ℚ). c.args.b.now.time <ℚ x) c.sum.ensures (c.if-is_less.ensures.less.0 refl))

pub loop-next-preserved : goal.loop-next-preserved
loop-next-preserved c =
    let far : c.index-marks-next.result.time +ℚ c.args.rule.now.least ≤ℚ c.args.b.now.time =
    subst (λ (x : ℚ). x ≤ℚ c.args.b.now.time) c.sum.ensures (le_of_not_lt (λ h. true≢false (sym (c.if-is_less.ensures.less.1 h)))) in
    let upto : c.loop-next.next + 1 ≤ length c.args.marks.now = omega arith in (
      upto,
      subst (λ (ms : List Mark). Scans c.args.rule.now c.args.marks.now c.args.b.now (c.loop-next.next + 1) ms) (sym c.in_ok-push_back.ensures.items)
          (pushed_at c.args.rule.now c.args.marks.now c.args.b.now c.index-marks-next.result c.loop-next.next c.loop-next.kept.items c.drop_lower.new.kept.items c.loop-next.invariant.1
          c.drop_lower.ensures.lower c.drop_lower.ensures.above c.requires.rise c.loop-next-test.true c.index-marks-next.is far),
    )
