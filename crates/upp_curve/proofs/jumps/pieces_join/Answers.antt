use Rattle.std.proofs.Common.{true≢false, sym, ◌∙◌}
use Rattle.upp_curve.proofs.JoinLoops.{join_start, join_fits, join_on, join_off, join_last_fits, join_end}
use Rattle.upp_curve.proofs.jumps.pieces_join.Goals as goal

pub loop-p-init : goal.loop-p-init
loop-p-init c = join_start c.args.end c.args.first c.args.rest.now c.requires

pub piece_joins-requires-clause-start : goal.piece_joins-requires-clause-start
piece_joins-requires-clause-start c =
    (join_fits c.args.end c.args.first c.loop-p.last c.p-item.result c.args.rest.now c.loop-p.p-index c.loop-p.invariant c.loop-p-test.true c.p-item.is).0

pub piece_joins-requires-clause-end : goal.piece_joins-requires-clause-end
piece_joins-requires-clause-end c =
    (join_fits c.args.end c.args.first c.loop-p.last c.p-item.result c.args.rest.now c.loop-p.p-index c.loop-p.invariant c.loop-p-test.true c.p-item.is).1

pub returns-then-not-piece_joins : goal.returns-then-not-piece_joins
returns-then-not-piece_joins c = (
  λ h. absurd (true≢false (sym h)),
  λ h. absurd (join_off c.args.end c.args.first c.loop-p.last c.p-item.result c.args.rest.now c.loop-p.p-index c.loop-p.invariant c.loop-p-test.true c.p-item.is
      (λ k. true≢false (sym (c.piece_joins.ensures.1 k) ∙ c.if-not-piece_joins.true)) h),
)

pub loop-p-preserved : goal.loop-p-preserved
loop-p-preserved c =
    join_on c.args.end c.args.first c.loop-p.last c.p-item.result c.args.rest.now c.loop-p.p-index c.loop-p.invariant c.loop-p-test.true c.p-item.is
    (c.piece_joins.ensures.0 c.if-not-piece_joins.false)

pub piece_joins-requires-2-clause-start : goal.piece_joins-requires-2-clause-start
piece_joins-requires-2-clause-start c =
    (join_last_fits c.args.end c.args.first c.loop-p.last c.args.rest.now c.loop-p.p-index c.loop-p.invariant c.loop-p-test.false).0

pub piece_joins-requires-2-clause-end : goal.piece_joins-requires-2-clause-end
piece_joins-requires-2-clause-end c =
    (join_last_fits c.args.end c.args.first c.loop-p.last c.args.rest.now c.loop-p.p-index c.loop-p.invariant c.loop-p-test.false).1

pub returns : goal.returns
returns c =
    let same = join_end c.args.end c.args.first c.loop-p.last c.args.rest.now c.loop-p.p-index c.loop-p.invariant c.loop-p-test.false in
    (λ h. same.1 (c.piece_joins-2.ensures.0 h), λ h. c.piece_joins-2.ensures.1 (same.0 h))
