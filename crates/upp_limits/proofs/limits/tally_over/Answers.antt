use Rattle.std.proofs.Common.{◌∙◌, sym}
use Rattle.upp_curve.specs.Unrolled.{count}
use Rattle.upp_limits.proofs.Tallies.{tally_is, one_more_stays, sum_stays, times_stays}
use Rattle.upp_limits.proofs.limits.tally_over.Goals as goal

pub returns-in-FirstAlone : goal.returns-in-FirstAlone
returns-in-FirstAlone c =
    tally_is c.args.op.now c.args.f.now c.args.g.now c.args.end _ _ (sym c.in-FirstAlone.is ∙ c.tallied.ensures) c.count_of.ensures

pub returns-in-FirstAndOne : goal.returns-in-FirstAndOne
returns-in-FirstAndOne c =
    tally_is c.args.op.now c.args.f.now c.args.g.now c.args.end _ _ (sym c.in-FirstAndOne.is ∙ c.tallied.ensures)
    (one_more_stays (count c.args.f.now c.args.end) _ _ c.count_of-in-FirstAndOne.ensures c.saturating_add.ensures)

pub returns-in-SumOfBoth : goal.returns-in-SumOfBoth
returns-in-SumOfBoth c =
    tally_is c.args.op.now c.args.f.now c.args.g.now c.args.end _ _ (sym c.in-SumOfBoth.is ∙ c.tallied.ensures)
    (sum_stays (count c.args.f.now c.args.end) (count c.args.g.now c.args.end) _ _ _ c.count_of-in-SumOfBoth.ensures c.count_of-in-SumOfBoth-2.ensures c.saturating_add-in-SumOfBoth.ensures)

pub returns-in-ProductOfBoth : goal.returns-in-ProductOfBoth
returns-in-ProductOfBoth c =
    tally_is c.args.op.now c.args.f.now c.args.g.now c.args.end _ _ (sym c.in-ProductOfBoth.is ∙ c.tallied.ensures)
    (times_stays (count c.args.f.now c.args.end) (count c.args.g.now c.args.end) _ _ _ c.count_of-in-ProductOfBoth.ensures c.count_of-in-ProductOfBoth-2.ensures c.saturating_mul.ensures)
