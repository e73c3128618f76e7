use Rattle.std.proofs.Common.{subst}
use Rattle.std.proofs.lemmas.Result.{IfOk-weaker}
use Rattle.net_model.specs.Accepted.{IsAccepted}
use Rattle.net_cells.specs.cell_table.Values.{meaning_of}
use Rattle.commands.specs.edit_report.Said.{said_view}
use Rattle.commands.proofs.edit.OneRow.{row_answered}
use Rattle.commands.proofs.edit.Works.{at_least}
use Rattle.commands.proofs.edit.row.answered.Goals as goal

pub returns-clause-answered : goal.returns-clause-answered
returns-clause-answered g c =
    let accepted = subst IsAccepted c.network-network.ensures.network c.keeps.ensures in
    IfOk-weaker c.said_by.result _ _
    (λ said is. row_answered meaning_of c.args.store.now c.apply-answer.new.self c.args.edit.now c.apply-answer.result
    (said_view said) accepted c.apply-answer.ensures.applied c.apply-answer.ensures.kept c.versions-versions.ensures.each is)
    c.said_by.ensures

pub returns-clause-same : goal.returns-clause-same
returns-clause-same g c = c.apply-answer.ensures.spends.same

pub returns-clause-counts : goal.returns-clause-counts
returns-clause-counts g c =
    let spends = c.apply-answer.ensures.spends in
    record {
      rises = spends.rises;
      most = λ count is. (spends.counts count is).most;
      least = λ count done is taken.
          at_least c.args.store.now c.apply-answer.new.self c.args.edit.now (g.E.Evaluator.count c.args.eval.now)
          (g.E.Evaluator.count c.apply-answer.new.eval) count c.apply-answer.result done c.apply-answer.ensures.kept
          (spends.counts count is) taken;
    }
