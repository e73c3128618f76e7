use Rattle.std.proofs.Common.{List, ℕ, map, ap, ◌∙◌, subst}
use Rattle.std.proofs.lemmas.Result.{err_from_is_err_and}
use Rattle.net_model.specs.Accepted.{IsAccepted}
use Rattle.net_model.specs.Networks.{Net}
use Rattle.cell_rules.specs.cell_values.Placed.{placed}
use Rattle.net_cells.specs.cell_table.Values.{meaning_of}
use Rattle.commands.specs.edit.NetHistories.{begun}
use Rattle.commands.specs.edit_report.EditReport.{edit_report_in}
use Rattle.commands.specs.edit_report.Said.{EditSaid, said_view}
use Rattle.command_replies.specs.Replies.{Reply}
use Rattle.commands.proofs.edit.InTurn.{counts_cut}
use Rattle.commands.proofs.edit.OnNetworks.{reported_is, work_of_begun}
use Rattle.commands.proofs.edit.on_net.reported.Goals as goal

pub returns-clause-reply : goal.returns-clause-reply
returns-clause-reply g c =
    let first = c.args.store in
    let last = c.all_answered.new.store in
    let answers : List EditSaid = map said_view c.in_ok-answers.answers.items in
    let at = placed meaning_of last.values.newest in
    let text = (rw c.deref.ensures.value at c.in_ok-text.ensures)
    ∙ ap (λ (n : Net). edit_report_in c.args.form n at answers) c.network-net.ensures.network in
    reported_is c.args.form meaning_of first last c.args.edits.now answers _ c.requires.first
    (subst IsAccepted c.network-first.ensures.network c.keeps.ensures) c.versions-values.ensures.each
    c.in_ok-answers.ensures.answered (subst IsAccepted c.network-net.ensures.network c.keeps-2.ensures)
    c.versions-versions.ensures.each c.network-net.ensures.meets
    (ap (λ (bytes : List ℕ). let r : Reply = record { status = 0; bytes = bytes } in r) text)

-- ---- what is counted
pub returns-clause-counts : goal.returns-clause-counts
returns-clause-counts g c =
    let counts = c.in_ok-answers.ensures.counts in
    record {
      rises = counts.rises;
      most = λ all done w. counts.most all done (work_of_begun c.args.store c.args.edits.now all done c.requires.first w);
      least = λ all done w. counts.least all done (work_of_begun c.args.store c.args.edits.now all done c.requires.first w);
    }

pub returns-in_err-text-clause-counts : goal.returns-in_err-text-clause-counts
returns-in_err-text-clause-counts g c =
    let r = c.from_residual-in_err-text in
    let p = err_from_is_err_and r.result r.ensures.1 in
    let counts = c.in_ok-answers.ensures.counts in
    counts_cut (begun c.args.store.present) c.args.edits.now (g.E.Evaluator.count c.args.eval.now) (g.E.Evaluator.count c.all_answered.new.eval)
    r.result p.0 p.1 counts.rises
    (λ all done w. counts.most all done (work_of_begun c.args.store c.args.edits.now all done c.requires.first w))

pub returns-in_err-answers-clause-counts : goal.returns-in_err-answers-clause-counts
returns-in_err-answers-clause-counts g c =
    let p = err_from_is_err_and c.from_residual.result c.from_residual.ensures.1 in
    let counts = c.in_err-answers.ensures.counts in
    counts_cut (begun c.args.store.present) c.args.edits.now (g.E.Evaluator.count c.args.eval.now) (g.E.Evaluator.count c.all_answered.new.eval)
    c.from_residual.result p.0 p.1 counts.rises
    (λ all done w. counts.most all done (work_of_begun c.args.store c.args.edits.now all done c.requires.first w))
