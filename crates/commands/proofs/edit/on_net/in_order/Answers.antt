use Rattle.std.proofs.Common.{◌≡◌, ◌+◌, refl, sym, ap, ◌∙◌, subst}
use Rattle.std.proofs.lemmas.Result.{IfOk-weaker}
use Rattle.upp_limits.specs.LimitTest.{fault_of}
use Rattle.upp_limits.specs.declared.own_limits.OverLimit.TheVariants.{TooMany, TooWide}
use Rattle.net_model.specs.Networks.{Net}
use Rattle.net_cells.specs.Meanings.{CellTable}
use Rattle.report_text.specs.CellWords.{cell_words}
use Rattle.command_replies.specs.CellWork.{work_of_cells}
use Rattle.command_replies.specs.Replies.{cell_over}
use Rattle.outcomes.specs.Stages.{stops, goes_on}
use Rattle.command_replies.specs.View.{reply_of, status_of}
use Rattle.command_replies.proofs.Statuses.{refused}
use Rattle.commands.specs.edit.NetHistories.{begun}
use Rattle.commands.specs.edit.OnEdits.{AreReported}
use Rattle.commands.specs.edit.EditCounts.{WorkOfEdits}
use Rattle.commands.proofs.edit.OnNetworks.{on_report, by_order, at_zero, first_of_copy, by_cells_of_copy, no_memory}
use Rattle.commands.proofs.edit.on_net.in_order.Goals as goal

pub returns-in-Ok-clause-reply : goal.returns-in-Ok-clause-reply
returns-in-Ok-clause-reply g c =
    let net = c.args.net.now in
    let edits = c.args.edits.now in
    let present : c.in-Ok.store.present ≡ net = c.in-Ok.ensures.present ∙ c.in_ok-copy.ensures in
    IfOk-weaker c.reported.result _ _
    (λ r report. on_report c.args.form net edits (reply_of r)
    (subst (λ (n : Net). (last : Net) × (at : CellTable) × AreReported c.args.form n edits last at (reply_of r)) present report))
    c.reported.ensures.reply

pub returns-in-Ok-clause-counts : goal.returns-in-Ok-clause-counts
returns-in-Ok-clause-counts g c =
    let net = c.args.net.now in
    let edits = c.args.edits.now in
    let order = c.args.order.now in
    let same = c.in_ok-copy.ensures in
    let present : c.in-Ok.store.present ≡ net = c.in-Ok.ensures.present ∙ same in
    let old = g.E.Evaluator.count c.args.eval.now in
    let mid = g.E.Evaluator.count c.new.new.eval in
    let new = g.E.Evaluator.count c.reported.new.eval in
    by_order net edits order (status_of c.reported.result) old mid new c.requires.accepted c.requires.ordered
    ((c.in-Ok.ensures.spends.counts _ refl).exact ∙ ap (λ (n : Net). old + work_of_cells n order) same)
    (record {
      rises = c.reported.ensures.counts.rises;
      most = λ all done w. c.reported.ensures.counts.most all done
          (subst (λ (n : Net). WorkOfEdits (begun n) edits all done) (sym present) w);
      least = λ zero all done w. at_zero c.reported.result _ c.reported.ensures.counts.least zero all done
          (subst (λ (n : Net). WorkOfEdits (begun n) edits all done) (sym present) w);
    })

pub returns-in-Err-TooMany-clause-reply : goal.returns-in-Err-TooMany-clause-reply
returns-in-Err-TooMany-clause-reply g c =
    let first = rw c.in-Err-TooMany.field-0-is at c.in-Err-TooMany.ensures.refused in
    IfOk-weaker c.cell_too_many.result _ _
    (λ r is. goes_on c.args.order.now c.requires.ordered (stops (
      TooMany,
      record {
        cell = c.in-Err-TooMany.cell;
        first = first_of_copy c.args.net.now _ c.args.order.now c.in-Err-TooMany.cell (fault_of TooMany)
            c.in_ok-copy.ensures c.requires.ordered first;
        is = is;
      },
    )))
    (rw c.in-Err-TooMany.field-0-is at c.cell_too_many.ensures)

pub returns-in-Err-TooMany-clause-counts : goal.returns-in-Err-TooMany-clause-counts
returns-in-Err-TooMany-clause-counts g c =
    let other = refused c.cell_too_many.result (cell_over TooMany (cell_words c.args.net.now c.in-Err-TooMany.cell))
    (λ e. cc) (rw c.in-Err-TooMany.field-0-is at c.cell_too_many.ensures) in
    by_cells_of_copy c.args.net.now _ c.args.edits.now c.args.order.now (status_of c.cell_too_many.result) _ _
    c.in_ok-copy.ensures c.requires.accepted c.requires.ordered c.new.ensures.spends.rises (c.new.ensures.spends.counts _ refl).most other

pub returns-in-Err-TooWide-clause-reply : goal.returns-in-Err-TooWide-clause-reply
returns-in-Err-TooWide-clause-reply g c =
    let first = rw c.in-Err-TooWide.field-0-is at c.in-Err-TooWide.ensures.refused in
    IfOk-weaker c.cell_too_wide.result _ _
    (λ r is. goes_on c.args.order.now c.requires.ordered (stops (
      TooWide,
      record {
        cell = c.in-Err-TooWide.cell;
        first = first_of_copy c.args.net.now _ c.args.order.now c.in-Err-TooWide.cell (fault_of TooWide)
            c.in_ok-copy.ensures c.requires.ordered first;
        is = is;
      },
    )))
    (rw c.in-Err-TooWide.field-0-is at c.cell_too_wide.ensures)

pub returns-in-Err-TooWide-clause-counts : goal.returns-in-Err-TooWide-clause-counts
returns-in-Err-TooWide-clause-counts g c =
    let other = refused c.cell_too_wide.result (cell_over TooWide (cell_words c.args.net.now c.in-Err-TooWide.cell))
    (λ e. cc) (rw c.in-Err-TooWide.field-0-is at c.cell_too_wide.ensures) in
    by_cells_of_copy c.args.net.now _ c.args.edits.now c.args.order.now (status_of c.cell_too_wide.result) _ _
    c.in_ok-copy.ensures c.requires.accepted c.requires.ordered c.new.ensures.spends.rises (c.new.ensures.spends.counts _ refl).most other

pub returns-in-Err-NoMemory-clause-counts : goal.returns-in-Err-NoMemory-clause-counts
returns-in-Err-NoMemory-clause-counts g c =
    by_cells_of_copy c.args.net.now _ c.args.edits.now c.args.order.now 5 _ _
    c.in_ok-copy.ensures c.requires.accepted c.requires.ordered c.new.ensures.spends.rises (c.new.ensures.spends.counts _ refl).most (no_memory 5 refl)

-- ---- the counter
pub returns-in-Ok-clause-same : goal.returns-in-Ok-clause-same
returns-in-Ok-clause-same g c = c.reported.ensures.same ∙ c.new.ensures.spends.same

pub returns-in-Err-TooMany-clause-same : goal.returns-in-Err-TooMany-clause-same
returns-in-Err-TooMany-clause-same g c = c.new.ensures.spends.same

pub returns-in-Err-TooWide-clause-same : goal.returns-in-Err-TooWide-clause-same
returns-in-Err-TooWide-clause-same g c = c.new.ensures.spends.same

pub returns-in-Err-NoMemory-clause-same : goal.returns-in-Err-NoMemory-clause-same
returns-in-Err-NoMemory-clause-same g c = c.new.ensures.spends.same
