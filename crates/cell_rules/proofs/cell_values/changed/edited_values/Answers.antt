use Rattle.std.proofs.Common.{◌∙◌, sum_by, refl, ap, subst, arith}
use Rattle.outcomes.proofs.Spending.{spends_refused, spends_answer, spends_refusal, spends_stopped}
use Rattle.net_cells.specs.declared.cell_table.fault.AnalysisFault.TheVariants.{NoMemory}
use Rattle.net_cells.specs.Work.{work}
use Rattle.cell_rules.specs.cell_values.Placed.{placed}
use Rattle.cell_rules.specs.cell_values.Edits.{EndsAtTouched, at_none, at_touched, past_touched}
use Rattle.cell_rules.proofs.cell_values.Cleared.{still_answered}
use Rattle.cell_rules.proofs.cell_values.changed.edited_values.Goals as goal

pub returns-clause-table : goal.returns-clause-table
returns-clause-table g c =
    let meaning = g.V.CellValue.meaning in
    let done = c.in_default-cleared.ensures.cleared in
    record {
      answers = still_answered c.args.net.now c.requires.edit.order c.args.gone.now
          (placed meaning c.made_anew.new.values.versions.newest) (placed meaning c.cleared.new.values.versions.newest)
          c.keeps.ensures c.requires.edit.servers c.requires.gone c.in_default-made_anew.ensures.answers done.others;
      nothing = done.nothing;
      others = λ d out away.
          done.others d out ∙ c.made_anew.ensures.others d away ∙ ap (λ version. placed meaning version d) c.in_default.ensures.marked.newest;
    }

-- ---- what is counted, and want of memory
pub returns-in-Err-clause-spends : goal.returns-in-Err-clause-spends
returns-in-Err-clause-spends g c = spends_stopped _ NoMemory refl (λ lack n none. at_none none)

pub returns-in-Err-made_anew-clause-spends : goal.returns-in-Err-made_anew-clause-spends
returns-in-Err-made_anew-clause-spends g c =
    spends_refusal c.in-Err-made_anew.ensures.spends _ c.in-Err-made_anew.fault refl (λ n is. is) (λ told. told)
    (λ n ends. at_touched (subst (λ version. EndsAtTouched c.args.net.now c.args.touched.now (placed g.V.CellValue.meaning version) n)
    c.in_default.ensures.marked.newest ends))

pub returns-in-Err-cleared-clause-spends : goal.returns-in-Err-cleared-clause-spends
returns-in-Err-cleared-clause-spends g c =
    let meaning = g.V.CellValue.meaning in
    let all = sum_by (work c.args.net.now) c.args.touched.now in
    let exact = (c.in_default-made_anew.ensures.spends.counts all refl).exact in
    spends_refused all NoMemory (omega (arith, exact)) (omega (arith, exact))
    (λ lack. past_touched (record {
      table = placed meaning c.made_anew.new.values.versions.newest;
      answered = c.in_default-made_anew.ensures.answers;
      others = λ d away.
          c.made_anew.ensures.others d away ∙ ap (λ version. placed meaning version d) c.in_default.ensures.marked.newest;
      count = omega (arith, exact);
    }))
    c.in_default-made_anew.ensures.spends.same

pub returns-clause-spends : goal.returns-clause-spends
returns-clause-spends g c = spends_answer c.in_default-made_anew.ensures.spends (λ n is. is)
