use Rattle.std.proofs.Common.{◌≡◌, Err, sym, ap, ◌∙◌, subst}
use Rattle.net_model.specs.Networks.{Net}
use Rattle.net_edits.specs.Changed.{changed}
use Rattle.net_edits.specs.declared.fault.EditFault.TheVariants.{NoMemory}
use Rattle.cell_store.specs.edit_store.Applied.{Gives}
use Rattle.cell_store.proofs.edit_store.Outcomes.{reply_unplanned, given_none}
use Rattle.cell_store.proofs.edit_store.plan.plan.Goals as goal

pub made-requires-clause-accepted : goal.made-requires-clause-accepted
made-requires-clause-accepted c = c.in-Ok.ensures.reply.accepted

pub ordered_plan-requires-clause-gives : goal.ordered_plan-requires-clause-gives
ordered_plan-requires-clause-gives c =
    subst (λ (n : Net). Gives c.args.present.now c.args.edit.now n) (sym c.in_ok-net-in-Ok.ensures.net) c.in-Ok.ensures.reply.edited

pub ordered_plan-requires-clause-change : goal.ordered_plan-requires-clause-change
ordered_plan-requires-clause-change c = c.in_ok-net-in-Ok.ensures.change ∙ sym c.in_ok-net-in-Ok.ensures.net

-- ---- want of memory
pub returns-in_ok-net-in-Ok-clause-memory : goal.returns-in_ok-net-in-Ok-clause-memory
returns-in_ok-net-in-Ok-clause-memory c = λ told.
    given_none c.args.present.now (changed c.in-Ok.change c.args.present.now) c.args.edit.now c.in-Ok.ensures.reply.edited

pub returns-in_err-net-in-Ok-clause-memory : goal.returns-in_err-net-in-Ok-clause-memory
returns-in_err-net-in-Ok-clause-memory c = λ told.
    given_none c.args.present.now (changed c.in-Ok.change c.args.present.now) c.args.edit.now c.in-Ok.ensures.reply.edited

pub returns-in-Err-clause-refused : goal.returns-in-Err-clause-refused
returns-in-Err-clause-refused c =
    reply_unplanned c.args.present.now c.args.edit.now c.in-Err.fault c.in-Err.ensures.reply

pub returns-in-Err-clause-memory : goal.returns-in-Err-clause-memory
returns-in-Err-clause-memory c = λ told.
    let same : c.in-Err.fault ≡ NoMemory = cc in c.in-Err.ensures.memory (ap Err same)
