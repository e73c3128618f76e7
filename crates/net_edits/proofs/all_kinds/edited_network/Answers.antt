use Rattle.std.proofs.Common.{◌≡◌, Err, ap, sym, ◌∙◌, subst}
use Rattle.std.proofs.lemmas.Result.{err_from_is_err_and}
use Rattle.net_model.specs.Networks.{Net}
use Rattle.net_model.specs.Accepted.{IsAccepted}
use Rattle.net_edits.specs.declared.fault.EditFault.TheVariants.{NoMemory}
use Rattle.net_edits.specs.Changed.{changed}
use Rattle.net_edits.specs.Edited.{edited}
use Rattle.net_edits.specs.Replies.{IsEdited, IsChange}
use Rattle.net_edits.proofs.Steps.{changed_reply, same_reply}
use Rattle.net_edits.proofs.OverNone.{within_none}
use Rattle.net_edits.proofs.all_kinds.edited_network.Goals as goal

pub changed-requires : goal.changed-requires
changed-requires c =
    subst (λ (n : Net). IsAccepted (changed c.in_ok-change.change n)) (sym c.in_ok-copy.ensures) c.in_ok-change.ensures.reply.accepted

pub returns-clause-reply : goal.returns-clause-reply
returns-clause-reply c =
    changed_reply _ c.args.net.now c.in_ok-changed.field-0 c.in_ok-change.change c.in_ok-change.ensures.reply
    (c.in_ok-changed.ensures.changed ∙ ap (changed c.in_ok-change.change) c.in_ok-copy.ensures)

-- ---- refused
pub returns-in_err-change-clause-reply : goal.returns-in_err-change-clause-reply
returns-in_err-change-clause-reply c =
    let p = err_from_is_err_and c.from_residual.result c.from_residual.ensures.1 in
    let r = edited c.args.net.now c.args.edit.now in
    rw (p.1, p.2) (same_reply (IsChange r c.args.net.now) (IsEdited r) r c.in_err-change.field-0.0 c.in_err-change.ensures.reply)

pub returns-in_err-change-clause-memory : goal.returns-in_err-change-clause-memory
returns-in_err-change-clause-memory c = λ told.
    let p = err_from_is_err_and c.from_residual.result c.from_residual.ensures.1 in
    let same : p.0 ≡ NoMemory = cc (sym p.1 ∙ told) in
    c.in_err-change.ensures.memory (ap Err (sym p.2 ∙ same))

pub returns-in_err-copy-clause-memory : goal.returns-in_err-copy-clause-memory
returns-in_err-copy-clause-memory c = λ told.
    let edit = c.in_ok-change.ensures.reply.edited in within_none _ edit.edited edit.is edit.within

pub returns-in_err-changed-clause-memory : goal.returns-in_err-changed-clause-memory
returns-in_err-changed-clause-memory c = λ told.
    let edit = c.in_ok-change.ensures.reply.edited in within_none _ edit.edited edit.is edit.within

pub returns-clause-memory : goal.returns-clause-memory
returns-clause-memory c = λ told.
    let edit = c.in_ok-change.ensures.reply.edited in within_none _ edit.edited edit.is edit.within
