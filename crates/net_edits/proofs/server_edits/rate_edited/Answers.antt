use Rattle.std.proofs.Common.{◌≡◌, Ok, Err, sym, ap, ◌∙◌, subst, Some}
use Rattle.std.proofs.lemmas.Result.{err_from_is_err_and}
use Rattle.net_model.specs.Accepted.{IsAccepted}
use Rattle.net_model.specs.Networks.{NetServer}
use Rattle.net_model.specs.Views.{server_of}
use Rattle.net_edits.specs.declared.fault.EditFault.TheVariants.{NoMemory}
use Rattle.net_edits.specs.Changed.{put_server, with_rate}
use Rattle.net_edits.specs.Edited.{Edited, rate_made, rate_edited}
use Rattle.net_edits.specs.Replies.{IsChange}
use Rattle.net_edits.proofs.Signs.{positive_of}
use Rattle.net_edits.proofs.Steps.{change_reply, over_reply}
use Rattle.net_edits.proofs.OverNone.{within_none, memory_within, unknown_none}
use Rattle.net_edits.proofs.ServerEdits.{rate_stands, rate_edit}
use Rattle.net_edits.proofs.server_edits.rate_edited.Goals as goal
use Rattle.net_edits.proofs.server_edits.rate_edited.Goals.{After-server_at}

pub returns-in_err-number-clause-memory : goal.returns-in_err-number-clause-memory
returns-in_err-number-clause-memory c = λ told.
    unknown_none _ _ c.args.name.now c.in_err-number.ensures.unknown

-- the network, where the service that is made is over no limit
abbrev after : After-server_at → Edited
after c = record {
  net = put_server c.args.net.now c.in_ok-number.number (with_rate c.args.rate (server_of c.server_at.result.now));
  made = rate_made c.args.rate c.in_ok-number.number (Some (server_of c.server_at.result.now));
}

is_edit : (c : After-server_at) → rate_edited c.args.net.now c.args.name.now c.args.rate ≡ Ok (after c)
is_edit c =
    let at = c.server_at in
    rate_edit c.args.net.now c.args.name.now c.in_ok-number.number c.args.rate (server_of at.result.now) at.ensures.accepted
    c.in_ok-number.ensures.number at.ensures.server at.ensures.kept (sym c.is_positive.ensures ∙ c.if-not-is_positive.false)

pub returns-in_err-server-clause-reply : goal.returns-in_err-server-clause-reply
returns-in_err-server-clause-reply c =
    let p = err_from_is_err_and c.from_residual-in_err-server.result c.from_residual-in_err-server.ensures.1 in
    rw (p.1, p.2)
    (over_reply (IsChange (rate_edited c.args.net.now c.args.name.now c.args.rate) c.args.net.now) _ _ c.in_err-server.field-0.0 (is_edit (goal.at.returns-in_err-server-clause-reply c).After-server_at) c.in_err-server.ensures)

pub returns-in_err-server-clause-memory : goal.returns-in_err-server-clause-memory
returns-in_err-server-clause-memory c = λ told.
    let p = err_from_is_err_and c.from_residual-in_err-server.result c.from_residual-in_err-server.ensures.1 in
    let here = (goal.at.returns-in_err-server-clause-memory c).After-server_at in
    let same : Err c.in_err-server.field-0.0 ≡ Err NoMemory = ap Err (sym p.2) ∙ sym p.1 ∙ told in
    within_none _ _ (is_edit here) (memory_within (after here).made c.in_err-server.field-0.0 c.in_err-server.ensures cc)

pub returns-clause-reply : goal.returns-clause-reply
returns-clause-reply c =
    let net = c.args.net.now in
    let s = c.in_ok-number.number in
    let at = c.server_at in
    change_reply _ _ net _ (is_edit (goal.at.returns-clause-reply c).After-server_at) (ap (put_server net s) c.in_ok-server.ensures.0)
    c.in_ok-server.ensures.1
    (subst (λ (m : NetServer). IsAccepted (put_server net s m)) (sym c.in_ok-server.ensures.0)
    (rate_stands net s (server_of at.result.now) at.ensures.accepted at.ensures.server at.ensures.kept c.args.rate
    (positive_of c.args.rate (sym c.is_positive.ensures ∙ c.if-not-is_positive.false))))
