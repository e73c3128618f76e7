use Rattle.std.proofs.Common.{◌≡◌, Ok, Err, true, sym, ap, ◌∙◌, subst, Some}
use Rattle.std.proofs.lemmas.Result.{err_from_is_err_and}
use Rattle.net_model.specs.Accepted.{IsAccepted}
use Rattle.net_model.specs.Networks.{NetServer}
use Rattle.net_model.specs.Views.{server_of}
use Rattle.net_edits.specs.declared.fault.EditFault.TheVariants.{NoMemory}
use Rattle.net_edits.specs.Changed.{put_server, with_latency}
use Rattle.net_edits.specs.Edited.{Edited, latency_made, latency_edited}
use Rattle.net_edits.specs.Replies.{IsChange}
use Rattle.net_edits.proofs.Signs.{nonneg_of}
use Rattle.net_edits.proofs.Steps.{change_reply, over_reply}
use Rattle.net_edits.proofs.OverNone.{within_none, memory_within, unknown_none}
use Rattle.net_edits.proofs.ServerEdits.{latency_stands, latency_edit}
use Rattle.net_edits.proofs.server_edits.latency_edited.Goals as goal
use Rattle.net_edits.proofs.server_edits.latency_edited.Goals.{After-has_latency}

pub with_latency-requires-clause-latency : goal.with_latency-requires-clause-latency
with_latency-requires-clause-latency c = nonneg_of c.args.latency (sym c.is_negative.ensures ∙ c.if-is_negative.false)

pub returns-in_err-number-clause-memory : goal.returns-in_err-number-clause-memory
returns-in_err-number-clause-memory c = λ told.
    unknown_none _ _ c.args.name.now c.in_err-number.ensures.unknown

-- the network, where the service that is made is over no limit
abbrev after : After-has_latency → Edited
after c = record {
  net = put_server c.args.net.now c.in_ok-number.number (with_latency c.args.latency (server_of c.server_at-old.result.now));
  made = latency_made c.args.latency c.in_ok-number.number (Some (server_of c.server_at-old.result.now));
}

is_edit : (c : After-has_latency) → c.has_latency.result ≡ true
    → latency_edited c.args.net.now c.args.name.now c.args.latency ≡ Ok (after c)
is_edit c has =
    let at = c.server_at-old in
    latency_edit c.args.net.now c.args.name.now c.in_ok-number.number c.args.latency (server_of at.result.now) at.ensures.accepted
    c.in_ok-number.ensures.number at.ensures.server at.ensures.kept (sym c.is_negative.ensures ∙ c.if-is_negative.false)
    (sym c.has_latency.ensures ∙ has)

pub returns-in_err-server-clause-reply : goal.returns-in_err-server-clause-reply
returns-in_err-server-clause-reply c =
    let p = err_from_is_err_and c.from_residual-in_err-server.result c.from_residual-in_err-server.ensures.1 in
    let here = (goal.at.returns-in_err-server-clause-reply c).After-has_latency in
    rw (p.1, p.2)
    (over_reply (IsChange (latency_edited c.args.net.now c.args.name.now c.args.latency) c.args.net.now) _ _ c.in_err-server.field-0.0 (is_edit here c.if-not-has_latency.false) c.in_err-server.ensures)

pub returns-in_err-server-clause-memory : goal.returns-in_err-server-clause-memory
returns-in_err-server-clause-memory c = λ told.
    let p = err_from_is_err_and c.from_residual-in_err-server.result c.from_residual-in_err-server.ensures.1 in
    let here = (goal.at.returns-in_err-server-clause-memory c).After-has_latency in
    let same : Err c.in_err-server.field-0.0 ≡ Err NoMemory = ap Err (sym p.2) ∙ sym p.1 ∙ told in
    within_none _ _ (is_edit here c.if-not-has_latency.false)
    (memory_within (after here).made c.in_err-server.field-0.0 c.in_err-server.ensures cc)

pub returns-clause-reply : goal.returns-clause-reply
returns-clause-reply c =
    let net = c.args.net.now in
    let s = c.in_ok-number.number in
    let latency = c.args.latency in
    let found = c.server_at-old.ensures in
    let here = (goal.at.returns-clause-reply c).After-has_latency in
    change_reply _ _ net _ (is_edit here c.if-not-has_latency.false) (ap (put_server net s) c.in_ok-server.ensures.0)
    c.in_ok-server.ensures.1
    (subst (λ (m : NetServer). IsAccepted (put_server net s m)) (sym c.in_ok-server.ensures.0)
    (latency_stands net s (server_of c.server_at-old.result.now) found.accepted found.server found.kept latency
    (nonneg_of latency (sym c.is_negative.ensures ∙ c.if-is_negative.false))))
