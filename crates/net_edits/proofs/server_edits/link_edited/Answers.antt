use Rattle.std.proofs.Common.{◌≡◌, sym, ap, ◌∙◌, subst, None, false}
use Rattle.std.specs.Prelude.{not}
use Rattle.std.proofs.lemmas.Bool.{not_from_false}
use Rattle.net_model.specs.Accepted.{IsAccepted}
use Rattle.net_model.specs.Networks.{NetServer}
use Rattle.net_model.specs.Views.{server_of}
use Rattle.net_edits.specs.Changed.{put_server, with_link}
use Rattle.net_edits.specs.Edited.{is_negative, link_edited}
use Rattle.net_edits.proofs.Signs.{nonneg_of}
use Rattle.net_edits.proofs.Steps.{change_reply}
use Rattle.net_edits.proofs.ServerEdits.{server_edit, link_stands}
use Rattle.net_edits.proofs.server_edits.link_edited.Goals as goal

pub returns : goal.returns
returns c =
    let net = c.args.net.now in
    let name = c.args.name.now in
    let s = c.in_ok-number.number in
    let link = c.args.link in
    let old = server_of c.server_at.result.now in
    let none : is_negative link ≡ false = sym c.is_negative.ensures ∙ c.if-is_negative.false in
    let stands =
    link_stands net s old c.server_at.ensures.accepted c.server_at.ensures.server c.server_at.ensures.kept link (nonneg_of link none) in
    change_reply (link_edited net name link) (record { net = put_server net s (with_link link old); made = None }) net _
    (server_edit net name s (λ o. not (is_negative link)) (with_link link) (λ n o. None) old c.in_ok-number.ensures.number
    c.server_at.ensures.server (not_from_false (is_negative link) none) stands)
    (ap (put_server net s) c.in_ok-server.ensures) tt
    (subst (λ (m : NetServer). IsAccepted (put_server net s m)) (sym c.in_ok-server.ensures) stands)
