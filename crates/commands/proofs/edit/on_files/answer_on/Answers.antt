use Rattle.std.proofs.Common.{inl, refl}
use Rattle.commands.specs.edit.EditCounts.{CountsOnNet}
use Rattle.commands.specs.edit.OnEdits.{IsReplyOnNet}
use Rattle.commands.proofs.FileAnswers.{by_network, by_none}
use Rattle.commands.proofs.edit.on_files.answer_on.Goals as goal

pub on_list-requires : goal.on_list-requires
on_list-requires g c = record { accepted = c.in-Ok.ensures.network.accepted }

pub returns-in-Ok : goal.returns-in-Ok
returns-in-Ok g c =
    let all = by_network c.args.net_file.now c.args.net_bytes.now (λ net. IsReplyOnNet c.args.form net c.args.edits_file.now c.args.edits_bytes.now)
    (λ net. CountsOnNet net c.args.edits_bytes.now) c.in-Ok.network c.on_list.result
    c.args.steps.now c.network_from.new.steps c.on_list.new.steps c.in-Ok.ensures.network c.in-Ok.ensures.counts
    c.on_list.ensures.reply c.on_list.ensures.counts in
    record { reply = all.reply; counts = all.counts }

pub returns-in-Err : goal.returns-in-Err
returns-in-Err g c =
    let all = by_none c.args.net_file.now c.args.net_bytes.now (λ net. IsReplyOnNet c.args.form net c.args.edits_file.now c.args.edits_bytes.now)
    (λ net. CountsOnNet net c.args.edits_bytes.now) c.in-Err.told c.args.steps.now c.network_from.new.steps
    c.in-Err.ensures.none c.in-Err.ensures.counts
    (λ net status none. inl ((λ zero. none (inl zero)), refl)) in
    record { reply = all.reply; counts = all.counts }
