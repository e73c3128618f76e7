use Rattle.std.proofs.Common.{◌≡◌, true, sym, ◌∙◌}
use Rattle.net_draft.specs.Values.{is_name}
use Rattle.net_draft.proofs.HopParts.{parts_are}
use Rattle.net_draft.proofs.hops.hop_of_parts.Goals as goal

pub returns-in-Some : goal.returns-in-Some
returns-in-Some c =
    let named : is_name c.args.name.now ≡ true = sym c.is_name.ensures ∙ c.if-not-is_name.false in
    parts_are c.args.name.now c.args.digits.now c.in-Some.n c.queue_number.result named c.in-Some.ensures.0 c.in-Some.ensures.1 c.queue_number.ensures
