use Rattle.std.proofs.Common.{None, refl}
use Rattle.net_edits.specs.Changed.{put_flow}
use Rattle.net_edits.specs.Edited.{drop_edited}
use Rattle.net_edits.proofs.Steps.{change_reply}
use Rattle.net_edits.proofs.FlowEdits.{dropped_stands, drop_edit}
use Rattle.net_edits.proofs.flow_edits.drop_edited.Goals as goal

pub returns : goal.returns
returns c =
    let net = c.args.net.now in
    let name = c.args.name.now in
    let i = c.in_ok-number.number in
    change_reply (drop_edited net name) (record { net = put_flow net i None; made = None }) net _
    (drop_edit net name i c.keeps.ensures c.in_ok-number.ensures.number c.in_ok-number.ensures.live) refl tt
    (dropped_stands net i c.keeps.ensures c.in_ok-number.ensures.live)
