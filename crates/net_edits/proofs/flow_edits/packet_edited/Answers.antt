use Rattle.std.proofs.Common.{w64, ◌≡◌, Some, Ok, sym, ap, ◌∙◌, subst, None, Option, true}
use Rattle.std.specs.Prelude.{ℤ}
use Rattle.std.proofs.lemmas.Int.{to_z-of_z}
use Rattle.net_model.specs.Networks.{NetFlow}
use Rattle.net_model.specs.Views.{flow_of}
use Rattle.net_edits.specs.Values.{whole_that, is_length, quanta_fit}
use Rattle.net_edits.specs.Changed.{put_flow, with_packet}
use Rattle.net_edits.specs.Edited.{fitting}
use Rattle.net_edits.proofs.ServerEdits.{unfit_reply, fitting_reply}
use Rattle.net_edits.proofs.FlowEdits.{packet_found, packet_stands, fitting_stands, bits_length}
use Rattle.net_edits.proofs.flow_edits.packet_edited.Goals as goal
use Rattle.net_edits.proofs.flow_edits.packet_edited.Goals.{In_ok-bits}

size : (c : In_ok-bits) → whole_that is_length c.args.bits ≡ Ok c.in_ok-bits.bits
size c =
    subst (λ (z : ℤ). whole_that is_length z ≡ Ok c.in_ok-bits.bits) (to_z-of_z w64 c.args.bits c.ranges.bits) c.in_ok-bits.ensures

pub returns-then-not-flow_fits : goal.returns-then-not-flow_fits
returns-then-not-flow_fits c =
    let net = c.args.net.now in
    let i = c.in_ok-number.number in
    unfit_reply (put_flow net i (Some (flow_of c.in_ok-flow.flow))) _
    (packet_found net c.args.name.now i c.args.bits c.in_ok-bits.bits (flow_of c.flow_of_number.result.now) c.in_ok-number.ensures.number
    (size (goal.at.returns-then-not-flow_fits c).In_ok-bits) c.flow_of_number.ensures.flow
    ∙ ap (λ (p : Option NetFlow). fitting (put_flow net i p) None) (sym c.in_ok-flow.ensures))
    (sym (c.flow_fits.ensures i c.in_ok-number.ensures.live) ∙ c.if-not-flow_fits.true)

pub returns : goal.returns
returns c =
    let net = c.args.net.now in
    let i = c.in_ok-number.number in
    let b = c.in_ok-bits.bits in
    let at = c.flow_of_number in
    let old = flow_of at.result.now in
    let long = size (goal.at.returns c).In_ok-bits in
    let fits : quanta_fit (put_flow net i (Some (flow_of c.in_ok-flow.flow))) ≡ true =
    sym (c.flow_fits.ensures i c.in_ok-number.ensures.live) ∙ c.if-not-flow_fits.false in
    fitting_reply net _ _
    (packet_found net c.args.name.now i c.args.bits b old c.in_ok-number.ensures.number long at.ensures.flow
    ∙ ap (λ (p : Option NetFlow). fitting (put_flow net i p) None) (sym c.in_ok-flow.ensures))
    fits
    (fitting_stands net i old at.ensures.accepted at.ensures.flow at.ensures.kept (with_packet b old) (Some (flow_of c.in_ok-flow.flow))
    c.in_ok-flow.ensures (packet_stands net i old at.ensures.accepted at.ensures.flow at.ensures.kept b (bits_length c.args.bits b long)) fits)
