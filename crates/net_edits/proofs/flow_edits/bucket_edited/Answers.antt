use Rattle.std.proofs.Common.{◌≡◌, sym, ap, ◌∙◌, subst, None, false, Option}
use Rattle.std.specs.Prelude.{not, ◌&&◌}
use Rattle.std.proofs.lemmas.Bool.{and_from, not_from_false}
use Rattle.upp_curve.specs.Curve.{SpecCurve}
use Rattle.upp_curve.specs.Kinds.{bucket}
use Rattle.net_model.specs.Accepted.{IsAccepted}
use Rattle.net_model.specs.Networks.{NetFlow}
use Rattle.net_model.specs.Views.{flow_of}
use Rattle.net_edits.specs.Changed.{put_flow, with_arrival}
use Rattle.net_edits.specs.Edited.{is_negative, bucket_edited}
use Rattle.net_edits.proofs.Signs.{nonneg_of}
use Rattle.net_edits.proofs.Steps.{change_reply}
use Rattle.net_edits.proofs.FlowEdits.{flow_edit, bucket_stands}
use Rattle.net_edits.proofs.flow_edits.bucket_edited.Goals as goal

pub bucket_of-requires-clause-burst : goal.bucket_of-requires-clause-burst
bucket_of-requires-clause-burst c = nonneg_of c.args.burst (sym c.is_negative.ensures ∙ c.if-is_negative.false)

pub bucket_of-requires-clause-rate : goal.bucket_of-requires-clause-rate
bucket_of-requires-clause-rate c = nonneg_of c.args.rate (sym c.is_negative-2.ensures ∙ c.if-is_negative-2.false)

pub returns : goal.returns
returns c =
    let net = c.args.net.now in
    let name = c.args.name.now in
    let i = c.in_ok-number.number in
    let burst = c.args.burst in
    let rate = c.args.rate in
    let found = c.flow_of_number in
    let old = flow_of found.result.now in
    let up : is_negative burst ≡ false = sym c.is_negative.ensures ∙ c.if-is_negative.false in
    let on : is_negative rate ≡ false = sym c.is_negative-2.ensures ∙ c.if-is_negative-2.false in
    let stands =
    bucket_stands net i old found.ensures.accepted found.ensures.flow found.ensures.kept burst rate (nonneg_of burst up) (nonneg_of rate on) in
    let same = c.in_ok-flow.ensures ∙ ap (λ (x : SpecCurve). with_arrival x old) c.in_ok-arrival.ensures in
    change_reply (bucket_edited net name burst rate) (record { net = put_flow net i (with_arrival (bucket burst rate) old); made = None })
    net _
    (flow_edit net name i (not (is_negative burst) && not (is_negative rate)) (λ n. with_arrival (bucket burst rate)) (λ n. None) old
    c.in_ok-number.ensures.number found.ensures.flow
    (and_from (not (is_negative burst)) (not (is_negative rate)) (not_from_false (is_negative burst) up) (not_from_false (is_negative rate) on))
    stands)
    (ap (put_flow net i) same) tt (subst (λ (p : Option NetFlow). IsAccepted (put_flow net i p)) (sym same) stands)
