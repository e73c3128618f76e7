use Rattle.std.proofs.Common.{inl, inr}
use Rattle.rational.proofs.Laws.{antisym}
use Rattle.rational.proofs.Compared.{not_less_out}
use Rattle.upp_curve.specs.Kinds.{gate}
use Rattle.curve_library.specs.Causes.{OneNegative, NoSlot}
use Rattle.curve_library.proofs.Answering.{causes_of}
use Rattle.curve_library.proofs.SignTests.{nonneg_out, nonpos_out, positive_out, none_negative}
use Rattle.curve_library.proofs.GateParts.{slot_fits}
use Rattle.curve_library.proofs.gates.tested_gate.Goals as goal

pub returns-then-not-is_positive : goal.returns-then-not-is_positive
returns-then-not-is_positive c =
    let R = nonneg_out c.is_negative.result c.args.rate c.is_negative.ensures c.if-is_negative.false in
    let s = nonneg_out c.is_negative-2.result c.args.slot c.is_negative-2.ensures c.if-is_negative-2.false in
    (none_negative c.args.rate c.args.slot R s, inl (nonpos_out c.is_positive.result c.args.cycle c.is_positive.ensures c.if-not-is_positive.true))

pub returns-then-not-is_positive-2 : goal.returns-then-not-is_positive-2
returns-then-not-is_positive-2 c =
    let R = nonneg_out c.is_negative.result c.args.rate c.is_negative.ensures c.if-is_negative.false in
    let s = nonneg_out c.is_negative-2.result c.args.slot c.is_negative-2.ensures c.if-is_negative-2.false in
    (none_negative c.args.rate c.args.slot R s, inr (inl (antisym (nonpos_out c.is_positive-2.result c.args.slot c.is_positive-2.ensures c.if-not-is_positive-2.true, s))))

pub returns-then-is_less : goal.returns-then-is_less
returns-then-is_less c =
    let R = nonneg_out c.is_negative.result c.args.rate c.is_negative.ensures c.if-is_negative.false in
    let s = nonneg_out c.is_negative-2.result c.args.slot c.is_negative-2.ensures c.if-is_negative-2.false in
    (none_negative c.args.rate c.args.slot R s, inr (inr (c.is_less.ensures.less.0 c.if-is_less.true)))

pub nonneg_gate-requires-clause-rate : goal.nonneg_gate-requires-clause-rate
nonneg_gate-requires-clause-rate c = nonneg_out c.is_negative.result c.args.rate c.is_negative.ensures c.if-is_negative.false

pub nonneg_gate-requires-clause-fits : goal.nonneg_gate-requires-clause-fits
nonneg_gate-requires-clause-fits c = not_less_out c.is_less.result c.args.cycle c.args.slot c.is_less.ensures.less c.if-is_less.false

pub returns : goal.returns
returns c =
    let R = nonneg_out c.is_negative.result c.args.rate c.is_negative.ensures c.if-is_negative.false in
    let s = nonneg_out c.is_negative-2.result c.args.slot c.is_negative-2.ensures c.if-is_negative-2.false in
    let up = positive_out c.is_positive.result c.args.cycle c.is_positive.ensures c.if-not-is_positive.false in
    let some = positive_out c.is_positive-2.result c.args.slot c.is_positive-2.ensures c.if-not-is_positive-2.false in
    let fits = not_less_out c.is_less.result c.args.cycle c.args.slot c.is_less.ensures.less c.if-is_less.false in
    causes_of (OneNegative c.args.rate c.args.slot) (NoSlot c.args.cycle c.args.slot) (gate c.args.rate c.args.cycle c.args.slot) c.nonneg_gate.result
    record { nonneg = none_negative c.args.rate c.args.slot R s; period = slot_fits c.args.cycle c.args.slot up some fits } c.nonneg_gate.ensures
