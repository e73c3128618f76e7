use Rattle.std.specs.Prelude.{None}
use Rattle.std.proofs.Common.{sym, subst}
use Rattle.upp_curve.specs.Curve.{value_at}
use Rattle.upp_normal.proofs.NormaliseForm.{ok_map}
use Rattle.curve_conv.specs.Scans.{sizes_in}
use Rattle.curve_conv.specs.SpanElements.{AreSpanElements}
use Rattle.curve_conv.proofs.SpanLoops.{spans_room, spans_window}
use Rattle.curve_conv.proofs.made.part_window.Goals as goal

pub envelope-requires : goal.envelope-requires
envelope-requires c =
    let s = c.args.s.now in
    let z = sizes_in s.first.now s.second.now s.end in
    let X = subst (AreSpanElements z s.end (value_at s.first.now) c.args.from c.args.until.now) (sym c.deref.ensures.value) c.in_ok-xs.ensures in
    let Y = subst (AreSpanElements z s.end (value_at s.second.now) c.args.low None) (sym c.deref-2.ensures.value) c.in_ok-ys.ensures in
    spans_room z s.end (value_at s.first.now) (value_at s.second.now) c.args.from c.args.until.now c.args.low c.deref.result.now c.deref-2.result.now c.requires.scan.first.limited c.requires.some X Y

pub returns : goal.returns
returns c =
    let s = c.args.s.now in
    let z = sizes_in s.first.now s.second.now s.end in
    let X = subst (AreSpanElements z s.end (value_at s.first.now) c.args.from c.args.until.now) (sym c.deref.ensures.value) c.in_ok-xs.ensures in
    let Y = subst (AreSpanElements z s.end (value_at s.second.now) c.args.low None) (sym c.deref-2.ensures.value) c.in_ok-ys.ensures in
    ok_map c.envelope.result _ _
    (λ a h.
    spans_window z s.end (value_at s.first.now) (value_at s.second.now) c.args.from c.args.until.now c.args.low c.deref.result.now c.deref-2.result.now a.items c.requires.scan.first.limited
    c.requires.some c.requires.from.nonneg c.requires.low.nonneg X Y h)
    c.envelope.ensures
