use Rattle.std.specs.Prelude.{IfSome}
use Rattle.std.proofs.Common.{sym, subst}
use Rattle.upp_curve.specs.Curve.{value_at}
use Rattle.curve_conv.specs.Scans.{sizes_in}
use Rattle.curve_conv.specs.SpanElements.{IsPartWindow}
use Rattle.curve_conv.proofs.SpanLoops.{made_ahead}
use Rattle.curve_conv.proofs.made.part_at.Goals as goal

pub piece_stretch-requires : goal.piece_stretch-requires
piece_stretch-requires c =
    let s = c.args.s.now in
    let z = sizes_in s.first.now s.second.now s.end in
    let M = subst (λ o. IfSome o (λ v. IsPartWindow z s.end (value_at s.first.now) (value_at s.second.now) c.args.from c.args.until.now c.args.low v.items)) c.in-Some.is c.requires.made in
    let W = subst (IsPartWindow z s.end (value_at s.first.now) (value_at s.second.now) c.args.from c.args.until.now c.args.low) (sym c.deref.ensures.value) M in
    (z, s.end, record { limited = c.requires.scan.first.limited; start = c.requires.time }, W.stands)

pub returns-in-Some : goal.returns-in-Some
returns-in-Some c =
    let s = c.args.s.now in
    let z = sizes_in s.first.now s.second.now s.end in
    let M = subst (λ o. IfSome o (λ v. IsPartWindow z s.end (value_at s.first.now) (value_at s.second.now) c.args.from c.args.until.now c.args.low v.items)) c.in-Some.is c.requires.made in
    let W = subst (IsPartWindow z s.end (value_at s.first.now) (value_at s.second.now) c.args.from c.args.until.now c.args.low) (sym c.deref.ensures.value) M in
    record {
      ahead = made_ahead z s.end (value_at s.first.now) (value_at s.second.now) c.args.from c.args.until.now c.args.low c.deref.result.now c.args.t c.piece_stretch.result W c.requires.time.nonneg
          c.piece_stretch.ensures.goes;
      sizes = c.piece_stretch.ensures.sizes z s.end record { limited = c.requires.scan.first.limited; start = c.requires.time } W.stands;
    }
