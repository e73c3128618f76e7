use Rattle.std.proofs.Common.{subst, sym, ap, ◌∙◌, None}
use Rattle.upp_curve.specs.affine_segment.Pieces.{StartsAtZero}
use Rattle.upp_curve.specs.affine_segment.Reading.{read, line_in, next_in}
use Rattle.upp_curve.specs.affine_segment.Fits.{ReadFits}
use Rattle.upp_normal.specs.Operand.{OperandLineAt}
use Rattle.upp_normal.specs.Ahead.{GridValue}
use Rattle.upp_normal.proofs.StretchValues.{IsPlain, is_plain, plain_here, plain_goes, plain_times}
use Rattle.upp_normal.proofs.ahead.stretch_at.Goals as goal

pub plain_stretch-requires : goal.plain_stretch-requires
plain_stretch-requires c =
    let w = c.requires in
    let plain = subst IsPlain c.tail.ensures.tail (is_plain c.tail.result.now c.in_default.not-Periodic) in
    let curve = c.tail.ensures.kept in
    record {
      starts = subst StartsAtZero (sym c.pieces.ensures.pieces) curve.normal.raw.starts;
      time = w.3.nonneg;
      fits = subst (λ qs. ReadFits qs c.args.t) (sym c.pieces.ensures.pieces) (plain_here w.0 w.1 c.args.c.now c.args.t curve w.2 w.3 plain).fits;
    }

pub returns-in_default : goal.returns-in_default
returns-in_default c =
    let w = c.requires in
    let plain = subst IsPlain c.tail.ensures.tail (is_plain c.tail.result.now c.in_default.not-Periodic) in
    let curve = c.tail.ensures.kept in
    let t = c.args.t in
    let at = c.plain_stretch.ensures.at ∙ ap (λ qs. read qs t) c.pieces.ensures.pieces in
    let line = c.plain_stretch.ensures.line ∙ ap (λ qs. line_in qs t) c.pieces.ensures.pieces in
    let next = c.plain_stretch.ensures.next ∙ ap (λ qs. next_in qs t None) c.pieces.ensures.pieces in
    record {
      goes = plain_goes c.args.c.now t c.plain_stretch.result curve plain w.3.nonneg at line next;
      times = λ d S. plain_times d c.args.c.now t c.plain_stretch.result.next S next;
      sizes = λ z end window time.
          let found = plain_here z end c.args.c.now t curve window time plain in
          (subst (OperandLineAt z) (sym line) found.line, subst (GridValue z) (sym at) found.at);
    }
