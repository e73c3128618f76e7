use Rattle.std.proofs.Common.{◌≡◌, subst, IfOk}
use Rattle.upp_curve.specs.affine_segment.Reading.{read}
use Rattle.upp_curve.proofs.ByTail.{early_nonneg, later_value}
use Rattle.upp_curve.proofs.reading.read_past.Goals as goal

pub read-requires-clause-time : goal.read-requires-clause-time
read-requires-clause-time c =
    early_nonneg c.args.rank c.args.period c.args.t c.in_ok-n.n c.in_ok-back.back c.in_ok-early.early c.requires.rank c.requires.period c.requires.past
    c.in_ok-n.ensures.value c.in_ok-back.ensures.value c.in_ok-early.ensures.value

pub returns-clause-value : goal.returns-clause-value
returns-clause-value c =
    let e = later_value (read c.args.pieces.now) c.args.rank c.args.period c.args.rise c.args.t c.in_ok-n.n c.in_ok-back.back c.in_ok-early.early c.in_ok-by.by c.in_ok-base.base
    c.in_ok-n.ensures.value c.in_ok-back.ensures.value c.in_ok-early.ensures.value c.in_ok-base.ensures.value c.in_ok-by.ensures.value in
    subst (λ z. IfOk c.raised.result (λ v. v ≡ z)) e c.raised.ensures.value
