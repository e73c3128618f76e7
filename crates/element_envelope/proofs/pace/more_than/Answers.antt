use Rattle.std.specs.Prelude.{pos, ◌∷◌, []}
use Rattle.std.proofs.Common.{◌+◌, ap, refl, drop, drop_of_length-le}
use Rattle.rational.specs.Rational.{int}
use Rattle.rational.proofs.Laws.{le_trans, le_refl}
use Rattle.upp_curve.proofs.affine_segment.NextPiece.{next_piece}
use Rattle.element_envelope.proofs.Paces.{all_seen, seen_start}
use Rattle.element_envelope.proofs.pace.more_than.Goals as goal

pub loop-p-init : goal.loop-p-init
loop-p-init c = seen_start c.args.slope c.args.end c.zero.result c.zero-2.result c.args.first.now c.args.rest.now c.zero.ensures c.zero-2.ensures

pub loop-p-preserved : goal.loop-p-preserved
loop-p-preserved c =
    let i = c.loop-p.p-index in
    let rest = c.args.rest.now in
    let here = next_piece c.p-item.result rest i c.loop-p-test.true c.p-item.is in
    let S = c.in_ok-next.ensures in (
      le_trans c.loop-p.invariant.0 S.most,
      all_seen c.args.slope c.args.end c.p-item.result.x c.loop-p.seen.more c.in_ok-next.next.more c.loop-p.last (c.loop-p.last ∷ drop i rest) (c.p-item.result ∷ drop (i + 1) rest) (c.args.first.now ∷ rest)
          c.loop-p.seen.low c.in_ok-next.next.low (int (pos 0)) (ap (λ z. c.loop-p.last ∷ z) here) refl S.most S.capped c.loop-p.invariant.1,
    )

pub returns : goal.returns
returns c =
    let rest = c.args.rest.now in
    let S = c.in_ok-all.ensures in
    record {
      some = le_trans c.loop-p.invariant.0 S.most;
      low = int (pos 0);
      capped = all_seen c.args.slope c.args.end c.args.end c.loop-p.seen.more c.in_ok-all.all.more c.loop-p.last (c.loop-p.last ∷ drop c.loop-p.p-index rest) [] (c.args.first.now ∷ rest) c.loop-p.seen.low c.in_ok-all.all.low
          (int (pos 0)) (ap (λ z. c.loop-p.last ∷ z) (drop_of_length-le rest c.loop-p-test.false)) refl S.most S.capped c.loop-p.invariant.1 c.in_ok-all.all.more (le_refl c.in_ok-all.all.more) tt;
    }
